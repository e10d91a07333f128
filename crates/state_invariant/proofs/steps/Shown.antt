-- What the slots show stays over the steps that store nothing.
use Rattle.std.proofs.Common.{◌≡◌, ◌≢◌, ◌⊎◌, inl, inr, ℕ, ◌+◌, ◌*◌, ◌^◌, ◌<◌, Bool, true, false, cond, ◌&&◌, List, [], ◌∷◌, refl, sym, ◌∙◌, ap, subst, arith, Option, Some, None, true≢false}
use Rattle.std.specs.Prelude.{nat_eq, unwrap_or}
use Rattle.std.specs.List.{list_any}
use Rattle.std.proofs.lemmas.Bool.{cases_eq, eqb-true, eqb-false, or_left}
use Rattle.std.proofs.lemmas.List.Folds.{list_any-append}
use Rattle.base.specs.declared.key.Key.{Key}
use Rattle.base.specs.declared.step.Step.{Step}
use Rattle.base.specs.declared.step.Step.TheVariants.{Begin, Get, Scan, Put, Delete, Draw, Stamp, Poll, Abort, End, Commit as CommitTick, Collect}
use Rattle.base.specs.declared.step.Reply.{Reply}
use Rattle.base.specs.Commits.{Writes, writes_key}
use Rattle.base.specs.Lists.{replaced}
use Rattle.machine.specs.Machine.{State, Session, Active, Drew, WroteNothing, Drawn, Hand, Version, Writer, BySession, ByCommit, drawn_at, writes_of, is_own_at, is_held_by, by_commit, with_session, state_drawn, conflict_of, begun_of, state_ticked, next_state, refusal, Stepped}
use Rattle.state_invariant.specs.Kept.{Origin, Keeps, IsInUse, wanted, row_in, version_by}
use Rattle.state_invariant.specs.Shown.{is_drawn_on, is_key_stamped, Waiting, class_of, class_of_version, class_of_drawn, SlotsShow, ShowsAs}
use Rattle.state_invariant.specs.Laws.{stores}
use Rattle.state_invariant.proofs.Lookups.{replaced-same, replaced-other}
use Rattle.state_invariant.proofs.steps.Refusals.{allowed, active, ended-writes}
use Rattle.state_invariant.proofs.sessions.Steps.{MayFree, may-give, may-abort, with_active, free-session}
use Rattle.state_invariant.proofs.draws.Kept.{draw-facts, drawn_now, found-new, found-old, wanted-old, wanted-new}
use Rattle.state_invariant.proofs.covers.Shown.{shows-covered}
use Rattle.state_invariant.proofs.steps.ShownStays.{Carries, shows-carries, class-same, wanted-commit, with_all, carries-with, shows-with}

-- ---- a session that writes what it wrote

module _ (o : Origin) (q : State) (value : ℕ → ℕ) (shows : SlotsShow o q value) where
  shows-sessions : (sessions : ℕ → Option Session) (failed : Bool) (hand : Option Hand) → ((n : ℕ) → writes_of (sessions n) ≡ writes_of (q.sessions n)) → ((n : ℕ) → IsInUse (with_all q sessions q.held failed hand) n → IsInUse q n)
      → (failed ≡ false → q.failed ≡ false) → (q.failed ≡ true → failed ≡ true) → SlotsShow o (with_all q sessions q.held failed hand) value
  shows-sessions sessions failed hand same used up down = grind (arith, shows-with, carries-with, class-same, wanted-commit)

  shows-session : (n : ℕ) (s : Option Session) → writes_of s ≡ writes_of (q.sessions n) → ((begun : ℕ) (writes : Writes) → s ≡ Some (Active begun writes) → IsInUse q begun) → SlotsShow o (with_session n s q) value
  shows-session n s same used = shows-sessions (replaced n s q.sessions) q.failed q.hand writes in_use (λ up. up) (λ down. down)
    where
      writes : (m : ℕ) → writes_of (replaced n s q.sessions m) ≡ writes_of (q.sessions m)
      writes m = grind (arith, cases_eq, replaced-same, replaced-other)

      in_use : (m : ℕ) → IsInUse (with_session n s q) m → IsInUse q m
      in_use m (inl all) = inl all
      in_use m (inr (session, ws, active)) = grind (arith, cases_eq, replaced-same, active, replaced-other)

  -- ---- slots are freed

  shows-freed : (sessions : ℕ → Option Session) (test : Option Version → Bool) → q.failed ≡ false → MayFree q sessions test
      → ((n : ℕ) → IsInUse (with_all q sessions (λ slot. cond (test (q.held slot)) None (q.held slot)) q.failed q.hand) n → IsInUse q n)
      → test None ≡ false → SlotsShow o (with_all q sessions (λ slot. cond (test (q.held slot)) None (q.held slot)) q.failed q.hand) value
  shows-freed sessions test up may used none = grind (arith, shows-with, carries-with, true≢false, with_all, class-same, wanted-commit)

-- ---- a draw

module _ (o : Origin) (q : State) (value : ℕ → ℕ) (n : ℕ) (write : Key × Option (List ℕ)) (rest : Writes) (has_writes : writes_of (q.sessions n) ≡ write ∷ rest)
    (below : q.next < q.ruling.dirty) (room : q.next + 2 * q.layout.window < 2 ^ 62) (alone : conflict_of q n ≡ None) (kept : Keeps o q) where
  abbrev drew : State
  drew = state_drawn q n (write ∷ rest)

  carries-drawn : Carries o q drew
  carries-drawn = record {
    hidden = λ e ended m in_use. ended m (used m in_use);
    up = λ up. up;
    down = λ down. down;
    drawn = λ key e drawn. list_any-append (λ d. nat_eq d.commit.timestamp e && writes_key key d.commit) q.drawn (drawn_now q (write ∷ rest) ∷ []) ∙ or_left (is_drawn_on q key e) (list_any (λ d. nat_eq d.commit.timestamp e && writes_key key d.commit) (drawn_now q (write ∷ rest) ∷ [])) drawn;
    stamped = λ key u d found is. stamped key u d found is (cases_eq u q.next);
    unswept = λ is. is;
    follows = λ key t u f. record { place = f.place; since = f.since; commit = f.commit; at = f.at; writes = f.writes; stamped = f.stamped; last = f.last };
  }
    where
      used : (m : ℕ) → IsInUse drew m → IsInUse q m
      used m (inl all) = inl all
      used m (inr (session, ws, active)) = grind (arith, cases_eq, replaced-same, active, replaced-other)

      stamped : (key : Key) (u : ℕ) (d : Drawn) → drawn_at drew u ≡ Some d → is_key_stamped d key ≡ true → (u ≡ q.next) ⊎ (u ≢ q.next) → (e : Drawn) × (drawn_at q u ≡ Some e) × (is_key_stamped e key ≡ true)
      stamped key u d found is (inl now) =
          let one : Some (drawn_now q (write ∷ rest)) ≡ Some d = sym (found-new o q (write ∷ rest) kept.numbers) ∙ ap (drawn_at drew) (sym now) ∙ found in
          grind (arith)
      stamped key u d found is (inr apart) = (d, sym (found-old q (write ∷ rest) u apart) ∙ found, is)

  class-drawn : (slot : ℕ) → slot < q.layout.slots → (x : Option Version) → q.held slot ≡ x → class_of_version o drew (by_commit n q.next x) ≡ class_of_version o q x
  class-drawn slot lt None held = refl
  class-drawn slot lt (Some v) held = by_writer v.writer refl
    where
      session : (m : ℕ) (b : Bool) → nat_eq m n ≡ b → class_of_version o drew (Some (version_by v.key (cond b (ByCommit q.next) (BySession m)))) ≡ class_of_version o q (Some (version_by v.key (BySession m)))
      session m true is =
          ap (class_of_drawn drew v.key q.next (unwrap_or (wanted o drew (version_by v.key (ByCommit q.next))) [])) (found-new o q (write ∷ rest) kept.numbers)
          ∙ ap (λ (r : Option (List ℕ)). Waiting v.key (unwrap_or r [])) (wanted-new o q n write rest has_writes below room alone kept v.key)
          ∙ ap (λ (j : ℕ). Waiting v.key (unwrap_or (wanted o q (version_by v.key (BySession j))) [])) (sym (eqb-true m n is))
      session m false is =
          ap (λ (s : Option Session). Waiting v.key (unwrap_or (row_in (writes_of s) v.key) [])) (replaced-other n (Some (Drew q.next)) q.sessions m (eqb-false m n is))

      by_writer : (w : Writer) → v.writer ≡ w → class_of_version o drew (by_commit n q.next (Some (version_by v.key w))) ≡ class_of_version o q (Some (version_by v.key w))
      by_writer (BySession m) is = session m (nat_eq m n) refl
      by_writer (ByCommit t) is =
          let less = kept.owns.before slot t v.key lt (held ∙ ap (λ (w : Writer). Some (version_by v.key w)) is) in
          grind (arith, wanted-old, found-old)

  shows-drawn : SlotsShow o q value → SlotsShow o drew value
  shows-drawn shows = record {
    each = λ slot lt. subst (ShowsAs o drew value slot) (sym (class-drawn slot lt (q.held slot) refl)) (shows-carries o q drew value slot carries-drawn (class_of o q slot) (shows.each slot lt));
  }

shows-draw : (o : Origin) (q : State) (value : ℕ → ℕ) (n : ℕ) → Keeps o q → refusal q (Draw n) ≡ None → SlotsShow o q value → SlotsShow o (next_state q (Draw n)) value
shows-draw o q value n kept none shows = grind (arith, shows-session o q value shows n (Some WroteNothing), draw-facts o q n, shows-drawn o q value n)

-- ---- the committer's ticks

-- another batch being written
pub shows-hand : (o : Origin) (q : State) (hand : Option Hand) (value : ℕ → ℕ) → SlotsShow o q value → SlotsShow o (record q { hand = hand }) value
shows-hand o q hand value shows = shows-sessions o q value shows q.sessions q.failed hand (λ n. refl) (λ n in_use. in_use) (λ up. up) (λ down. down)

shows-ticked : (o : Origin) (q : State) (value : ℕ → ℕ) (hand : Option Hand) → q.failed ≡ false → Keeps o q → q.hand ≡ hand → SlotsShow o q value → SlotsShow o (state_ticked q hand) value
shows-ticked o q value None up kept is shows = grind (arith, shows-hand)
shows-ticked o q value (Some hand) up kept is shows = grind (arith, shows-hand, shows-covered o q hand value up kept (kept.numbers.hand hand is) shows)

-- ---- every step that stores nothing

-- the snapshots in use after one session changes are some of those before
pub fewer : (q : State) (n : ℕ) (s : Option Session) (held : ℕ → Option Version) → ((begun : ℕ) (writes : Writes) → s ≡ Some (Active begun writes) → IsInUse q begun)
    → (m : ℕ) → IsInUse (with_all q (replaced n s q.sessions) held q.failed q.hand) m → IsInUse q m
fewer q n s held used m a = grind (arith)

shows-next : (o : Origin) (q : State) (step : Step) (value : ℕ → ℕ) → Keeps o q → refusal q step ≡ None → stores step ≡ false → SlotsShow o q value → SlotsShow o (next_state q step) value
shows-next o q Begin value kept none quiet shows = grind (arith, shows-session, free-session)
shows-next o q (Get n key) value kept none quiet shows = shows
shows-next o q (Scan n table lo hi) value kept none quiet shows = shows
shows-next o q (Put n key row) value kept none quiet shows = absurd (true≢false quiet)
shows-next o q (Delete n key) value kept none quiet shows =
    let a = allowed q (Delete n key) none in
    let s = active q (Delete n key) (q.sessions n) refl refl refl a.there a.placed in
    shows-freed o q value shows (with_active q n key None) (is_own_at n key) a.up (may-give q n key)
    (fewer q n _ (λ slot. cond (is_own_at n key (q.held slot)) None (q.held slot)) (λ begun writes e. inr (n, s.1, s.2 ∙ ap (λ (b : ℕ). Some (Active b s.1)) (sym (ap begun_of s.2) ∙ ap begun_of e)))) refl
shows-next o q (Draw n) value kept none quiet shows = shows-draw o q value n kept none shows
shows-next o q (Stamp n) value kept none quiet shows = absurd (true≢false quiet)
shows-next o q (Poll n) value kept none quiet shows = shows
shows-next o q (Abort n) value kept none quiet shows =
    shows-freed o q value shows (replaced n None q.sessions) (is_held_by n) (allowed q (Abort n) none).up (may-abort q n)
    (fewer q n None (λ slot. cond (is_held_by n (q.held slot)) None (q.held slot)) (λ begun writes e. cc e)) refl
shows-next o q (End n) value kept none quiet shows =
    shows-session o q value shows n None (sym (ended-writes q n (q.sessions n) (allowed q (End n) none).placed)) (λ begun writes e. cc e)
shows-next o q CommitTick value kept none quiet shows = shows-ticked o q value q.hand (allowed q CommitTick none).up kept refl shows
shows-next o q Collect value kept none quiet shows = absurd (true≢false quiet)

-- a device that fails without a store
pub shows-failed : (o : Origin) (q : State) (value : ℕ → ℕ) → SlotsShow o q value → SlotsShow o (record q { failed = true }) value
shows-failed o q value shows = shows-sessions o q value shows q.sessions true q.hand (λ n. refl) (λ n in_use. in_use) (λ e. absurd (true≢false e)) (λ down. refl)

pub shows-step : (o : Origin) (q : State) (step : Step) (reply : Reply) (q' : State) (value : ℕ → ℕ) → Keeps o q → Stepped q step reply q' → stores step ≡ false → SlotsShow o q value → SlotsShow o q' value
shows-step o q step reply q' value kept a quiet shows = grind (arith, shows-next, shows-failed)

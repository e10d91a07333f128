-- A visit of the collector keeps what a state keeps, and what the slots show.
use Rattle.std.proofs.Common.{◌≡◌, ◌≢◌, ◌⊎◌, inl, inr, ℕ, ◌+◌, ◌<◌, ◌≤◌, Bool, true, List, length, slice_get, [], take, refl, sym, ◌∙◌, ap, subst, arith, Option, Some, None}
use Rattle.std.proofs.lemmas.Bool.{cases_eq, cases_lt}
use Rattle.base.specs.declared.gap.Gap.{Gap}
use Rattle.base.specs.declared.key.Key.{Key}
use Rattle.base.specs.Commits.{Commit, last_writer}
use Rattle.base.specs.Records.{is_committed}
use Rattle.machine.specs.Machine.{State, Drawn, Hand, Version, BySession, ByCommit, drawn_at}
use Rattle.machine.specs.Collecting.{held_after_visit, slot_visited, sweep_ended, visited}
use Rattle.state_invariant.specs.Kept.{Origin, KeepsHand, Keeps, IsInUse, HasSlot, version_by, last_of}
use Rattle.state_invariant.specs.Shown.{word_of, IsNever, Class, Free, Waiting, Begun, Newest, Replaced, class_of, class_of_version, ShowsAs, SlotShows, SlotsShow}
use Rattle.state_invariant.proofs.Lookups.{replaced-same, replaced-other}
use Rattle.state_invariant.proofs.Commits.{committed-bounds}
use Rattle.state_invariant.proofs.Log.{IsWritten, writer-since, placed, one-place}
use Rattle.state_invariant.proofs.Places.{front-fact}
use Rattle.state_invariant.proofs.reads.Tables.{above-origin, snapshot-bounds}
use Rattle.state_invariant.proofs.collector.Garbage.{IsGarbage, garbage-is, garbage-undrawn, garbage-ended}

-- ---- slots are freed, the place moves, and a sweep ends

-- the state with this in the slots, whether the gaps are swept, and the collector's place
abbrev pub moved : State → (ℕ → Option Version) → Bool → ℕ → State
moved q held swept place = record q { held = held; swept = swept; place = place }

-- each slot is held as before, or was garbage
pub data OnlyFrees (q : State) (held : ℕ → Option Version) (slot : ℕ) : Type 0 where
  stays : held slot ≡ q.held slot → OnlyFrees q held slot
  frees : IsGarbage q slot → held slot ≡ None → OnlyFrees q held slot

-- a visit frees only the slot of its place
pub visit-frees : (o : Origin) (q : State) (at slot : ℕ) → Keeps o q → OnlyFrees q (held_after_visit q at) slot
visit-frees o q at slot kept = grind (arith, garbage-is, replaced-same, replaced-other, cases_eq)

module _ (o : Origin) (q : State) (kept : Keeps o q) (held : ℕ → Option Version) (swept : Bool) (place : ℕ) (still : q.swept ≡ true → swept ≡ true) (only : (slot : ℕ) → OnlyFrees q held slot) where
  abbrev then : State
  then = moved q held swept place

  -- ---- what is kept

  gaps-stand : {gaps other : List Gap} → (gaps ≡ other) ⊎ ((q.swept ≡ true) × (gaps ≡ [])) → (gaps ≡ other) ⊎ ((swept ≡ true) × (gaps ≡ []))
  gaps-stand a = grind (arith)

  hand-then : (hand : Hand) → KeepsHand q hand → KeepsHand then hand
  hand-then hand k = record { extends = k.extends; persisted = k.persisted; window = k.window; gaps = gaps-stand k.gaps; longs = k.longs; drawn = k.drawn }

  was : (slot : ℕ) (v : Version) → held slot ≡ Some v → q.held slot ≡ Some v
  was slot v at = grind arith

  -- a version that isn't garbage keeps its slot
  has-still : (v : Version) → ((slot : ℕ) → IsGarbage q slot → q.held slot ≡ Some v → ⊥) → HasSlot q v → HasSlot then v
  has-still v needed (slot, lt, at) = grind arith

  same-version : (slot : ℕ) (g : IsGarbage q slot) (v : Version) → q.held slot ≡ Some v → version_by g.key (ByCommit g.timestamp) ≡ v
  same-version slot g v at = let both : Some (version_by g.key (ByCommit g.timestamp)) ≡ Some v = sym g.held ∙ at in cc both

  same-commit : (slot : ℕ) (g : IsGarbage q slot) (key : Key) (t : ℕ) → q.held slot ≡ Some (version_by key (ByCommit t)) → (g.key ≡ key) × (g.timestamp ≡ t)
  same-commit slot g key t at = grind (arith, same-version)

  of-session : (slot n : ℕ) (key : Key) → IsGarbage q slot → q.held slot ≡ Some (version_by key (BySession n)) → ⊥
  of-session slot n key g at = grind (arith)

  of-drawn : (slot t : ℕ) (key : Key) (d : Drawn) → drawn_at q t ≡ Some d → IsGarbage q slot → q.held slot ≡ Some (version_by key (ByCommit t)) → ⊥
  of-drawn slot t key d found g at =
      let none : drawn_at q t ≡ None = ap (drawn_at q) (sym (same-commit slot g key t at).1) ∙ garbage-undrawn o q kept slot g in
      let clash : ◌≡◌ {A = Option Drawn} None (Some d) = sym none ∙ found in
      cc clash

  -- a version that is freed isn't the last on its key after the commits of a snapshot in use, or of a later one
  of-snapshot : (slot n m : ℕ) (key : Key) → IsGarbage q slot → IsInUse q n → n ≤ m → m ≤ length q.history → q.held slot ≡ Some (last_of q m key) → ⊥
  of-snapshot slot n m key g in_use since within held =
      let same = same-commit slot g key (last_writer (take m q.history) key) held in
      by same.1 (λ is. g.later n in_use (ap (last_writer (take n q.history)) same.0 ∙ is)) (writer-since q.history key n m since within)
    where
      bounds : (o.opened ≤ n) × (n ≤ length q.history)
      bounds = snapshot-bounds o q kept n in_use

      by : g.timestamp ≡ last_writer (take m q.history) key → (last_writer (take n q.history) key ≢ g.timestamp) → (last_writer (take m q.history) key ≡ last_writer (take n q.history) key) ⊎ IsWritten q.history key n m → ⊥
      by stamps later (inl same) = later (sym same ∙ sym stamps)
      by stamps later (inr w) =
          let is : w.commit.timestamp ≡ g.timestamp = sym w.last ∙ sym stamps in
          let p = placed q.history 0 n g.timestamp (g.among n in_use) in
          let above : o.ruling.persisted < w.commit.timestamp = above-origin o q kept w.place w.commit (omega (arith, w.low, bounds.0)) w.at in
          elim (cases_lt p.place o.opened) [
            | inl before ↦ absurd (omega (arith, above, is, p.is, (committed-bounds o.ruling p.commit.timestamp (early p.place p.commit before p.at)).1))
            | inr life ↦ absurd (omega (arith, p.high, w.low, one-place q.history o.opened p.place w.place p.commit w.commit kept.numbers.origin.distinct life (omega (arith, w.low, bounds.0)) p.at w.at (p.is ∙ sym is)))
          ]
        where
          early : (place : ℕ) (c : Commit) → place < o.opened → slice_get q.history place ≡ Some c → is_committed o.ruling c.timestamp ≡ true
          early place c lt at = front-fact (λ (c : Commit). is_committed o.ruling c.timestamp) q.history o.opened place c kept.numbers.origin.before lt at

  pub keeps-moved : Keeps o then
  keeps-moved =
      let n = kept.numbers in
      let w = kept.owns in
      record {
        numbers = record {
          ruling = n.ruling;
          drawn = n.drawn;
          longs = n.longs;
          hand = λ hand is. hand-then hand (n.hand hand is);
          origin = let k = n.origin in record { covered = k.covered; drawn = k.drawn; each = k.each; gaps = gaps-stand k.gaps };
          snapshots = n.snapshots;
          numbered = n.numbered;
        };
        draws = kept.draws;
        owns = record {
          once = λ a b v lt_a lt_b at_a at_b. w.once a b v lt_a lt_b (was a v at_a) (was b v at_b);
          has = λ slot v lt at. w.has slot v lt (was slot v at);
          before = λ slot t key lt at. w.before slot t key lt (was slot (version_by key (ByCommit t)) at);
          by_session = λ n key row wrote. has-still (version_by key (BySession n)) (λ slot g at. of-session slot n key g at) (w.by_session n key row wrote);
          by_draw = λ t key d row found wrote. has-still (version_by key (ByCommit t)) (λ slot g at. of-drawn slot t key d found g at) (w.by_draw t key d row found wrote);
          since_snapshot = λ n in_use m key row since within there. has-still (last_of q m key) (λ slot g at. of-snapshot slot n m key g in_use since within at) (w.since_snapshot n in_use m key row since within there);
        };
      }

  -- ---- what the slots show

  -- what no snapshot sees stays so, if a sweep doesn't end
  module _ (value : ℕ → ℕ) (never : (slot w : ℕ) → slot < q.layout.slots → w < 2 → IsNever o q (value (word_of q.layout slot w)) → IsNever o then (value (word_of q.layout slot w))) where
    shows-as : (slot : ℕ) → slot < q.layout.slots → (c : Class) → ShowsAs o q value slot c → ShowsAs o then value slot c
    shows-as slot lt Free (inl none) = inl (never slot 0 lt (omega arith) none)
    shows-as slot lt Free (inr ended) = inr ended
    shows-as slot lt (Waiting key row) h = record { begin = h.begin; end = h.end; spells = h.spells }
    shows-as slot lt (Begun t key row) h = record { begin = h.begin; end = h.end; spells = h.spells }
    shows-as slot lt (Newest t key row) h = grind arith
    shows-as slot lt (Replaced t key row) h = record {
      begin = h.begin;
      ended = λ u f. h.ended u record { place = f.place; since = f.since; commit = f.commit; at = f.at; writes = f.writes; stamped = f.stamped; last = f.last };
      spells = h.spells;
    }

    pub shows-moved : SlotsShow o q value → SlotsShow o then value
    shows-moved shows = record { each = λ slot lt. by slot lt (only slot) }
      where
        by : (slot : ℕ) → slot < q.layout.slots → OnlyFrees q held slot → SlotShows o then value slot
        by slot lt (stays same) = subst (λ (x : Option Version). ShowsAs o then value slot (class_of_version o then x)) (sym same) (shows-as slot lt (class_of o q slot) (shows.each slot lt))
        by slot lt (frees g none) =
            subst (λ (x : Option Version). ShowsAs o then value slot (class_of_version o then x)) (sym none)
            (inr (λ n in_use. garbage-ended o q kept value slot lt g (shows.each slot lt) n in_use))

-- ---- a visit

pub keeps-slot_visited : (o : Origin) (q : State) → Keeps o q → Keeps o (slot_visited q)
keeps-slot_visited o q kept = keeps-moved o q kept (held_after_visit q q.place) q.swept (q.place + 1) (λ is. is) (λ slot. visit-frees o q q.place slot kept)

pub keeps-sweep_ended : (o : Origin) (q : State) → Keeps o q → Keeps o (sweep_ended q)
keeps-sweep_ended o q kept = keeps-moved o q kept q.held true 0 (λ is. refl) (λ slot. stays refl)

pub keeps-visited : (o : Origin) (q : State) → Keeps o q → Keeps o (visited q)
keeps-visited o q kept = grind (arith, keeps-slot_visited, keeps-sweep_ended)

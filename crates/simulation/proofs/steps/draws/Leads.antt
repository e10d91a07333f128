-- A draw: the versions of its session become those of its commit, while the device does nothing.
use Rattle.std.proofs.Common.{◌≡◌, ◌≢◌, ◌⊎◌, inl, inr, ℕ, suc, zero, ◌+◌, ◌-◌, ◌<◌, Bool, true, false, cond, ◌&&◌, List, [], ◌∷◌, ◌++◌, take, refl, sym, ◌∙◌, ap, subst, arith}
use Rattle.std.specs.Prelude.{Option, Some, None, IsTrue}
use Rattle.std.specs.List.{list_any, flat_map, range_with_len}
use Rattle.std.proofs.lemmas.Bool.{cases_eq, ne_eqb}
use Rattle.std.proofs.lemmas.List.Folds.{list_any-append}
use Rattle.base.specs.declared.key.Key.{Key}
use Rattle.base.specs.Commits.{Writes, last_writer, writes_key}
use Rattle.base.specs.Stands.{has_timestamp}
use Rattle.base.specs.Layout.{version_lines}
use Rattle.machine.specs.Machine.{State, Drawn, Hand, Version, Writer, BySession, ByCommit, drawn_at, is_by, by_commit, state_drawn}
use Rattle.pmem.specs.Device.{Device}
use Rattle.pmem.specs.Words.{EachSurvivor, IsSettledAt}
use Rattle.pmem.proofs.Changes.{each-settled, each-weaken}
use Rattle.state_invariant.specs.Kept.{Origin, Keeps, KeepsHand, version_by}
use Rattle.state_invariant.specs.Shown.{word_of, is_drawn_on, is_key_stamped}
use Rattle.state_invariant.proofs.Commits.{committed-bounds}
use Rattle.state_invariant.proofs.covers.Kept.{batch-drawn}
use Rattle.state_invariant.proofs.draws.Kept.{drawn_now, found-new, found-old, held-drawn}
use Rattle.device_invariant.specs.Slots.{newest_of, NeverCounts, Counts, IsLive, SlotHolds}
use Rattle.device_invariant.specs.Log.{Line, line_at, lines_at, is_own, is_ended, is_one_of, is_last_on, AreReady, HoldsHand}
use Rattle.device_invariant.specs.Upholds.{HoldsState}
use Rattle.device_invariant.proofs.PresentValues.{last-committed, drawn-bounds}

module _ (o : Origin) (q : State) (n : ℕ) (write : Key × Option (List ℕ)) (rest : Writes) (kept : Keeps o q) (device : Device) where
  abbrev then : State
  then = state_drawn q n (write ∷ rest)

  drawn-still : (key : Key) (x : ℕ) → is_drawn_on q key x ≡ true → is_drawn_on then key x ≡ true
  drawn-still key x drawn = grind (arith, list_any-append)

  -- the last covered commit on a key was drawn before
  last-before : (key : Key) → last_writer q.history key < q.next
  last-before key = grind (arith, last-committed, committed-bounds)

  -- ---- a slot

  module _ (slot : ℕ) (lt : slot < q.layout.slots) (h : SlotHolds q device slot) where
    by_session : (key : Key) (t : ℕ) → ((q.held slot ≡ Some (version_by key (BySession n))) × (ByCommit t ≡ ByCommit q.next)) ⊎ ((q.held slot ≡ Some (version_by key (ByCommit t))) × (false ≡ false)) → t ≢ q.next → q.held slot ≡ Some (version_by key (ByCommit t))
    by_session key t (inl new) apart = let same : t ≡ q.next = cc new.1 in absurd (apart same)
    by_session key t (inr old) apart = old.0

    live : (key : Key) → IsLive q device slot key → IsLive then device slot key
    live key l = record { begin = l.begin; counted = l.counted; end = each-weaken (end key) l.end; settled = l.settled }
      where
        end : (key : Key) (x : ℕ) → NeverCounts q x ⊎ IsTrue (is_drawn_on q key x) → NeverCounts then x ⊎ IsTrue (is_drawn_on then key x)
        end key x (inl never) = inl never
        end key x (inr drawn) = inr (drawn-still key x drawn)

    free : (v : Option Version) → q.held slot ≡ v → by_commit n q.next v ≡ None → q.held slot ≡ None
    free None is none = is
    free (Some v) is none = absurd (cc none)

    own : (m : ℕ) (key : Key) → ((q.held slot ≡ Some (version_by key (BySession n))) × (BySession m ≡ ByCommit q.next)) ⊎ ((q.held slot ≡ Some (version_by key (BySession m))) × (is_by n (BySession m) ≡ false)) → q.held slot ≡ Some (version_by key (BySession m))
    own m key (inl new) = absurd (cc new.1)
    own m key (inr old) = old.0

    old-drawn : (t : ℕ) (key : Key) (d : Drawn) → q.held slot ≡ Some (version_by key (ByCommit t)) → drawn_at then t ≡ Some d → drawn_at q t ≡ Some d
    old-drawn t key d at found = let before : t < q.next = kept.owns.before slot t key lt at in sym (found-old q (write ∷ rest) t (λ same. omega (arith, same, before))) ∙ found

    slot-drawn : SlotHolds then device slot
    slot-drawn = record {
      begin_before = each-weaken (λ x lt. omega (arith, lt)) h.begin_before;
      end_before = each-weaken (λ x lt. omega (arith, lt)) h.end_before;
      free = λ at. h.free (free (q.held slot) refl at);
      own = λ m key at. h.own m key (own m key (held-drawn n q.next (q.held slot) (version_by key (BySession m)) at));
      drawn = λ t key d at found. drawn t key d (held-drawn n q.next (q.held slot) (version_by key (ByCommit t)) at) found;
      unstamped = λ t key d at found not_yet up. unstamped t key d (held-drawn n q.next (q.held slot) (version_by key (ByCommit t)) at) found not_yet up;
      newest = λ key at. live key (h.newest key (by_session key (last_writer q.history key) (held-drawn n q.next (q.held slot) (newest_of q key) at) (λ same. omega (arith, same, last-before key))));
      replaced = λ t key at none other. replaced t key none other (held-drawn n q.next (q.held slot) (version_by key (ByCommit t)) at) (cases_eq t q.next);
    }
      where
        drawn : (t : ℕ) (key : Key) (d : Drawn) → ((q.held slot ≡ Some (version_by key (BySession n))) × (ByCommit t ≡ ByCommit q.next)) ⊎ ((q.held slot ≡ Some (version_by key (ByCommit t))) × (false ≡ false)) → drawn_at then t ≡ Some d
            → EachSurvivor device (word_of q.layout slot 0) (λ x. (x ≡ 0) ⊎ (x ≡ t))
        drawn t key d (inl new) found = each-weaken (λ x zero. inl zero) (each-settled (h.own n key new.0))
        drawn t key d (inr old) found = h.drawn t key d old.0 (old-drawn t key d old.0 found)

        unstamped : (t : ℕ) (key : Key) (d : Drawn) → ((q.held slot ≡ Some (version_by key (BySession n))) × (ByCommit t ≡ ByCommit q.next)) ⊎ ((q.held slot ≡ Some (version_by key (ByCommit t))) × (false ≡ false)) → drawn_at then t ≡ Some d
            → is_key_stamped d key ≡ false → q.failed ≡ false → IsSettledAt device (word_of q.layout slot 0) 0
        unstamped t key d (inl new) found not_yet up = h.own n key new.0
        unstamped t key d (inr old) found not_yet up = h.unstamped t key d old.0 (old-drawn t key d old.0 found) not_yet up

        replaced : (t : ℕ) (key : Key) → drawn_at then t ≡ None → t ≢ last_writer q.history key → ((q.held slot ≡ Some (version_by key (BySession n))) × (ByCommit t ≡ ByCommit q.next)) ⊎ ((q.held slot ≡ Some (version_by key (ByCommit t))) × (false ≡ false))
            → (t ≡ q.next) ⊎ (t ≢ q.next) → EachSurvivor device (word_of q.layout slot 1) (Counts q)
        replaced t key none other at (inl now) = let both : ◌≡◌ {A = Option Drawn} None (Some (drawn_now q (write ∷ rest))) = sym none ∙ ap (drawn_at then) now ∙ found-new o q (write ∷ rest) kept.numbers in absurd (cc both)
        replaced t key none other at (inr apart) = h.replaced t key (by_session key t at apart) (sym (found-old q (write ∷ rest) t apart) ∙ none) other

  -- ---- the lines

  module _ (hand : Hand) (k : KeepsHand q hand) where
    not-next : (b : Bool) → has_timestamp hand.commits q.next ≡ b → b ≡ false
    not-next false is = refl
    not-next true is =
        let drawn = batch-drawn o q hand kept k q.next is in
        absurd (omega (arith, (drawn-bounds o q kept q.next drawn.0 drawn.1).1))

    own-turned : (w : Writer) (b : Bool) → is_by n w ≡ b → is_one_of hand.commits (cond b (ByCommit q.next) w) ≡ is_one_of hand.commits w
    own-turned w false is = refl
    own-turned (BySession m) true is = not-next (has_timestamp hand.commits q.next) refl
    own-turned (ByCommit t) true is = absurd (cc is)

    own-same : (v : Option Version) → is_own hand.commits (by_commit n q.next v) ≡ is_own hand.commits v
    own-same None = refl
    own-same (Some v) = own-turned v.writer (is_by n v.writer) refl

    last-turned : (key : Key) (w : Writer) (b : Bool) → is_by n w ≡ b → is_last_on q key (cond b (ByCommit q.next) w) ≡ is_last_on q key w
    last-turned key w false is = refl
    last-turned key (BySession m) true is = ne_eqb (last_writer q.history key) q.next (λ same. omega (arith, same, last-before key))
    last-turned key (ByCommit t) true is = absurd (cc is)

    ended-same : (v : Option Version) → is_ended then hand.commits (by_commit n q.next v) ≡ is_ended q hand.commits v
    ended-same None = refl
    ended-same (Some v) = ap (λ (b : Bool). b && list_any (writes_key v.key) hand.commits) (last-turned v.key v.writer (is_by n v.writer) refl)

    lines-same : (from m : ℕ) → flat_map (lines_at then hand.commits) (range_with_len from m) ≡ flat_map (lines_at q hand.commits) (range_with_len from m)
    lines-same from zero = refl
    lines-same from (suc m) =
        ap (λ (b : Bool). cond b (flat_map (λ part. line_at from part ∷ []) (range_with_len 0 (version_lines q.layout))) (cond (is_ended then hand.commits (then.held from)) (line_at from 0 ∷ []) []) ++ flat_map (lines_at then hand.commits) (range_with_len (from + 1) m)) (own-same (q.held from))
        ∙ ap (λ (b : Bool). cond (is_own hand.commits (q.held from)) (flat_map (λ part. line_at from part ∷ []) (range_with_len 0 (version_lines q.layout))) (cond b (line_at from 0 ∷ []) []) ++ flat_map (lines_at then hand.commits) (range_with_len (from + 1) m)) (ended-same (q.held from))
        ∙ ap (λ (ls : List Line). lines_at q hand.commits from ++ ls) (lines-same (from + 1) m)

  hand-drawn : (hand : Option Hand) → q.hand ≡ hand → HoldsHand q device hand → HoldsHand then device hand
  hand-drawn None is holds = holds
  hand-drawn (Some hand) is (inl f) = inl record {
    chosen = f.chosen;
    within = f.within;
    follows = f.follows;
    ready = subst (λ (ls : List Line). AreReady q.layout device (take (hand.ticks - 1) ls)) (sym (lines-same hand (kept.numbers.hand hand is) 0 q.layout.slots)) f.ready;
  }
  hand-drawn (Some hand) is (inr r) = inr record {
    stage = r.stage;
    staged = r.staged;
    under_way = r.under_way;
    ticks = r.ticks;
    replaces = r.replaces;
    settled = record {
      own = λ slot lt its. r.settled.own slot lt (sym (own-same hand (kept.numbers.hand hand is) (q.held slot)) ∙ its);
      ended = λ slot lt its. r.settled.ended slot lt (sym (ended-same hand (kept.numbers.hand hand is) (q.held slot)) ∙ its);
    };
  }

  pub holds-drawn : HoldsState q device → HoldsState then device
  holds-drawn h = record {
    slots = record { each = λ slot lt. slot-drawn slot lt (h.slots.each slot lt) };
    log = hand-drawn q.hand refl h.log;
    sweeping = record { over = h.sweeping.over; under_way = h.sweeping.under_way };
  }

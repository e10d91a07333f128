-- What may survive in the slots when a batch is covered, of however many commits.
use Rattle.std.proofs.Common.{◌≡◌, ◌≢◌, ◌⊎◌, inl, inr, ℕ, ◌<◌, Bool, true, false, List, [], refl, sym, ◌∙◌, ap, subst, arith, nat_eq, true≢false}
use Rattle.std.specs.Prelude.{IsTrue, Option, Some, None, is_some}
use Rattle.std.specs.List.{list_any}
use Rattle.std.proofs.lemmas.Bool.{and_from, eq-eqb, cases_eq}
use Rattle.std.proofs.lemmas.Map.Keys.{any_passes_from_place}
use Rattle.base.specs.declared.key.Key.{Key}
use Rattle.base.specs.declared.gap.Gap.{Gap}
use Rattle.base.specs.Commits.{Commit, after, last_writer, writes_key}
use Rattle.base.specs.Records.{is_in, is_committed}
use Rattle.base.specs.Stands.{has_timestamp}
use Rattle.machine.specs.Machine.{State, Drawn, Hand, Version, ByCommit, drawn_at, state_covered}
use Rattle.pmem.specs.Device.{Device}
use Rattle.pmem.specs.Words.{Survives, value_of, EachSurvivor}
use Rattle.pmem.proofs.OperationEffects.{only-settled}
use Rattle.state_invariant.specs.Kept.{Origin, Keeps, KeepsHand, version_by, wanted, commit_at}
use Rattle.state_invariant.specs.Shown.{word_of, is_drawn_on, is_key_stamped, Spells, SlotsShow}
use Rattle.state_invariant.proofs.Commits.{commit_at-some, commit_at-place, distinct-rising, timestamp-all, found-any}
use Rattle.state_invariant.proofs.covers.Kept.{batch-drawn, found-left, found-now, wanted-now}
use Rattle.device_invariant.specs.Slots.{newest_of, NeverCounts, Counts, IsDead, IsLive, SlotHolds, SlotsHold}
use Rattle.device_invariant.specs.Log.{is_own, is_ended, IsBatchSettled}
use Rattle.device_invariant.specs.Sweeps.{IsSweeping}
use Rattle.pmem.proofs.Changes.{each-settled, each-weaken}
use Rattle.state_invariant.proofs.stamps.Stamped.{all-stamped}
use Rattle.device_invariant.proofs.Words.{within-slot}
use Rattle.device_invariant.proofs.covers.Batches.{any-left, IsLastOf, WritesNone, last-of}
use Rattle.device_invariant.proofs.PresentValues.{says-begun, says-newest, wanted-newest}
use Rattle.device_invariant.proofs.stamps.Stamped.{drawn-on, writes-held}

-- the drawn commit with this timestamp is of the batch, and writes the key
pub record IsOwn (q : State) (hand : Hand) (key : Key) (t : ℕ) : Type 0 where
  pub drawn : Drawn
  pub found : drawn_at q t ≡ Some drawn
  pub in_hand : has_timestamp hand.commits t ≡ true
  pub writes : writes_key key drawn.commit ≡ true
  pub stamped : is_key_stamped drawn key ≡ true

-- ---- the commits of the batch

module _ (o : Origin) (q : State) (hand : Hand) (kept : Keeps o q) (k : KeepsHand q hand) where
  -- the commit of the batch that writes a key is the one drawn commit that does
  pub own-of : (key : Key) (l : IsLastOf q.history hand.commits key) → IsOwn q hand key l.commit.timestamp
  own-of key l =
      let at : commit_at hand.commits l.commit.timestamp ≡ Some l.commit = commit_at-place hand.commits l.place l.commit (distinct-rising hand.commits k.rising) l.at in
      let drawn = k.drawn l.commit.timestamp l.commit at in
      let writes : writes_key key drawn.0.commit ≡ true = ap (λ (c : Commit). writes_key key c) drawn.2 ∙ ap (λ (v : Option (Option (List ℕ))). is_some v) l.writes in
      record {
        drawn = drawn.0;
        found = drawn.1;
        in_hand = commit_at-some hand.commits l.commit.timestamp l.commit at;
        writes = writes;
        stamped = all-stamped drawn.0 key drawn.3 writes;
      }

  pub one-of : (key : Key) (l : IsLastOf q.history hand.commits key) (t : ℕ) (d : Drawn) → drawn_at q t ≡ Some d → writes_key key d.commit ≡ true → t ≡ l.commit.timestamp
  one-of key l t d found writes = grind (arith, own-of key l)

  -- no commit of the batch writes the key
  pub unwritten : (key : Key) (n : WritesNone q.history hand.commits key) (t : ℕ) (d : Drawn) → drawn_at q t ≡ Some d → writes_key key d.commit ≡ true → has_timestamp hand.commits t ≡ false
  unwritten key n t d found writes = grind (arith, batch-drawn, found-any (writes_key key))

-- ---- the slots

module _ (o : Origin) (q : State) (hand : Hand) (device : Device) (kept : Keeps o q) (k : KeepsHand q hand) (shows : SlotsShow o q (value_of device)) (sweeping : IsSweeping q device) (settled : IsBatchSettled q hand.commits device) where
  abbrev now : State
  now = state_covered q hand

  abbrev in_batch : ℕ → Bool
  in_batch t = has_timestamp hand.commits t

  -- ---- timestamps

  never : (slot w : ℕ) → slot < q.layout.slots → w < 2 → (x : ℕ) → Survives device (word_of q.layout slot w) x → NeverCounts q x → NeverCounts now x
  never slot w lt low x there (inl zero) = inl zero
  never slot w lt low x there (inr gap) = by_gaps k.gaps
    where
      by_gaps : (hand.target.gaps ≡ q.ruling.gaps) ⊎ ((q.swept ≡ true) × (hand.target.gaps ≡ [])) → NeverCounts now x
      by_gaps (inl same) = inr (ap (λ (gaps : List Gap). is_in gaps x) same ∙ gap)
      by_gaps (inr dropped) = absurd (true≢false (sym gap ∙ (sweeping.over dropped.0 slot w lt low).each x there))

  nevers : (slot w : ℕ) → slot < q.layout.slots → w < 2 → EachSurvivor device (word_of q.layout slot w) (NeverCounts q) → EachSurvivor device (word_of q.layout slot w) (NeverCounts now)
  nevers slot w lt low e = record { each = λ x there. never slot w lt low x there (e.each x there) }

  counted : {word : ℕ} → EachSurvivor device word (Counts q) → EachSurvivor device word (Counts now)
  counted e = each-weaken k.still e

  counts : (t : ℕ) → in_batch t ≡ true → Counts now t
  counts t is = timestamp-all (is_committed hand.target) hand.commits t k.batch is

  -- ---- drawn commits

  none-drawn : (t : ℕ) → drawn_at now t ≡ None → (in_batch t ≡ true) ⊎ ((in_batch t ≡ false) × (drawn_at q t ≡ None))
  none-drawn t none = grind (arith, found-left)

  -- ---- one slot

  module _ (slot : ℕ) (lt : slot < q.layout.slots) (h : SlotHolds q device slot) where
    live-same : (key : Key) → WritesNone q.history hand.commits key → q.held slot ≡ Some (newest_of q key) → IsLive now device slot key
    live-same key n held =
        let live = h.newest key held in
        record {
          begin = live.begin;
          counted = k.still (value_of device (word_of q.layout slot 0)) live.counted;
          end = record { each = λ x there. by_end x there (live.end.each x there) };
          settled = live.settled;
        }
      where
        by_end : (x : ℕ) → Survives device (word_of q.layout slot 1) x → NeverCounts q x ⊎ IsTrue (is_drawn_on q key x) → NeverCounts now x ⊎ IsTrue (is_drawn_on now key x)
        by_end x there (inl is_never) = inl (never slot 1 lt (omega arith) x there is_never)
        by_end x there (inr drawn) =
            let found = drawn-on q key x kept.draws drawn in
            inr (any-left hand.commits x key q.drawn (unwritten o q hand kept k key n x found.0 found.1 found.2) drawn)

    live-own : (key : Key) (l : IsLastOf q.history hand.commits key) → q.held slot ≡ Some (version_by key (ByCommit l.commit.timestamp)) → IsLive now device slot key
    live-own key l held =
        let own = own-of o q hand kept k key l in
        let says = (says-begun o q kept (value_of device) shows slot l.commit.timestamp key own.drawn lt held own.found own.stamped).2 in
        let whole = settled.own slot lt (ap (is_own hand.commits) held ∙ own.in_hand) in
        record {
          begin = whole.each 0 (within-slot q.layout.version 0 (omega arith));
          counted = ap (is_committed hand.target) says.begin ∙ counts l.commit.timestamp own.in_hand;
          end = each-weaken (λ x zero. inl (inl zero)) (each-settled record { settled = whole.each 1 (within-slot q.layout.version 1 (omega arith)); holds = says.end });
          settled = λ w two low. whole.each w low;
        }

    newest : (key : Key) → q.held slot ≡ Some (newest_of now key) → IsLive now device slot key
    newest key held = by_last (last-of q.history hand.commits key)
      where
        by_last : IsLastOf q.history hand.commits key ⊎ WritesNone q.history hand.commits key → IsLive now device slot key
        by_last (inl l) = live-own key l (held ∙ ap (λ (t : ℕ). Some (version_by key (ByCommit t))) l.last)
        by_last (inr n) = live-same key n (held ∙ ap (λ (t : ℕ). Some (version_by key (ByCommit t))) n.last)

    -- a version that the batch ends
    ended-by : (key : Key) (l : IsLastOf q.history hand.commits key) → q.held slot ≡ Some (newest_of q key) → EachSurvivor device (word_of q.layout slot 1) (Counts now)
    ended-by key l held =
        let own = own-of o q hand kept k key l in
        let says = (says-newest o q kept (value_of device) shows slot key lt held).2 in
        let is : value_of device (word_of q.layout slot 1) ≡ l.commit.timestamp = says.ended l.commit.timestamp own.drawn own.found own.stamped in
        let writes : list_any (writes_key key) hand.commits ≡ true = any_passes_from_place (writes_key key) hand.commits l.place l.commit l.at (ap (λ (v : Option (Option (List ℕ))). is_some v) l.writes) in
        let end = settled.ended slot lt (ap (is_ended q hand.commits) held ∙ and_from (nat_eq (last_writer q.history key) (last_writer q.history key)) (list_any (writes_key key) hand.commits) (eq-eqb (last_writer q.history key) (last_writer q.history key) refl) writes) in
        record { each = λ x there. subst (Counts now) (sym (only-settled device (word_of q.layout slot 1) x end there ∙ is)) (counts l.commit.timestamp own.in_hand) }

    replaced : (t : ℕ) (key : Key) → q.held slot ≡ Some (version_by key (ByCommit t)) → drawn_at now t ≡ None → t ≢ last_writer now.history key → EachSurvivor device (word_of q.layout slot 1) (Counts now)
    replaced t key held none other = by_drawn (none-drawn t none)
      where
        by_last : drawn_at q t ≡ None → (t ≡ last_writer q.history key) ⊎ (t ≢ last_writer q.history key) → IsLastOf q.history hand.commits key ⊎ WritesNone q.history hand.commits key → EachSurvivor device (word_of q.layout slot 1) (Counts now)
        by_last undrawn (inl last) (inl l) = ended-by key l (held ∙ ap (λ (u : ℕ). Some (version_by key (ByCommit u))) last)
        by_last undrawn (inl last) (inr n) = absurd (other (last ∙ sym n.last))
        by_last undrawn (inr earlier) either = counted (h.replaced t key held undrawn earlier)

        -- a version of the batch is the last on its key
        by_own : IsLastOf q.history hand.commits key ⊎ WritesNone q.history hand.commits key → (d : Drawn) → drawn_at q t ≡ Some d → in_batch t ≡ true → ⊥
        by_own (inl l) d found has = other (one-of o q hand kept k key l t d found (writes-held o q kept slot t key d lt held found) ∙ sym l.last)
        by_own (inr n) d found has = true≢false (sym has ∙ unwritten o q hand kept k key n t d found (writes-held o q kept slot t key d lt held found))

        by_drawn : (in_batch t ≡ true) ⊎ ((in_batch t ≡ false) × (drawn_at q t ≡ None)) → EachSurvivor device (word_of q.layout slot 1) (Counts now)
        by_drawn (inl has) = let drawn = batch-drawn o q hand kept k t has in absurd (by_own (last-of q.history hand.commits key) drawn.0 drawn.1 has)
        by_drawn (inr out) = by_last out.1 (cases_eq t (last_writer q.history key)) (last-of q.history hand.commits key)

    slot-covered : SlotHolds now device slot
    slot-covered = record {
      begin_before = h.begin_before;
      end_before = h.end_before;
      free = λ held. dead (h.free held);
      own = h.own;
      drawn = λ t key d held found. h.drawn t key d held (found-now o q hand kept k t d found).1;
      unstamped = λ t key d held found not_stamped up. h.unstamped t key d held (found-now o q hand kept k t d found).1 not_stamped up;
      newest = newest;
      replaced = replaced;
    }
      where
        dead : IsDead q device slot → IsDead now device slot
        dead (inl begin) = inl (nevers slot 0 lt (omega arith) begin)
        dead (inr end) = inr (counted end)

  -- the newest versions then have their rows
  pub written-covered : Keeps o now → (slot : ℕ) (key : Key) → slot < q.layout.slots → q.held slot ≡ Some (newest_of now key) → (row : List ℕ) × (after now.history key ≡ Some row) × Spells q.layout (value_of device) slot key row
  written-covered kept' slot key lt held = by_last (last-of q.history hand.commits key)
    where
      by_last : IsLastOf q.history hand.commits key ⊎ WritesNone q.history hand.commits key → (row : List ℕ) × (after now.history key ≡ Some row) × Spells q.layout (value_of device) slot key row
      by_last (inl l) =
          let own = own-of o q hand kept k key l in
          let this : version_by key (ByCommit l.commit.timestamp) ≡ newest_of now key = ap (λ (t : ℕ). version_by key (ByCommit t)) (sym l.last) in
          let says = says-begun o q kept (value_of device) shows slot l.commit.timestamp key own.drawn lt (held ∙ ap (λ (v : Version). Some v) (sym this)) own.found own.stamped in
          (says.0, sym (wanted-newest o now kept' key) ∙ wanted-now o q hand kept k (newest_of now key) ∙ ap (wanted o q) (sym this) ∙ says.1, says.2.spells)
      by_last (inr n) = grind (arith, says-newest)

  -- the slots hold for the state in which the batch is covered
  pub slots-covered : SlotsHold q device → SlotsHold now device
  slots-covered h = record { each = λ slot lt. slot-covered slot lt (h.each slot lt) }

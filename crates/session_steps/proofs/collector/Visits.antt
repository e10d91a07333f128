-- A visit of the collector leads from each state that the sessions show to the machine's next.
use Rattle.std.proofs.Common.{◌≡◌, ◌≢◌, ◌⊎◌, inl, inr, ℕ, ◌+◌, ◌/◌, ◌<◌, ◌≤◌, Bool, true, false, ◌&&◌, cond, List, [], ◌∷◌, ◌++◌, length, refl, sym, ◌∙◌, ap, subst, arith, nat_eq, nat_lt, Option, Some, None, length-set}
use Rattle.std.specs.Prelude.{is_none, slice_get, slice_set, unwrap_or, Result, Ok, Err}
use Rattle.std.specs.List.{list_all}
use Rattle.std.specs.Option.{option_map, option_eq}
use Rattle.std.proofs.lemmas.Bool.{cases_eq, ne_eqb, ltb-true, true≢false}
use Rattle.std.proofs.lemmas.Bool.Decides.{nat_tests}
use Rattle.std.proofs.lemmas.Option.{get_or_from_slice_get}
use Rattle.base.specs.Actors.{collector as actor}
use Rattle.base.specs.declared.gap.Gap.{Gap}
use Rattle.base.specs.declared.key.Key.{Key}
use Rattle.base.specs.declared.fault.Fault.{Fault}
use Rattle.base.specs.declared.fault.Fault.TheVariants.{Device as DeviceFault}
use Rattle.base.specs.declared.step.Step.TheVariants as step
use Rattle.base.specs.declared.step.Reply.TheVariants as reply
use Rattle.base.specs.Keys.{key_eq}
use Rattle.base.specs.Commits.{Writes, last_writer}
use Rattle.base.specs.Layout.{Layout, slot_start, total_words}
use Rattle.base.specs.Records.{is_in}
use Rattle.base.specs.Images.{layout_of}
use Rattle.base.specs.Lists.{replaced}
use Rattle.machine.specs.Machine.{State, Active as Reads, Drawn as PlainDrawn, Version, ByCommit, answered, device_failed, refusal, session_numbers, StandsWithin}
use Rattle.machine.specs.Collecting.{is_garbage, is_at_slot, is_sweeping, held_after_visit, slot_visited, sweep_ended, visited, collected, replace, sees_replaced}
use Rattle.base.proofs.Keys.{key_eq-true, key_eq-same}
use Rattle.pmem.specs.Device.{Device, IsOrderly}
use Rattle.pmem.specs.Trace.{Operation, store_op, flush_op, fence_op, after, Runs, StopsWithin}
use Rattle.pmem.specs.Words.{LeavesOnly, value_of, image_of}
use Rattle.pmem.proofs.OperationEffects.{value-stored_other, value-flushed}
use Rattle.log_area.proofs.Heads.{image_size, image_word}
use Rattle.snapshot.specs.Snapshots.{Seen, covers, seen_by}
use Rattle.txn.specs.declared.transaction.Transaction.{Transaction}
use Rattle.txn.specs.declared.transaction.Transaction.TheVariants.{Active}
use Rattle.txn.specs.Transactions.{transaction_at}
use Rattle.version_slot.specs.Words.{key_in, slot_at}
use Rattle.pmem.proofs.Traces.{after-append}
use Rattle.slot_alloc.specs.Free.{is_free}
use Rattle.index.specs.declared.entry.Entry.{Entry}
use Rattle.index.specs.Entries.{entry_at, forgotten, KeepsRoom}
use Rattle.collector.specs.declared.rounds.Collector.{Collector}
use Rattle.collector.specs.declared.visit.Visit.{Visit}
use Rattle.collector.specs.declared.visit.Visit.TheVariants.{Slot, SweepEnd}
use Rattle.version_slot.specs.Operations.{zero_operations}
use Rattle.collector.specs.Sweeping.{sweep_operations, tick_operations}
use Rattle.collector.specs.Ticks.{visit_at, moved_on, freed_at}
use Rattle.state_invariant.specs.Kept.{Origin, version_by, wanted}
use Rattle.state_invariant.specs.Shown.{word_of, HasVersion, Newest, Replaced, IsReplaced, ShowsAs, class_of_drawn, class_of_version}
use Rattle.state_invariant.proofs.Lookups.{replaced-same, replaced-other}
use Rattle.state_invariant.proofs.collector.Garbage.{IsGarbage, garbage-is, garbage-undrawn, garbage-replaced}
use Rattle.state_invariant.proofs.collector.Kept.{visit-frees, stays}
use Rattle.device_invariant.specs.Upholds.{Upholds}
use Rattle.device_invariant.proofs.Words.{word-within}
use Rattle.simulation.specs.sessions.Sees.{Sees}
use Rattle.simulation.specs.visits.Garbage.{is_covered_for}
use Rattle.simulation.specs.visits.Visits.{visit_operations}
use Rattle.simulation.proofs.visits.Visits.{visits-lead}
use Rattle.simulation.proofs.visits.Counting.{visits-count}
use Rattle.simulation.proofs.visits.Garbage.{ends-show-garbage}
use Rattle.session_steps.specs.declared.sessions.Sessions.{Sessions}
use Rattle.session_steps.specs.Shows.{Hidden, plain_of, plain_session, HoldsSession, HoldsEntry, IsUnreplaced, Agrees, ShowsAny}
use Rattle.session_steps.specs.Steps.{is_by_actor, HoldsOn, ShowsSome}
use Rattle.session_steps.specs.Collecting.{is_covered_in, all_cover, as_reply, CollectsTo, Collects, ForgetsFreed, taken, known, gone}
use Rattle.session_steps.proofs.Failing.{failed-agrees}
use Rattle.session_steps.proofs.collector.Agrees.{agrees-freed, entry-left, entry-forgotten}
use Rattle.session_steps.proofs.slots.Freed.{given-same, given-other}
use Rattle.session_steps.proofs.collector.Slots.{key-read}
use Rattle.session_steps.proofs.collector.Replaced.{set-other, freed-unreplaced}
use Rattle.session_steps.proofs.reads.Rows.{laid-out, words-are}
use Rattle.session_steps.proofs.Effects.{stopped-by, all-made, last-failed}
use Rattle.session_steps.proofs.CodeTests.{same-drawers}

-- ---- whose operations they are, and what they leave

module _ (a : Layout) (gaps : List Gap) (value : ℕ → ℕ) where
  by-collector : (slot : ℕ) (sweeping at_slot begins ends : Bool)
      → list_all (is_by_actor (Some actor))
      (cond at_slot (cond sweeping (cond begins (store_op (slot_start a slot) 0 ∷ []) [] ++ cond ends (store_op (slot_start a slot + 1) 0 ∷ []) [] ++ flush_op actor (slot_start a slot / 8) ∷ []) []) (cond sweeping (fence_op actor ∷ []) [])) ≡ true
  by-collector slot a b begins ends = grind (arith)

  zero-leaves : (word x : ℕ) (device : Device) (other : ℕ) → other ≢ word → value_of (after (zero_operations gaps word x) device) other ≡ value_of device other
  zero-leaves word x device other apart = grind (arith, value-stored_other) steps 800000

  -- of a slot only the begin and the end change
  sweep-leaves : (slot w : ℕ) (device : Device) → 2 ≤ w → value_of (after (sweep_operations a gaps value slot) device) (word_of a slot w) ≡ value_of device (word_of a slot w)
  sweep-leaves slot w device further = grind (arith, after-append, value-flushed, zero-leaves) steps 800000

-- ---- who still reads

-- the snapshot of a transaction that has one
abbrev snapshot_in : Option Transaction → Seen
snapshot_in (Some (Active snapshot writes)) = snapshot
snapshot_in _ = record { persisted = 0; gaps = []; longs = [] }

covered-same : (t seen : ℕ) (x : Option Transaction) → is_covered_in t x ≡ is_covered_for (snapshot_in x) t (option_map (plain_session seen) x)
covered-same t seen a = grind (arith)

sees-in : (o : Origin) (q : State) (n seen : ℕ) (x : Option Transaction) (begun : ℕ) (writes : Writes) → HoldsSession o q n seen x → option_map (plain_session seen) x ≡ Some (Reads begun writes) → Sees o q (snapshot_in x) begun
sees-in o q n seen a begun writes has is = grind (arith)

same-option : (o : Option ℕ) (place : ℕ) → option_eq nat_eq o (Some place) ≡ true → o ≡ Some place
same-option a place is = grind (arith, nat_tests)

option-same : (o : Option ℕ) (place : ℕ) → o ≡ Some place → option_eq nat_eq o (Some place) ≡ true
option-same a place is = grind (arith, nat_tests)

-- ---- a visit

module _ (s : Sessions) (h : Hidden) (before now : Device) (holds : HoldsOn s h before) (orderly : IsOrderly before) (orderly' : IsOrderly now) where
  abbrev q : State
  q = plain_of s h

  abbrev a : Layout
  a = s.numbers.geometry

  abbrev place : ℕ
  place = s.collector.place

  abbrev ops : List Operation
  ops = visit_operations q (value_of before)

  abbrev u : Upholds h.origin q before
  u = holds.upholds

  allowed : refusal q step.Collect ≡ None
  allowed = let works : h.failed ≡ false = holds.works in rw works refl

  own-ops : list_all (is_by_actor (Some actor)) ops ≡ true
  own-ops = by-collector a s.numbers.record.gaps (value_of before) place (is_sweeping q) (is_at_slot q) (is_in s.numbers.record.gaps (value_of before (slot_start a place))) (is_in s.numbers.record.gaps (value_of before (slot_start a place + 1)))

  -- a visit that was made
  made : (collector : Collector) (slots : List Bool) (index : List (Key × Entry)) (stale : List Bool) (held : ℕ → Option Version) (visit : Visit) → Runs ops before now
      → plain_of (record s { collector = collector; slots = slots; index = index; replaced = stale }) (record h { held = held }) ≡ visited q → as_reply (Ok visit) ≡ collected q
      → Agrees (record s { collector = collector; slots = slots; index = index; replaced = stale }) h.origin h.seen (plain_of (record s { collector = collector; slots = slots; index = index; replaced = stale }) (record h { held = held }))
      → (q' : State) × CollectsTo s (record s { collector = collector; slots = slots; index = index; replaced = stale }) before now (Ok visit) q q'
  made collector slots index stale held visit run plain replied agrees =
      let leads = visits-lead.made h.origin q before now holds.works run u in
      let counts = visits-count.made q before now run in
      let new : Sessions = record s { collector = collector; slots = slots; index = index; replaced = stale } in
      let next : Hidden = record h { held = held } in (
        plain_of new next,
        record {
          stepped = answered allowed replied plain;
          shows = record { hidden = next; plain = refl; upholds = subst (λ (p : State). Upholds h.origin p now) (sym plain) leads.upholds; agrees = agrees };
          effect = all-made (subst (λ (p : State). LeavesOnly before now (StandsWithin q p)) (sym plain) leads.images) (omega (arith, counts.failed)) counts.operations
              record { operations = ops; made = run.made; by_actor = own-ops } (λ fault told. absurd (cc told));
          drawers = same-drawers s.drawn.commits;
        },
      )

  -- one that the device stopped
  pub collects-stopped : (fault : Fault) → fault ≡ DeviceFault → StopsWithin ops before now → (q' : State) × CollectsTo s s before now (Err fault) q q'
  collects-stopped fault is stops =
      let leads = visits-lead.stopped h.origin q before now holds.works stops u in
      let counts = visits-count.stopped q before now stops in
      let some : 0 < length ops = let lt = stops.1 in omega (arith, lt) in
      let next : Hidden = record h { failed = true } in (
        plain_of s next,
        record {
          stepped = device_failed allowed (visits-count.operates q (value_of before) some) (ap (λ (f : Fault). reply.Refused f) is) refl;
          shows = record { hidden = next; plain = refl; upholds = leads.upholds; agrees = failed-agrees s h holds.agrees };
          effect = last-failed fault is refl (λ told same. cc same) leads.images counts.failed counts.operations (stopped-by actor ops stops own-ops);
          drawers = same-drawers s.drawn.commits;
        },
      )

  -- the closing place
  pub collects-end : (collector : Collector) (slots : List Bool) → SweepEnd ≡ visit_at a place → collector ≡ moved_on a s.collector → (counts : ℕ → Bool) → slots ≡ freed_at a place counts (value_of before) s.slots → Runs ops before now
      → (q' : State) × CollectsTo s (record s { collector = collector; slots = slots }) before now (Ok SweepEnd) q q'
  collects-end collector slots visit moved counts freed run = by (nat_lt place a.slots) refl
    where
      by : (b : Bool) → nat_lt place a.slots ≡ b → (q' : State) × CollectsTo s (record s { collector = collector; slots = slots }) before now (Ok SweepEnd) q q'
      by true at = let same : SweepEnd ≡ Slot place = visit ∙ ap (λ (b : Bool). cond b (Slot place) SweepEnd) at in absurd (cc same)
      by false at =
          let c : collector ≡ record { place = 0; swept = true } = moved ∙ ap (λ (b : Bool). cond b (let c : Collector = record { place = place + 1; swept = s.collector.swept } in c) (record { place = 0; swept = true })) at in
          let f : slots ≡ s.slots = freed ∙ ap (λ (b : Bool). cond b (cond (counts (value_of before (slot_start a place + 1))) (slice_set s.slots place true) s.slots) s.slots) at in
          let over : collector.swept ≡ true = ap (λ (c : Collector). c.swept) c in
          made collector slots s.index s.replaced h.held SweepEnd run
          ((λ i. record q { swept = over i; place = ap (λ (c : Collector). c.place) c i }) ∙ sym (ap (λ (b : Bool). cond b (slot_visited q) (sweep_ended q)) at))
          (sym (ap (λ (b : Bool). cond b (reply.Visited place) reply.SweepEnd) at))
          (agrees-freed s h u.keeps holds.agrees collector slots s.index s.replaced h.held (λ is. over) (λ slot. stays refl)
          (λ slot lt. ap (λ (xs : List Bool). slice_get xs slot) f ∙ holds.agrees.free slot lt) (ap (λ (xs : List Bool). length xs) f ∙ holds.agrees.counted) (λ key. refl)
          (λ key. entry-left s h u.keeps holds.agrees collector slots s.index s.replaced h.held (λ is. over) (λ slot. stays refl) key (entry_at s.index key) (λ slot at. refl) (holds.agrees.index key)) holds.agrees.unreplaced)

  -- ---- a slot

  module _ (lt : place < a.slots) (at : is_at_slot q ≡ true) (ruling : Seen) (ruled : ruling ≡ seen_by s.numbers.record) (run : Runs ops before now) where
    abbrev held : ℕ → Option Version
    held = held_after_visit q place

    abbrev end : ℕ
    end = value_of before (slot_start a place + 1)

    abbrev covered : Bool
    covered = all_cover ruling s.transactions end

    abbrev snapshots : ℕ → Seen
    snapshots n = snapshot_in (transaction_at s.transactions n)

    -- a version is garbage exactly if all cover its end
    covered-garbage : (v : Version) → h.held place ≡ Some v → covered ≡ is_garbage q place
    covered-garbage v there =
        (λ i. covers (ruled i) end && list_all (λ n. covered-same end (h.seen n) (transaction_at s.transactions n) i) session_numbers)
        ∙ ends-show-garbage h.origin q before snapshots place v holds.works orderly u (λ n begun writes active. sees-in h.origin q n (h.seen n) (transaction_at s.transactions n) begun writes (holds.agrees.sessions n) active) lt there

    bare-live : h.held place ≡ None → is_garbage q place ≡ false
    bare-live none = ap (λ (o : Option Version). replace h.history o && list_all (λ n. sees_replaced h.history o (q.sessions n)) session_numbers) none

    abbrev IsFreed : Bool → Bool → Type 0
    IsFreed c g = (g ≡ c) ⊎ ((g ≡ false) × (h.held place ≡ None))

    is-freed : IsFreed covered (is_garbage q place)
    is-freed = grind (arith, bare-live, covered-garbage) steps 800000

    free-by : (c g : Bool) → IsFreed c g → (slot : ℕ) → slot < a.slots → (slot ≡ place) ⊎ (slot ≢ place) → slice_get (cond c (slice_set s.slots place true) s.slots) slot ≡ Some (is_none (cond g (replaced place None h.held) h.held slot))
    free-by true true which slot below (inl same) =
        ap (λ (k : ℕ). slice_get (slice_set s.slots place true) k) same ∙ given-same s.slots place (omega (arith, lt, holds.agrees.counted)) ∙ ap (λ (o : Option Version). Some (is_none o)) (sym (replaced-same place None h.held slot same))
    free-by true true which slot below (inr apart) =
        given-other s.slots place slot apart ∙ holds.agrees.free slot below ∙ ap (λ (o : Option Version). Some (is_none o)) (sym (replaced-other place None h.held slot apart))
    free-by true false (inl same) slot below either = absurd (cc same)
    free-by true false (inr none) slot below (inl same) =
        ap (λ (k : ℕ). slice_get (slice_set s.slots place true) k) same ∙ given-same s.slots place (omega (arith, lt, holds.agrees.counted)) ∙ ap (λ (o : Option Version). Some (is_none o)) (sym (ap h.held same ∙ none.1))
    free-by true false (inr none) slot below (inr apart) = given-other s.slots place slot apart ∙ holds.agrees.free slot below
    free-by false true (inl same) slot below either = absurd (cc same)
    free-by false true (inr none) slot below either = absurd (cc none.0)
    free-by false false which slot below either = holds.agrees.free slot below

    free-then : (slot : ℕ) → slot < a.slots → slice_get (cond covered (slice_set s.slots place true) s.slots) slot ≡ Some (is_none (held slot))
    free-then slot below = by (is_garbage q place) refl
      where
        by : (g : Bool) → is_garbage q place ≡ g → slice_get (cond covered (slice_set s.slots place true) s.slots) slot ≡ Some (is_none (held slot))
        by g is =
            free-by covered g (subst (IsFreed covered) is is-freed) slot below (cases_eq slot place)
            ∙ sym (ap (λ (b : Bool). Some (is_none (cond b (replaced place None h.held) h.held slot))) is)

    counted-then : (c : Bool) → length (cond c (slice_set s.slots place true) s.slots) ≡ a.slots
    counted-then true = length-set s.slots place true ∙ holds.agrees.counted
    counted-then false = holds.agrees.counted

    -- what the words of a slot that is freed have
    moved-on : visited q ≡ slot_visited q
    moved-on = ap (λ (b : Bool). cond b (slot_visited q) (sweep_ended q)) at

    upheld : Upholds h.origin (slot_visited q) now
    upheld = subst (λ (p : State). Upholds h.origin p now) moved-on (visits-lead.made h.origin q before now holds.works run u).upholds

    laid : layout_of (image_of now) ≡ a
    laid = laid-out h.origin (slot_visited q) now orderly' upheld

    size : now.words ≡ total_words a
    size = words-are h.origin (slot_visited q) now orderly' upheld

    value-same : (w : ℕ) → 2 ≤ w → value_of now (word_of a place w) ≡ value_of before (word_of a place w)
    value-same w further =
        ap (λ (d : Device). value_of d (word_of a place w)) (run.made ∙ ap (λ (b : Bool). after (cond b (cond (is_sweeping q) (sweep_operations a s.numbers.record.gaps (value_of before) place) []) (cond (is_sweeping q) (fence_op actor ∷ []) [])) before) at)
        ∙ by (is_sweeping q)
      where
        by : (b : Bool) → value_of (after (cond b (sweep_operations a s.numbers.record.gaps (value_of before) place) []) before) (word_of a place w) ≡ value_of before (word_of a place w)
        by true = sweep-leaves a s.numbers.record.gaps (value_of before) place w before further
        by false = refl

    spelt : (g : IsGarbage q place) → (row : List ℕ) × HasVersion (image_of now) place g.key row
    spelt g = (
      row,
      is.spells.read (image_of now) laid (image_size now ∙ size)
          (λ w two low. image_word now (word_of a place w) (omega (arith, word-within a place w lt low, size)) ∙ value-same w two),
    )
      where
        row : List ℕ
        row = unwrap_or (wanted h.origin q (version_by g.key (ByCommit g.timestamp))) []

        is : IsReplaced h.origin q (value_of before) place g.timestamp g.key row
        is =
            subst (λ (b : Bool). ShowsAs h.origin q (value_of before) place (cond b (Newest g.timestamp g.key row) (Replaced g.timestamp g.key row))) (ne_eqb (last_writer h.history g.key) g.timestamp (λ same. garbage-replaced h.origin q u.keeps place g (sym same)))
            (subst (λ (d : Option PlainDrawn). ShowsAs h.origin q (value_of before) place (class_of_drawn q g.key g.timestamp row d)) (garbage-undrawn h.origin q u.keeps place g)
            (subst (λ (x : Option Version). ShowsAs h.origin q (value_of before) place (class_of_version h.origin q x)) g.held (u.shows.each place lt)))

    -- the index

    module _ (collector : Collector) (went : collector ≡ record { place = place + 1; swept = s.collector.swept }) (slots : List Bool) (freed : slots ≡ cond covered (slice_set s.slots place true) s.slots) (index : List (Key × Entry))
        (forgets : ForgetsFreed a (value_of now) place (is_free s.slots place) slots s.index index) (room : KeepsRoom s.index index)
        (stale : List Bool) (marks : stale ≡ cond (is_free slots place) (slice_set s.replaced place false) s.replaced) where
      abbrev new : Sessions
      new = record s { collector = collector; slots = slots; index = index; replaced = stale }

      abbrev then : State
      then = plain_of new (record h { held = held })

      still : s.collector.swept ≡ true → collector.swept ≡ true
      still is = ap (λ (c : Collector). c.swept) went ∙ is

      -- slots that aren't the one that is freed
      held-other : (slot : ℕ) → (slot ≡ place → is_garbage q place ≡ false) → held slot ≡ h.held slot
      held-other slot live = by (is_garbage q place) refl (cases_eq slot place)
        where
          by : (b : Bool) → is_garbage q place ≡ b → (slot ≡ place) ⊎ (slot ≢ place) → held slot ≡ h.held slot
          by false is either = ap (λ (b : Bool). cond b (replaced place None h.held) h.held slot) is
          by true is (inl same) = absurd (true≢false (sym is ∙ live same))
          by true is (inr apart) = ap (λ (b : Bool). cond b (replaced place None h.held) h.held slot) is ∙ replaced-other place None h.held slot apart

      entry-kept : (key : Key) → ((slot : ℕ) → (entry_at s.index key).newest ≡ Some slot → held slot ≡ h.held slot) → HoldsEntry h.origin then key (entry_at s.index key)
      entry-kept key same = entry-left s h u.keeps holds.agrees collector slots index stale held still (λ slot. visit-frees h.origin q place slot u.keeps) key (entry_at s.index key) same (holds.agrees.index key)

      live-kept : is_garbage q place ≡ false → (key : Key) → HoldsEntry h.origin then key (entry_at s.index key)
      live-kept live key = entry-kept key (λ slot newest. held-other slot (λ same. live))

      free-at : is_free slots place ≡ is_none (held place)
      free-at = get_or_from_slice_get slots place (is_none (held place)) false (ap (λ (xs : List Bool). slice_get xs place) freed ∙ free-then place lt)

      garbage-none : is_garbage q place ≡ true → held place ≡ None
      garbage-none is = ap (λ (b : Bool). cond b (replaced place None h.held) h.held place) is ∙ replaced-same place None h.held place refl

      nothing : (o : Option Version) → is_none o ≡ true → o ≡ None
      nothing None is = refl
      nothing (Some v) is = absurd (cc is)

      -- a slot that was free before holds nothing
      held-before : is_free s.slots place ≡ true → h.held place ≡ None
      held-before free = nothing (h.held place) (sym (get_or_from_slice_get s.slots place (is_none (h.held place)) false (holds.agrees.free place lt)) ∙ free)

      abbrev found : Key
      found = key_in (slot_at a place (value_of now))

      module _ (free : is_free slots place ≡ true) where
        found-key : (g : IsGarbage q place) → found ≡ g.key
        found-key g = sym (key-read now a place size lt laid) ∙ (spelt g).1.at

        held-none : is_garbage q place ≡ false → h.held place ≡ None
        held-none live = nothing (h.held place) (sym (ap (λ (o : Option Version). is_none o) (held-other place (λ same. live))) ∙ sym free-at ∙ free)

        -- the key of the version that is there
        entry-found : (key : Key) → found ≡ key → HoldsEntry h.origin then key (forgotten place (entry_at s.index key))
        entry-found key is = by (option_eq nat_eq (entry_at s.index key).newest (Some place)) refl (is_garbage q place) refl
          where
            by : (b : Bool) → option_eq nat_eq (entry_at s.index key).newest (Some place) ≡ b → (g : Bool) → is_garbage q place ≡ g
                → HoldsEntry h.origin then key (cond b (record (entry_at s.index key) { newest = None; ended = false }) (entry_at s.index key))
            by true same true garbage =
                entry-forgotten s h u.keeps holds.agrees collector slots index stale held still (λ slot. visit-frees h.origin q place slot u.keeps) key (entry_at s.index key) place (same-option (entry_at s.index key).newest place same) (garbage-is h.origin q place u.keeps garbage) (garbage-none garbage) (holds.agrees.index key)
            by true same false live =
                let version = (holds.agrees.index key).only place (same-option (entry_at s.index key).newest place same) in
                absurd (cc (sym (held-none live) ∙ version.held))
            by false apart g garbage = entry-kept key (λ slot newest. held-other slot (λ same. absurd (true≢false (sym (option-same (entry_at s.index key).newest place (newest ∙ ap (λ (k : ℕ). Some k) same)) ∙ apart))))

        -- another
        same-key : (v w : Version) → Some v ≡ Some w → v.key ≡ w.key
        same-key v w e = cc e

        entry-other : (key : Key) → (found ≡ key → ⊥) → HoldsEntry h.origin then key (entry_at s.index key)
        entry-other key apart = by (is_garbage q place) refl
          where
            by : (b : Bool) → is_garbage q place ≡ b → HoldsEntry h.origin then key (entry_at s.index key)
            by false live = live-kept live key
            by true garbage =
                let g = garbage-is h.origin q place u.keeps garbage in
                entry-kept key (λ slot newest. held-other slot (λ same.
                let version = (holds.agrees.index key).only slot newest in
                absurd (apart (found-key g ∙ same-key (version_by g.key (ByCommit g.timestamp)) (version_by key (ByCommit version.timestamp)) (sym g.held ∙ sym (ap h.held same) ∙ version.held)))))

      entries : (key : Key) → HoldsEntry h.origin then key (entry_at index key)
      entries key = by forgets
        where
          at-index : index ≡ s.index → is_garbage q place ≡ false → HoldsEntry h.origin then key (entry_at index key)
          at-index same live = subst (λ (es : List (Key × Entry)). HoldsEntry h.origin then key (entry_at es key)) (sym same) (live-kept live key)

          by : ForgetsFreed a (value_of now) place (is_free s.slots place) slots s.index index → HoldsEntry h.origin then key (entry_at index key)
          by (taken held_by same) = grind (arith, at-index, free-at)
          by (known free same) = at-index same (bare-live (held-before free))
          by (gone was free sets) = subst (HoldsEntry h.origin then key) (sym (sets key)) (which (key_eq found key) refl)
            where
              which : (b : Bool) → key_eq found key ≡ b → HoldsEntry h.origin then key (cond b (forgotten place (entry_at s.index found)) (entry_at s.index key))
              which true is =
                  let same : found ≡ key = key_eq-true found key is in
                  subst (λ (k : Key). HoldsEntry h.origin then key (forgotten place (entry_at s.index k))) (sym same) (entry-found free key same)
              which false is = entry-other free key (λ same. true≢false (sym (ap (key_eq found) (sym same) ∙ key_eq-same found) ∙ is))

      -- what is marked still: a slot that is free then needs no mark
      unreplaced : (slot : ℕ) → slice_get stale slot ≡ Some false → IsUnreplaced then slot
      unreplaced slot out = by (is_free slots place) refl (cases_eq slot place)
        where
          still-out : slice_get s.replaced slot ≡ Some false → IsUnreplaced then slot
          still-out was = let old = holds.agrees.unreplaced slot was in (old.0, freed-unreplaced q held slot (visit-frees h.origin q place slot u.keeps) old.1)

          of-marks : (b : Bool) → is_free slots place ≡ b → slice_get (cond b (slice_set s.replaced place false) s.replaced) slot ≡ Some false
          of-marks b is = ap (λ (b : Bool). slice_get (cond b (slice_set s.replaced place false) s.replaced) slot) (sym is) ∙ ap (λ (xs : List Bool). slice_get xs slot) (sym marks) ∙ out

          by : (b : Bool) → is_free slots place ≡ b → (slot ≡ place) ⊎ (slot ≢ place) → IsUnreplaced then slot
          by true free (inl same) = subst (λ (k : ℕ). IsUnreplaced then k) (sym same) (lt, ap (replace h.history) (nothing (held place) (sym free-at ∙ free)))
          by true free (inr apart) = still-out (sym (set-other s.replaced place slot false apart) ∙ of-marks true free)
          by false held_by either = still-out (of-marks false held_by)

      pub collects-slot : (q' : State) × CollectsTo s new before now (Ok (Slot place)) q q'
      collects-slot =
          made collector slots index stale held (Slot place) run
          ((λ i. record q { swept = ap (λ (c : Collector). c.swept) went i; place = ap (λ (c : Collector). c.place) went i; held = held }) ∙ sym moved-on)
          (sym (ap (λ (b : Bool). cond b (reply.Visited place) reply.SweepEnd) at))
          (agrees-freed s h u.keeps holds.agrees collector slots index stale held still (λ slot. visit-frees h.origin q place slot u.keeps)
          (λ slot below. ap (λ (xs : List Bool). slice_get xs slot) freed ∙ free-then slot below) (ap (λ (xs : List Bool). length xs) freed ∙ counted-then covered) room entries unreplaced)

  -- by what the code has of it
  pub collects-at : (slot : ℕ) (ruling : Seen) (collector : Collector) (was_free : Bool) (slots : List Bool) (index : List (Key × Entry)) (stale : List Bool) → ruling ≡ seen_by s.numbers.record
      → Slot slot ≡ visit_at a place → collector ≡ moved_on a s.collector → slots ≡ freed_at a place (all_cover ruling s.transactions) (value_of before) s.slots → Runs ops before now
      → was_free ≡ is_free s.slots place → ForgetsFreed a (value_of now) slot was_free slots s.index index → KeepsRoom s.index index
      → stale ≡ cond (is_free slots slot) (slice_set s.replaced slot false) s.replaced
      → (q' : State) × CollectsTo s (record s { collector = collector; slots = slots; index = index; replaced = stale }) before now (Ok (Slot slot)) q q'
  collects-at slot ruling collector was_free slots index stale ruled visit moved freed run was forgets room marks = by (nat_lt place a.slots) refl
    where
      by : (b : Bool) → nat_lt place a.slots ≡ b → (q' : State) × CollectsTo s (record s { collector = collector; slots = slots; index = index; replaced = stale }) before now (Ok (Slot slot)) q q'
      by false at = let same : Slot slot ≡ SweepEnd = visit ∙ ap (λ (b : Bool). cond b (Slot place) SweepEnd) at in absurd (cc same)
      by true at =
          let same : Slot slot ≡ Slot place = visit ∙ ap (λ (b : Bool). cond b (Slot place) SweepEnd) at in
          let is : slot ≡ place = cc same in
          let c : collector ≡ record { place = place + 1; swept = s.collector.swept } = moved ∙ ap (λ (b : Bool). cond b (let c : Collector = record { place = place + 1; swept = s.collector.swept } in c) (record { place = 0; swept = true })) at in
          let f : slots ≡ cond (all_cover ruling s.transactions (value_of before (slot_start a place + 1))) (slice_set s.slots place true) s.slots = freed ∙ ap (λ (b : Bool). cond b (cond (all_cover ruling s.transactions (value_of before (slot_start a place + 1))) (slice_set s.slots place true) s.slots) s.slots) at in
          let collects = collects-slot (ltb-true place a.slots at) at ruling ruled run collector c slots f index
          (subst (λ (k : ℕ). ForgetsFreed a (value_of now) k (is_free s.slots place) slots s.index index) is (subst (λ (b : Bool). ForgetsFreed a (value_of now) slot b slots s.index index) was forgets)) room
          stale (subst (λ (k : ℕ). stale ≡ cond (is_free slots k) (slice_set s.replaced k false) s.replaced) is marks) in
          subst (λ (k : ℕ). (q' : State) × CollectsTo s (record s { collector = collector; slots = slots; index = index; replaced = stale }) before now (Ok (Slot k)) q q') (sym is) collects

-- what is so of every hidden part is so of every state that is shown
pub collects-shown : (old new : Sessions) (before now : Device) (r : Result Visit Fault) → ((h : Hidden) → HoldsOn old h before → (q' : State) × CollectsTo old new before now r (plain_of old h) q') → Collects old new before now r
collects-shown old new before now r each = λ q shown works.
    let holds : HoldsOn old shown.hidden before = record {
      works = sym (ap (λ (p : State). p.failed) shown.plain) ∙ works;
      upholds = subst (λ (p : State). Upholds shown.hidden.origin p before) shown.plain shown.upholds;
      agrees = subst (λ (p : State). Agrees old shown.hidden.origin shown.hidden.seen p) shown.plain shown.agrees;
    } in
    subst (λ (p : State). (q' : State) × CollectsTo old new before now r p q') (sym shown.plain) (each shown.hidden holds)

pub shown-any : (s : Sessions) (device : Device) → ShowsSome s device → ShowsAny s device
shown-any s device some = (some.0, some.1)

pub counted-shown : (s : Sessions) (device : Device) → ShowsSome s device → length s.slots ≡ s.numbers.geometry.slots
counted-shown s device some = let agrees = subst (λ (p : State). Agrees s some.1.hidden.origin some.1.hidden.seen p) some.1.plain some.1.agrees in agrees.counted

-- the operations of a visit don't ask for the gaps once these are swept
pub same-operations : (a : Layout) (given gaps : List Gap) (swept : Bool) (spot : ℕ) (value : ℕ → ℕ) → (swept ≡ false → given ≡ gaps) → tick_operations a given swept spot value ≡ tick_operations a gaps swept spot value
same-operations a given gaps b spot value are = grind (arith)

-- and there is none then
pub swept-runs : (a : Layout) (gaps : List Gap) (swept : Bool) (place : ℕ) (device : Device) → IsOrderly device → swept ≡ true → Runs (tick_operations a gaps swept place (value_of device)) device device
swept-runs a gaps b place device orderly is = grind (arith, made)

-- the operations of a visit keep the device's size
pub words-kept : (a : Layout) (gaps : List Gap) (swept : Bool) (place : ℕ) (before now : Device) → Runs (tick_operations a gaps swept place (value_of before)) before now → now.words ≡ before.words
words-kept a gaps swept place before now run = grind (arith, made) steps 800000

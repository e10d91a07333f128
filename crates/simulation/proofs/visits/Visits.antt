-- What a visit leads to.
use Rattle.std.proofs.Common.{◌≡◌, ◌≢◌, ◌⊎◌, inl, inr, ℕ, suc, zero, ◌+◌, ◌/◌, ◌<◌, ◌≤◌, Bool, true, false, cond, not, List, [], ◌∷◌, ◌++◌, take, refl, sym, ◌∙◌, ap, subst, arith, true≢false}
use Rattle.std.specs.Prelude.{Option}
use Rattle.std.proofs.lemmas.Bool.{cases_eq, and_parts, ltb-true, ltb-false, not-true}
use Rattle.base.specs.declared.gap.Gap.{Gap}
use Rattle.base.specs.Actors.{collector}
use Rattle.base.specs.Layout.{Layout, slot_start, total_words}
use Rattle.base.proofs.Layouts.{slot_whole}
use Rattle.base.specs.Records.{is_in}
use Rattle.base.specs.Lists.{is_nil}
use Rattle.machine.specs.Machine.{State, Hand}
use Rattle.machine.specs.Collecting.{is_at_slot, is_sweeping, held_after_visit, slot_visited, sweep_ended, visited}
use Rattle.pmem.specs.Device.{Device, IsOrderly, IsReadyIn, stored, flushed, fenced}
use Rattle.pmem.specs.Words.{Survives, value_of, IsReady}
use Rattle.pmem.specs.Trace.{Operation, store_op, flush_op, fence_op, failure, after, Along, Runs, StopsWithin}
use Rattle.pmem.proofs.Words.{ready-marked}
use Rattle.pmem.proofs.OperationEffects.{only-settled, value-flushed, value-fenced, history-stored_same, history-stored_other, history-flushed_same, settled-ready}
use Rattle.pmem.proofs.Traces.{along-append, along-last, along-first, after-append}
use Rattle.state_invariant.specs.Kept.{Origin}
use Rattle.state_invariant.specs.Shown.{word_of, IsNever}
use Rattle.state_invariant.proofs.collector.Kept.{keeps-visited, visit-frees, stays}
use Rattle.device_invariant.specs.Sweeps.{IsOutOfGaps, IsSlotOutOfGaps}
use Rattle.device_invariant.specs.Log.{HoldsHand}
use Rattle.device_invariant.specs.Upholds.{Upholds}
use Rattle.device_invariant.proofs.Words.{within-slot, word-within}
use Rattle.device_invariant.proofs.puts.Slots.{zero-facts}
use Rattle.device_invariant.proofs.collector.Zeroing.{zeroing-keeps}
use Rattle.device_invariant.proofs.Laws.{flushes-keep, fences-keep, failing-keeps}
use Rattle.simulation.specs.steps.Moves.{Leads}
use Rattle.simulation.proofs.steps.Leading.{along-map, leads-run, leads-stopped}
use Rattle.version_slot.specs.Operations.{zero_operations}
use Rattle.collector.specs.Sweeping.{sweep_operations}
use Rattle.simulation.specs.visits.Visits.{visit_operations}
use Rattle.simulation.specs.visits.Laws.{VisitsKeep, VisitsLead, SweepsEnd}
use Rattle.simulation.proofs.visits.WithoutOperations.{upholds-moved}

-- ---- whether a sweep is due

-- there is no gap, or the gaps are swept
not-sweeping : (q : State) → is_sweeping q ≡ false → (q.swept ≡ true) ⊎ (q.ruling.gaps ≡ [])
not-sweeping q is = grind (arith) steps 800000

unswept-of : (q : State) → is_sweeping q ≡ true → q.swept ≡ false
unswept-of q is = not-true q.swept (and_parts (not q.swept) (not (is_nil q.ruling.gaps)) is).0

-- ---- the state after a visit

module _ (o : Origin) (q : State) (device : Device) (u : Upholds o q device) where
  -- if no sweep is due
  module _ (quiet : (q.swept ≡ true) ⊎ (q.ruling.gaps ≡ [])) where
    none-in : q.ruling.gaps ≡ [] → (other : Device) (slot : ℕ) → IsSlotOutOfGaps q other slot
    none-in none other slot w low = record { each = λ x there. ap (λ (gaps : List Gap). is_in gaps x) none }

    quiet-slot : Upholds o (slot_visited q) device
    quiet-slot =
        upholds-moved o q device (held_after_visit q q.place) q.swept (q.place + 1) (λ is. is) (λ slot. visit-frees o q q.place slot u.keeps) u (λ slot w lt low never. never)
        record { over = u.holds.sweeping.over; under_way = λ unswept slot lt before. by quiet unswept slot }
      where
        by : (q.swept ≡ true) ⊎ (q.ruling.gaps ≡ []) → q.swept ≡ false → (slot : ℕ) → IsSlotOutOfGaps q (fenced collector device) slot
        by (inl swept) unswept slot = absurd (true≢false (sym swept ∙ unswept))
        by (inr none) unswept slot = none-in none (fenced collector device) slot

    quiet-end : Upholds o (sweep_ended q) device
    quiet-end =
        upholds-moved o q device q.held true 0 (λ is. refl) (λ slot. stays refl) u (λ slot w lt low n. never quiet n)
        record { over = λ swept slot w lt low. by quiet slot w lt low; under_way = λ unswept. absurd (true≢false unswept) }
      where
        by : (q.swept ≡ true) ⊎ (q.ruling.gaps ≡ []) → (slot w : ℕ) → slot < q.layout.slots → w < 2 → IsOutOfGaps q device (word_of q.layout slot w)
        by (inl swept) slot w lt low = u.holds.sweeping.over swept slot w lt low
        by (inr none) slot w lt low = none-in none device slot w low

        never : {t : ℕ} → (q.swept ≡ true) ⊎ (q.ruling.gaps ≡ []) → IsNever o q t → IsNever o (sweep_ended q) t
        never either (inl none) = inl none
        never (inl swept) (inr (unswept, inside)) = absurd (true≢false (sym swept ∙ unswept))
        never {t} (inr none) (inr (unswept, inside)) = grind (arith)

  -- if the slot is swept
  swept-slot : q.swept ≡ false → IsSlotOutOfGaps q (fenced collector device) q.place → Upholds o (slot_visited q) device
  swept-slot unswept clean =
      upholds-moved o q device (held_after_visit q q.place) q.swept (q.place + 1) (λ is. is) (λ slot. visit-frees o q q.place slot u.keeps) u (λ slot w lt low never. never)
      record { over = λ swept. absurd (true≢false (sym swept ∙ unswept)); under_way = λ is slot lt before. by is slot lt before (cases_eq slot q.place) }
    where
      by : q.swept ≡ false → (slot : ℕ) → slot < q.layout.slots → slot < q.place + 1 → (slot ≡ q.place) ⊎ (slot ≢ q.place) → IsSlotOutOfGaps q (fenced collector device) slot
      by is slot lt before (inl same) = subst (IsSlotOutOfGaps q (fenced collector device)) (sym same) clean
      by is slot lt before (inr apart) = u.holds.sweeping.under_way is slot lt (omega (arith, before, apart))

  -- if all slots are swept, and the fence is made
  swept-all : q.swept ≡ false → ((slot : ℕ) → slot < q.layout.slots → IsSlotOutOfGaps q device slot) → ((slot w : ℕ) → slot < q.layout.slots → w < 2 → Survives device (word_of q.layout slot w) (value_of device (word_of q.layout slot w))) → Upholds o (sweep_ended q) device
  swept-all unswept clean there =
      upholds-moved o q device q.held true 0 (λ is. refl) (λ slot. stays refl) u never
      record { over = λ swept slot w lt low. clean slot lt w low; under_way = λ is. absurd (true≢false is) }
    where
      never : (slot w : ℕ) → slot < q.layout.slots → w < 2 → IsNever o q (value_of device (word_of q.layout slot w)) → IsNever o (sweep_ended q) (value_of device (word_of q.layout slot w))
      never slot w lt low (inl none) = inl none
      never slot w lt low (inr (is, inside)) = absurd (true≢false (sym inside ∙ out u.keeps.numbers.origin.gaps))
        where
          out : (q.ruling.gaps ≡ o.ruling.gaps) ⊎ ((q.swept ≡ true) × (q.ruling.gaps ≡ [])) → is_in o.ruling.gaps (value_of device (word_of q.layout slot w)) ≡ false
          out (inl same) = ap (λ (gaps : List Gap). is_in gaps (value_of device (word_of q.layout slot w))) (sym same) ∙ (clean slot lt w low).each (value_of device (word_of q.layout slot w)) (there slot w lt low)
          out (inr over) = absurd (true≢false (sym over.0 ∙ unswept))

-- ---- the words of a slot

-- the device is as long as the layout says
hand-size : (q : State) (device : Device) (hand : Option Hand) → HoldsHand q device hand → device.words ≡ total_words q.layout
hand-size q device a holds = grind (arith)

-- each begin and each end has a survivor, its value
pub value-survives : (o : Origin) (q : State) (device : Device) → Upholds o q device → IsOrderly device → (slot w : ℕ) → slot < q.layout.slots → w < 2 → Survives device (word_of q.layout slot w) (value_of device (word_of q.layout slot w))
value-survives o q device u orderly slot w lt low =
    orderly.some (word_of q.layout slot w) (omega (arith, word-within q.layout slot w lt (within-slot q.layout.version w (omega (arith, low))), hand-size q device q.hand u.holds.log))

survives-stored : (device : Device) (word value other : ℕ) → Survives device other (value_of device other) → Survives (stored word value device) other (value_of (stored word value device) other)
survives-stored device word value other there = grind (arith, cases_eq, history-stored_same, history-stored_other) steps 800000

-- the first line of a slot has its begin and its end
same-line : (a : Layout) (slot w : ℕ) → w < 2 → word_of a slot w / 8 ≡ slot_start a slot / 8
same-line a slot w low = omega (arith, slot_whole a slot, low)

-- ---- a slot is swept

-- what holds before the operations, between them and after them
pub record IsZeroing (o : Origin) (q : State) (slot : ℕ) (device : Device) : Type 0 where
  pub upholds : Upholds o q device
  pub there : (w : ℕ) → w < 2 → Survives device (word_of q.layout slot w) (value_of device (word_of q.layout slot w))

module _ (o : Origin) (q : State) (up : q.failed ≡ false) (unswept : q.swept ≡ false) (slot : ℕ) (lt : slot < q.layout.slots) (value : ℕ → ℕ) where
  abbrev zeroes : ℕ → List Operation
  zeroes w = zero_operations q.ruling.gaps (word_of q.layout slot w) (value (word_of q.layout slot w))

  zeroes-by : (w : ℕ) (b : Bool) → is_in q.ruling.gaps (value (word_of q.layout slot w)) ≡ b → zeroes w ≡ cond b (store_op (word_of q.layout slot w) 0 ∷ []) []
  zeroes-by w b is = ap (λ (c : Bool). cond c (store_op (word_of q.layout slot w) 0 ∷ []) []) is

  zeroes-along : (w : ℕ) (device : Device) → w < 2 → value_of device (word_of q.layout slot w) ≡ value (word_of q.layout slot w) → IsZeroing o q slot device → Along (IsZeroing o q slot) (zeroes w) device
  zeroes-along w device low same z = by (is_in q.ruling.gaps (value (word_of q.layout slot w))) refl
    where
      by : (b : Bool) → is_in q.ruling.gaps (value (word_of q.layout slot w)) ≡ b → Along (IsZeroing o q slot) (zeroes w) device
      by true gap = subst (λ (ops : List Operation). Along (IsZeroing o q slot) ops device) (sym (zeroes-by w true gap)) (
        z,
        record {
          upholds = zeroing-keeps o q slot w device (stored (word_of q.layout slot w) 0 device) up unswept lt low (z.there w low) (ap (is_in q.ruling.gaps) same ∙ gap) refl z.upholds;
          there = λ v two. survives-stored device (word_of q.layout slot w) 0 (word_of q.layout slot v) (z.there v two);
        },
      )
      by false out = subst (λ (ops : List Operation). Along (IsZeroing o q slot) ops device) (sym (zeroes-by w false out)) z

  -- the word is then in no gap, and the other one has its value
  zeroes-out : (w : ℕ) (device : Device) → is_in q.ruling.gaps 0 ≡ false → value_of device (word_of q.layout slot w) ≡ value (word_of q.layout slot w) → is_in q.ruling.gaps (value_of (after (zeroes w) device) (word_of q.layout slot w)) ≡ false
  zeroes-out w device none same = grind (arith)

  zeroes-other : (w v : ℕ) (device : Device) → v ≢ w → value_of (after (zeroes w) device) (word_of q.layout slot v) ≡ value_of device (word_of q.layout slot v)
  zeroes-other w v device apart = grind (arith)

  module _ (old : Device) (start : IsZeroing o q slot old) (same : (w : ℕ) → w < 2 → value_of old (word_of q.layout slot w) ≡ value (word_of q.layout slot w)) where
    abbrev one : Device
    one = after (zeroes 0) old

    abbrev two : Device
    two = after (zeroes 1) one

    abbrev line : ℕ
    line = slot_start q.layout slot / 8

    abbrev last : Device
    last = flushed collector line two

    same-end : value_of one (word_of q.layout slot 1) ≡ value (word_of q.layout slot 1)
    same-end = zeroes-other 0 1 old (λ e. cc e) ∙ same 1 (omega arith)

    along-zeroes : Along (IsZeroing o q slot) (zeroes 0 ++ zeroes 1) old
    along-zeroes =
        let first = zeroes-along 0 old (omega arith) (same 0 (omega arith)) start in
        along-append (IsZeroing o q slot) (zeroes 0) (zeroes 1) old first (zeroes-along 1 one (omega arith) same-end (along-last (IsZeroing o q slot) (zeroes 0) old first))

    two-is : after (zeroes 0 ++ zeroes 1) old ≡ two
    two-is = after-append (zeroes 0) (zeroes 1) old

    zeroed : IsZeroing o q slot two
    zeroed = subst (IsZeroing o q slot) two-is (along-last (IsZeroing o q slot) (zeroes 0 ++ zeroes 1) old along-zeroes)

    out : (w : ℕ) → w < 2 → is_in q.ruling.gaps (value_of two (word_of q.layout slot w)) ≡ false
    out zero low = ap (is_in q.ruling.gaps) (zeroes-other 1 0 one (λ e. cc e)) ∙ zeroes-out 0 old (zero-facts o q start.upholds.keeps).1 (same 0 (omega arith))
    out (suc zero) low = zeroes-out 1 one (zero-facts o q start.upholds.keeps).1 same-end
    out (suc (suc w)) low = absurd (omega (arith, low))

    upholds-last : Upholds o q last
    upholds-last = flushes-keep o q two last collector line refl zeroed.upholds

    ready : (w : ℕ) → w < 2 → IsReady last collector (word_of q.layout slot w)
    ready w low =
        subst (IsReadyIn collector) (sym (history-flushed_same collector line two (word_of q.layout slot w) (same-line q.layout slot w low)))
        (ready-marked collector (two.history (word_of q.layout slot w)) (value_of two (word_of q.layout slot w)) (zeroed.there w low))

    -- the collector's fence would leave the values alone, which are in no gap
    clean : IsSlotOutOfGaps q (fenced collector last) slot
    clean w low = record {
      each = λ x there.
          let settled = settled-ready collector last (word_of q.layout slot w) (ready w low) in
          ap (is_in q.ruling.gaps) (only-settled (fenced collector last) (word_of q.layout slot w) x settled there ∙ value-fenced collector last (word_of q.layout slot w) ∙ value-flushed collector line two (word_of q.layout slot w)) ∙ out w low;
    }

    sweep-is : sweep_operations q.layout q.ruling.gaps value slot ≡ zeroes 0 ++ zeroes 1 ++ flush_op collector line ∷ []
    sweep-is = let begin : slot_start q.layout slot ≡ word_of q.layout slot 0 = omega arith in ap (λ (k : ℕ). zero_operations q.ruling.gaps k (value k) ++ zeroes 1 ++ flush_op collector line ∷ []) begin

    pub sweep-along : Along (Upholds o q) (sweep_operations q.layout q.ruling.gaps value slot) old
    sweep-along =
        subst (λ (ops : List Operation). Along (Upholds o q) ops old) (sym sweep-is)
        (along-append (Upholds o q) (zeroes 0 ++ zeroes 1) (flush_op collector line ∷ []) old (along-map (IsZeroing o q slot) (Upholds o q) (zeroes 0 ++ zeroes 1) old (λ d z. z.upholds) along-zeroes)
        (subst (λ (d : Device). Along (Upholds o q) (flush_op collector line ∷ []) d) (sym two-is) (zeroed.upholds, upholds-last)))

    last-is : after (sweep_operations q.layout q.ruling.gaps value slot) old ≡ last
    last-is = ap (λ (ops : List Operation). after ops old) sweep-is ∙ after-append (zeroes 0 ++ zeroes 1) (flush_op collector line ∷ []) old ∙ ap (flushed collector line) two-is

    pub sweep-last : Upholds o q (after (sweep_operations q.layout q.ruling.gaps value slot) old) × IsSlotOutOfGaps q (fenced collector (after (sweep_operations q.layout q.ruling.gaps value slot) old)) slot
    sweep-last = subst (λ (d : Device). Upholds o q d × IsSlotOutOfGaps q (fenced collector d) slot) (sym last-is) (upholds-last, clean)

-- ---- a visit

module _ (o : Origin) (q : State) (old : Device) (up : q.failed ≡ false) (u : Upholds o q old) where
  abbrev ops : List Operation
  ops = visit_operations q (value_of old)

  abbrev ops_by : Bool → Bool → List Operation
  ops_by sweeping at_slot = cond at_slot (cond sweeping (sweep_operations q.layout q.ruling.gaps (value_of old) q.place) []) (cond sweeping (fence_op collector ∷ []) [])

  ops-are : (b c : Bool) → is_sweeping q ≡ b → is_at_slot q ≡ c → ops ≡ ops_by b c
  ops-are b c sweeping at_slot = ap (λ (x : Bool). ops_by x (is_at_slot q)) sweeping ∙ ap (λ (x : Bool). ops_by b x) at_slot

  visited-is : (c : Bool) → is_at_slot q ≡ c → visited q ≡ cond c (slot_visited q) (sweep_ended q)
  visited-is c at_slot = ap (λ (x : Bool). cond x (slot_visited q) (sweep_ended q)) at_slot

  at-place : is_at_slot q ≡ true → q.place < q.layout.slots
  at-place at_slot = ltb-true q.place q.layout.slots at_slot

  start : IsOrderly old → is_at_slot q ≡ true → IsZeroing o q q.place old
  start orderly at_slot = record { upholds = u; there = λ w low. value-survives o q old u orderly q.place w (at-place at_slot) low }

  -- what holds at each moment
  along-by : (b c : Bool) → is_sweeping q ≡ b → is_at_slot q ≡ c → IsOrderly old → Along (Upholds o q) (ops_by b c) old
  along-by false true sweeping at_slot orderly = u
  along-by false false sweeping at_slot orderly = u
  along-by true true sweeping at_slot orderly = sweep-along o q up (unswept-of q sweeping) q.place (at-place at_slot) (value_of old) old (start orderly at_slot) (λ w low. refl)
  along-by true false sweeping at_slot orderly = (u, fences-keep o q old (fenced collector old) collector refl u)

  along : IsOrderly old → Along (Upholds o q) ops old
  along orderly = subst (λ (xs : List Operation). Along (Upholds o q) xs old) (sym (ops-are (is_sweeping q) (is_at_slot q) refl refl)) (along-by (is_sweeping q) (is_at_slot q) refl refl orderly)

  -- all that was visited is swept
  all-clean : is_sweeping q ≡ true → is_at_slot q ≡ false → (slot : ℕ) → slot < q.layout.slots → IsSlotOutOfGaps q (fenced collector old) slot
  all-clean sweeping closing slot lt = let past : q.layout.slots ≤ q.place = ltb-false q.place q.layout.slots closing in u.holds.sweeping.under_way (unswept-of q sweeping) slot lt (omega (arith, lt, past))

  -- and at the end
  ends-by : (b c : Bool) → is_sweeping q ≡ b → is_at_slot q ≡ c → IsOrderly old → IsOrderly (after (ops_by b c) old) → Upholds o (cond c (slot_visited q) (sweep_ended q)) (after (ops_by b c) old)
  ends-by false true sweeping at_slot orderly orderly' = quiet-slot o q old u (not-sweeping q sweeping)
  ends-by false false sweeping at_slot orderly orderly' = quiet-end o q old u (not-sweeping q sweeping)
  ends-by true true sweeping at_slot orderly orderly' =
      let swept = sweep-last o q up (unswept-of q sweeping) q.place (at-place at_slot) (value_of old) old (start orderly at_slot) (λ w low. refl) in
      swept-slot o q (after (ops_by true true) old) swept.0 (unswept-of q sweeping) swept.1
  ends-by true false sweeping at_slot orderly orderly' =
      let now = fences-keep o q old (fenced collector old) collector refl u in
      swept-all o q (fenced collector old) now (unswept-of q sweeping) (λ slot lt. all-clean sweeping at_slot slot lt) (λ slot w lt low. value-survives o q (fenced collector old) now orderly' slot w lt low)

  ends : (new : Device) → Runs ops old new → Upholds o (visited q) new
  ends new run =
      let b = is_sweeping q in
      grind (arith, along-first IsOrderly, along-last IsOrderly, ends-by b)

  down-along : IsOrderly old → Along (Upholds o (record q { failed = true })) ops old
  down-along orderly = along-map (Upholds o q) (Upholds o (record q { failed = true })) ops old (λ d v. failing-keeps o q d v) (along orderly)

  pub visit-leads : (new : Device) → Runs ops old new → Leads o q (visited q) old new
  visit-leads new run = leads-run o q (visited q) ops old new (down-along (along-first IsOrderly ops old run.orderly)) run (ends new run)

  pub visit-stops : (new : Device) → StopsWithin ops old new → Leads o q (record q { failed = true }) old new
  visit-stops new stop = leads-stopped o q ops old new (down-along (along-first IsOrderly (take stop.0 ops ++ failure ∷ []) old stop.2.orderly)) stop

  pub sweep-ends : (new : Device) → is_at_slot q ≡ false → Runs ops old new → (slot : ℕ) → slot < q.layout.slots → IsSlotOutOfGaps q new slot
  sweep-ends new closing run slot lt w low =
      let over = (subst (λ (p : State). Upholds o p new) (visited-is false closing) (ends new run)).holds.sweeping.over in
      over refl slot w lt low

pub visits-keep : VisitsKeep
visits-keep o q kept = keeps-visited o q kept

pub visits-lead : VisitsLead
visits-lead = record {
  made = λ o q old new up run u. visit-leads o q old up u new run;
  stopped = λ o q old new up stop u. visit-stops o q old up u new stop;
}

pub sweeps-end : SweepsEnd
sweeps-end o q old new up closing run u slot lt = sweep-ends o q old up u new closing run slot lt

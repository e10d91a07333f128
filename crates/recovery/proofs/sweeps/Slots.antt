-- What a sweep makes of a device, and how an image is opened whose gaps are swept because a record can't hold them.
use Rattle.std.proofs.Common.{◌≡◌, ◌≢◌, ◌⊎◌, inl, inr, ℕ, zero, suc, ◌+◌, ◌-◌, ◌*◌, ◌/◌, ◌%◌, ◌<◌, ◌≤◌, Bool, true, false, cond, ◌&&◌, ◌||◌, List, [], ◌∷◌, ◌++◌, flat_map, get_or, refl, sym, ◌∙◌, ap, subst, arith, true≢false, length, nat_le, nat_lt}
use Rattle.std.specs.List.{Contains, range_with_len}
use Rattle.std.proofs.Math.Nat.{div-add-mod, mul-le-mul_left}
use Rattle.std.proofs.lemmas.Bool.{and_parts, and_from, cases_lt, leb-true, lt-ltb, ltb-true, or_left, or_right}
use Rattle.std.proofs.lemmas.List.{append_assoc, append-nil, ext_get_or}
use Rattle.std.proofs.lemmas.List.Concat.{flat_map-append}
use Rattle.std.proofs.lemmas.List.Elements.{All-nil, All-cons, All-append, Contains-append_right}
use Rattle.base.specs.Actors.{committer}
use Rattle.base.specs.Search.{count_below}
use Rattle.base.specs.Layout.{Layout, slot_start, slot_words, total_words, version_lines}
use Rattle.base.specs.Records.{Record, is_in, opened_gaps}
use Rattle.base.specs.Images.{layout_of, IsRuledBy, Image, needs_sweep}
use Rattle.base.proofs.Layouts.{line-words, lines-words}
use Rattle.machine.specs.Openings.{is_mark, swept, lies_in_gap, words_swept, lines_swept, Counts, opened_slots, record_counts}
use Rattle.machine.proofs.openings.Sweeps.{mark-of, swept-at, swept-size}
use Rattle.pmem.specs.Device.{Device}
use Rattle.pmem.specs.Trace.{Operation, store_op, flush_op, fence_op, Runs, StopsWithin}
use Rattle.pmem.specs.Words.{value_of, image_of, IsSettled, IsSettledAt, IsAtRest, Keeps, OldOr, OnlyShrinks, Spares}
use Rattle.pmem.proofs.Lists.{StoresOnly, StoreOnly, IsElsewhere, IsThereAlone, keeps-run, keeps-stopped, shrinks-run, spares-run, store-weaker, settled-run, count_of, count_of-append, one_store, one_flush, one_fence}
use Rattle.pmem.proofs.Traces.{runs-then, stops-first, stops-then, words-run}
use Rattle.log_area.proofs.Heads.{image_word, image_size, laid_size}
use Rattle.version_slot.specs.Operations.{zero_operations, sweep_operations}
use Rattle.recovery.specs.Sweeping.{lies, is_hit, IsSwept, slot_operations, sweep_below, whole_sweep}
use Rattle.std.specs.Prelude.{Option, Some, None}
use Rattle.base.specs.declared.gap.Gap.{Gap}
use Rattle.pmem.proofs.Spares.{spares_fewer}
use Rattle.log_area.proofs.AtRest.{laid}
use Rattle.recovery.specs.Gaps.{few_gaps}
use Rattle.recovery.specs.Opened.{gap_operations}

-- ---- slots in order

range-parts : (from k m : ℕ) → range_with_len from (k + suc m) ≡ range_with_len from k ++ (from + k) ∷ range_with_len (from + k + 1) m
range-parts from zero m =
    let none : 0 + suc m ≡ suc m = omega arith in
    let here : from + 0 ≡ from = omega arith in
    ap (range_with_len from) none ∙ (λ i. sym here i ∷ range_with_len (sym here i + 1) m)
range-parts from (suc k) m =
    let more : suc k + suc m ≡ suc (k + suc m) = omega arith in
    let next : from + 1 + k ≡ from + suc k = omega arith in
    ap (range_with_len from) more ∙ ap (λ (ks : List ℕ). from ∷ ks) (range-parts (from + 1) k m) ∙ (λ i. from ∷ (range_with_len (from + 1) k ++ next i ∷ range_with_len (next i + 1) m))

module _ (f : ℕ → List Operation) where
  abbrev below : ℕ → List Operation
  below n = flat_map f (range_with_len 0 n)

  abbrev beyond : ℕ → ℕ → List Operation
  beyond k n = flat_map f (range_with_len (k + 1) (n - (k + 1)))

  below-parts : (k n : ℕ) → k < n → below n ≡ below k ++ (f k ++ beyond k n)
  below-parts k n lt = grind (arith, range-parts 0 k (n - (k + 1)), flat_map-append)

  below-next : (k : ℕ) → below (k + 1) ≡ below k ++ f k
  below-next k =
      let none : k + 1 - (k + 1) ≡ 0 = omega arith in
      below-parts k (k + 1) (omega arith) ∙ ap (λ (m : ℕ). below k ++ (f k ++ flat_map f (range_with_len (k + 1) m))) none ∙ ap (λ (ops : List Operation). below k ++ ops) (append-nil (f k))

  all-slots : (Q : ℕ → ℕ → Type 0) (from n : ℕ) → ((k : ℕ) → from ≤ k → k < from + n → StoreOnly Q (f k)) → StoreOnly Q (flat_map f (range_with_len from n))
  all-slots Q from zero each = All-nil (StoresOnly Q)
  all-slots Q from (suc n) each =
      All-append (StoresOnly Q) (f from) (flat_map f (range_with_len (from + 1) n)) (each from (omega arith) (omega arith)) (all-slots Q (from + 1) n (λ k low high. each k (omega (arith, low)) (omega (arith, high))))

slot-order : (a : Layout) (k slot : ℕ) → k < slot → slot_start a k + slot_words a.version ≤ slot_start a slot
slot-order a k slot lt = omega (arith, mul-le-mul_left {m = k + 1} {n = slot} (slot_words a.version) (omega (arith, lt)))

module _ (a : Layout) (r : Record) (start : Device) where
  abbrev value : ℕ → ℕ
  value = value_of start

  abbrev ops : ℕ → List Operation
  ops = slot_operations a r value

  -- ---- one slot

  module _ (slot : ℕ) where
    abbrev at : ℕ
    at = slot_start a slot

    abbrev zeros_by : Bool → Bool → List Operation
    zeros_by b e = cond b (store_op at 0 ∷ []) [] ++ cond e (store_op (at + 1) 0 ∷ []) []

    abbrev ops_by : Bool → Bool → List Operation
    ops_by b e = cond (b || e) (zeros_by b e ++ flush_op committer (at / 8) ∷ []) []

    abbrev begun : Bool
    begun = lies r (value at)

    abbrev ended : Bool
    ended = lies r (value (at + 1))

    slot-stores : (Q : ℕ → ℕ → Type 0) → (begun ≡ true → Q at 0) → (ended ≡ true → Q (at + 1) 0) → StoreOnly Q (ops slot)
    slot-stores Q first second = grind (arith, All-cons, All-nil) steps 800000

    slot-elsewhere : (word : ℕ) → (word < at) ⊎ (at + 2 ≤ word) → StoreOnly (IsElsewhere word) (ops slot)
    slot-elsewhere word apart = slot-stores (IsElsewhere word) (λ is e. far 0 (omega arith) (omega (arith, e))) (λ is. far 1 (omega arith))
      where
        far : (w : ℕ) → w < 2 → word ≢ at + w
        far w lt e = elim apart [ inl low ↦ omega (arith, low, e) | inr high ↦ omega (arith, high, e, lt) ]

  below-elsewhere : (slot word : ℕ) → slot_start a slot ≤ word → StoreOnly (IsElsewhere word) (sweep_below a r value slot)
  below-elsewhere slot word le = all-slots ops (IsElsewhere word) 0 slot (λ k low high. slot-elsewhere k word (inr (omega (arith, le, slot-order a k slot (omega (arith, high)), line-words a.version))))

  beyond-elsewhere : (slot n word : ℕ) → word < slot_start a (slot + 1) → StoreOnly (IsElsewhere word) (beyond ops slot n)
  beyond-elsewhere slot n word lt = all-slots ops (IsElsewhere word) (slot + 1) (n - (slot + 1)) (λ k low high. slot-elsewhere k word (inl (omega (arith, lt, first k low))))
    where
      first : (k : ℕ) → slot + 1 ≤ k → slot_start a (slot + 1) ≤ slot_start a k
      first k low = let grows : slot_words a.version * (slot + 1) ≤ slot_words a.version * k = mul-le-mul_left {m = slot + 1} {n = k} (slot_words a.version) low in omega (arith, grows)

  -- ---- from slot to slot

  module _ {now : Device} (slot : ℕ) (so_far : Runs (sweep_below a r value slot) start now) where
    same-value : (word : ℕ) → slot_start a slot ≤ word → value_of now word ≡ value word
    same-value word le = (shrinks-run word (below-elsewhere slot word le) so_far).value

    -- what is swept goes by what was there at the start
    same-sweep : sweep_operations a committer (opened_gaps r) (value_of now) slot ≡ sweep_operations a committer (opened_gaps r) value slot
    same-sweep =
        λ i. zero_operations (opened_gaps r) (slot_start a slot) (same-value (slot_start a slot) (omega arith) i) ++ zero_operations (opened_gaps r) (slot_start a slot + 1) (same-value (slot_start a slot + 1) (omega arith) i) ++ flush_op committer (slot_start a slot / 8) ∷ []

    module _ (hit : (begun slot || ended slot) ≡ true) where
      these : sweep_operations a committer (opened_gaps r) (value_of now) slot ≡ ops slot
      these = same-sweep ∙ ap (λ (b : Bool). cond b (sweep_operations a committer (opened_gaps r) value slot) []) (sym hit)

      pub swept-hit : {next : Device} → Runs (sweep_operations a committer (opened_gaps r) (value_of now) slot) now next → Runs (sweep_below a r value (slot + 1)) start next
      swept-hit {next} run = subst (λ (xs : List Operation). Runs xs start next) (sym (below-next ops slot)) (runs-then so_far (subst (λ (xs : List Operation). Runs xs now next) these run))

      pub stops-hit : {next : Device} → slot < a.slots → StopsWithin (sweep_operations a committer (opened_gaps r) (value_of now) slot) now next → StopsWithin (whole_sweep a r value) start next
      stops-hit {next} h stop =
          stops-first {xs = sweep_below a r value a.slots} (fence_op committer ∷ [])
          (subst (λ (xs : List Operation). StopsWithin xs start next) (sym (below-parts ops slot a.slots h))
          (stops-then so_far (stops-first {xs = ops slot} (beyond ops slot a.slots) (subst (λ (xs : List Operation). StopsWithin xs now next) these stop))))

    pub swept-unhit : (begun slot || ended slot) ≡ false → Runs (sweep_below a r value (slot + 1)) start now
    swept-unhit none =
        let nothing : ops slot ≡ [] = ap (λ (b : Bool). cond b (sweep_operations a committer (opened_gaps r) value slot) []) none in
        subst (λ (xs : List Operation). Runs xs start now) (sym (below-next ops slot ∙ ap (λ (xs : List Operation). sweep_below a r value slot ++ xs) nothing ∙ append-nil (sweep_below a r value slot))) so_far

  -- ---- what is stored

  module _ (slot : ℕ) where
    marked : (w : ℕ) → w < 2 → is_mark a (slot_start a slot + w) ≡ true
    marked w two = mark-of a slot w (omega (arith, two, line-words a.version)) ∙ lt-ltb w 2 two

    slot-only : StoreOnly (IsSwept a r start) (ops slot)
    slot-only = slot-stores slot (IsSwept a r start) (λ is. record { hit = and_from _ _ (ap (is_mark a) here ∙ marked 0 (omega arith)) is; zero = refl }) (λ is. record { hit = and_from _ _ (marked 1 (omega arith)) is; zero = refl })
      where
        here : slot_start a slot ≡ slot_start a slot + 0
        here = omega arith

  pub whole-only : StoreOnly (IsSwept a r start) (whole_sweep a r value)
  whole-only =
      All-append (StoresOnly (IsSwept a r start)) (sweep_below a r value a.slots) (fence_op committer ∷ [])
      (all-slots ops (IsSwept a r start) 0 a.slots (λ k low high. slot-only k)) (All-cons (StoresOnly (IsSwept a r start)) (fence_op committer) [] tt (All-nil (StoresOnly (IsSwept a r start))))

  only-swept : (word x : ℕ) → IsSwept a r start word x → OldOr start (IsSwept a r start) word x
  only-swept word x this = inr this

  kept-old : (word : ℕ) → is_hit a r start word ≡ false → StoreOnly (IsElsewhere word) (whole_sweep a r value)
  kept-old word none = store-weaker (λ other x this same. true≢false (sym this.hit ∙ ap (is_hit a r start) (sym same) ∙ none)) (whole_sweep a r value) whole-only

  -- ---- a begin or an end that is in a gap

  module _ (size : start.words ≡ total_words a) where
    record IsOfSlot (word : ℕ) : Type 0 where
      slot : ℕ
      w : ℕ
      inside : slot < a.slots
      two : w < 2
      is : slot_start a slot + w ≡ word

    of-slot : (word : ℕ) → word < start.words → is_mark a word ≡ true → IsOfSlot word
    of-slot word lt mark =
        let both = and_parts (nat_le (slot_start a 0) word) _ mark in
        let behind : slot_start a 0 ≤ word = leb-true (slot_start a 0) word both.0 in
        let two : (word - slot_start a 0) % slot_words a.version < 2 = ltb-true _ 2 both.1 in
        let whole = div-add-mod (word - slot_start a 0) (slot_words a.version) in
        let is : slot_start a ((word - slot_start a 0) / slot_words a.version) + (word - slot_start a 0) % slot_words a.version ≡ word = omega (arith, whole, behind) in
        record { slot = (word - slot_start a 0) / slot_words a.version; w = (word - slot_start a 0) % slot_words a.version; inside = inside ((word - slot_start a 0) / slot_words a.version) (omega (arith, is, lt, size)); two = two; is = is }
      where
        inside : (slot : ℕ) → slot_start a slot < total_words a → slot < a.slots
        inside slot low = elim (cases_lt slot a.slots) [
          | inl less ↦ less
          | inr past ↦ absurd (omega (arith, low, mul-le-mul_left {m = a.slots} {n = slot} (slot_words a.version) past))
        ]

    inside-words : (slot w : ℕ) → slot < a.slots → w < 2 → slot_start a slot + w < start.words
    inside-words slot w h two = omega (arith, slot-order a slot a.slots h, size, two, line-words a.version)

    same-line : (slot w : ℕ) → w < 2 → (slot_start a slot + w) / 8 ≡ slot_start a slot / 8
    same-line slot w two =
        let whole : slot_start a slot ≡ 8 * (1 + 4 * a.places + version_lines a * slot) = ap (λ (k : ℕ). 8 + 32 * a.places + k * slot) (lines-words a) ∙ omega arith in
        omega (arith, whole, two)

    which : (slot w : ℕ) → w < 2 → lies r (value (slot_start a slot + w)) ≡ true → ((w ≡ 0) × (begun slot ≡ true)) ⊎ ((w ≡ 1) × (ended slot ≡ true))
    which slot zero two lying = let here : slot_start a slot ≡ slot_start a slot + 0 = omega arith in inl (refl, ap (λ (n : ℕ). lies r (value n)) here ∙ lying)
    which slot (suc zero) two lying = inr (refl, lying)
    which slot (suc (suc w)) two lying = absurd (omega (arith, two))

    module _ (slot w : ℕ) (h : slot < a.slots) (two : w < 2) (lying : lies r (value (slot_start a slot + w)) ≡ true) where
      abbrev word : ℕ
      word = slot_start a slot + w

      abbrev zeros : List Operation
      zeros = zeros_by slot (begun slot) (ended slot)

      abbrev rest : List Operation
      rest = flush_op committer (slot_start a slot / 8) ∷ beyond ops slot a.slots

      hit : (begun slot || ended slot) ≡ true
      hit = elim (which slot w two lying) [ inl first ↦ or_left (begun slot) (ended slot) first.1 | inr second ↦ or_right (begun slot) (ended slot) second.1 ]

      parts : sweep_below a r value a.slots ≡ sweep_below a r value slot ++ zeros ++ rest
      parts =
          below-parts ops slot a.slots h
          ∙ ap (λ (b : Bool). sweep_below a r value slot ++ (cond b (zeros ++ flush_op committer (slot_start a slot / 8) ∷ []) [] ++ beyond ops slot a.slots)) hit
          ∙ ap (λ (xs : List Operation). sweep_below a r value slot ++ xs) (append_assoc zeros (flush_op committer (slot_start a slot / 8) ∷ []) (beyond ops slot a.slots))
          ∙ sym (append_assoc (sweep_below a r value slot) zeros rest)

      there : Contains zeros (store_op word 0)
      there = grind (arith, which, Contains-append_right) steps 800000

      zeros-same : (b e : Bool) → StoreOnly (IsThereAlone word 0) (zeros_by slot b e)
      zeros-same b e = grind (arith, All-append, All-cons, All-nil) steps 800000

      -- it is 0 after the sweep, whatever a crash leaves
      settled-zero : {new : Device} → Runs (whole_sweep a r value) start new → IsSettledAt new word 0
      settled-zero {new} run =
          settled-run (sweep_below a r value slot ++ zeros) rest committer word 0 (inside-words slot w h two)
          (All-append (StoresOnly (IsThereAlone word 0)) (sweep_below a r value slot) zeros (all-slots ops (IsThereAlone word 0) 0 slot (λ k low high. slot-stores k (IsThereAlone word 0) (λ is same. refl) (λ is same. refl))) (zeros-same (begun slot) (ended slot)))
          (Contains-append_right (sweep_below a r value slot) zeros (store_op word 0) there)
          (All-cons (StoresOnly (IsElsewhere word)) (flush_op committer (slot_start a slot / 8)) (beyond ops slot a.slots) tt (beyond-elsewhere slot a.slots word (omega (arith, two, slot-order a slot (slot + 1) (omega arith), line-words a.version))))
          (0, omega arith, ap (flush_op committer) (sym (same-line slot w two)))
          (subst (λ (xs : List Operation). Runs (xs ++ fence_op committer ∷ []) start new) parts run)

  -- ---- how many operations

  module _ (rules : IsRuledBy a r (image_of start)) (size : start.words ≡ total_words a) where
    gap-is : (slot w : ℕ) → slot < a.slots → w < 2 → lies_in_gap (image_of start) w slot ≡ lies r (value (slot_start a slot + w))
    gap-is slot w h two =
        (λ i. is_in (opened_gaps (rules.by_record i)) (get_or (image_of start) (slot_start (rules.laid_out i) slot + w) 0))
        ∙ ap (lies r) (image_word start (slot_start a slot + w) (inside-words size slot w h two))

    first-is : (slot : ℕ) → slot < a.slots → lies_in_gap (image_of start) 0 slot ≡ begun slot
    first-is slot h = let here : slot_start a slot + 0 ≡ slot_start a slot = omega arith in gap-is slot 0 h (omega arith) ∙ ap (λ (n : ℕ). lies r (value n)) here

    second-is : (slot : ℕ) → slot < a.slots → lies_in_gap (image_of start) 1 slot ≡ ended slot
    second-is slot h = gap-is slot 1 h (omega arith)

    pub hit-is : (slot : ℕ) → slot < a.slots → (lies_in_gap (image_of start) 0 slot || lies_in_gap (image_of start) 1 slot) ≡ (begun slot || ended slot)
    hit-is slot h = λ i. first-is slot h i || second-is slot h i

    abbrev is_slot_hit : ℕ → Bool
    is_slot_hit slot = lies_in_gap (image_of start) 0 slot || lies_in_gap (image_of start) 1 slot

    -- how many stores, flushes and fences
    abbrev HasCounts : List Operation → ℕ → ℕ → ℕ → Type 0
    HasCounts xs stores flushes fences = (count_of one_store xs ≡ stores) × (count_of one_flush xs ≡ flushes) × (count_of one_fence xs ≡ fences)

    counted : (n : ℕ) → n ≤ a.slots → HasCounts (sweep_below a r value n) (count_below n (lies_in_gap (image_of start) 0) + count_below n (lies_in_gap (image_of start) 1)) (count_below n is_slot_hit) 0
    counted zero le = (refl, refl, refl)
    counted (suc n) le =
        let lt : n < a.slots = omega (arith, le) in
        let before = counted n (omega (arith, le)) in
        let slot = by (begun n) (ended n) in (
          omega (arith, more one_store, before.0, slot.0, ap {B = ℕ} (λ (b : Bool). cond b 1 0) (first-is n lt), ap {B = ℕ} (λ (b : Bool). cond b 1 0) (second-is n lt)),
          omega (arith, more one_flush, before.1, slot.1, ap {B = ℕ} (λ (b : Bool). cond b 1 0) (hit-is n lt)),
          omega (arith, more one_fence, before.2, slot.2),
        )
      where
        more : (one : Operation → ℕ) → count_of one (sweep_below a r value (suc n)) ≡ count_of one (sweep_below a r value n) + count_of one (ops n)
        more one = let next : suc n ≡ n + 1 = omega arith in ap (λ (m : ℕ). count_of one (sweep_below a r value m)) next ∙ ap (count_of one) (below-next ops n) ∙ count_of-append one (sweep_below a r value n) (ops n)

        by : (b e : Bool) → HasCounts (ops_by n b e) (cond b 1 0 + cond e 1 0) (cond (b || e) 1 0) 0
        by true true = (refl, refl, refl)
        by true false = (refl, refl, refl)
        by false true = (refl, refl, refl)
        by false false = (refl, refl, refl)

    whole-counts : HasCounts (whole_sweep a r value) (words_swept (image_of start)) (lines_swept (image_of start)) 1
    whole-counts =
        let n : ℕ = a.slots in
        let all = counted n (omega arith) in
        let same : (layout_of (image_of start)).slots ≡ n = ap (λ (l : Layout). l.slots) rules.laid_out in (
          count_of-append one_store (sweep_below a r value n) (fence_op committer ∷ []) ∙ omega (arith, all.0) ∙ ap (λ (m : ℕ). count_below m (lies_in_gap (image_of start) 0) + count_below m (lies_in_gap (image_of start) 1)) (sym same),
          count_of-append one_flush (sweep_below a r value n) (fence_op committer ∷ []) ∙ omega (arith, all.1) ∙ ap (λ (m : ℕ). count_below m is_slot_hit) (sym same),
          count_of-append one_fence (sweep_below a r value n) (fence_op committer ∷ []) ∙ omega (arith, all.2),
        )

    -- ---- a whole sweep

    module _ {new : Device} (run : Runs (whole_sweep a r value) start new) where
      pub swept-kept : Keeps start new (OldOr start (IsSwept a r start))
      swept-kept = keeps-run (OldOr start (IsSwept a r start)) (λ word x there. inl there) (store-weaker only-swept (whole_sweep a r value) whole-only) run

      -- no other word is stored
      pub swept-spares : Spares (λ word. is_hit a r start word ≡ false) start new
      swept-spares = spares-run (IsSwept a r start) (λ word. is_hit a r start word ≡ false) (λ word x this none. true≢false (sym this.hit ∙ none)) whole-only run

      zero_there : (word : ℕ) → word < start.words → is_hit a r start word ≡ true → IsSettledAt new word 0
      zero_there word lt hit =
          let both = and_parts _ _ hit in
          let of = of-slot size word lt both.0 in
          subst (λ (n : ℕ). IsSettledAt new n 0) of.is (settled-zero size of.slot of.w of.inside of.two (ap (λ (n : ℕ). lies r (value n)) of.is ∙ both.1) run)

      old_there : (word : ℕ) → is_hit a r start word ≡ false → OnlyShrinks start new word
      old_there word none = shrinks-run word (kept-old word none) run

      pub swept-rests : IsAtRest start → IsAtRest new
      swept-rests rest word lt = by (is_hit a r start word) refl
        where
          by : (b : Bool) → is_hit a r start word ≡ b → IsSettled new word
          by true hit = (zero_there word (omega (arith, lt, words-run run)) hit).settled
          by false none = (old_there word none).settled (rest word (omega (arith, lt, words-run run)))

      pub swept-image : image_of new ≡ swept (image_of start)
      swept-image =
          ext_get_or 0 (image_of new) (swept (image_of start)) (image_size new ∙ words-run run ∙ sym (swept-size (image_of start) ∙ image_size start))
          (λ word lt. image_word new word (omega (arith, lt, image_size new)) ∙ each word (omega (arith, lt, image_size new, words-run run)) ∙ sym (there word (omega (arith, lt, image_size new, words-run run))))
        where
          there : (word : ℕ) → word < start.words → get_or (swept (image_of start)) word 0 ≡ cond (is_hit a r start word) 0 (value_of start word)
          there word lt = grind (arith, swept-at, image_word)

          each : (word : ℕ) → word < start.words → value_of new word ≡ cond (is_hit a r start word) 0 (value_of start word)
          each word lt = by (is_hit a r start word) refl
            where
              by : (b : Bool) → is_hit a r start word ≡ b → value_of new word ≡ cond b 0 (value_of start word)
              by true hit = (zero_there word lt hit).holds
              by false none = (old_there word none).value

    -- one that stops
    module _ {new : Device} (stop : StopsWithin (whole_sweep a r value) start new) where
      pub stopped-kept : Keeps start new (OldOr start (IsSwept a r start))
      stopped-kept = keeps-stopped (OldOr start (IsSwept a r start)) (λ word x there. inl there) (store-weaker only-swept (whole_sweep a r value) whole-only) stop

-- ---- when there are too many

few-by : (r : Record) (gaps : Option (List Gap)) (b : Bool) → gaps ≡ cond b None (Some (opened_gaps r)) → (gaps ≡ None → b ≡ true) × ((few : List Gap) → gaps ≡ Some few → b ≡ false)
few-by r gaps a is = grind (arith)

module _ (image : Image) (layout : Layout) (r : Record) (gaps : Option (List Gap)) where
  needs-is : IsRuledBy layout r image → needs_sweep image ≡ nat_lt 8 (length (opened_gaps r))
  needs-is rules = ap (λ (x : Record). nat_lt 8 (length (opened_gaps x))) rules.by_record

  pub many-gaps : IsRuledBy layout r image → gaps ≡ few_gaps r → gaps ≡ None → needs_sweep image ≡ true
  many-gaps rules is none = needs-is rules ∙ (few-by r gaps (nat_lt 8 (length (opened_gaps r))) is).0 none

  pub few-enough : (few : List Gap) → IsRuledBy layout r image → gaps ≡ few_gaps r → gaps ≡ Some few → needs_sweep image ≡ false
  few-enough few rules is some = needs-is rules ∙ (few-by r gaps (nat_lt 8 (length (opened_gaps r))) is).1 few some

pub ruled-size : (device : Device) (layout : Layout) (r : Record) → IsRuledBy layout r (image_of device) → device.words ≡ total_words layout
ruled-size device layout r rules = sym (image_size device) ∙ laid_size layout (image_of device) (laid layout r (image_of device) rules)

-- ---- what is made of a device

pub record AreKept (layout : Layout) (r : Record) (old new : Device) : Type 0 where
  pub kept : Keeps old new (OldOr old (IsSwept layout r old))
  pub rest : IsAtRest new
  pub image : image_of new ≡ opened_slots (image_of old)
  pub others : Spares (λ word. (needs_sweep (image_of old) && is_hit layout r old word) ≡ false) old new

module _ (layout : Layout) (r : Record) {old new : Device} (rules : IsRuledBy layout r (image_of old)) where
  pub are_kept : IsAtRest old → Runs (gap_operations layout r old) old new → AreKept layout r old new
  are_kept rest run = by (needs_sweep (image_of old)) refl run
    where
      by : (b : Bool) → needs_sweep (image_of old) ≡ b → Runs (cond b (whole_sweep layout r (value_of old)) []) old new → AreKept layout r old new
      by true many run =
          let size = ruled-size old layout r rules in
          record {
            kept = swept-kept layout r old rules size run;
            rest = swept-rests layout r old rules size run rest;
            image = swept-image layout r old rules size run ∙ ap (λ (b : Bool). cond b (swept (image_of old)) (image_of old)) (sym many);
            others = spares_fewer (λ word alone. sym (ap (λ (b : Bool). b && is_hit layout r old word) many) ∙ alone) (swept-spares layout r old rules size run);
          }
      by false few run = grind (arith)

  -- also if the sweep stops
  pub kept_stopped : StopsWithin (gap_operations layout r old) old new → Keeps old new (OldOr old (IsSwept layout r old))
  kept_stopped stop = by (needs_sweep (image_of old)) stop
    where
      by : (b : Bool) → StopsWithin (cond b (whole_sweep layout r (value_of old)) []) old new → Keeps old new (OldOr old (IsSwept layout r old))
      by true stop = stopped-kept layout r old rules (ruled-size old layout r rules) stop
      by false stop = absurd (omega (arith, stop.1))

-- ---- how many operations

pub gaps-only : (layout : Layout) (r : Record) (old : Device) → StoreOnly (λ word x. Unit {0}) (gap_operations layout r old)
gaps-only layout r old = grind (arith, store-weaker, whole-only, All-nil) steps 800000

abbrev counts_at : Image → Bool → Counts
counts_at image b = cond b (record { stores = 32 + words_swept image; flushes = 5 + lines_swept image; fences = 3 }) (record { stores = 32; flushes = 5; fences = 2 })

-- with those of a record they are those of opening
abbrev AreCounts : List Operation → Counts → Type 0
AreCounts ops counts = (32 + count_of one_store ops ≡ counts.stores) × (5 + count_of one_flush ops ≡ counts.flushes) × (2 + count_of one_fence ops ≡ counts.fences)

pub gap-counts : (layout : Layout) (r : Record) (old : Device) → IsRuledBy layout r (image_of old) → AreCounts (gap_operations layout r old) (record_counts (image_of old))
gap-counts layout r old rules = by (needs_sweep (image_of old))
  where
    by : (b : Bool) → AreCounts (cond b (whole_sweep layout r (value_of old)) []) (counts_at (image_of old) b)
    by true = let counts = whole-counts layout r old rules (ruled-size old layout r rules) in (ap (λ (n : ℕ). 32 + n) counts.0, ap (λ (n : ℕ). 5 + n) counts.1, ap (λ (n : ℕ). 2 + n) counts.2)
    by false = (refl, refl, refl)

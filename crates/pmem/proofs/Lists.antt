-- What a list of operations makes of a device, by what it stores, flushes and counts; and of lists that store several words in
-- order, or flush several lines.
use Rattle.std.proofs.Common.{◌≡◌, ◌≢◌, ◌⊎◌, inl, inr, ℕ, zero, suc, ◌+◌, ◌-◌, ◌*◌, ◌/◌, ◌<◌, ◌≤◌, List, [], ◌∷◌, ◌++◌, All, length, map, take, get_or, refl, sym, ◌∙◌, ap, subst, arith}
use Rattle.std.specs.List.{Contains, range_with_len}
use Rattle.std.proofs.Math.Seq.{take-append-add}
use Rattle.std.proofs.lemmas.Bool.{cases_eq, cases_lt}
use Rattle.std.proofs.lemmas.List.Elements.{All-head, All-tail, All-take, All-weaker, All-nil, All-cons, All-append}
use Rattle.std.proofs.lemmas.List.{append_assoc, length-append, length-take-le, take-append-le}
use Rattle.pmem.specs.Device.{Device, IsOrderly, stored, flushed, fenced, failed, MayLeave}
use Rattle.pmem.specs.Words.{value_of, IsReady, IsSettledAt, Each, Keeps, Makes, OldOr, OnlyShrinks, Spares, HasOneFailure, operations_of, LeavesOnly}
use Rattle.pmem.specs.Trace.{Operation, store_op, flush_op, fence_op, failure, applied, after, Along, Runs, StopsWithin}
use Rattle.pmem.proofs.Changes.{shrinks_refl, shrinks_trans, stored-shrinks, flushed-shrinks, fenced-shrinks, failed-shrinks, fenced-settled_at}
use Rattle.pmem.proofs.Images.{leaves_weaken, leaves-stored, leaves-flushed, leaves-fenced, leaves-failed}
use Rattle.pmem.proofs.OperationEffects.{value-stored_same, value-stored_other, value-flushed, value-fenced, ready-flushed}
use Rattle.pmem.proofs.Runs.{keeps_none, keeps-stored, keeps-flushed, keeps-fenced, keeps-failed}
use Rattle.pmem.proofs.Traces.{after-append, along-first, along-last, words-after, words-run, runs-more}
use Rattle.std.proofs.lemmas.List.FromFn.{map-range_with_len_more, take-map-range_with_len, length-map-range_with_len, get_or-map-range_with_len}
use Rattle.std.proofs.lemmas.Bool.Decides.{nat_tests}
use Rattle.pmem.specs.Persisting.{store_operations, flush_operations, persist_operations, set_operations}

-- ---- a list in two

along-parts : (P : Device → Type 0) (xs ys : List Operation) (device : Device) → Along P (xs ++ ys) device → Along P xs device × Along P ys (after xs device)
along-parts P [] ys device along = (along-first P ys device along, along)
along-parts P (x ∷ xs) ys device along = let parts = along-parts P xs ys (applied x device) along.1 in ((along.0, parts.0), parts.1)

pub record IsInTwo (xs ys : List Operation) (old new : Device) : Type 0 where
  pub between : Device
  pub first : Runs xs old between
  pub then : Runs ys between new

pub runs-in_two : (xs ys : List Operation) {old new : Device} → Runs (xs ++ ys) old new → IsInTwo xs ys old new
runs-in_two xs ys {old} run = grind (arith, along-parts, after-append) steps 800000

-- the operations before the one that failed
pub record HasStopped (ops : List Operation) (old new : Device) : Type 0 where
  pub count : ℕ
  pub few : count < length ops
  pub between : Device
  pub run : Runs (take count ops) old between
  pub fails : new ≡ failed between
  pub orderly : IsOrderly new

pub has_stopped : {ops : List Operation} {old new : Device} → StopsWithin ops old new → HasStopped ops old new
has_stopped {ops} {old} (k, lt, run) = grind (arith, runs-in_two (take k ops) (failure ∷ []) run)

-- either the first part stopped, or it ran and the second did
pub stops-in_two : (xs ys : List Operation) {old new : Device} → StopsWithin (xs ++ ys) old new → StopsWithin xs old new ⊎ ((mid : Device) × Runs xs old mid × StopsWithin ys mid new)
stops-in_two xs ys {old} {new} (k, lt, run) = by (cases_lt k (length xs))
  where
    by : (k < length xs) ⊎ (length xs ≤ k) → StopsWithin xs old new ⊎ ((mid : Device) × Runs xs old mid × StopsWithin ys mid new)
    by (inl less) = inl (k, less, subst (λ (ops : List Operation). Runs (ops ++ failure ∷ []) old new) (take-append-le k xs ys (omega (arith, less))) run)
    by (inr more) =
        let j : ℕ = k - length xs in
        let whole : length xs + j ≡ k = omega (arith, more) in
        let parts : take k (xs ++ ys) ++ failure ∷ [] ≡ xs ++ (take j ys ++ failure ∷ []) =
        ap (λ (n : ℕ). take n (xs ++ ys) ++ failure ∷ []) (sym whole) ∙ ap (λ (ops : List Operation). ops ++ failure ∷ []) (take-append-add xs ys j) ∙ append_assoc xs (take j ys) (failure ∷ []) in
        let two = runs-in_two xs (take j ys ++ failure ∷ []) (subst (λ (ops : List Operation). Runs ops old new) parts run) in
        inr (two.between, two.first, (j, omega (arith, lt, more, length-append xs ys), two.then))

pub orderly-run : {ops : List Operation} {old new : Device} → Runs ops old new → IsOrderly new
orderly-run {ops} {old} run = subst IsOrderly (sym run.made) (along-last IsOrderly ops old run.orderly)

-- ---- one operation

pub leaves-applied : (P : List ℕ → Type 0) (op : Operation) {old new : Device} → IsOrderly old → IsOrderly new → new ≡ applied op old → ((image : List ℕ) → MayLeave old image → P image) → ((image : List ℕ) → MayLeave new image → P image) → LeavesOnly old new P
leaves-applied P (store_op word value) orderly orderly' made here there = leaves-stored P word value orderly orderly' made here there
leaves-applied P (flush_op actor line) orderly orderly' made here there = leaves-flushed P actor line orderly orderly' made here there
leaves-applied P (fence_op actor) orderly orderly' made here there = leaves-fenced P actor orderly orderly' made here there
leaves-applied P failure orderly orderly' made here there = leaves-failed P orderly orderly' made here

-- ---- what is stored

-- it stores only what has Q, and doesn't fail
abbrev pub StoresOnly : (ℕ → ℕ → Type 0) → Operation → Type 0
StoresOnly Q (store_op word value) = Q word value
StoresOnly Q (flush_op actor line) = Unit {0}
StoresOnly Q (fence_op actor) = Unit {0}
StoresOnly Q failure = ⊥

-- all of them
abbrev pub StoreOnly : (ℕ → ℕ → Type 0) → List Operation → Type 0
StoreOnly Q = All (StoresOnly Q)

stores-weaker : {P Q : ℕ → ℕ → Type 0} → ((word x : ℕ) → P word x → Q word x) → (op : Operation) → StoresOnly P op → StoresOnly Q op
stores-weaker weaker (store_op word value) this = weaker word value this
stores-weaker weaker (flush_op actor line) this = tt
stores-weaker weaker (fence_op actor) this = tt
stores-weaker weaker failure this = this

pub store-weaker : {P Q : ℕ → ℕ → Type 0} → ((word x : ℕ) → P word x → Q word x) → (ops : List Operation) → StoreOnly P ops → StoreOnly Q ops
store-weaker {P} {Q} weaker ops all = All-weaker (StoresOnly P) (StoresOnly Q) (stores-weaker weaker) ops all

-- another word
abbrev pub IsElsewhere : ℕ → ℕ → ℕ → Type 0
IsElsewhere spared word x = spared ≢ word

module _ (Q : ℕ → ℕ → Type 0) where
  keeps-on : (ops : List Operation) {old mid : Device} → StoreOnly Q ops → Along IsOrderly ops mid → Keeps old mid Q → Keeps old (after ops mid) Q
  keeps-on [] all along keeps = keeps
  keeps-on (store_op word x ∷ ops) {old} {mid} all along keeps =
      keeps-on ops (All-tail (StoresOnly Q) (store_op word x) ops all) along.1 (keeps-stored word x along.0 (along-first IsOrderly ops (stored word x mid) along.1) keeps refl (All-head (StoresOnly Q) (store_op word x) ops all))
  keeps-on (flush_op actor line ∷ ops) {old} {mid} all along keeps =
      keeps-on ops (All-tail (StoresOnly Q) (flush_op actor line) ops all) along.1 (keeps-flushed actor line along.0 (along-first IsOrderly ops (flushed actor line mid) along.1) keeps refl)
  keeps-on (fence_op actor ∷ ops) {old} {mid} all along keeps =
      keeps-on ops (All-tail (StoresOnly Q) (fence_op actor) ops all) along.1 (keeps-fenced actor along.0 (along-first IsOrderly ops (fenced actor mid) along.1) keeps refl)
  keeps-on (failure ∷ ops) all along keeps = absurd (All-head (StoresOnly Q) failure ops all)

  -- what each survivor has that was there, and each that is stored
  pub keeps-run : {ops : List Operation} {old new : Device} → Each old Q → StoreOnly Q ops → Runs ops old new → Keeps old new Q
  keeps-run {ops} {old} each all run = subst (λ (d : Device). Keeps old d Q) (sym run.made) (keeps-on ops all run.orderly (keeps_none old Q (along-first IsOrderly ops old run.orderly) each))

  pub keeps-stopped : {ops : List Operation} {old new : Device} → Each old Q → StoreOnly Q ops → StopsWithin ops old new → Keeps old new Q
  keeps-stopped {ops} each all stop =
      let s = has_stopped stop in
      keeps-failed (orderly-run s.run) s.orderly (keeps-run each (All-take (StoresOnly Q) s.count ops all) s.run) s.fails

shrinks-on : (spared : ℕ) (ops : List Operation) (device : Device) → StoreOnly (IsElsewhere spared) ops → OnlyShrinks device (after ops device) spared
shrinks-on spared [] device all = shrinks_refl device spared
shrinks-on spared (op ∷ ops) device all =
    shrinks_trans (one op (All-head (StoresOnly (IsElsewhere spared)) op ops all)) (shrinks-on spared ops (applied op device) (All-tail (StoresOnly (IsElsewhere spared)) op ops all))
  where
    one : (op : Operation) → StoresOnly (IsElsewhere spared) op → OnlyShrinks device (applied op device) spared
    one (store_op word x) apart = stored-shrinks word x spared refl apart
    one (flush_op actor line) this = flushed-shrinks actor line spared refl
    one (fence_op actor) this = fenced-shrinks actor spared refl
    one failure this = absurd this

pub shrinks-run : {ops : List Operation} {old new : Device} (spared : ℕ) → StoreOnly (IsElsewhere spared) ops → Runs ops old new → OnlyShrinks old new spared
shrinks-run {ops} {old} spared all run = subst (λ (d : Device). OnlyShrinks old d spared) (sym run.made) (shrinks-on spared ops old all)

-- words in which none of these is stored are spared
module _ (These : ℕ → ℕ → Type 0) (spared : ℕ → Type 0) (apart : (word x : ℕ) → These word x → spared word → ⊥) where
  elsewhere : (other : ℕ) → spared other → (ops : List Operation) → StoreOnly These ops → StoreOnly (IsElsewhere other) ops
  elsewhere other s ops all = store-weaker (λ word x this same. apart word x this (subst spared same s)) ops all

  from_keeps : {old new : Device} → Keeps old new (OldOr old These) → ((word : ℕ) → spared word → OnlyShrinks old new word) → Spares spared old new
  from_keeps {old} keeps kept = grind (arith, leaves_weaken) steps 800000

  pub spares-run : {ops : List Operation} {old new : Device} → StoreOnly These ops → Runs ops old new → Spares spared old new
  spares-run {ops} {old} all run =
      from_keeps (keeps-run (OldOr old These) (λ word x there. inl there) (store-weaker (λ word x this. inr this) ops all) run) (λ word s. shrinks-run word (elsewhere word s ops all) run)

  pub spares-stopped : {ops : List Operation} {old new : Device} → StoreOnly These ops → StopsWithin ops old new → Spares spared old new
  spares-stopped {ops} {old} all stop =
      let s = has_stopped stop in
      from_keeps (keeps-stopped (OldOr old These) (λ word x there. inl there) (store-weaker (λ word x this. inr this) ops all) stop)
      (λ word free. shrinks_trans (shrinks-run word (elsewhere word free (take s.count ops) (All-take (StoresOnly These) s.count ops all)) s.run) (failed-shrinks word s.fails))

-- ---- what a word comes to hold

-- whatever is stored in the word is this value
abbrev pub IsThereAlone : ℕ → ℕ → ℕ → ℕ → Type 0
IsThereAlone at value word x = word ≡ at → x ≡ value

module _ (at value : ℕ) where
  abbrev All-same : List Operation → Type 0
  All-same = StoreOnly (IsThereAlone at value)

  rest : (op : Operation) (ops : List Operation) → All-same (op ∷ ops) → All-same ops
  rest op ops all = All-tail (StoresOnly (IsThereAlone at value)) op ops all

  stays : (ops : List Operation) (device : Device) → All-same ops → value_of device at ≡ value → value_of (after ops device) at ≡ value
  stays [] device all holds = holds
  stays (store_op word x ∷ ops) device all holds = stays ops (stored word x device) (rest (store_op word x) ops all) (elim (cases_eq at word) [
    | inl same ↦ ap (value_of (stored word x device)) same ∙ value-stored_same word x device ∙ All-head (StoresOnly (IsThereAlone at value)) (store_op word x) ops all (sym same)
    | inr apart ↦ value-stored_other word x device at apart ∙ holds
  ])
  stays (flush_op actor line ∷ ops) device all holds = stays ops (flushed actor line device) (rest (flush_op actor line) ops all) (value-flushed actor line device at ∙ holds)
  stays (fence_op actor ∷ ops) device all holds = stays ops (fenced actor device) (rest (fence_op actor) ops all) (value-fenced actor device at ∙ holds)
  stays (failure ∷ ops) device all holds = absurd (All-head (StoresOnly (IsThereAlone at value)) failure ops all)

  pub value-on : (ops : List Operation) (device : Device) → All-same ops → (k : ℕ) → k < length ops → get_or ops k (store_op at value) ≡ store_op at value → value_of (after ops device) at ≡ value
  value-on [] device all k lt is = absurd (omega (arith, lt))
  value-on (op ∷ ops) device all zero lt is =
      stays ops (applied op device) (rest op ops all) (ap (λ (o : Operation). value_of (applied o device) at) is ∙ value-stored_same at value device)
  value-on (op ∷ ops) device all (suc k) lt is = value-on ops (applied op device) (rest op ops all) k (omega (arith, lt)) is

-- a flush of its line makes a word ready that isn't stored meanwhile
ready-on : (actor word : ℕ) (ops : List Operation) (device : Device) → Along IsOrderly ops device → word < device.words → StoreOnly (IsElsewhere word) ops
    → (k : ℕ) → k < length ops → get_or ops k (flush_op actor (word / 8)) ≡ flush_op actor (word / 8) → IsReady (after ops device) actor word
ready-on actor word [] device along within all k lt is = absurd (omega (arith, lt))
ready-on actor word (op ∷ ops) device along within all zero lt is =
    (shrinks-on word ops (applied op device) (All-tail (StoresOnly (IsElsewhere word)) op ops all)).ready actor
    (subst (λ (o : Operation). IsReady (applied o device) actor word) (sym is) (ready-flushed actor (word / 8) device word along.0 within refl))
ready-on actor word (op ∷ ops) device along within all (suc k) lt is =
    ready-on actor word ops (applied op device) along.1 (omega (arith, within, words-after (op ∷ []) device)) (All-tail (StoresOnly (IsElsewhere word)) op ops all) k (omega (arith, lt)) is

-- a word that is stored, always with one value, and flushed after that, is settled by the fence
pub settled-run : (xs ys : List Operation) {old new : Device} (actor word value : ℕ) → word < old.words → StoreOnly (IsThereAlone word value) xs → Contains xs (store_op word value)
    → StoreOnly (IsElsewhere word) ys → Contains ys (flush_op actor (word / 8)) → Runs (xs ++ ys ++ fence_op actor ∷ []) old new → IsSettledAt new word value
settled-run xs ys {old} {new} actor word value within same there apart flush run =
    let last = runs-in_two (xs ++ ys) (fence_op actor ∷ []) run in
    let two = runs-in_two xs ys last.first in
    let ready : IsReady last.between actor word =
    subst (λ (d : Device). IsReady d actor word) (sym two.then.made)
    (ready-on actor word ys two.between two.then.orderly (omega (arith, within, words-run two.first)) apart flush.0 flush.1 flush.2) in
    let holds : value_of last.between word ≡ value = (shrinks-run word apart two.then).value ∙ ap (λ (d : Device). value_of d word) two.first.made ∙ value-on word value xs old same there.0 there.1 there.2 in
    fenced-settled_at last.between new actor word value last.then.made ready holds

-- ---- how many operations

-- of each kind
abbrev pub one_store : Operation → ℕ
one_store (store_op word x) = 1
one_store _ = 0

abbrev pub one_flush : Operation → ℕ
one_flush (flush_op actor line) = 1
one_flush _ = 0

abbrev pub one_fence : Operation → ℕ
one_fence (fence_op actor) = 1
one_fence _ = 0

-- how many of a kind the list has
abbrev pub count_of : (Operation → ℕ) → List Operation → ℕ
count_of one [] = 0
count_of one (op ∷ ops) = one op + count_of one ops

pub count_of-append : (one : Operation → ℕ) (xs ys : List Operation) → count_of one (xs ++ ys) ≡ count_of one xs + count_of one ys
count_of-append one [] ys = omega arith
count_of-append one (x ∷ xs) ys = omega (arith, count_of-append one xs ys)

pub count_of-map : (one : Operation → ℕ) (f : ℕ → Operation) (each : ℕ) → ((k : ℕ) → one (f k) ≡ each) → (from n : ℕ) → count_of one (map f (range_with_len from n)) ≡ n * each
count_of-map one f each is from zero = omega arith
count_of-map one f each is from (suc n) = omega (arith, is from, count_of-map one f each is (from + 1) n)

pub makes_none : (device : Device) → Makes 0 0 0 0 device device
makes_none device = record { stores_made = omega arith; flushes_made = omega arith; fences_made = omega arith; failures_made = omega arith }

pub makes_trans : {a b c d a' b' c' d' : ℕ} {old mid new : Device} → Makes a b c d old mid → Makes a' b' c' d' mid new → Makes (a + a') (b + b') (c + c') (d + d') old new
makes_trans m n = grind (arith) steps 800000

module _ (Q : ℕ → ℕ → Type 0) where
  makes-on : (ops : List Operation) (device : Device) → StoreOnly Q ops → Makes (count_of one_store ops) (count_of one_flush ops) (count_of one_fence ops) 0 device (after ops device)
  makes-on [] device all = makes_none device
  makes-on (op ∷ ops) device all = makes_trans (one op (All-head (StoresOnly Q) op ops all)) (makes-on ops (applied op device) (All-tail (StoresOnly Q) op ops all))
    where
      one : (op : Operation) → StoresOnly Q op → Makes (one_store op) (one_flush op) (one_fence op) 0 device (applied op device)
      one (store_op word x) this = record { stores_made = refl; flushes_made = omega arith; fences_made = omega arith; failures_made = omega arith }
      one (flush_op actor line) this = record { stores_made = omega arith; flushes_made = refl; fences_made = omega arith; failures_made = omega arith }
      one (fence_op actor) this = record { stores_made = omega arith; flushes_made = omega arith; fences_made = refl; failures_made = omega arith }
      one failure this = absurd this

  pub makes-run : {ops : List Operation} {old new : Device} → StoreOnly Q ops → Runs ops old new → Makes (count_of one_store ops) (count_of one_flush ops) (count_of one_fence ops) 0 old new
  makes-run {ops} {old} all run = subst (λ (d : Device). Makes (count_of one_store ops) (count_of one_flush ops) (count_of one_fence ops) 0 old d) (sym run.made) (makes-on ops old all)

  pub all-count : (ops : List Operation) → StoreOnly Q ops → count_of one_store ops + count_of one_flush ops + count_of one_fence ops ≡ length ops
  all-count [] all = refl
  all-count (op ∷ ops) all = omega (arith, one op (All-head (StoresOnly Q) op ops all), all-count ops (All-tail (StoresOnly Q) op ops all))
    where
      one : (op : Operation) → StoresOnly Q op → one_store op + one_flush op + one_fence op ≡ 1
      one (store_op word x) this = refl
      one (flush_op actor line) this = refl
      one (fence_op actor) this = refl
      one failure this = absurd this

  -- if one of them fails
  module _ {ops : List Operation} {old new : Device} (all : StoreOnly Q ops) (stop : StopsWithin ops old new) where
    front : (s : HasStopped ops old new) → StoreOnly Q (take s.count ops)
    front s = All-take (StoresOnly Q) s.count ops all

    pub one_failure-stopped : HasOneFailure old new
    one_failure-stopped =
        let s = has_stopped stop in
        let made = makes-run (front s) s.run in
        omega (arith, ap (λ (d : Device). d.failures) s.fails, made.failures_made)

    pub few-stopped : operations_of new < operations_of old + (count_of one_store ops + count_of one_flush ops + count_of one_fence ops)
    few-stopped =
        let s = has_stopped stop in
        let made = makes-run (front s) s.run in
        omega (arith, ap operations_of s.fails, made.stores_made, made.flushes_made, made.fences_made, s.few, all-count (take s.count ops) (front s), all-count ops all, length-take-le s.count ops (omega (arith, s.few)))

-- ---- a loop that makes one operation per turn

module _ (op : ℕ → Operation) where
  abbrev pub turns : ℕ → List Operation
  turns n = map op (range_with_len 0 n)

  pub loop-more : (k : ℕ) {old mid new : Device} → IsOrderly new → new ≡ applied (op k) mid → Runs (turns k) old mid → Runs (turns (k + 1)) old new
  loop-more k {old} {mid} {new} orderly is run = subst (λ (ops : List Operation). Runs ops old new) (sym (map-range_with_len_more op 0 k k (omega arith))) (runs-more (turns k) (op k) old mid new orderly is run)

  -- the operations up to one that fails
  pub loop-stops : (k n : ℕ) {old mid new : Device} → k < n → IsOrderly new → new ≡ applied failure mid → Runs (turns k) old mid → StopsWithin (turns n) old new
  loop-stops k n {old} {mid} {new} lt orderly is run = (
    k,
    omega (arith, lt, length-map-range_with_len op 0 n),
    subst (λ (ops : List Operation). Runs (ops ++ failure ∷ []) old new) (sym (take-map-range_with_len op 0 n k (omega (arith, lt)))) (runs-more (turns k) failure old mid new orderly is run),
  )

  all-from : (P : Operation → Type 0) (from n : ℕ) → ((k : ℕ) → from ≤ k → k < from + n → P (op k)) → All P (map op (range_with_len from n))
  all-from P from zero each = All-nil P
  all-from P from (suc n) each = All-cons P (op from) (map op (range_with_len (from + 1) n)) (each from (omega arith) (omega arith)) (all-from P (from + 1) n (λ k le lt. each k (omega (arith, le)) (omega (arith, lt))))

  pub all-first : (P : Operation → Type 0) (n : ℕ) → ((k : ℕ) → k < n → P (op k)) → All P (turns n)
  all-first P n each = all-from P 0 n (λ k le lt. each k (omega (arith, lt)))

  pub among-first : (n k : ℕ) (this : Operation) → k < n → op k ≡ this → Contains (turns n) this
  among-first n k this lt is =
      (k, omega (arith, lt, length-map-range_with_len op 0 n), get_or-map-range_with_len op 0 n k k this lt (omega arith) ∙ is)

pub stores_only : (Q : ℕ → ℕ → Type 0) (first : ℕ) (value : ℕ → ℕ) (n : ℕ) → ((k : ℕ) → k < n → Q (first + k) (value k)) → StoreOnly Q (store_operations first value n)
stores_only Q first value n each = all-first (λ k. store_op (first + k) (value k)) (StoresOnly Q) n each

pub flushes_only : (Q : ℕ → ℕ → Type 0) (actor line n : ℕ) → StoreOnly Q (flush_operations actor line n)
flushes_only Q actor line n = all-first (λ k. flush_op actor (line + k)) (StoresOnly Q) n (λ k lt. tt)

-- only its own value is stored in each of them
own : (first : ℕ) (value : ℕ → ℕ) (n k : ℕ) → StoreOnly (IsThereAlone (first + k) (value k)) (store_operations first value n)
own first value n k = stores_only (IsThereAlone (first + k) (value k)) first value n (λ i less same. let is : i ≡ k = omega (arith, same) in ap value is)

fence_only : (Q : ℕ → ℕ → Type 0) (actor : ℕ) → StoreOnly Q (fence_op actor ∷ [])
fence_only Q actor = All-cons (StoresOnly Q) (fence_op actor) [] tt (All-nil (StoresOnly Q))

-- each word has what was stored in it
pub stores-value : (first : ℕ) (value : ℕ → ℕ) (n : ℕ) (device : Device) (k : ℕ) → k < n → value_of (after (store_operations first value n) device) (first + k) ≡ value k
stores-value first value n device k lt =
    let there = among-first (λ i. store_op (first + i) (value i)) n k (store_op (first + k) (value k)) lt refl in
    value-on (first + k) (value k) (store_operations first value n) device (own first value n k) there.0 there.1 there.2

-- ---- words that come to persist

module _ (actor first : ℕ) (value : ℕ → ℕ) (n line lines : ℕ) where
  abbrev stores : List Operation
  stores = store_operations first value n

  abbrev flushes : List Operation
  flushes = flush_operations actor line lines

  pub persist-only : (Q : ℕ → ℕ → Type 0) → ((k : ℕ) → k < n → Q (first + k) (value k)) → StoreOnly Q (persist_operations actor first value n line lines)
  persist-only Q each =
      All-append (StoresOnly Q) (stores ++ flushes) (fence_op actor ∷ []) (All-append (StoresOnly Q) stores flushes (stores_only Q first value n each) (flushes_only Q actor line lines)) (fence_only Q actor)

  pub persist-made : {old new : Device} → Runs (persist_operations actor first value n line lines) old new → Makes n lines 1 0 old new
  persist-made {old} {new} run =
      let made = makes-run (λ word x. Unit {0}) (persist-only (λ word x. Unit {0}) (λ k lt. tt)) run in
      record {
        stores_made = omega (
          arith,
          made.stores_made,
          count_of-append one_store (stores ++ flushes) (fence_op actor ∷ []),
          count_of-append one_store stores flushes,
          count_of-map one_store (λ k. store_op (first + k) (value k)) 1 (λ k. refl) 0 n,
          count_of-map one_store (λ k. flush_op actor (line + k)) 0 (λ k. refl) 0 lines,
        );
        flushes_made = omega (
          arith,
          made.flushes_made,
          count_of-append one_flush (stores ++ flushes) (fence_op actor ∷ []),
          count_of-append one_flush stores flushes,
          count_of-map one_flush (λ k. store_op (first + k) (value k)) 0 (λ k. refl) 0 n,
          count_of-map one_flush (λ k. flush_op actor (line + k)) 1 (λ k. refl) 0 lines,
        );
        fences_made = omega (
          arith,
          made.fences_made,
          count_of-append one_fence (stores ++ flushes) (fence_op actor ∷ []),
          count_of-append one_fence stores flushes,
          count_of-map one_fence (λ k. store_op (first + k) (value k)) 0 (λ k. refl) 0 n,
          count_of-map one_fence (λ k. flush_op actor (line + k)) 0 (λ k. refl) 0 lines,
        );
        failures_made = made.failures_made;
      }

  -- each of them is settled if its line is among those that are flushed
  pub persist-settles : {old new : Device} → Runs (persist_operations actor first value n line lines) old new → (k : ℕ) → k < n → first + k < old.words → line ≤ (first + k) / 8 → (first + k) / 8 < line + lines → IsSettledAt new (first + k) (value k)
  persist-settles run k lt within low high =
      settled-run stores flushes actor (first + k) (value k) within
      (own first value n k)
      (among-first (λ i. store_op (first + i) (value i)) n k (store_op (first + k) (value k)) lt refl)
      (flushes_only (IsElsewhere (first + k)) actor line lines)
      (among-first (λ i. flush_op actor (line + i)) lines ((first + k) / 8 - line) (flush_op actor ((first + k) / 8)) (omega (arith, low, high)) (let at : line + ((first + k) / 8 - line) ≡ (first + k) / 8 = omega (arith, low) in ap (flush_op actor) at))
      run

-- ---- a word that is set

module _ (actor word value : ℕ) where
  pub set-only : (Q : ℕ → ℕ → Type 0) → Q word value → StoreOnly Q (set_operations actor word value)
  set-only Q this = All-cons (StoresOnly Q) (store_op word value) (flush_op actor (word / 8) ∷ fence_op actor ∷ []) this (All-cons (StoresOnly Q) (flush_op actor (word / 8)) (fence_op actor ∷ []) tt (fence_only Q actor))

  pub set-made : {old new : Device} → Runs (set_operations actor word value) old new → Makes 1 1 1 0 old new
  set-made run = makes-run (λ w x. Unit {0}) (set-only (λ w x. Unit {0}) tt) run

  pub set-settles : {old new : Device} → Runs (set_operations actor word value) old new → word < old.words → IsSettledAt new word value
  set-settles {old} {new} run within = grind (arith, nat_tests)

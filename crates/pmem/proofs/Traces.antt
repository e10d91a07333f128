-- Runs of operations, one after the other.
use Rattle.std.proofs.Common.{◌≡◌, List, [], ◌∷◌, ◌++◌, take, refl, sym, ◌∙◌, ap, subst, arith}
use Rattle.std.proofs.lemmas.List.{take-append-le, length-append, append_assoc}
use Rattle.std.proofs.Math.Seq.{take-append-add}
use Rattle.pmem.specs.Device.{Device, IsOrderly, failed}
use Rattle.pmem.specs.Trace.{Operation, store_op, flush_op, fence_op, failure, applied, after, Along, Runs, StopsWithin}

pub after-append : (xs ys : List Operation) (device : Device) → after (xs ++ ys) device ≡ after ys (after xs device)
after-append [] ys device = refl
after-append (x ∷ xs) ys device = after-append xs ys (applied x device)

pub along-append : (P : Device → Type 0) (xs ys : List Operation) (device : Device) → Along P xs device → Along P ys (after xs device) → Along P (xs ++ ys) device
along-append P [] ys device first then = then
along-append P (x ∷ xs) ys device first then = (first.0, along-append P xs ys (applied x device) first.1 then)

-- it has P at the start too
pub along-first : (P : Device → Type 0) (ops : List Operation) (device : Device) → Along P ops device → P device
along-first P [] device along = along
along-first P (op ∷ ops) device along = along.0

-- it has P at the end too
pub along-last : (P : Device → Type 0) (ops : List Operation) (device : Device) → Along P ops device → P (after ops device)
along-last P [] device along = along
along-last P (op ∷ ops) device along = along-last P ops (applied op device) along.1

along-more : (P : Device → Type 0) (ops : List Operation) (op : Operation) (device : Device) → Along P ops device → P (applied op (after ops device)) → Along P (ops ++ op ∷ []) device
along-more P [] op device first last = (first, last)
along-more P (x ∷ xs) op device first last = (first.0, along-more P xs op (applied x device) first.1 last)

-- ---- runs

pub runs_none : (device : Device) → IsOrderly device → Runs [] device device
runs_none device orderly = record { made = refl; orderly = orderly }

pub runs-more : (ops : List Operation) (op : Operation) (old mid new : Device) → IsOrderly new → new ≡ applied op mid → Runs ops old mid → Runs (ops ++ op ∷ []) old new
runs-more ops op old mid new orderly is run = grind (arith, after-append, along-more) steps 800000

-- one run and then another
pub runs-then : {xs ys : List Operation} {old mid new : Device} → Runs xs old mid → Runs ys mid new → Runs (xs ++ ys) old new
runs-then {xs} {ys} {old} first second = grind (arith, after-append, along-append)

-- the first stops
pub stops-first : {xs : List Operation} (ys : List Operation) {old new : Device} → StopsWithin xs old new → StopsWithin (xs ++ ys) old new
stops-first {xs} ys {old} {new} (k, lt, run) = (
  k,
  omega (arith, lt, length-append xs ys),
  subst (λ (ops : List Operation). Runs (ops ++ failure ∷ []) old new) (sym (take-append-le k xs ys (omega (arith, lt)))) run,
)

-- or the second does
pub stops-then : {xs ys : List Operation} {old mid new : Device} → Runs xs old mid → StopsWithin ys mid new → StopsWithin (xs ++ ys) old new
stops-then {xs} {ys} {old} {mid} {new} first (k, lt, run) = grind (arith, length-append xs ys, append_assoc xs (take k ys) (failure ∷ []), take-append-add xs ys k, runs-then first run)

-- the one operation fails
pub stops-one : (op : Operation) (old new : Device) → IsOrderly old → IsOrderly new → new ≡ failed old → StopsWithin (op ∷ []) old new
stops-one op old new orderly orderly' is = (0, omega arith, record { made = is; orderly = (orderly, subst IsOrderly is orderly') })

-- ---- the device's size

same-words : (op : Operation) (device : Device) → (applied op device).words ≡ device.words
same-words (store_op word value) device = refl
same-words (flush_op actor line) device = refl
same-words (fence_op actor) device = refl
same-words failure device = refl

pub words-after : (ops : List Operation) (device : Device) → (after ops device).words ≡ device.words
words-after [] device = refl
words-after (op ∷ ops) device = words-after ops (applied op device) ∙ same-words op device

pub words-run : {ops : List Operation} {old new : Device} → Runs ops old new → new.words ≡ old.words
words-run {ops} {old} run = ap (λ (d : Device). d.words) run.made ∙ words-after ops old

pub words-stopped : (ops : List Operation) {old new : Device} → StopsWithin ops old new → new.words ≡ old.words
words-stopped ops stop = words-run stop.2

-- The lines of which words were stored since an image was kept.
use Rattle.std.proofs.Common.{◌≡◌, ◌⊎◌, inl, inr, ℕ, ◌/◌, true, List, [], length, set, get_or, refl, sym, ap, subst, arith}
use Rattle.std.proofs.lemmas.Bool.{cases_eq, true≢false}
use Rattle.std.proofs.lemmas.List.{ext_get_or, length-set, get_or-set_other, get_or-set_same}
use Rattle.journal.specs.Changes.{DiffersIn, is_listed}
use Rattle.pmem.specs.Device.{Device, IsAmong, MayLeave, survivors_in}
use Rattle.pmem_file.specs.Orderly.{orderly_of}
use Rattle.pmem_file.specs.Shown.{IsShown}

-- after a store to one of these lines
pub differs-stored : (numbers more words image : List ℕ) (word value : ℕ) → DiffersIn numbers words image → is_listed more (word / 8) ≡ true
    → ((other : ℕ) → is_listed numbers other ≡ true → is_listed more other ≡ true) → DiffersIn more (set words word value) image
differs-stored numbers more words image word value before has others = grind (arith, length-set, get_or-set_other, true≢false)

-- after a store that changes nothing
differs-same : (numbers more words image : List ℕ) (word value : ℕ) → DiffersIn numbers words image → get_or words word 0 ≡ value
    → ((other : ℕ) → is_listed numbers other ≡ true → is_listed more other ≡ true) → DiffersIn more (set words word value) image
differs-same numbers more words image word value before same others = grind (arith, length-set, cases_eq, get_or-set_same, get_or-set_other, true≢false)

-- after either
pub differs-noted : (numbers more words image : List ℕ) (word value : ℕ) → DiffersIn numbers words image → (is_listed more (word / 8) ≡ true) ⊎ (get_or words word 0 ≡ value)
    → ((other : ℕ) → is_listed numbers other ≡ true → is_listed more other ≡ true) → DiffersIn more (set words word value) image
differs-noted numbers more words image word value before has others = elim has [
  | inl listed ↦ differs-stored numbers more words image word value before listed others
  | inr same ↦ differs-same numbers more words image word value before same others
]

pub differs-nowhere : (words image : List ℕ) → image ≡ words → DiffersIn [] words image
differs-nowhere words image is = record { size = ap (λ (l : List ℕ). length l) is; others = λ word lt none. ap (λ (l : List ℕ). get_or l word 0) is }

-- an image that differs in no line has these words
pub same-nowhere : (words image : List ℕ) → DiffersIn [] words image → image ≡ words
same-nowhere words image differs = ext_get_or 0 image words differs.size (λ word lt. differs.others word (omega (arith, lt, differs.size)) refl)

-- the words that a device shows may be left
pub left-shown : (device : Device) (words : List ℕ) → IsShown device words → MayLeave device words
left-shown device words shown =
    let orderly = orderly_of device words shown in
    record {
      size = sym shown.sized;
      each = λ word lt. subst (IsAmong (survivors_in (device.history word))) (shown.holds word (omega (arith, lt, shown.sized))) (orderly.some word lt);
    }

-- What a step did to its device: nothing, operations that all succeeded, or operations that ended with one that failed.
use Rattle.std.proofs.Common.{◌≡◌, ℕ, zero, suc, ◌+◌, ◌≤◌, true, List, [], ◌∷◌, ◌++◌, take, refl, arith}
use Rattle.std.specs.Prelude.{Option, Some}
use Rattle.std.specs.List.{list_all}
use Rattle.std.proofs.lemmas.Bool.{and_parts, cases_lt}
use Rattle.base.specs.declared.fault.Fault.{Fault}
use Rattle.base.specs.declared.fault.Fault.TheVariants.{Device as DeviceFault}
use Rattle.base.specs.Images.{Image}
use Rattle.pmem.specs.Device.{Device}
use Rattle.pmem.specs.Trace.{Operation, failure, StopsWithin}
use Rattle.pmem.specs.Words.{LeavesOnly, HasNoFailure, HasOneFailure, operations_of}
use Rattle.session_steps.specs.Steps.{HasEffect, RunsBy, is_by_actor}

-- ---- whose operations they are

-- those that were made before one failed
take-only : (n : ℕ) (ops : List Operation) (k : ℕ) → list_all (is_by_actor (Some n)) ops ≡ true → list_all (is_by_actor (Some n)) (take k ops ++ failure ∷ []) ≡ true
take-only n [] zero all = refl
take-only n [] (suc k) all = refl
take-only n (op ∷ ops) zero all = refl
take-only n (op ∷ ops) (suc k) all = grind (arith, and_parts, take-only n ops k)

pub stopped-by : (n : ℕ) (ops : List Operation) {before now : Device} → StopsWithin ops before now → list_all (is_by_actor (Some n)) ops ≡ true → RunsBy (Some n) before now
stopped-by n ops stops all = record { operations = take stops.0 ops ++ failure ∷ []; made = stops.2.made; by_actor = take-only n ops stops.0 all }

-- ---- what a step did

-- nothing
pub nothing-done : {device : Device} {Within : Image → Type 0} {most : ℕ} {by : Option ℕ} {Refuses : Fault → Type 0} → LeavesOnly device device Within → (Refuses DeviceFault → ⊥) → HasEffect device device Within most by Refuses
nothing-done images untold = grind (arith) steps 800000

module _ {before now : Device} {Within : Image → Type 0} {most : ℕ} {by : Option ℕ} {Refuses : Fault → Type 0} where
  -- operations that succeeded: the step isn't refused
  pub all-made : LeavesOnly before now Within → HasNoFailure before now → operations_of now ≤ operations_of before + most → RunsBy by before now → ((fault : Fault) → Refuses fault → ⊥) → HasEffect before now Within most by Refuses
  all-made images same operations runs unrefused = grind (arith) steps 800000

  -- operations that ended with one that failed: the step is refused for the device, and for nothing else
  pub last-failed : (fault : Fault) → fault ≡ DeviceFault → Refuses fault → ((told : Fault) → Refuses told → fault ≡ told) → LeavesOnly before now Within → HasOneFailure before now → operations_of now ≤ operations_of before + most → RunsBy by before now
      → HasEffect before now Within most by Refuses
  last-failed fault is refused alone images more operations runs = grind (arith) steps 800000

  -- the same under other names of its actor and its refusals
  pub effect-as : {its : Option ℕ} {Other : Fault → Type 0} → by ≡ its → ((fault : Fault) → Refuses fault → Other fault) → ((fault : Fault) → Other fault → Refuses fault) → HasEffect before now Within most by Refuses
      → HasEffect before now Within most its Other
  effect-as same to back effect = grind (arith) steps 800000

  -- no operation failed in one that isn't refused for the device
  pub none-failed : HasEffect before now Within most by Refuses → (Refuses DeviceFault → ⊥) → HasNoFailure before now
  none-failed effect untold = grind (arith, cases_lt)

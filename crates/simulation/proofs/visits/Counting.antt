-- How many operations a visit makes.
use Rattle.std.proofs.Common.{◌≡◌, ℕ, ◌+◌, ◌/◌, ◌<◌, ◌≤◌, Bool, true, cond, List, [], ◌∷◌, ◌++◌, length, arith}
use Rattle.base.specs.Actors.{collector}
use Rattle.base.specs.Layout.{slot_start}
use Rattle.base.specs.Records.{is_in}
use Rattle.machine.specs.Machine.{State}
use Rattle.machine.specs.Collecting.{is_at_slot, is_sweeping, most_operations_of_visit}
use Rattle.pmem.specs.Words.{value_of}
use Rattle.pmem.specs.Trace.{Operation, store_op, flush_op, fence_op}
use Rattle.simulation.specs.steps.Moves.{all_succeed}
use Rattle.simulation.proofs.steps.Counting.{takes-run, takes-stopped}
use Rattle.simulation.specs.visits.Visits.{visit_operations}
use Rattle.simulation.specs.visits.Laws.{VisitsCount}

module _ (q : State) (value : ℕ → ℕ) where
  abbrev zeroes : ℕ → Bool → List Operation
  zeroes word b = cond b (store_op word 0 ∷ []) []

  abbrev begin : ℕ
  begin = slot_start q.layout q.place

  abbrev ops_by : Bool → Bool → Bool → Bool → List Operation
  ops_by sweeping at_slot begins ends = cond at_slot (cond sweeping (zeroes begin begins ++ zeroes (begin + 1) ends ++ flush_op collector (begin / 8) ∷ []) []) (cond sweeping (fence_op collector ∷ []) [])

  succeeds : (sweeping at_slot begins ends : Bool) → all_succeed (ops_by sweeping at_slot begins ends) ≡ true
  succeeds a b begins ends = grind (arith)

  few : (sweeping at_slot begins ends : Bool) → length (ops_by sweeping at_slot begins ends) ≤ cond sweeping (cond at_slot 3 1) 0
  few a b begins ends = grind (arith)

  sweeps : (sweeping at_slot begins ends : Bool) → 0 < length (ops_by sweeping at_slot begins ends) → sweeping ≡ true
  sweeps a at_slot begins ends some = grind (arith)

  abbrev begins : Bool
  begins = is_in q.ruling.gaps (value begin)

  abbrev ends : Bool
  ends = is_in q.ruling.gaps (value (begin + 1))

  visit-succeeds : all_succeed (visit_operations q value) ≡ true
  visit-succeeds = succeeds (is_sweeping q) (is_at_slot q) begins ends

  visit-few : length (visit_operations q value) ≤ most_operations_of_visit q
  visit-few = few (is_sweeping q) (is_at_slot q) begins ends

  visit-operates : 0 < length (visit_operations q value) → is_sweeping q ≡ true
  visit-operates some = sweeps (is_sweeping q) (is_at_slot q) begins ends some

pub visits-count : VisitsCount
visits-count = record {
  operates = λ q value some. visit-operates q value some;
  made = λ q old new run. takes-run (visit_operations q (value_of old)) (most_operations_of_visit q) old new (visit-succeeds q (value_of old)) (visit-few q (value_of old)) run;
  stopped = λ q old new stop. takes-stopped (visit_operations q (value_of old)) (most_operations_of_visit q) old new (visit-succeeds q (value_of old)) (visit-few q (value_of old)) stop;
}

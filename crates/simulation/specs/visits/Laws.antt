-- What follows for every life. Each law is stated here in words that need no proof, and a public function promises it.
use Rattle.std.specs.Prelude.{◌≡◌, ℕ, ◌<◌, ◌≤◌, true, false, length, Some}
use Rattle.base.specs.Commits.{Writes}
use Rattle.machine.specs.Machine.{State, Active, Version}
use Rattle.machine.specs.Collecting.{is_garbage, is_at_slot, is_sweeping, visited, most_operations_of_visit}
use Rattle.pmem.specs.Device.{Device, IsOrderly}
use Rattle.pmem.specs.Words.{value_of}
use Rattle.pmem.specs.Trace.{Runs, StopsWithin}
use Rattle.snapshot.specs.Snapshots.{Seen}
use Rattle.state_invariant.specs.Kept.{Origin, Keeps}
use Rattle.state_invariant.specs.Shown.{word_of}
use Rattle.device_invariant.specs.Sweeps.{IsSlotOutOfGaps}
use Rattle.device_invariant.specs.Upholds.{Upholds}
use Rattle.simulation.specs.sessions.Sees.{Sees}
use Rattle.simulation.specs.steps.Moves.{Leads, Takes}
use Rattle.simulation.specs.visits.Visits.{visit_operations}
use Rattle.simulation.specs.visits.Garbage.{is_covered_by_all}

-- a visit keeps what a state keeps, whichever slots are freed
abbrev pub VisitsKeep : Type 0
VisitsKeep = (o : Origin) (q : State) → Keeps o q → Keeps o (visited q)

-- a visit whose operations were made; or a visit that the device stopped
pub record VisitsLead : Type 0 where
  pub made : (o : Origin) (q : State) (old new : Device) → q.failed ≡ false → Runs (visit_operations q (value_of old)) old new → Upholds o q old → Leads o q (visited q) old new
  pub stopped : (o : Origin) (q : State) (old new : Device) → q.failed ≡ false → StopsWithin (visit_operations q (value_of old)) old new → Upholds o q old → Leads o q (record q { failed = true }) old new

-- if a visit makes an operation, the machine says so, and it makes no more than the machine allows
pub record VisitsCount : Type 0 where
  pub operates : (q : State) (value : ℕ → ℕ) → 0 < length (visit_operations q value) → is_sweeping q ≡ true
  pub made : (q : State) (old new : Device) → Runs (visit_operations q (value_of old)) old new → Takes (most_operations_of_visit q) 0 old new
  pub stopped : (q : State) (old new : Device) → StopsWithin (visit_operations q (value_of old)) old new → Takes (most_operations_of_visit q) 1 old new

-- with the closing place a sweep ends: no crash leaves a timestamp of a gap in the begin or the end of any slot
abbrev pub SweepsEnd : Type 0
SweepsEnd =
    (o : Origin) (q : State) (old new : Device) → q.failed ≡ false → is_at_slot q ≡ false → Runs (visit_operations q (value_of old)) old new → Upholds o q old
    → (slot : ℕ) → slot < q.layout.slots → IsSlotOutOfGaps q new slot

-- A version is garbage exactly if its end is covered by the ruling record and by the snapshot of each active session
abbrev pub EndsShowGarbage : Type 0
EndsShowGarbage =
    (o : Origin) (q : State) (device : Device) (snapshots : ℕ → Seen) (slot : ℕ) (v : Version) → q.failed ≡ false → IsOrderly device → Upholds o q device
    → ((n begun : ℕ) (writes : Writes) → q.sessions n ≡ Some (Active begun writes) → Sees o q (snapshots n) begun) → slot < q.layout.slots → q.held slot ≡ Some v
    → is_covered_by_all q snapshots (value_of device (word_of q.layout slot 1)) ≡ is_garbage q slot

-- a snapshot of this many commits stays one over a visit
abbrev pub VisitsKeepSight : Type 0
VisitsKeepSight = (o : Origin) (q : State) (snapshot : Seen) (begun : ℕ) → Keeps o q → begun ≤ length q.history → Sees o q snapshot begun → Sees o (visited q) snapshot begun

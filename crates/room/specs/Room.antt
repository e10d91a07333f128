-- Which plain states a room shows.
use Rattle.std.specs.Prelude.{◌≡◌, ℕ, ◌+◌, ◌≤◌, ◌<◌, true, false, slice_index, List, Option, None, Contains}
use Rattle.base.specs.declared.fault.Fault.TheVariants.{Device as DeviceFault}
use Rattle.base.specs.declared.step.Step.{Step}
use Rattle.base.specs.declared.step.Reply.{Reply}
use Rattle.base.specs.declared.step.Reply.TheVariants.{Covered, Refused}
use Rattle.base.specs.Batches.{Batch}
use Rattle.base.specs.Layout.{slot_start}
use Rattle.base.specs.Records.{is_in}
use Rattle.base.specs.Images.{Image}
use Rattle.machine.specs.Machine.{State, Stepped, most_operations, most_operations_along, Run, final, StandsAt, StandsWithin, StandsAlong}
use Rattle.pmem.specs.Device.{Device, MayLeave}
use Rattle.pmem.specs.Words.{LeavesOnly, operations_of}
use Rattle.pmem.specs.declared.device.Pmem.{Ghosts}
use Rattle.session_steps.specs.Steps.{ReportsFailure, HasEffect}
use Rattle.room.specs.Committing.{Shows as CommitterShows}
use Rattle.room.specs.Steps.{actor_of}
use Rattle.room.specs.declared.room.Room.{Room}
use Rattle.room.specs.declared.status.Status.{Status}

-- the room's device
abbrev pub device_of : {D : Type 0} → {G : Ghosts D} → (D → Device) → Room D G → Device
device_of state room = state room.device

-- the batch that a tick covered last, unless it was handed out
abbrev pub covered_by : {D : Type 0} → {G : Ghosts D} → Room D G → Option Batch
covered_by room = room.volatile.covered

-- the collector's place in each state that the room shows
abbrev pub place_of : {D : Type 0} → {G : Ghosts D} → Room D G → ℕ
place_of room = room.volatile.sessions.collector.place

-- what waits to be handed out after a reply, if this waited before: nothing once a batch is handed out
abbrev pub left_after : Option Batch → Reply → Option Batch
left_after waiting (Covered batch) = None
left_after waiting _ = waiting

-- the volatile state shows the state on the room's device, and the mark says whether the device failed
pub record Agrees {D : Type 0} {G : Ghosts D} (state : D → Device) (room : Room D G) (q : State) : Type 0 where
  pub shown : CommitterShows room.volatile (device_of state room) q
  pub failed : q.failed ≡ room.failed

-- no begin and no end of a slot is in a gap of the state's record
abbrev pub IsClear : State → Image → Type 0
IsClear q image = (slot w : ℕ) → slot < q.layout.slots → w < 2 → is_in q.ruling.gaps (slice_index image (slot_start q.layout slot + w)) ≡ false

-- The room shows the state. A crash now leaves only images that are ruled by the state's record or by
-- that of the pending batch, and that stand for what this record covers; once the gaps are swept, no slot has a timestamp in
-- them. And the fields agree with the state
pub record Shows {D : Type 0} {G : Ghosts D} (state : D → Device) (room : Room D G) (q : State) : Type 0 where
  pub stands : (image : Image) → MayLeave (device_of state room) image → StandsAt q image
  pub swept : q.swept ≡ true → (image : Image) → MayLeave (device_of state room) image → IsClear q image
  pub agrees : Agrees state room q

-- The step leads from q to q', which the room shows then. If it is refused for another reason than a failing device, lack of
-- memory among them, nothing was done to the device
pub record StepsTo {D : Type 0} {G : Ghosts D} (state : D → Device) (old new : Room D G) (step : Step) (reply : Reply) (q q' : State) : Type 0 where
  pub stepped : Stepped q step reply q'
  pub shows : Shows state new q'
  pub effect : HasEffect (device_of state old) (device_of state new) (StandsWithin q q') (most_operations q step) (actor_of step) (λ fault. reply ≡ Refused fault)

-- from each state that the room showed, the step leads to one with this reply
abbrev pub Leads : {D : Type 0} → {G : Ghosts D} → (D → Device) → Room D G → Room D G → Step → Reply → Type 0
Leads state old new step reply = (q : State) → Shows state old q → (q' : State) × StepsTo state old new step reply q q'

-- the steps lead from q through these states, of which the room shows the last
pub record RunsTo {D : Type 0} {G : Ghosts D} (state : D → Device) (old new : Room D G) (steps : List Step) (replies : List Reply) (q : State) (states : List State) : Type 0 where
  pub run : Run q steps replies states
  pub shows : Shows state new (final q states)
  pub images : LeavesOnly (device_of state old) (device_of state new) (StandsAlong q states)
  pub failure : ReportsFailure (device_of state old) (device_of state new) (Contains replies (Refused DeviceFault))
  pub operations : operations_of (device_of state new) ≤ operations_of (device_of state old) + most_operations_along q steps states

-- the numbers, the gaps and the long commits of the state
pub record ShowsStatus (q : State) (status : Status) : Type 0 where
  pub gate : status.gate ≡ q.ruling.gate
  pub persisted : status.persisted ≡ q.ruling.persisted
  pub dirty : status.dirty ≡ q.ruling.dirty
  pub next : status.next ≡ q.next
  pub gaps : status.gaps ≡ q.ruling.gaps
  pub longs : status.longs ≡ q.ruling.longs

-- What a tick that chooses a batch asks, and what it makes of a room's volatile state.
use Rattle.std.specs.Prelude.{◌≡◌, Bool, true, false, Option, Some, None, Result, Ok, Err, IsSome}
use Rattle.base.specs.declared.fault.Fault.{Fault}
use Rattle.base.specs.declared.step.Step.TheVariants.{Commit as CommitTick}
use Rattle.base.specs.declared.step.Reply.{Reply}
use Rattle.base.specs.declared.step.Reply.TheVariants.{Idle, Ticked, Covered, Done, Refused}
use Rattle.base.specs.declared.step.Stage.TheVariants.{Chosen}
use Rattle.base.specs.Batches.{Batch}
use Rattle.pmem.specs.Device.{Device, IsOrderly}
use Rattle.session_steps.specs.declared.sessions.Sessions.{Sessions}
use Rattle.room.specs.declared.volatile.VolatileState.{VolatileState}
use Rattle.room.specs.declared.ticks.Tick.{Tick}
use Rattle.room.specs.declared.ticks.Tick.TheVariants as came
use Rattle.room.specs.Steps.{ShowsSomeIn, StepsIn}

-- with no pending batch, some state that hasn't failed is shown on some device
abbrev pub ShowsResting : Sessions → Type 0
ShowsResting sessions = (device : Device) × ShowsSomeIn sessions None device

-- the tick is one that makes no operation, on whatever device
abbrev pub TicksQuietly : Sessions → VolatileState → Reply → Type 0
TicksQuietly old new reply = (device : Device) → IsOrderly device → StepsIn old None new device device CommitTick reply

-- the reply of a tick that chooses: whether a batch is pending after it, or why none is
abbrev pub chosen_reply : Result Bool Fault → Reply
chosen_reply (Ok true) = Ticked Chosen
chosen_reply (Ok false) = Idle
chosen_reply (Err fault) = Refused fault

-- the reply of a tick with this result, if this batch was covered last
abbrev pub as_reply : Result Tick Fault → Option Batch → Reply
as_reply (Ok came.Idle) last = Idle
as_reply (Ok (came.Reached stage)) last = Ticked stage
as_reply (Ok came.Covered) (Some batch) = Covered batch
as_reply (Ok came.Covered) None = Done
as_reply (Err fault) last = Refused fault

-- what waits to be handed out after a tick with this result, if something waited before: the batch it covered, or
-- the same as before
abbrev pub Waits : Result Tick Fault → Option Batch → Option Batch → Type 0
Waits (Ok came.Covered) before now = IsSome now
Waits (Ok came.Idle) before now = now ≡ before
Waits (Ok (came.Reached stage)) before now = now ≡ before
Waits (Err fault) before now = now ≡ before

-- What a step makes of the volatile state and its device.
use Rattle.std.specs.Prelude.{◌≡◌, ℕ, Bool, false, Option, Some, Result, Ok, Err}
use Rattle.base.specs.declared.fault.Fault.{Fault}
use Rattle.base.specs.declared.step.Step.{Step}
use Rattle.base.specs.declared.step.Step.TheVariants.{Commit as CommitTick, Collect}
use Rattle.base.specs.declared.step.Reply.{Reply}
use Rattle.base.specs.declared.step.Reply.TheVariants.{Refused}
use Rattle.base.specs.Replies.{is_failure}
use Rattle.base.specs.Actors.{committer, collector}
use Rattle.machine.specs.Machine.{State, Stepped, session_of, most_operations, StandsWithin}
use Rattle.pmem.specs.Device.{Device}
use Rattle.group_commit.specs.Cycles.{Cycling}
use Rattle.session_steps.specs.declared.sessions.Sessions.{Sessions}
use Rattle.session_steps.specs.Steps.{HasEffect}
use Rattle.room.specs.declared.volatile.VolatileState.{VolatileState}
use Rattle.room.specs.Committing.{ShowsIn}

-- who flushes and fences for a step: its session, for a tick the committer, and for a visit the collector
abbrev pub actor_of : Step → Option ℕ
actor_of CommitTick = Some committer
actor_of Collect = Some collector
actor_of step = session_of step

-- the step leads from q to q', which is shown then on the device as it is then
pub record StepsToIn (sessions : Sessions) (cycle : Option Cycling) (before now : Device) (step : Step) (reply : Reply) (q q' : State) : Type 0 where
  pub stepped : Stepped q step reply q'
  pub shows : ShowsIn sessions cycle now q'
  pub effect : HasEffect before now (StandsWithin q q') (most_operations q step) (actor_of step) (λ fault. reply ≡ Refused fault)

-- the same of a room's volatile state
abbrev pub StepsTo : VolatileState → Device → Device → Step → Reply → State → State → Type 0
StepsTo new before now step reply q q' = StepsToIn new.sessions new.cycle before now step reply q q'

-- so it does from every state that was shown and that hadn't failed
abbrev pub StepsIn : Sessions → Option Cycling → VolatileState → Device → Device → Step → Reply → Type 0
StepsIn sessions cycle new before now step reply = (q : State) → ShowsIn sessions cycle before q → q.failed ≡ false → (q' : State) × StepsTo new before now step reply q q'

-- so does the room's volatile state
abbrev pub Steps : VolatileState → VolatileState → Device → Device → Step → Reply → Type 0
Steps old new before now step reply = StepsIn old.sessions old.cycle new before now step reply

-- some state is shown that hasn't failed
abbrev pub ShowsSomeIn : Sessions → Option Cycling → Device → Type 0
ShowsSomeIn sessions cycle device = (q : State) × ShowsIn sessions cycle device q × (q.failed ≡ false)

-- the same of a room's volatile state
abbrev pub ShowsSome : VolatileState → Device → Type 0
ShowsSome c device = ShowsSomeIn c.sessions c.cycle device

-- some state is shown, failed or not as this says
abbrev pub ShowsAs : VolatileState → Device → Bool → Type 0
ShowsAs c device failed = (q : State) × ShowsIn c.sessions c.cycle device q × (q.failed ≡ failed)

-- what a call returns reports a failing device
abbrev pub reports_failure : {A : Type 0} → Result A Fault → Bool
reports_failure (Ok x) = false
reports_failure (Err fault) = is_failure (Refused fault)

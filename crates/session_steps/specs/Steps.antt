-- What a step of a session leads to.
use Rattle.std.specs.Prelude.{◌≡◌, ◌≢◌, ℕ, ◌+◌, ◌<◌, ◌≤◌, Bool, true, false, nat_eq, List, map, ◌++◌, Option, Some, None, is_none, IsTrue}
use Rattle.std.specs.List.{list_all}
use Rattle.base.specs.declared.fault.Fault.{Fault}
use Rattle.base.specs.declared.fault.Fault.TheVariants.{Device as DeviceFault, NoSession, WrongState}
use Rattle.base.specs.declared.step.SessionStep.{SessionStep}
use Rattle.base.specs.declared.step.SessionReply.{SessionReply}
use Rattle.base.specs.declared.step.SessionReply.TheVariants.{Refused}
use Rattle.machine.specs.Machine.{State, session_of, most_operations, StandsWithin}
use Rattle.base.specs.Images.{Image}
use Rattle.base.specs.Steps.{as_step}
use Rattle.machine.specs.SessionSteps.{SessionStepped}
use Rattle.pmem.specs.Device.{Device}
use Rattle.pmem.specs.Trace.{Operation, store_op, flush_op, fence_op, failure, after}
use Rattle.pmem.specs.Words.{LeavesOnly, operations_of}
use Rattle.txn.specs.declared.drawn.DrawnCommit.{DrawnCommit}
use Rattle.txn.specs.declared.transaction.Transaction.{Transaction}
use Rattle.txn.specs.declared.transaction.Transaction.TheVariants.{Active, Drawn, ReadOnly}
use Rattle.txn.specs.DrawnCommits.{drawn_at}
use Rattle.state_invariant.specs.Kept.{Keeps}
use Rattle.device_invariant.specs.Upholds.{Upholds}
use Rattle.session_steps.specs.declared.sessions.Sessions.{Sessions}
use Rattle.session_steps.specs.Shows.{Hidden, plain_of, Agrees, Shows}

-- ---- what a step did to its device

-- a failing device is reported exactly if an operation failed.
-- Excluded: an operation that failed and isn't reported.
pub record ReportsFailure (old new : Device) (Reported : Type 0) : Type 0 where
  pub no_fewer : old.failures ≤ new.failures
  pub cause : Reported → old.failures < new.failures
  pub shown : old.failures < new.failures → Reported

-- if it is refused for another reason than a failing device, the device is as it was
abbrev pub Declines : Device → Device → (Fault → Type 0) → Type 0
Declines old new Refuses = (fault : Fault) → fault ≢ DeviceFault → Refuses fault → new ≡ old

-- the operation is a store, or a flush or a fence by this actor; or it failed
abbrev pub is_by_actor : Option ℕ → Operation → Bool
is_by_actor actor (store_op word value) = true
is_by_actor None (flush_op by line) = false
is_by_actor (Some actor) (flush_op by line) = nat_eq by actor
is_by_actor None (fence_op by) = false
is_by_actor (Some actor) (fence_op by) = nat_eq by actor
is_by_actor actor failure = true

-- these operations were made, and each flush and fence of them by this actor
pub record RunsBy (actor : Option ℕ) (old new : Device) : Type 0 where
  pub operations : List Operation
  pub made : new ≡ after operations old
  pub by_actor : IsTrue (list_all (is_by_actor actor) operations)

-- What a step did to its device: a crash within it leaves only such images, at most this many operations succeeded, and each
-- flush and fence was this actor's. The faults that it is refused for: the device's exactly if an operation failed, and any other
-- only if the device is as it was
pub record HasEffect (before now : Device) (Within : Image → Type 0) (most : ℕ) (by : Option ℕ) (Refuses : Fault → Type 0) : Type 0 where
  pub images : LeavesOnly before now Within
  pub failure : ReportsFailure before now (Refuses DeviceFault)
  pub operations : operations_of now ≤ operations_of before + most
  pub actor : RunsBy by before now
  pub declined : Declines before now Refuses

-- ---- a step

-- the sessions whose commits are drawn stay, in their order; more may come after them
abbrev pub Drawers : Sessions → Sessions → Type 0
Drawers old new = (more : List ℕ) × (map (λ d. d.session) new.drawn.commits ≡ map (λ d. d.session) old.drawn.commits ++ more)

-- the step leads from q to q', which the sessions show then on the device as it is then
pub record StepsTo (old new : Sessions) (before now : Device) (step : SessionStep) (reply : SessionReply) (q q' : State) : Type 0 where
  pub stepped : SessionStepped q step reply q'
  pub shows : Shows new now q'
  pub effect : HasEffect before now (StandsWithin q q') (most_operations q (as_step step)) (session_of (as_step step)) (λ fault. reply ≡ Refused fault)
  pub drawers : Drawers old new

-- so it does from every state that the sessions showed and that hadn't failed
abbrev pub Steps : Sessions → Sessions → Device → Device → SessionStep → SessionReply → Type 0
Steps old new before now step reply = (q : State) → Shows old before q → q.failed ≡ false → (q' : State) × StepsTo old new before now step reply q q'

-- the sessions show some state that hasn't failed
abbrev pub ShowsSome : Sessions → Device → Type 0
ShowsSome s device = (q : State) × Shows s device q × (q.failed ≡ false)

-- ---- by what is hidden

-- what holds before a step
pub record Holds (s : Sessions) (h : Hidden) : Type 0 where
  pub works : h.failed ≡ false
  pub keeps : Keeps h.origin (plain_of s h)
  pub agrees : Agrees s h.origin h.seen (plain_of s h)

-- something is hidden of which it holds
abbrev pub HoldsSome : Sessions → Type 0
HoldsSome s = (h : Hidden) × Holds s h

-- a step leads to a state that agrees with the sessions then: this is all there is to say about a step that makes no operation
pub record Goes (old new : Sessions) (step : SessionStep) (reply : SessionReply) (h : Hidden) : Type 0 where
  pub next : Hidden
  pub origin : next.origin ≡ h.origin
  pub stepped : SessionStepped (plain_of old h) step reply (plain_of new next)
  pub agrees : Agrees new h.origin next.seen (plain_of new next)
  pub drawers : Drawers old new

-- so it does whatever is hidden
abbrev pub Takes : Sessions → Sessions → SessionStep → SessionReply → Type 0
Takes old new step reply = (h : Hidden) → Holds old h → Goes old new step reply h

-- what holds before a step on a device
pub record HoldsOn (s : Sessions) (h : Hidden) (device : Device) : Type 0 where
  pub works : h.failed ≡ false
  pub upholds : Upholds h.origin (plain_of s h) device
  pub agrees : Agrees s h.origin h.seen (plain_of s h)

-- something is hidden of which that holds
abbrev pub HoldsSomeOn : Sessions → Device → Type 0
HoldsSomeOn s device = (h : Hidden) × HoldsOn s h device

-- a step on a device goes so, to a state that the device upholds then
pub record GoesOn (old new : Sessions) (before now : Device) (step : SessionStep) (reply : SessionReply) (h : Hidden) : Type 0 where
  pub goes : Goes old new step reply h
  pub upholds : Upholds h.origin (plain_of new goes.next) now
  pub effect : HasEffect before now (StandsWithin (plain_of old h) (plain_of new goes.next)) (most_operations (plain_of old h) (as_step step)) (session_of (as_step step)) (λ fault. reply ≡ Refused fault)

-- so it does whatever is hidden
abbrev pub TakesOn : Sessions → Sessions → Device → Device → SessionStep → SessionReply → Type 0
TakesOn old new before now step reply = (h : Hidden) → HoldsOn old h before → GoesOn old new before now step reply h

-- ---- what bars a session

-- why a session's transaction is not one of these
abbrev pub IsBarred : (Transaction → Bool) → Option Transaction → Fault → Type 0
IsBarred lets None fault = fault ≡ NoSession
IsBarred lets (Some transaction) fault = (fault ≡ WrongState) × (lets transaction ≡ false)

-- it is one of these
abbrev pub is_one_of : (Transaction → Bool) → Option Transaction → Bool
is_one_of lets None = false
is_one_of lets (Some transaction) = lets transaction

-- what bars one that isn't
abbrev pub bar_of : Option Transaction → Fault
bar_of None = NoSession
bar_of (Some transaction) = WrongState

-- it reads, and may write
abbrev pub is_active : Transaction → Bool
is_active (Active snapshot writes) = true
is_active (Drawn t) = false
is_active ReadOnly = false

-- it has no drawn commit: its commit is covered, or it wrote nothing
abbrev pub is_over : List DrawnCommit → Transaction → Bool
is_over drawn (Active snapshot writes) = false
is_over drawn (Drawn t) = is_none (drawn_at t drawn)
is_over drawn ReadOnly = true

-- the same of a session, if it is open
abbrev pub is_over_at : List DrawnCommit → Option Transaction → Bool
is_over_at drawn None = false
is_over_at drawn (Some transaction) = is_over drawn transaction

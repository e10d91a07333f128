-- What the parts of closing make of the volatile state and its device.
use Rattle.std.specs.Prelude.{◌≡◌, ◌⊎◌, ℕ, ◌+◌, ◌-◌, ◌<◌, false, not, List, length, find, Option, None, Some}
use Rattle.std.specs.Option.{option_map}
use Rattle.base.specs.declared.fault.Fault.{Fault}
use Rattle.base.specs.declared.fault.Fault.TheVariants.{Device as DeviceFault}
use Rattle.base.specs.Images.{Image}
use Rattle.machine.specs.Machine.{State, is_stamped, closing_fault, StandsClosing, StandsClosed}
use Rattle.pmem.specs.Device.{Device, MayLeave}
use Rattle.pmem.specs.Words.{LeavesOnly, HasNoFailure}
use Rattle.log_area.specs.declared.stage.WritingStage.{WritingStage}
use Rattle.log_area.specs.Stages.{operations_before}
use Rattle.dirty_table.specs.declared.sessions.SessionSet.{SessionSet}
use Rattle.dirty_table.specs.Touches.{lines_touched}
use Rattle.group_commit.specs.declared.stage.CycleStage.{CycleStage}
use Rattle.group_commit.specs.declared.stage.CycleStage.TheVariants.{FlushLines, WriteRecord}
use Rattle.group_commit.specs.Cycles.{Cycling}
use Rattle.txn.specs.declared.drawn.DrawnCommit.{DrawnCommit}
use Rattle.txn.specs.DrawnCommits.{plain_drawn}
use Rattle.simulation.specs.cycles.Closing.{ClosesAs}
use Rattle.room.specs.declared.volatile.VolatileState.{VolatileState}
use Rattle.room.specs.Committing.{Shows}

-- The fault is why closing is refused, and then nothing was done to the device; or it is Device, if closing is not
-- refused and an operation failed. Lack of memory isn't a reason, since closing takes none
abbrev pub IsClosingRefusal : State → Device → Device → Fault → Type 0
IsClosingRefusal q old new fault =
    ((closing_fault q ≡ Some fault) × (new ≡ old))
    ⊎ ((closing_fault q ≡ None) × (fault ≡ DeviceFault) × (old.failures < new.failures))

-- a state is shown from which closing goes on
pub record GoesOnFrom (new : VolatileState) (before now : Device) (q q' : State) : Type 0 where
  pub shows : Shows new now q'
  pub works : q'.failed ≡ false
  pub closes : ClosesAs q q'
  pub images : LeavesOnly before now (StandsClosing q)

-- part of closing is done, and nothing failed
pub record ClosePhaseDone (old new : VolatileState) (before now : Device) : Type 0 where
  pub no_failure : HasNoFailure before now
  pub goes_on : (q : State) → Shows old before q → q.failed ≡ false → (q' : State) × GoesOnFrom new before now q q'

-- an operation failed in this part
pub record ClosePhaseFailed (old : VolatileState) (before now : Device) (fault : Fault) : Type 0 where
  pub fault_is : fault ≡ DeviceFault
  pub failure : before.failures < now.failures
  pub images : (q : State) → Shows old before q → q.failed ≡ false → LeavesOnly before now (StandsClosing q)

-- all that was drawn is covered: a crash meanwhile left what it may leave while closing, and now what it may leave afterwards
pub record CloseCovered (old : VolatileState) (before now : Device) : Type 0 where
  pub no_failure : HasNoFailure before now
  pub images : (q : State) → Shows old before q → q.failed ≡ false → LeavesOnly before now (StandsClosing q)
  pub closed : (q : State) → Shows old before q → q.failed ≡ false → (image : Image) → MayLeave now image → StandsClosed q image

-- ---- the ticks that are left

-- a bound of the ticks that a cycle has left at its stage, if its batch touches this many lines
abbrev pub left_at : ℕ → WritingStage → CycleStage → ℕ
left_at lines writing (FlushLines flushed from) = 41 + (lines - flushed)
left_at lines writing WriteRecord = 40 - operations_before writing

-- the same of a cycle, if there is one
abbrev pub ticks_left : List SessionSet → Option Cycling → ℕ
ticks_left dirty None = 0
ticks_left dirty (Some cycle) = left_at (length (lines_touched cycle.sessions dirty)) cycle.writing.stage cycle.stage

-- ---- what is drawn

-- the session of the first of the commits that isn't stamped whole
abbrev pub unstamped_session : List DrawnCommit → Option ℕ
unstamped_session commits = option_map (λ d. d.session) (find (λ d. not (is_stamped (plain_drawn d))) commits)

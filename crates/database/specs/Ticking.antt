-- What a turn of a worker leaves under the lock.
use Rattle.std.specs.Prelude.{◌≡◌, ◌≢◌, ◌+◌, ◌-◌, ◌^◌, ℕ, List, length, min, Option, Some, None}
use Rattle.std.specs.List.{sum_by}
use Rattle.base.specs.Batches.{Batch}
use Rattle.base.specs.Commits.{Commit}
use Rattle.base.specs.declared.fault.Fault.{Fault}
use Rattle.base.specs.declared.fault.Fault.TheVariants.{OutOfMemory}
use Rattle.base.specs.declared.step.Step.TheVariants.{Commit as CommitTick}
use Rattle.base.specs.declared.step.Reply.{Reply}
use Rattle.base.specs.declared.step.Reply.TheVariants.{Refused, Covered, Ticked}
use Rattle.base.specs.declared.step.Reply.TheVariants as reply
use Rattle.base.specs.declared.step.Stage.TheVariants.{GateFlushed}
use Rattle.pmem.specs.Device.{Device}
use Rattle.pmem.specs.declared.device.Pmem.{Ghosts}
use Rattle.room.specs.Room.{Leads, covered_by}
use Rattle.database.specs.declared.locked.Locked.{Locked}
use Rattle.database.specs.declared.opened.OpenedRoom.{OpenedRoom}
use Rattle.roles.specs.declared.turn.Turn.{Turn}
use Rattle.roles.specs.declared.turn.Turn.TheVariants.{Idle, Finished, Flushed, LacksMemory, Stopped, Unfinished}
use Rattle.database.specs.Obeys.{InRoom, ended_of}
use Rattle.history.specs.declared.origin.Origin.{Ghosts as Origins}

-- The outcome of a turn that made a tick with this reply.
-- Excluded: a refusal after which those who wait sleep on.
abbrev pub turn_of : Reply → Turn
turn_of reply.Idle = Idle
turn_of (Covered batch) = Finished
turn_of (Ticked GateFlushed) = Flushed
turn_of (Refused OutOfMemory) = LacksMemory
turn_of (Refused fault) = Stopped
turn_of _ = Unfinished

-- how often in a row a tick was then refused memory
abbrev pub refusals_after : ℕ → Reply → ℕ
refusals_after refusals (Refused OutOfMemory) = min (refusals + 1) (2 ^ 64 - 1)
refusals_after refusals (Refused fault) = refusals
refusals_after refusals _ = 0

-- how many rows these commits have written or deleted
abbrev pub rows_written : List Commit → ℕ
rows_written commits = sum_by (λ commit. length commit.writes) commits

-- the batch that was covered last in the room that is there, if one was
abbrev pub covered_in : {D J : Type 0} → {G : Ghosts D} → {O : Origins J} → Option (OpenedRoom D J G O) → Option Batch
covered_in (Some room) = covered_by room.room
covered_in None = None

-- how many rows its commits have written or deleted, as far as a word counts
abbrev pub rows_in : Option Batch → ℕ
rows_in (Some batch) = min (rows_written batch.commits) (2 ^ 64 - 1)
rows_in None = 0

-- how many of them were then covered since the collector's last round
abbrev pub covered_after : ℕ → Reply → ℕ
covered_after covered (Covered batch) = min (covered + rows_written batch.commits) (2 ^ 64 - 1)
covered_after covered _ = covered

-- how many there are after a turn of the collector, which may end a round
abbrev pub covered_since : ℕ → Turn → ℕ
covered_since covered Finished = 0
covered_since covered _ = covered

-- the tick wasn't refused, or only for lack of memory, which passes
abbrev pub GoesOn : Reply → Type 0
GoesOn reply = (fault : Fault) → reply ≡ Refused fault → fault ≡ OutOfMemory

-- What isn't counted stays as it was: the commits that wait, the workers and whether they have to end, who leads, watches or syncs, and who
-- has to be woken.
-- Excluded: a turn that counts a worker out, or forgets whom to wake.
abbrev pub LeavesRest : {D J : Type 0} → {G : Ghosts D} → {O : Origins J} → Locked D J G O → Locked D J G O → Type 0
LeavesRest old new =
    (new.group ≡ old.group) × (new.roles ≡ old.roles) × (new.syncs_apart ≡ old.syncs_apart)

-- all counts but that of the open transactions stay as they were
abbrev pub LeavesCounts : {D J : Type 0} → {G : Ghosts D} → {O : Origins J} → Locked D J G O → Locked D J G O → Type 0
LeavesCounts old new = (new.covered ≡ old.covered) × (new.refusals ≡ old.refusals)

-- The room makes one tick of the committer, and nothing else. If it is refused, that is kept as the reason why the committer has ended, and
-- nothing else is ever kept as one; lack of memory doesn't end the committer. Refusals for it and the rows that the tick covered are
-- counted. The outcome of the turn is read off the tick's reply.
-- Excluded: commits that are counted instead of rows.
pub record TicksOnce {D J : Type 0} {G : Ghosts D} {O : Origins J} (state : D → Device) (old new : Locked D J G O) (result : Turn) : Type 0 where
  pub reply : Reply
  pub ticks : InRoom (λ before after. Leads state before after CommitTick reply) old.room new.room
  pub ended : (fault : Fault) → reply ≡ Refused fault → fault ≢ OutOfMemory → ended_of new.room ≡ Some fault
  pub goes_on : GoesOn reply → ended_of new.room ≡ ended_of old.room
  pub counted : new.refusals ≡ refusals_after old.refusals reply
  pub covered : new.covered ≡ covered_after old.covered reply
  pub turn : result ≡ turn_of reply
  pub transactions : new.«open» ≡ old.«open»
  pub rest : LeavesRest old new

-- Why no cycle begins, and what each tick of one does, if the batch touches these lines.
use Rattle.std.specs.Prelude.{◌≡◌, ◌⊎◌, ℕ, ◌+◌, ◌^◌, ◌<◌, ◌≤◌, Bool, true, nat_le, List, find, Option, Some, None}
use Rattle.base.specs.declared.fault.Fault.{Fault}
use Rattle.base.specs.declared.fault.Fault.TheVariants.{OutOfMemory, TimestampsOut}
use Rattle.base.specs.declared.step.Stage.{Stage}
use Rattle.base.specs.declared.step.Stage.TheVariants.{LineFlushed, LinesFenced}
use Rattle.base.specs.Actors.{committer}
use Rattle.base.specs.Batches.{Batch}
use Rattle.base.specs.Records.{Record}
use Rattle.pmem.specs.Trace.{Operation, flush_op, fence_op}
use Rattle.log_area.specs.Stages.{reached_by}
use Rattle.log_area.specs.Writings.{Progress, advanced, operation_of}
use Rattle.dirty_table.specs.declared.sessions.SessionSet.{SessionSet}
use Rattle.group_commit.specs.declared.stage.CycleStage.{CycleStage}
use Rattle.group_commit.specs.declared.stage.CycleStage.TheVariants.{FlushLines, WriteRecord}

-- a batch, its sessions, the writing of its record, and what comes next
pub record Cycling : Type 0 where
  pub batch : Batch
  pub sessions : SessionSet
  pub writing : Progress
  pub stage : CycleStage

-- why none begins: no record number is left; or one is, and memory has run out
abbrev pub IsBeginFault : Record → Fault → Type 0
IsBeginFault ruling fault = ((2 ^ 62 ≤ ruling.gate + 1) × (fault ≡ TimestampsOut)) ⊎ ((ruling.gate + 1 < 2 ^ 62) × (fault ≡ OutOfMemory))

-- no more lines were flushed than there are numbers below the next one
abbrev pub is_counted : CycleStage → Bool
is_counted (FlushLines flushed from) = nat_le flushed from
is_counted WriteRecord = true

-- the line that is flushed next, if one is left
abbrev pub line_from : List ℕ → CycleStage → Option ℕ
line_from lines (FlushLines flushed from) = find (nat_le from) lines
line_from lines WriteRecord = None

-- the flush of the line, or the fence if none is left
abbrev pub flush_or_fence : Option ℕ → Operation
flush_or_fence None = fence_op committer
flush_or_fence (Some line) = flush_op committer line

-- the operation of the next tick
abbrev pub operation_at : List ℕ → Progress → CycleStage → Operation
operation_at lines writing (FlushLines flushed from) = flush_or_fence (find (nat_le from) lines)
operation_at lines writing WriteRecord = operation_of writing

-- the same of a cycle
abbrev pub operation_in : List ℕ → Cycling → Operation
operation_in lines cycle = operation_at lines cycle.writing cycle.stage

-- the stage that it reaches; none if it covers the batch
abbrev pub flushed_or_fenced : ℕ → Option ℕ → Option Stage
flushed_or_fenced flushed None = Some LinesFenced
flushed_or_fenced flushed (Some line) = Some (LineFlushed flushed)

-- the stage that the next tick reaches, if it doesn't cover the batch
abbrev pub reached_at : List ℕ → Progress → CycleStage → Option Stage
reached_at lines writing (FlushLines flushed from) = flushed_or_fenced flushed (find (nat_le from) lines)
reached_at lines writing WriteRecord = reached_by writing.stage

-- the same of a cycle
abbrev pub reached_in : List ℕ → Cycling → Option Stage
reached_in lines cycle = reached_at lines cycle.writing cycle.stage

-- the cycle after it
abbrev pub next_at : ℕ → Option ℕ → CycleStage
next_at flushed None = WriteRecord
next_at flushed (Some line) = FlushLines (flushed + 1) (line + 1)

-- the cycle after a tick at this stage
abbrev pub ticked_at : List ℕ → Cycling → CycleStage → Cycling
ticked_at lines cycle (FlushLines flushed from) = record cycle { stage = next_at flushed (find (nat_le from) lines) }
ticked_at lines cycle WriteRecord = record cycle { writing = advanced cycle.writing }

-- the cycle after its next tick
abbrev pub ticked_in : List ℕ → Cycling → Cycling
ticked_in lines cycle = ticked_at lines cycle cycle.stage

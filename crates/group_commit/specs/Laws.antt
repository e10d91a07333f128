-- How many ticks a cycle takes, and what each of them does.
use Rattle.std.specs.Prelude.{◌≡◌, ◌≢◌, ℕ, ◌+◌, ◌<◌, ◌≤◌, List, length, slice_get, IsTrue, Some}
use Rattle.base.specs.declared.step.Stage.TheVariants.{LineFlushed, LinesFenced}
use Rattle.base.specs.Actors.{committer}
use Rattle.base.specs.Records.{are_rising}
use Rattle.pmem.specs.Trace.{flush_op, fence_op}
use Rattle.log_area.specs.declared.stage.WritingStage.TheVariants.{StoreBody, Done}
use Rattle.log_area.specs.Stages.{IsStage, reached_by, operations_before}
use Rattle.log_area.specs.Writings.{Progress, operation_of}
use Rattle.group_commit.specs.declared.stage.CycleStage.{CycleStage}
use Rattle.group_commit.specs.declared.stage.CycleStage.TheVariants.{FlushLines, WriteRecord}
use Rattle.group_commit.specs.Cycles.{Cycling, operation_in, reached_in, ticked_in}

-- the first `flushed` of the lines are below the number, and the others aren't
pub record IsCut (lines : List ℕ) (flushed from : ℕ) : Type 0 where
  pub within : flushed ≤ length lines
  pub below : (i line : ℕ) → i < flushed → slice_get lines i ≡ Some line → line < from
  pub others : (i line : ℕ) → flushed ≤ i → slice_get lines i ≡ Some line → from ≤ line

-- this many ticks were made for a batch that touches these lines, including the one that chose it
abbrev pub IsAt : List ℕ → ℕ → Progress → CycleStage → Type 0
IsAt lines ticks writing (FlushLines flushed from) = (ticks ≡ 1 + flushed) × IsCut lines flushed from × (writing.stage ≡ StoreBody 1)
IsAt lines ticks writing WriteRecord = (ticks ≡ 2 + length lines + operations_before writing.stage) × IsStage writing.stage

-- this many ticks were made in the cycle
abbrev pub IsAfter : List ℕ → ℕ → Cycling → Type 0
IsAfter lines ticks cycle = IsAt lines ticks cycle.writing cycle.stage

-- A cycle of rising lines has flushed each of them once, in order, and then fenced, and then made the operations of its record's writing in
-- order: its last operation is made after as many ticks as there are lines, and 41 more.
-- Excluded: a line of a batch that is left out, met twice or flushed twice.
pub record TicksAreCounted : Type 0 where
  pub begins : (lines : List ℕ) (cycle : Cycling) → cycle.stage ≡ FlushLines 0 0 → cycle.writing.stage ≡ StoreBody 1 → IsAfter lines 1 cycle
  pub goes_on : (lines : List ℕ) (ticks : ℕ) (cycle : Cycling) → IsTrue (are_rising lines) → cycle.writing.stage ≢ Done → IsAfter lines ticks cycle → IsAfter lines (ticks + 1) (ticked_in lines cycle)
  pub line : (lines : List ℕ) (cycle : Cycling) (i line : ℕ) → IsAfter lines (1 + i) cycle → slice_get lines i ≡ Some line
      → (operation_in lines cycle ≡ flush_op committer line) × (reached_in lines cycle ≡ Some (LineFlushed i))
  pub fence : (lines : List ℕ) (cycle : Cycling) → IsAfter lines (1 + length lines) cycle → (operation_in lines cycle ≡ fence_op committer) × (reached_in lines cycle ≡ Some LinesFenced)
  pub writes : (lines : List ℕ) (ticks : ℕ) (cycle : Cycling) → IsAfter lines ticks cycle → 1 + length lines < ticks
      → (ticks ≡ 2 + length lines + operations_before cycle.writing.stage) × (operation_in lines cycle ≡ operation_of cycle.writing) × (reached_in lines cycle ≡ reached_by cycle.writing.stage)
  pub last : (lines : List ℕ) (ticks : ℕ) (cycle : Cycling) → IsAfter lines ticks cycle → cycle.writing.stage ≡ Done → ticks ≡ length lines + 41
  pub before : (lines : List ℕ) (ticks : ℕ) (cycle : Cycling) → IsAfter lines ticks cycle → cycle.writing.stage ≢ Done → ticks < length lines + 41

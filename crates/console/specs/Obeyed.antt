-- How the program changes a plain state by commands and lines, and what it prints.
use Rattle.std.specs.Prelude.{suc, zero, ◌≡◌, ◌⊎◌, ℕ, ◌-◌, ◌^◌, ◌≤◌, Bool, true, false, List, [], ◌∷◌, ◌++◌, codes, decimal, Option, Some, None}
use Rattle.base.specs.declared.fault.Fault.TheVariants.{TooLong}
use Rattle.base.specs.declared.step.Step.{Step}
use Rattle.base.specs.declared.step.Step.TheVariants as step
use Rattle.base.specs.declared.step.Reply.{Reply}
use Rattle.base.specs.declared.step.Reply.TheVariants as reply
use Rattle.base.specs.Replies.{is_failure}
use Rattle.machine.specs.Machine.{State, Stepped}
use Rattle.base.specs.Steps.{as_step}
use Rattle.command_line.specs.Lines.{line_of}
use Rattle.command_line.specs.Numbers.{Text}
use Rattle.command_line.specs.Rows.{row_text}
use Rattle.command_line.specs.Texts.{refused_text, rows_text}
use Rattle.command_line.specs.declared.command.Command.{Command}
use Rattle.command_line.specs.declared.command.Command.TheVariants as asks
use Rattle.command_line.specs.declared.command.Survivor.{Survivor}
use Rattle.console.specs.LongRows.{command_on}
use Rattle.console.specs.declared.lines.Outcome.{Outcome}
use Rattle.console.specs.declared.lines.Outcome.TheVariants.{Replied, Crashed}

-- ---- commands

-- this step and that many more, each after a reply that lets it go on; the last reply, and the state then
abbrev pub Ticks : Step → (Reply → Bool) → ℕ → State → Reply → State → Type 0
Ticks tick goes_on zero q answer q' = Stepped q tick answer q'
Ticks tick goes_on (suc more) q answer q' =
    (before : Reply) × (mid : State) × Ticks tick goes_on more q before mid × (goes_on before ≡ true) × Stepped mid tick answer q'

-- there may be more to do: the reply isn't a refusal, and not that nothing is left
abbrev pub is_busy : Reply → Bool
is_busy reply.Idle = false
is_busy (reply.Refused fault) = false
is_busy _ = true

-- a cycle is under way
abbrev pub is_tick : Reply → Bool
is_tick (reply.Ticked stage) = true
is_tick _ = false

-- `commit`: as many ticks as asked for, or up to the first after which there is nothing to do
abbrev pub Commits : State → ℕ → Reply → State → Type 0
Commits q ticks answer q' =
    (more : ℕ) × Ticks step.Commit is_busy more q answer q' × (more ≤ ticks - 1) × ((more ≡ ticks - 1) ⊎ (is_busy answer ≡ false))

-- `cycle`: ticks up to the first that leaves no cycle under way, or to the greatest number of ticks.
-- Excluded: a cycle that ends at its first tick.
abbrev pub Cycles : State → Reply → State → Type 0
Cycles q answer q' =
    (more : ℕ) × Ticks step.Commit is_tick more q answer q' × (more ≤ 2 ^ 64 - 2) × ((more ≡ 2 ^ 64 - 2) ⊎ (is_tick answer ≡ false))

-- the reply isn't a refusal
abbrev pub is_answered : Reply → Bool
is_answered (reply.Refused fault) = false
is_answered _ = true

-- `collect`: as many visits as asked for, or up to the first that is refused
abbrev pub Collects : State → ℕ → Reply → State → Type 0
Collects q visits answer q' =
    (more : ℕ) × Ticks step.Collect is_answered more q answer q' × (more ≤ visits - 1) × ((more ≡ visits - 1) ⊎ (is_answered answer ≡ false))

-- The reply to a command that isn't a crash, and the state then. A put that makes no step is refused before anything else is looked at
abbrev pub Answers : State → Command → Reply → State → Type 0
Answers q (asks.Step s) answer q' = Stepped q (as_step s) answer q'
Answers q asks.LongRow answer q' = (answer ≡ reply.Refused TooLong) × (q' ≡ q)
Answers q (asks.Commit ticks) answer q' = Commits q ticks answer q'
Answers q (asks.Collect visits) answer q' = Collects q visits answer q'
Answers q asks.Cycle answer q' = Cycles q answer q'
Answers q (asks.Crash keeps) answer q' = ⊥

-- The outcome of a command, as it is on this image (`command_on`). A row that is only too long for the slots of this image is refused by the
-- step. A crash is left to the end of the life.
-- Excluded: a reply that no step gave.
abbrev pub HasOutcome : State → Command → Outcome → State → Type 0
HasOutcome q command (Replied answer) q' = Answers q (command_on q.layout.version command) answer q'
HasOutcome q command (Crashed keeps) q' = (command ≡ asks.Crash keeps) × (q' ≡ q)

-- ---- what is printed

-- the line of a reply; rows have a line each
abbrev pub reply_text : Reply → Text
reply_text (reply.Began session) = codes "session " ++ decimal session
reply_text (reply.Row None) = codes "none"
reply_text (reply.Row (Some row)) = codes "row " ++ row_text row
reply_text (reply.Rows rows) = rows_text rows
reply_text reply.Done = codes "done"
reply_text (reply.Drawn timestamp) = codes "drawn " ++ decimal timestamp
reply_text reply.More = codes "more"
reply_text reply.Stamped = codes "stamped"
reply_text reply.Waiting = codes "waiting"
reply_text (reply.Committed timestamp) = codes "committed " ++ decimal timestamp
reply_text reply.Idle = codes "idle"
reply_text (reply.Ticked stage) = codes "tick"
reply_text (reply.Covered batch) = codes "covered " ++ decimal batch.stamp
reply_text (reply.Visited slot) = codes "slot " ++ decimal slot
reply_text reply.SweepEnd = codes "sweep end"
reply_text (reply.Refused fault) = refused_text fault

-- the line of a command's reply, which doesn't say that the device failed, and what a crash keeps
abbrev pub SaysOf : Outcome → Text → Option Survivor → Type 0
SaysOf (Replied answer) said keeps = (is_failure answer ≡ false) × (said ≡ reply_text answer ++ 10 ∷ []) × (keeps ≡ None)
SaysOf (Crashed survivor) said keeps = (said ≡ []) × (keeps ≡ Some survivor)

-- what is printed for a command, what a crash keeps, and the state then
abbrev pub Obeys : State → Command → Text → Option Survivor → State → Type 0
Obeys q command said keeps q' = (outcome : Outcome) × HasOutcome q command outcome q' × SaysOf outcome said keeps

-- ---- lines

-- the same for what a line is read as
abbrev pub ObeysRead : State → Option (Option Command) → Text → Option Survivor → State → Type 0
ObeysRead q None said keeps q' = ⊥
ObeysRead q (Some None) said keeps q' = (said ≡ []) × (keeps ≡ None) × (q' ≡ q)
ObeysRead q (Some (Some command)) said keeps q' = Obeys q command said keeps q'

-- the same for a line
abbrev pub ObeysLine : State → Text → Text → Option Survivor → State → Type 0
ObeysLine q line = ObeysRead q (line_of line)

-- the same for lines, a list that begins with the last, which alone may be a crash
abbrev pub ObeysLines : State → List Text → Text → Option Survivor → State → Type 0
ObeysLines q [] said keeps q' = (said ≡ []) × (keeps ≡ None) × (q' ≡ q)
ObeysLines q (line ∷ before) said keeps q' =
    (earlier : Text) × (last : Text) × (mid : State) × ObeysLines q before earlier None mid × ObeysLine mid line last keeps q'
    × (said ≡ earlier ++ last)

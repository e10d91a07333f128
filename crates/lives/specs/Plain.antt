-- A life and its report in the plain words of lives.
use Rattle.std.specs.Prelude.{◌≡◌, List, Option, Some, None, Result, Ok, Err}
use Rattle.base.specs.declared.fault.Fault.{Fault}
use Rattle.base.specs.declared.step.Reply.{Reply}
use Rattle.machine.specs.Lives.{Numbers as PlainNumbers, Opening, Opens, Fails, Asked, Report}
use Rattle.lives.specs.declared.life.Life.{Life}
use Rattle.lives.specs.declared.life.LifeReport.{LifeReport}
use Rattle.lives.specs.declared.life.Numbers.{Numbers}
use Rattle.lives.specs.declared.life.Opened.{Opened}
use Rattle.lives.specs.ReportedReplies.{ReportsOf, steps_of}

-- what is asked of a life
abbrev pub asked_of : Life → Asked
asked_of life = record { steps = steps_of life.steps.items; closes = life.close }

-- a record's numbers, in these words
abbrev pub numbers_of : Numbers → PlainNumbers
numbers_of numbers = record { gate = numbers.gate; persisted = numbers.persisted; dirty = numbers.dirty }

-- the outcome of opening, in these words
abbrev pub opening_of : Result Opened Fault → Opening
opening_of (Ok opened) = Opens (numbers_of opened.numbers) opened.next opened.gaps opened.rows.items
opening_of (Err fault) = Fails fault

-- the outcome of closing, if it was asked for, in these words
abbrev pub closed_of : Option (Result Numbers Fault) → Option (Result PlainNumbers Fault)
closed_of None = None
closed_of (Some (Ok numbers)) = Some (Ok (numbers_of numbers))
closed_of (Some (Err fault)) = Some (Err fault)

-- what a report says, if these are the replies to the life's steps
abbrev pub report_of : LifeReport → List Reply → Report
report_of report replies = record { opening = opening_of report.opening; replies = replies; closed = closed_of report.closed }

-- the report says so of the replies
abbrev pub ReportsLife : Life → LifeReport → List Reply → Type 0
ReportsLife life report replies = ReportsOf report.opening life.steps.items replies report.replies.items

-- the report of a life is this in plain words
pub record IsReport (life : Life) (report : LifeReport) (plain : Report) : Type 0 where
  pub is : plain ≡ report_of report plain.replies
  pub reported : ReportsLife life report plain.replies

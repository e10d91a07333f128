-- What the lives of a script are asked to do, and what is printed of their reports.
use Rattle.std.specs.Prelude.{◌≡◌, ℕ, ◌+◌, Bool, List, [], ◌∷◌, ◌++◌, map, flat_map, codes, decimal, Option, Some, None, Result, Ok, Err}
use Rattle.std.specs.Io.KnownBytes.{Appends}
use Rattle.base.specs.declared.fault.Fault.{Fault}
use Rattle.base.specs.declared.fault.Fault.TheVariants.{BadGeometry, OutOfMemory, TooLong}
use Rattle.base.specs.declared.step.Step.TheVariants as step
use Rattle.base.specs.declared.step.Reply.{Reply}
use Rattle.base.specs.Layout.{Layout}
use Rattle.base.specs.Steps.{as_step}
use Rattle.pmem_model.specs.declared.choice.Choice.{Choice}
use Rattle.command_line.specs.Numbers.{Text}
use Rattle.command_line.specs.Scripts.{SpellsScript}
use Rattle.command_line.specs.Texts.{closed_line, opened_line, refused_text}
use Rattle.command_line.specs.declared.command.Command.{Command}
use Rattle.command_line.specs.declared.command.Command.TheVariants as asks
use Rattle.command_line.specs.declared.script.ScriptFault.{ScriptFault}
use Rattle.command_line.specs.declared.script.ScriptFault.TheVariants as script
use Rattle.command_line.specs.declared.script.ScriptLife.{ScriptLife}
use Rattle.lives.specs.Chains.{AreLives}
use Rattle.lives.specs.declared.life.Life.{Life}
use Rattle.lives.specs.declared.life.LifeReport.{LifeReport}
use Rattle.lives.specs.declared.life.Numbers.{Numbers}
use Rattle.lives.specs.declared.life.Opened.{Opened}
use Rattle.lives.specs.declared.life.Repeated.{Repeated}
use Rattle.console.specs.Crash.{choice_of}
use Rattle.console.specs.LongRows.{command_on}
use Rattle.console.specs.Obeyed.{reply_text}
use Rattle.console.specs.Rounds.{visits_needed}
use Rattle.console.specs.declared.stop.Stop.{Stop}
use Rattle.console.specs.declared.stop.Stop.TheVariants.{Refused, NotACommand}

-- how a subcommand ends if a text isn't a script
abbrev pub stop_of : ScriptFault → Stop
stop_of (script.WrongLine number) = NotACommand number
stop_of script.BadGeometry = Refused BadGeometry
stop_of script.OutOfMemory = Refused OutOfMemory

-- ---- what is asked

-- The step that is asked for on an image of this layout, and how often it is taken: for `commit` as many ticks as it asks for, for
-- `collect` as many visits as are enough. A row that is too long has no step, and is refused before anything else is looked at
abbrev pub times_of : Layout → Command → Repeated
times_of layout (asks.Step s) = record { step = as_step s; times = 1 }
times_of layout (asks.Commit ticks) = record { step = step.Commit; times = ticks }
times_of layout (asks.Collect visits) = record { step = step.Collect; times = visits_needed layout visits }
times_of layout _ = record { step = step.Commit; times = 0 }

-- the same of a command in a life on such an image
abbrev pub repeated_of : Layout → Command → Repeated
repeated_of layout command = times_of layout (command_on layout.version command)

-- what a life is asked to do: its steps, whether it closes, a fuse, and which survivors its stop leaves
pub record Wish : Type 0 where
  pub steps : List Repeated
  pub closes : Bool
  pub fuse : Option ℕ
  pub choice : Choice

-- what a script asks a life to do on an image of this layout
abbrev pub asked_by : Layout → ScriptLife → Wish
asked_by layout life = record { steps = map (repeated_of layout) life.commands.items; closes = life.closes; fuse = life.fuse; choice = choice_of life.keeps }

-- what a life of the code asks
abbrev pub asked_of : Life → Wish
asked_of life = record { steps = life.steps.items; closes = life.close; fuse = life.fuse; choice = life.choice }

-- ---- what is printed

-- The line of what is reported of a command: the reply to its step, or to the last of its ticks or visits, which is the first that was
-- refused. A row that is too long has none
abbrev pub answer_text : Option Reply → Text
answer_text None = refused_text TooLong
answer_text (Some reply) = reply_text reply

-- a line for each command of a life that is reported
abbrev pub replies_text : List (Option Reply) → Text
replies_text reported = flat_map (λ reply. answer_text reply ++ 10 ∷ []) reported

-- the line of an opened image
abbrev pub opened_text : Opened → Text
opened_text opened = opened_line opened.numbers.gate opened.numbers.persisted opened.numbers.dirty opened.next opened.gaps

-- the line of closing, or of its fault, if it was asked for and reached
abbrev pub closed_text : Option (Result Numbers Fault) → Text
closed_text None = []
closed_text (Some (Ok numbers)) = closed_line numbers.gate numbers.persisted numbers.dirty ++ 10 ∷ []
closed_text (Some (Err fault)) = refused_text fault ++ 10 ∷ []

-- what a life prints whose image was opened
abbrev pub lived_text : Opened → LifeReport → Text
lived_text opened report = ((opened_text opened ++ 10 ∷ []) ++ replies_text report.replies.items) ++ closed_text report.closed

-- what a life with this outcome of opening prints
abbrev pub opening_text : Result Opened Fault → LifeReport → Text
opening_text (Ok opened) report = lived_text opened report
opening_text (Err fault) report = refused_text fault ++ 10 ∷ []

-- the lines of a report
abbrev pub report_text : LifeReport → Text
report_text report = opening_text report.opening report

-- the lines of a life of this number
abbrev pub life_text : ℕ → LifeReport → Text
life_text number report =
    (((codes "life " ++ decimal number) ++ 10 ∷ []) ++ report_text report) ++ (codes "stopped" ++ 10 ∷ [])

-- the lines of lives, the first of which has this number
abbrev pub lives_text : ℕ → List LifeReport → Text
lives_text number [] = []
lives_text number (report ∷ reports) = life_text number report ++ lives_text (number + 1) reports

-- The lives are lived one over another from a fresh image on, as the script asks, and exactly the lines of their reports are printed
pub record PrintsReports (layout : Layout) (script : List ScriptLife) (old new : Option Text) : Type 0 where
  pub lives : List Life
  pub asked : map asked_of lives ≡ map (asked_by layout) script
  pub reports : List LifeReport
  pub lived : AreLives layout lives reports
  pub prints : Appends old new (lives_text 1 reports)

-- The text spells lives, and they are lived and printed.
-- Excluded: replies of another life; a `commit` that is cut short while commits wait.
pub record PrintsLives (text : Text) (old new : Option Text) : Type 0 where
  pub layout : Layout
  pub script : List ScriptLife
  pub spelled : SpellsScript text layout script
  pub prints : PrintsReports layout script old new

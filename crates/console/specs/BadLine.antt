-- Which line ends a run before its time.
use Rattle.std.specs.Prelude.{◌≡◌, ℕ, ◌+◌, ◌-◌, ◌^◌, min, List, [], ◌∷◌, ◌++◌, length, All, Option, Some, None, option_map, option_and_then, ⊤}
use Rattle.std.specs.Io.KnownBytes.{Appends}
use Rattle.machine.specs.Machine.{State}
use Rattle.pmem.specs.Device.{Device}
use Rattle.pmem.specs.declared.device.Pmem.{Ghosts}
use Rattle.room.specs.Room.{Shows}
use Rattle.room.specs.declared.room.Room.{Room}
use Rattle.command_line.specs.Lines.{line_of}
use Rattle.command_line.specs.Numbers.{Text}
use Rattle.command_line.specs.Scripts.{IsWrongLine}
use Rattle.command_line.specs.Texts.{text_of}
use Rattle.command_line.specs.declared.command.Command.{Command}
use Rattle.command_line.specs.declared.command.Command.TheVariants.{Crash}
use Rattle.command_line.specs.declared.command.Survivor.{Survivor}
use Rattle.command_line.specs.declared.orders.Order.{Order}
use Rattle.command_line.specs.declared.orders.Order.TheVariants.{Format, Run, Check, Threads, Lives}
use Rattle.command_line.specs.declared.printed.Printed.TheVariants as printed
use Rattle.console.specs.Input.{BeginsWith}
use Rattle.console.specs.Lives.{FileOpensTo, IsBegun}
use Rattle.console.specs.Obeyed.{ObeysLines}
use Rattle.console.specs.declared.lines.Outcome.{Outcome}
use Rattle.console.specs.declared.lines.Outcome.TheVariants.{Replied, Crashed}
use Rattle.console.specs.declared.stop.Stop.{Stop}
use Rattle.console.specs.declared.stop.Stop.TheVariants.{Refused, NotACommand, Broken}

-- ---- lines that are commands

-- what a command keeps by a crash
abbrev pub kept_by : Command → Option Survivor
kept_by (Crash keeps) = Some keeps
kept_by _ = None

-- what is kept if this is the outcome of a command
abbrev pub kept_of : Outcome → Option Survivor
kept_of (Replied answer) = None
kept_of (Crashed keeps) = Some keeps

-- what a line keeps by a crash, if it is a command or is skipped
abbrev pub kept_in : Text → Option (Option Survivor)
kept_in line = option_map (option_and_then kept_by) (line_of line)

-- the line is a command that isn't a crash, or is skipped
abbrev pub IsPassed : Text → Type 0
IsPassed line = kept_in line ≡ Some None

-- ---- the line that isn't a command

-- The input has a line of this number that isn't a command, and each line before it is a command that isn't a crash, or is skipped.
-- Numbers begin at 1, and a number past the greatest that can be printed is printed as that one
pub record IsBadLine (input : Option Text) (number : ℕ) : Type 0 where
  pub before : List Text
  pub line : Text
  pub passed : All IsPassed before
  pub bad : line_of line ≡ None
  pub counted : number ≡ min (length before + 1) (2 ^ 64 - 1)
  pub read : BeginsWith input (line ∷ before)

-- the lines before it are run from each state that the room shows, and no more is printed
pub record MeetsBadLine {D : Type 0} {G : Ghosts D} (state : D → Device) (room : Room D G) (input old new : Option Text) (number : ℕ) : Type 0 where
  pub is : IsBadLine input number
  pub said : Text
  pub prints : Appends old new said
  pub obeys : (q : State) → Shows state room q → (q' : State) × ObeysLines q is.before said None q'

-- The image in the file opens, and whatever history it stands for, the lines before the bad one are run. No more is printed, except this at
-- the end.
-- Excluded: another line named, or one past a crash.
pub record EndsAtBadLine (file : List ℕ) (input old new : Option Text) (number : ℕ) (ended : Text) : Type 0 where
  pub is : IsBadLine input number
  pub begun : Text
  pub said : Text
  pub prints : Appends old new ((begun ++ said) ++ ended)
  pub opens : FileOpensTo file (IsBegun is.before None begun said (λ q. ⊤))

-- what is printed is that the line of this number isn't a command
abbrev pub PrintsBadLine : Option Text → Option Text → ℕ → Type 0
PrintsBadLine old new number = Appends old new (text_of (printed.NotACommand number) ++ 10 ∷ [])

-- The line of this number is to blame: of a run, a line of the input, which ends it; of lives, a line of the script, and then nothing is
-- printed before. This is printed at the end
abbrev pub EndsAtLine : Order → List ℕ → Option Text → Option Text → Option Text → ℕ → Text → Type 0
EndsAtLine (Format name width slots places window) file input old new number ended = ⊥
EndsAtLine (Run name) file input old new number ended = EndsAtBadLine file input old new number ended
EndsAtLine (Check name) file input old new number ended = ⊥
EndsAtLine (Threads name sessions commits) file input old new number ended = ⊥
EndsAtLine (Lives name) file input old new number ended = IsWrongLine file number × Appends old new ended

-- the line of this number is to blame, and what is printed at the end is that it isn't a command
abbrev pub ReportsLine : Order → List ℕ → Option Text → Option Text → Option Text → ℕ → Type 0
ReportsLine order file input old new number = EndsAtLine order file input old new number (text_of (printed.NotACommand number) ++ 10 ∷ [])

-- ---- why a subcommand ended

-- if a line is to blame, this holds of its number
abbrev pub IfBadLine : (ℕ → Type 0) → Stop → Type 0
IfBadLine P (NotACommand number) = P number
IfBadLine P (Refused fault) = ⊤
IfBadLine P (Broken reason) = ⊤

-- this is the number of the line that is to blame
abbrev pub IsLineOf : Stop → ℕ → Type 0
IsLineOf (NotACommand line) number = number ≡ line
IsLineOf (Refused fault) number = ⊥
IsLineOf (Broken reason) number = ⊥

-- no line is to blame
abbrev pub BlamesNoLine : Stop → Type 0
BlamesNoLine stop = IfBadLine (λ number. ⊥) stop

-- What the exit status says about the words that the program was given.
use Rattle.std.specs.Prelude.{◌≡◌, ◌⊎◌, ℕ, ◌≤◌, Bool, false, true, List, [], ⊤}
use Rattle.command_line.specs.Numbers.{Text}
use Rattle.command_line.specs.Words.{Gives, GivesNothing}
use Rattle.command_line.specs.declared.orders.Order.{Order}
use Rattle.command_line.specs.declared.orders.Order.TheVariants.{Format, Run, Check, Lives, Threads}
use Rattle.command_line.specs.declared.orders.WordFault.{WordFault}
use Rattle.command_line.specs.declared.orders.WordFault.TheVariants.{Help, OutOfMemory}
use Rattle.command_line.specs.declared.orders.WordFault.TheVariants as wrong
use Rattle.console.specs.Kept.{writes_file}
use Rattle.program.specs.declared.running.Diagnostic.{Diagnostic}
use Rattle.program.specs.declared.running.Diagnostic.TheVariants.{Nothing, BadWords, Broken, FileFault}

-- the file that an order names
abbrev pub file_of : Order → Text
file_of (Format name width slots places window) = name.now
file_of (Run name) = name.now
file_of (Check name) = name.now
file_of (Lives name) = name.now
file_of (Threads name sessions commits) = name.now

-- the words give an order of this file
abbrev pub NameFile : List Text → Text → Type 0
NameFile words name = (order : Order) × Gives words order × (file_of order ≡ name)

-- the words give an order that writes this file
abbrev pub NameWritten : List Text → Text → Type 0
NameWritten words name = (order : Order) × Gives words order × (file_of order ≡ name) × (writes_file order ≡ true)

-- the words give no order, or one that writes no file
abbrev pub WriteNoFile : List Text → Type 0
WriteNoFile words = GivesNothing words ⊎ ((order : Order) × Gives words order × (writes_file order ≡ false))

-- the order runs lines: a run those of the input, and lives those of a script
abbrev pub obeys_lines : Order → Bool
obeys_lines (Format name width slots places window) = false
obeys_lines (Run name) = true
obeys_lines (Check name) = false
obeys_lines (Lives name) = true
obeys_lines (Threads name sessions commits) = false

-- there are no words, and the input is run, or they give an order that runs lines
abbrev pub ObeyLines : List Text → Type 0
ObeyLines words = (words ≡ []) ⊎ ((order : Order) × Gives words order × (obeys_lines order ≡ true))

-- the order is a run, whose lines are those of the input
abbrev pub reads_input : Order → Bool
reads_input (Format name width slots places window) = false
reads_input (Run name) = true
reads_input (Check name) = false
reads_input (Lives name) = false
reads_input (Threads name sessions commits) = false

-- there are no words, and the input is run, or they give a run
abbrev pub ReadInput : List Text → Type 0
ReadInput words = (words ≡ []) ⊎ ((order : Order) × Gives words order × (reads_input order ≡ true))

-- the exit status when this is reported: 2 for bad words, 1 if a file, the input or the output failed
abbrev pub HasStatus : Diagnostic → ℕ → Type 0
HasStatus Nothing status = status ≤ 2
HasStatus (BadWords text) status = status ≡ 2
HasStatus (Broken reason) status = status ≡ 1
HasStatus (FileFault name reason) status = status ≡ 1

-- if a file failed, this of its name
abbrev pub IfFileFault : (Text → Type 0) → Diagnostic → Type 0
IfFileFault P Nothing = ⊤
IfFileFault P (BadWords text) = ⊤
IfFileFault P (Broken reason) = ⊤
IfFileFault P (FileFault name reason) = P name.now

-- if the words are bad, this
abbrev pub IfBadWords : Type 0 → Diagnostic → Type 0
IfBadWords P Nothing = ⊤
IfBadWords P (BadWords text) = P
IfBadWords P (Broken reason) = ⊤
IfBadWords P (FileFault name reason) = ⊤

-- help was asked for, and this is its text
abbrev pub IsHelp : WordFault → Type 0
IsHelp (Help text) = ⊤
IsHelp (wrong.BadWords text) = ⊥
IsHelp (OutOfMemory error) = ⊥

-- the words are bad, and this is the text that says so
abbrev pub IsBadWords : WordFault → Type 0
IsBadWords (Help text) = ⊥
IsBadWords (wrong.BadWords text) = ⊤
IsBadWords (OutOfMemory error) = ⊥

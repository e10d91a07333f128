-- Which words ask for help: the command line as the statements of clap take it, and the kinds of error that they name.
use Rattle.std.specs.Prelude.{◌≡◌, ◌≢◌, ℕ, List, [], ◌∷◌, Some, true, false, codes, ⊤}
use Rattle.clap.specs.Simple.{new_shape}
use Rattle.clap.specs.Words.{App, IsAmong, Rule, Shape, fault_of, new_rule}
use Rattle.clap.specs.declared.builder.action.ArgAction.TheVariants.{Set, SetTrue}
use Rattle.clap.specs.declared.builder.value_parser.ValueParser.TheVariants as parser
use Rattle.clap.specs.declared.error.kind.ErrorKind.{ErrorKind}
use Rattle.clap.specs.declared.error.kind.ErrorKind.TheVariants as kind
use Rattle.clap.specs.declared.error.kind.ErrorKind.TheVariants.{DisplayHelp}
use Rattle.command_line.specs.Numbers.{Text}
use Rattle.command_line.specs.declared.orders.WordFault.{WordFault}
use Rattle.command_line.specs.declared.orders.WordFault.TheVariants.{Help, BadWords, OutOfMemory}

-- ---- the command line

-- a name that has to be given
abbrev pub name_rule : Text → Rule
name_rule id = record (new_rule id) { required = true; action = Some Set }

-- an option with a number from the least to the most, which may be left out
abbrev pub number_rule : Text → Text → ℕ → ℕ → Rule
number_rule name default least most = record (new_rule name) {
  long = Some name;
  value_names = 1;
  defaults = default ∷ [];
  parser = Some (parser.Unsigned least most);
}

-- an option with a number from the least to the most, without a default
abbrev pub choice_rule : Text → ℕ → ℕ → Rule
choice_rule name least most = record (new_rule name) { long = Some name; value_names = 1; parser = Some (parser.Unsigned least most) }

-- an option without a value, which may be left out
abbrev pub flag_rule : Text → Rule
flag_rule name = record (new_rule name) { long = Some name; action = Some SetTrue }

-- a subcommand with what follows it
abbrev pub subcommand_shape : Text → List Rule → Shape
subcommand_shape name rules = record (new_shape name) { rules = rules }

-- a command of this name with these arguments, and no subcommand
abbrev pub app_with : Text → List Rule → App
app_with name rules = record { top = subcommand_shape name rules; subs = [] }

-- `format`, with its options and their defaults
abbrev pub format_shape : Shape
format_shape = subcommand_shape (codes "format") (name_rule (codes "FILE") ∷ number_rule (codes "slots") (codes "1024") 1 16777216
    ∷ number_rule (codes "places") (codes "4") 2 64 ∷ number_rule (codes "window") (codes "64") 4 1024
    ∷ flag_rule (codes "wide") ∷ choice_rule (codes "lines") 1 8 ∷ [])

-- `run`
abbrev pub run_shape : Shape
run_shape = subcommand_shape (codes "run") (name_rule (codes "FILE") ∷ [])

-- `check`
abbrev pub check_shape : Shape
check_shape = subcommand_shape (codes "check") (name_rule (codes "FILE") ∷ [])

-- `lives`
abbrev pub lives_shape : Shape
lives_shape = subcommand_shape (codes "lives") (name_rule (codes "SCRIPT") ∷ [])

-- `threads`, with its options and their defaults
abbrev pub threads_shape : Shape
threads_shape = subcommand_shape (codes "threads") (name_rule (codes "FILE")
    ∷ number_rule (codes "sessions") (codes "4") 1 32 ∷ number_rule (codes "commits") (codes "8") 1 1000 ∷ [])

-- the program without subcommands
abbrev pub wbl_alone : App
wbl_alone = record { top = record (new_shape (codes "wbl")) { no_binary_name = true; subcommand_required = true }; subs = [] }

-- the program with these subcommands
abbrev pub wbl_with : List Shape → App
wbl_with subs = record { top = record wbl_alone.top { is_leaf = false }; subs = subs }

-- the whole program
abbrev pub wbl : App
wbl = wbl_with (format_shape ∷ run_shape ∷ check_shape ∷ lives_shape ∷ threads_shape ∷ [])

-- ---- help

-- help is among the answers that the words may get
abbrev pub MayGetHelp : List Text → Type 0
MayGetHelp words = IsAmong DisplayHelp (fault_of wbl words)

-- help is the one answer that the words get
abbrev pub GetsHelp : List Text → Type 0
GetsHelp words = fault_of wbl words ≡ DisplayHelp ∷ []

-- how a kind of error is reported: help by its text, a lack of memory as one, and any other as bad words, unless memory for
-- the text is lacking
abbrev pub ReportsKind : ErrorKind → WordFault → Type 0
ReportsKind is (Help text) = is ≡ DisplayHelp
ReportsKind is (BadWords text) = (is ≢ DisplayHelp) × (is ≢ kind.OutOfMemory)
ReportsKind is (OutOfMemory error) = ⊤

-- If help is printed, the words may get it, and if bad words are reported, help isn't the one answer.
-- Excluded: a request for help that is blamed as bad words, and bad words that get help.
abbrev pub AnswersHelp : List Text → WordFault → Type 0
AnswersHelp words (Help text) = MayGetHelp words
AnswersHelp words (BadWords text) = GetsHelp words → ⊥
AnswersHelp words (OutOfMemory error) = ⊤

-- this, unless memory was lacking
abbrev pub UnlessOutOfMemory : Type 0 → WordFault → Type 0
UnlessOutOfMemory P (Help text) = P
UnlessOutOfMemory P (BadWords text) = P
UnlessOutOfMemory P (OutOfMemory error) = ⊤

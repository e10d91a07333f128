-- Which command a line spells.
use Rattle.std.specs.Prelude.{◌≡◌, ℕ, List, [], ◌∷◌, Bool, not, Option, Some, None, length, ◌==◌, ◌||◌, ◌-◌, ◌^◌, nat_le, slice_index, codes, map, if◌then◌else◌, option_map, option_and_then}
use Rattle.std.specs.Borrow.{Bor}
use Rattle.std.specs.List.{slice_split, filter}
use Rattle.std.specs.Str.{bytes_eq}
use Rattle.base.specs.declared.key.Key.{Key}
use Rattle.base.specs.declared.step.SessionStep.{SessionStep}
use Rattle.base.specs.declared.step.SessionStep.TheVariants.{Begin, Get, Scan, Put, Delete, Draw, Stamp, Poll, Abort, End}
use Rattle.command_line.specs.Numbers.{Text, number_below}
use Rattle.command_line.specs.Rows.{row_of}
use Rattle.command_line.specs.declared.command.Command.{Command}
use Rattle.command_line.specs.declared.command.Command.TheVariants.{Step, LongRow, Commit, Collect, Cycle, Crash}
use Rattle.command_line.specs.declared.command.Survivor.TheVariants.{Oldest, Newest}

-- the texts behind references
abbrev pub texts : List (Bor Text) → List Text
texts = map (λ s. s.now)

-- the word is this one
abbrev pub is_word : Text → Text → Bool
is_word = bytes_eq

-- what is between the spaces of a line
abbrev pub words_of : Text → List Text
words_of line = filter (λ word. not (length word == 0)) (slice_split (λ byte. byte == 32) line)

-- a table and a number in it
abbrev pub key_of : Text → Text → Option Key
key_of table key =
    option_and_then (λ t. option_map (λ k. record { table = t; key = k }) (number_below (2 ^ 64) key)) (number_below (2 ^ 16) table)

-- `begin` or `cycle`
abbrev pub bare_command : Text → Option Command
bare_command name =
    if is_word name (codes "begin") then Some (Step Begin)
    else if is_word name (codes "cycle") then Some Cycle
    else None

-- `draw`, `stamp`, `poll`, `abort` or `end` of a session
abbrev pub session_step : Text → ℕ → Option SessionStep
session_step name session =
    if is_word name (codes "draw") then Some (Draw session)
    else if is_word name (codes "stamp") then Some (Stamp session)
    else if is_word name (codes "poll") then Some (Poll session)
    else if is_word name (codes "abort") then Some (Abort session)
    else if is_word name (codes "end") then Some (End session)
    else None

-- a number that is at least 1
abbrev pub count_of : Text → Option ℕ
count_of word = option_and_then (λ n. if n == 0 then None else Some n) (number_below (2 ^ 64) word)

-- a crash that keeps the oldest or the newest
abbrev pub crash_of : Text → Option Command
crash_of keeps =
    if is_word keeps (codes "oldest") then Some (Crash Oldest)
    else if is_word keeps (codes "newest") then Some (Crash Newest)
    else None

-- a command with one word after its name
abbrev pub one_word_command : Text → Text → Option Command
one_word_command name word =
    if is_word name (codes "commit") then option_map Commit (count_of word)
    else if is_word name (codes "collect") then option_map Collect (count_of word)
    else if is_word name (codes "crash") then crash_of word
    else option_map Step (option_and_then (session_step name) (number_below (2 ^ 8) word))

-- `get` or `delete` of a session and a key
abbrev pub key_step : Text → ℕ → Key → Option SessionStep
key_step name session key =
    if is_word name (codes "get") then Some (Get session key)
    else if is_word name (codes "delete") then Some (Delete session key)
    else None

-- the same, of a session, a table and a key that are spelled
abbrev pub spelled_key_step : Text → Text → Text → Text → Option SessionStep
spelled_key_step name session table key =
    option_and_then (λ s. option_and_then (key_step name s) (key_of table key)) (number_below (2 ^ 8) session)

-- a put of this row. One that is longer than any row may be makes no step
abbrev pub put_of : ℕ → Key → List ℕ → Command
put_of session key row = if nat_le (length row) 480 then Step (Put session key row) else LongRow

-- `put` of a session, a table, a key and a row
abbrev pub put_command : Text → Text → Text → Text → Text → Option Command
put_command name session table key row =
    if is_word name (codes "put")
    then option_and_then (λ s. option_and_then (λ k. option_map (put_of s k) (row_of row)) (key_of table key)) (number_below (2 ^ 8) session)
    else None

-- `scan` of a session, a table and the first and the last key of a range
abbrev pub scan_step : Text → Text → Text → Text → Option SessionStep
scan_step session table lo hi =
    option_and_then (λ s. option_and_then (λ t. option_and_then (λ l. option_map (Scan s t l) (number_below (2 ^ 64) hi)) (number_below (2 ^ 64) lo)) (number_below (2 ^ 16) table)) (number_below (2 ^ 8) session)

-- a command with four words after its name
abbrev pub four_word_command : Text → Text → Text → Text → Text → Option Command
four_word_command name session table key last =
    if is_word name (codes "scan") then option_map Step (scan_step session table key last)
    else put_command name session table key last

-- the command that some words spell, if they spell one
abbrev pub command_of : List Text → Option Command
command_of [] = None
command_of (name ∷ []) = bare_command name
command_of (name ∷ word ∷ []) = one_word_command name word
command_of (name ∷ a ∷ b ∷ []) = None
command_of (name ∷ session ∷ table ∷ key ∷ []) = option_map Step (spelled_key_step name session table key)
command_of (name ∷ session ∷ table ∷ key ∷ last ∷ []) = four_word_command name session table key last
command_of (name ∷ a ∷ b ∷ c ∷ d ∷ e ∷ more) = None

-- there is a space before the first word or after the last
abbrev pub has_outer_space : Text → Bool
has_outer_space line = slice_index line 0 == 32 || slice_index line (length line - 1) == 32

-- the line is empty or begins with `#`
abbrev pub is_skipped : Text → Bool
is_skipped line = length line == 0 || slice_index line 0 == 35

-- What a line is read as: `None` if it isn't a command, `Some None` if it is skipped.
-- Excluded: a command with a word too few or too many.
abbrev pub line_of : Text → Option (Option Command)
line_of line =
    if is_skipped line then Some None
    else if has_outer_space line then None
    else option_map (λ command. Some command) (command_of (words_of line))

-- the command is a put
abbrev pub IsPut : Option Command → Type 0
IsPut read = (session : ℕ) × (key : Key) × (row : List ℕ) × (read ≡ Some (put_of session key row))

-- the line spells a put
abbrev pub SpellsPut : Text → Type 0
SpellsPut line = (session : ℕ) × (key : Key) × (row : List ℕ) × (line_of line ≡ Some (Some (put_of session key row)))

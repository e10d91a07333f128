-- What a script of lives spells, and which line of it is wrong.
use Rattle.std.specs.Prelude.{◌≡◌, ◌≢◌, ◌⊎◌, ℕ, ◌+◌, ◌-◌, ◌^◌, min, Bool, true, false, List, [], ◌∷◌, ◌++◌, length, map, codes, ◌==◌, Option, Some, None, option_map, option_and_then, unwrap_or, if◌then◌else◌, ⊤}
use Rattle.std.specs.List.{flat_map, slice_split}
use Rattle.std.specs.Option.{option_to_list}
use Rattle.base.specs.Layout.{Layout, is_in_limits, layout_with, plain_version}
use Rattle.base.specs.declared.key.Key.{Key}
use Rattle.command_line.specs.Lines.{command_of, has_outer_space, is_skipped, is_word, put_of, words_of}
use Rattle.command_line.specs.Numbers.{Text, number_below}
use Rattle.command_line.specs.declared.command.Command.{Command}
use Rattle.command_line.specs.declared.command.Command.TheVariants as command
use Rattle.command_line.specs.declared.command.Survivor.{Survivor}
use Rattle.command_line.specs.declared.command.Survivor.TheVariants.{Oldest, Newest}
use Rattle.command_line.specs.declared.script.Draft.{Draft}
use Rattle.command_line.specs.declared.script.ScriptFault.{ScriptFault}
use Rattle.command_line.specs.declared.script.ScriptFault.TheVariants.{WrongLine, BadGeometry, OutOfMemory}
use Rattle.command_line.specs.declared.script.ScriptLife.{ScriptLife}
use Rattle.command_line.specs.declared.script_line.ScriptLine.{ScriptLine}
use Rattle.command_line.specs.declared.script_line.ScriptLine.TheVariants as line

-- ---- one line

-- a command is a line of a script, except `cycle` and `crash`
abbrev pub line_of_command : Command → Option ScriptLine
line_of_command command.Cycle = None
line_of_command (command.Crash keeps) = None
line_of_command c = Some (line.Command c)

-- some words spell a command in this way
abbrev pub command_line_of : List Text → Option ScriptLine
command_line_of words = option_and_then line_of_command (command_of words)

-- a fuse: a number of operations, or `-` for none
abbrev pub fuse_of : Text → Option (Option ℕ)
fuse_of word = if is_word word (codes "-") then Some None else option_map (λ n. Some n) (number_below (2 ^ 64) word)

-- what a stop keeps
abbrev pub survivor_of : Text → Option Survivor
survivor_of word =
    if is_word word (codes "oldest") then Some Oldest
    else if is_word word (codes "newest") then Some Newest
    else None

-- the beginning of a life, by its fuse and by what its stop keeps
abbrev pub life_line : Text → Text → Option ScriptLine
life_line fuse keeps = option_and_then (λ f. option_map (line.Life f) (survivor_of keeps)) (fuse_of fuse)

-- the numbers of an image
abbrev pub geometry_line : Text → Text → Text → Option ScriptLine
geometry_line slots places window =
    option_and_then (λ s. option_and_then (λ p. option_map (line.Geometry s p) (number_below (2 ^ 64) window)) (number_below (2 ^ 64) places)) (number_below (2 ^ 64) slots)

-- the line of a name and what follows it, if the name is one that no command has. `None` stands for another name, and `Some None` for words that are
-- wrong after this one
abbrev pub close_line : Text → Option (Option ScriptLine)
close_line name = if is_word name (codes "close") then Some (Some line.Close) else None

-- `life` with a fuse and what its stop keeps, if this is the name
abbrev pub named_life : Text → Text → Text → Option (Option ScriptLine)
named_life name fuse keeps = if is_word name (codes "life") then Some (life_line fuse keeps) else None

-- `geometry` with its numbers, if this is the name
abbrev pub named_geometry : Text → Text → Text → Text → Option (Option ScriptLine)
named_geometry name slots places window = if is_word name (codes "geometry") then Some (geometry_line slots places window) else None

-- a line that only scripts have, by its words
abbrev pub own_line : List Text → Option (Option ScriptLine)
own_line [] = None
own_line (name ∷ []) = close_line name
own_line (name ∷ a ∷ []) = None
own_line (name ∷ fuse ∷ keeps ∷ []) = named_life name fuse keeps
own_line (name ∷ slots ∷ places ∷ window ∷ []) = named_geometry name slots places window
own_line (name ∷ a ∷ b ∷ c ∷ d ∷ more) = None

-- the line that some words spell, if they spell one
abbrev pub line_of_words : List Text → Option ScriptLine
line_of_words words = unwrap_or (own_line words) (command_line_of words)

-- what a line is read as: `None` if it isn't a line of a script, `Some None` if it is skipped
abbrev pub script_line_of : Text → Option (Option ScriptLine)
script_line_of text =
    if is_skipped text then Some None
    else if has_outer_space text then None
    else option_map (λ read. Some read) (line_of_words (words_of text))

-- the line is a put
abbrev pub IsScriptPut : Option ScriptLine → Type 0
IsScriptPut read = (session : ℕ) × (key : Key) × (row : List ℕ) × (read ≡ Some (line.Command (put_of session key row)))

-- the text spells a put
abbrev pub SpellsScriptPut : Text → Type 0
SpellsScriptPut text = (session : ℕ) × (key : Key) × (row : List ℕ) × (script_line_of text ≡ Some (Some (line.Command (put_of session key row))))

-- ---- the whole

-- what is between the line feeds of a text
abbrev pub script_lines : Text → List Text
script_lines = slice_split (λ byte. byte == 10)

-- the texts are read as these lines, without those that are skipped
abbrev pub AreReadAs : List Text → List ScriptLine → Type 0
AreReadAs written lines = (each : List (Option ScriptLine)) × (map script_line_of written ≡ map (λ read. Some read) each) × (lines ≡ flat_map option_to_list each)

-- the closing line, if it is asked for
abbrev pub closing : Bool → List ScriptLine
closing true = line.Close ∷ []
closing false = []

-- the lines of a life: its beginning, its commands, and perhaps its closing
abbrev pub lines_of_life : ScriptLife → List ScriptLine
lines_of_life life = line.Life life.fuse life.keeps ∷ (map (λ c. line.Command c) life.commands.items ++ closing life.closes)

-- the lines of a script: the numbers of the image, and those of the lives
abbrev pub lines_with : ℕ → ℕ → ℕ → List ScriptLife → List ScriptLine
lines_with slots places window lives = line.Geometry slots places window ∷ flat_map lines_of_life lives

-- the same on an image of this layout
abbrev pub lines_of : Layout → List ScriptLife → List ScriptLine
lines_of layout lives = lines_with layout.slots layout.places layout.window lives

-- The text spells these lives from a fresh image of this layout on.
-- Excluded: a line that is left out or read twice.
pub record SpellsScript (text : Text) (layout : Layout) (lives : List ScriptLife) : Type 0 where
  pub lines : AreReadAs (script_lines text) (lines_of layout lives)
  pub newest : layout.version ≡ plain_version

-- ---- a line that is wrong

-- the line has the numbers of the image
abbrev pub is_geometry : ScriptLine → Bool
is_geometry (line.Geometry slots places window) = true
is_geometry _ = false

-- the line is within a life
abbrev pub is_within_life : ScriptLine → Bool
is_within_life (line.Command c) = true
is_within_life line.Close = true
is_within_life _ = false

-- a life goes on after this line
abbrev pub leaves_life_open : ScriptLine → Bool
leaves_life_open (line.Life fuse keeps) = true
leaves_life_open (line.Command c) = true
leaves_life_open _ = false

-- The line can't come after these: the geometry is the first line and no other, and what belongs to a life comes after its beginning and before its
-- close
abbrev pub IsOutOfPlace : List ScriptLine → ScriptLine → Type 0
IsOutOfPlace before one =
    ((before ≡ []) × (is_geometry one ≡ false))
    ⊎ ((before ≢ []) × (is_geometry one ≡ true))
    ⊎ ((is_within_life one ≡ true) × (earlier : List ScriptLine) × (last : ScriptLine) × (before ≡ earlier ++ last ∷ []) × (leaves_life_open last ≡ false))

-- after these lines the text isn't a line of a script, or spells one that is out of place
abbrev pub IsWrongAfter : List ScriptLine → Text → Type 0
IsWrongAfter before text = (script_line_of text ≡ None) ⊎ ((one : ScriptLine) × (script_line_of text ≡ Some (Some one)) × IsOutOfPlace before one)

-- the lines are a beginning of a script, whatever its numbers of the image are: none, or those numbers and the lines of lives
abbrev pub BeginScript : List ScriptLine → Type 0
BeginScript lines =
    (lines ≡ []) ⊎ ((slots : ℕ) × (places : ℕ) × (window : ℕ) × (lives : List ScriptLife) × (lines ≡ lines_with slots places window lives))

-- The line of this number is wrong, and it is the first: the lines before it are a beginning of a script. Numbers begin at 1, and
-- one past the greatest that can be printed is printed as that one
pub record IsFirstWrongLine (text : Text) (number : ℕ) : Type 0 where
  pub before : List Text
  pub line : Text
  pub later : List Text
  pub stands : script_lines text ≡ before ++ line ∷ later
  pub read : List ScriptLine
  pub reads : AreReadAs before read
  pub good : BeginScript read
  pub wrong : IsWrongAfter read line
  pub counted : number ≡ min (length before + 1) (2 ^ 64 - 1)

-- The line of this number is the first wrong one; or all lines are skipped, and then it is the first.
-- Excluded: a later wrong line named.
abbrev pub IsWrongLine : Text → ℕ → Type 0
IsWrongLine text number = IsFirstWrongLine text number ⊎ (AreReadAs (script_lines text) [] × (number ≡ 1))

-- no line of the text is wrong, but the numbers of the image are out of their limits
pub record HasBadGeometry (text : Text) : Type 0 where
  pub slots : ℕ
  pub places : ℕ
  pub window : ℕ
  pub lives : List ScriptLife
  pub lines : AreReadAs (script_lines text) (lines_with slots places window lives)
  pub outside : is_in_limits (layout_with plain_version slots places window) ≡ false

-- ---- why a text isn't a script

-- this of the number of the line, if a line is wrong
abbrev pub IfWrongLine : (ℕ → Type 0) → ScriptFault → Type 0
IfWrongLine P (WrongLine number) = P number
IfWrongLine P BadGeometry = ⊤
IfWrongLine P OutOfMemory = ⊤

-- this, if the geometry is out of its limits
abbrev pub IfBadGeometry : Type 0 → ScriptFault → Type 0
IfBadGeometry P (WrongLine number) = ⊤
IfBadGeometry P BadGeometry = P
IfBadGeometry P OutOfMemory = ⊤

-- ---- a script that is being read

-- the lines of a draft
abbrev pub lines_in : Draft → List ScriptLine
lines_in draft = lines_with draft.slots draft.places draft.window draft.lives.items

-- the lines that were read
abbrev pub lines_so_far : Option Draft → List ScriptLine
lines_so_far None = []
lines_so_far (Some draft) = lines_in draft

-- the text is read as one line more, or as none
abbrev pub TakesLine : Option Draft → Text → Option Draft → Type 0
TakesLine old text now = (read : Option ScriptLine) × (script_line_of text ≡ Some read) × (lines_so_far now ≡ lines_so_far old ++ option_to_list read)

-- no life is open: there is none, or the last one has its close
abbrev pub IsShut : List ScriptLife → Type 0
IsShut lives = (lives ≡ []) ⊎ ((earlier : List ScriptLife) × (life : ScriptLife) × (lives ≡ earlier ++ life ∷ []) × (life.closes ≡ true))

-- the line can't come after these lives
abbrev pub IsNoLineOf : List ScriptLife → ScriptLine → Type 0
IsNoLineOf lives one = (is_geometry one ≡ true) ⊎ ((is_within_life one ≡ true) × IsShut lives)

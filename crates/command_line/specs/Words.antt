-- What the words of the command line ask for, by what the statements of clap say that it finds in them.
use Rattle.std.specs.Prelude.{◌≡◌, ℕ, ◌^◌, ◌≤◌, List, [], Bool, true, false, nat_le, not, Option, Some, None, IsSomeAnd, option_and_then, codes, if◌then◌else◌}
use Rattle.std.specs.Str.Parse.{starts_with_minus}
use Rattle.base.specs.Layout.{Layout, is_in_limits, large_version, layout_with, plain_version, wide_version}
use Rattle.clap.specs.Words.{Row, fault_of, first_of, one_of, subcommand_of}
use Rattle.command_line.specs.Help.{wbl}
use Rattle.command_line.specs.Numbers.{Text, number_below}
use Rattle.command_line.specs.declared.orders.Order.{Order}
use Rattle.command_line.specs.declared.orders.Order.TheVariants.{Format, Run, Check, Lives, Threads}
use Rattle.command_line.specs.declared.orders.Width.{Width}
use Rattle.command_line.specs.declared.orders.Width.TheVariants.{Plain, Wide, Lines}

-- The version that a format asks for: version 4 if it says how many lines a slot has, or has more slots than version 2 may have.
-- Excluded: wide slots that make a large image.
abbrev pub asked_version : Width → ℕ → ℕ
asked_version Plain slots = if nat_le slots 65536 then plain_version else large_version 1
asked_version Wide slots = wide_version
asked_version (Lines lines) slots = large_version lines

-- the layout that it asks for
abbrev pub asked_layout : Width → ℕ → ℕ → ℕ → Layout
asked_layout width slots places window = layout_with (asked_version width slots) slots places window

-- ---- the values that clap finds for the arguments of a subcommand

-- the text is a file's name: it doesn't begin with '-'
abbrev pub is_file_name : Text → Bool
is_file_name text = not (starts_with_minus text)

-- the argument is this file's name
abbrev pub HasFile : List Row → Text → Text → Type 0
HasFile found argument name = (first_of argument found ≡ Some name) × (is_file_name name ≡ true)

-- the number that is written for the option, or else is its default
abbrev pub number_in : List Row → Text → Option ℕ
number_in found option = option_and_then (number_below (2 ^ 64)) (first_of option found)

-- the option without a value is given, or isn't
abbrev pub HasFlag : List Row → Text → Bool → Type 0
HasFlag found option given = one_of option found ≡ Some (if given then codes "true" else codes "false")

-- The width of slots that the options ask for: one of `--wide` and `--lines`, or neither.
-- Excluded: a width for words that have both; the number of `--lines` taken as missing because it is unusual.
abbrev pub HasWidth : List Row → Width → Type 0
HasWidth found Plain = HasFlag found (codes "wide") false × (first_of (codes "lines") found ≡ None)
HasWidth found Wide = HasFlag found (codes "wide") true × (first_of (codes "lines") found ≡ None)
HasWidth found (Lines lines) = HasFlag found (codes "wide") false × (number_in found (codes "lines") ≡ Some lines)

-- ---- orders

-- the file, the width and the numbers of a format, within the limits of a layout
pub record FindsFormat (found : List Row) (name : Text) (width : Width) (slots places window : ℕ) : Type 0 where
  pub file_named : HasFile found (codes "FILE") name
  pub width_asked : HasWidth found width
  pub slots_given : number_in found (codes "slots") ≡ Some slots
  pub places_given : number_in found (codes "places") ≡ Some places
  pub window_given : number_in found (codes "window") ≡ Some window
  pub limits : is_in_limits (asked_layout width slots places window) ≡ true

-- the file and the numbers of the threads, within their limits
pub record FindsThreads (found : List Row) (name : Text) (sessions commits : ℕ) : Type 0 where
  pub file_named : HasFile found (codes "FILE") name
  pub sessions_given : number_in found (codes "sessions") ≡ Some sessions
  pub commits_given : number_in found (codes "commits") ≡ Some commits
  pub sessions_limits : (1 ≤ sessions) × (sessions ≤ 32)
  pub commits_limits : (1 ≤ commits) × (commits ≤ 1000)

-- the subcommand of an order
abbrev pub name_of : Order → Text
name_of (Format name width slots places window) = codes "format"
name_of (Run name) = codes "run"
name_of (Check name) = codes "check"
name_of (Lives name) = codes "lives"
name_of (Threads name sessions commits) = codes "threads"

-- the arguments of its subcommand give the rest of this order
abbrev pub FindsRest : List Row → Order → Type 0
FindsRest found (Format name width slots places window) = FindsFormat found name.now width slots places window
FindsRest found (Run name) = HasFile found (codes "FILE") name.now
FindsRest found (Check name) = HasFile found (codes "FILE") name.now
FindsRest found (Lives name) = HasFile found (codes "SCRIPT") name.now
FindsRest found (Threads name sessions commits) = FindsThreads found name.now sessions commits

-- the subcommand of this name, with these arguments, gives this order
abbrev pub FindsOrder : Text → List Row → Order → Type 0
FindsOrder subcommand found order = (name_of order ≡ subcommand) × FindsRest found order

-- it gives no order
abbrev pub FindsNothing : Text → List Row → Type 0
FindsNothing subcommand found = (order : Order) → FindsOrder subcommand found order → ⊥

-- the subcommand that clap found, if it found one, gives this order
abbrev pub FindsIn : Option (Text × List Row) → Order → Type 0
FindsIn found order = IsSomeAnd found (λ subcommand. FindsOrder subcommand.0 subcommand.1 order)

-- Clap takes the words, and the subcommand that it finds in them gives this order.
-- Excluded: help that was asked for, or an option, taken as the name of a file; a second file; an option that is given twice, that the
-- order leaves out, or that is another subcommand's.
abbrev pub Gives : List Text → Order → Type 0
Gives words order = (fault_of wbl words ≡ []) × FindsIn (subcommand_of wbl words) order

-- the words give no order
abbrev pub GivesNothing : List Text → Type 0
GivesNothing words = (order : Order) → Gives words order → ⊥

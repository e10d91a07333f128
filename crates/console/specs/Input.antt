-- Which lines of the input a life runs.
use Rattle.std.specs.Prelude.{◌≡◌, List, [], ◌∷◌, ◌++◌, reverse, ◌==◌, if◌then◌else◌, Option, Some, None, IfSome}
use Rattle.std.specs.List.{onto_first}
use Rattle.command_line.specs.Numbers.{Text}
use Rattle.command_line.specs.declared.command.Survivor.{Survivor}

-- the lines of a text: a line feed ends each, but what follows the last line feed is a line too, if it isn't empty
abbrev pub lines_in : Text → List Text
lines_in [] = []
lines_in (byte ∷ rest) = if byte == 10 then [] ∷ lines_in rest else onto_first byte (lines_in rest)

-- lines that are written down, each with a line feed after it
abbrev pub written : List Text → Text
written [] = []
written (line ∷ rest) = line ++ 10 ∷ written rest

-- those that are read of these, a list that begins with the last: all, or those up to a crash
abbrev pub AreRead : List Text → List Text → Option Survivor → Type 0
AreRead lines read None = lines ≡ reverse read
AreRead lines read (Some keeps) = (unread : List Text) × (lines ≡ reverse read ++ unread)

-- the same of the bytes that a reader has left, if these are known
abbrev pub Reads : Option Text → List Text → Option Survivor → Type 0
Reads input read keeps = IfSome input (λ text. AreRead (lines_in text) read keeps)

-- the lines are the first of the input, the last one of them first, if its bytes are known
abbrev pub BeginsWith : Option Text → List Text → Type 0
BeginsWith input read = IfSome input (λ text. (unread : List Text) × (lines_in text ≡ reverse read ++ unread))

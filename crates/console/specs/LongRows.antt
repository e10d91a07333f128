-- Which rows are too long for any image of versions 1 to 3, or of version 4, and what a put of one asks for.
use Rattle.std.specs.Prelude.{ℕ, length, nat_le, if◌then◌else◌}
use Rattle.base.specs.declared.step.SessionStep.TheVariants.{Put}
use Rattle.base.specs.Layout.{is_large}
use Rattle.command_line.specs.declared.command.Command.{Command}
use Rattle.command_line.specs.declared.command.Command.TheVariants.{Step, LongRow}

-- how many bytes the longest row has in images of versions 1 to 3, or in those of version 4: what their widest slots hold
abbrev pub most_bytes : ℕ → ℕ
most_bytes version = if is_large version then 480 else 96

-- What a command asks for on an image of this version. A put of a row longer than that makes no step.
-- Excluded: such a put that is refused for its session first; a put of a shorter row that isn't left to the step.
abbrev pub command_on : ℕ → Command → Command
command_on version (Step (Put session key row)) = if nat_le (length row) (most_bytes version) then Step (Put session key row) else LongRow
command_on version command = command

use Rattle.std.proofs.Common.{◌≡◌, take}
use Rattle.std.specs.String.{string_bytes}
use Rattle.command_line.specs.Texts.{entries_text}
use Rattle.command_line.proofs.printed.rows_text.Given as goal

abbrev pub invariant-loop-key : goal.invariant-loop-key
invariant-loop-key l = string_bytes l.lines ≡ entries_text (take l.key-index l.rows)

use Rattle.std.proofs.Common.{take}
use Rattle.std.specs.Io.KnownBytes.{Appends}
use Rattle.command_line.specs.Texts.{entries_text}
use Rattle.console.proofs.checking.show_rows.Given as goal

abbrev pub invariant-loop-key : goal.invariant-loop-key
invariant-loop-key g l = Appends (g.W.Write.contents l.initial.output) (g.W.Write.contents l.output) (entries_text (take l.key-index l.rows))

use Rattle.std.proofs.Common.{◌≡◌}
use Rattle.journal.specs.LinePayloads.{lines_of}
use Rattle.journal.proofs.file_image.listed.Given as goal

abbrev pub invariant-loop-at : goal.invariant-loop-at
invariant-loop-at l = l.lines.items ≡ lines_of l.at l.fn.payloads

use Rattle.std.proofs.Common.{◌≡◌, ◌*◌, ◌∷◌, length, take}
use Rattle.journal.specs.Entries.{marked, marks}
use Rattle.journal.specs.LinePayloads.{payloads_of_lines}
use Rattle.journal.proofs.line.put_entry.Given as goal

abbrev pub invariant-loop-line : goal.invariant-loop-line
invariant-loop-line l = l.words.items ≡ marked l.fn.pass (9 * length l.fn.lines) ∷ marks l.fn.pass (payloads_of_lines (take l.line-index l.fn.lines))

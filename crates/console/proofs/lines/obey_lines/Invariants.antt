use Rattle.std.proofs.Common.{◌≡◌, ◌-◌, ◌^◌, List, None, length}
use Rattle.std.specs.Prelude.{All, min}
use Rattle.std.specs.Io.Buffered.{reader_remaining}
use Rattle.std.specs.Io.Iter.{split_byte, split_known_bytes}
use Rattle.std.specs.Io.KnownBytes.{Appends}
use Rattle.command_line.specs.Numbers.{Text}
use Rattle.console.specs.BadLine.{IsPassed}
use Rattle.console.specs.Kept.{LeadsBy}
use Rattle.console.specs.Obeyed.{ObeysLines}
use Rattle.console.proofs.Input.{Reading}
use Rattle.console.proofs.lines.obey_lines.Given as goal

abbrev pub invariant-loop-line : goal.invariant-loop-line
invariant-loop-line g l = (split_byte l.line-iterator ≡ 10) × (lines : List Text)
    × Reading (g.R.Read.remaining l.fn.input) lines (split_known_bytes (reader_remaining (λ r. g.R.Read.remaining r.now)) l.line-iterator)
    × (said : Text) × Appends (g.W.Write.contents l.fn.output) (g.W.Write.contents l.output) said
    × LeadsBy g.D.Pmem.state l.fn.room l.room (λ q q'. ObeysLines q lines said None q')
    × All IsPassed lines × (l.number ≡ min (length lines) (2 ^ 64 - 1))

use Rattle.std.proofs.Common.{◌≡◌, ◌-◌, ◌^◌, length}
use Rattle.std.specs.Prelude.{min}
use Rattle.command_line.specs.Lines.{texts}
use Rattle.command_line.specs.Scripts.{AreReadAs, lines_so_far}
use Rattle.command_line.proofs.script.read_script.Given as goal

-- the lines so far are read
abbrev pub invariant-loop-line : goal.invariant-loop-line
invariant-loop-line l = AreReadAs (texts l.yielded) (lines_so_far l.draft) × (l.number ≡ min (length l.yielded) (2 ^ 64 - 1))

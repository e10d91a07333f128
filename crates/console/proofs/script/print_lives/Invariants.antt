use Rattle.std.proofs.Common.{◌≡◌, ◌+◌, ◌++◌, drop}
use Rattle.std.specs.Io.KnownBytes.{Appends}
use Rattle.command_line.specs.Numbers.{Text}
use Rattle.console.specs.Scripts.{lives_text}
use Rattle.console.proofs.script.print_lives.Given as goal

-- what is printed so far, and the lines of the lives that are left
abbrev pub invariant-loop-index : goal.invariant-loop-index
invariant-loop-index g l = (said : Text) × Appends (g.W.Write.contents l.initial.output) (g.W.Write.contents l.output) said
    × (said ++ lives_text (l.index + 1) (drop l.index l.reports) ≡ lives_text 1 l.reports)

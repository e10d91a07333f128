use Rattle.std.proofs.Common.{◌≡◌, map, take}
use Rattle.console.specs.Scripts.{repeated_of}
use Rattle.console.proofs.script.asked_life.Given as goal

abbrev pub invariant-loop-command : goal.invariant-loop-command
invariant-loop-command l = l.steps.items ≡ map (repeated_of l.geometry) (take l.command-index l.command-items)

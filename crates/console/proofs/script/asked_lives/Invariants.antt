use Rattle.std.proofs.Common.{◌≡◌, map, take}
use Rattle.console.specs.Scripts.{asked_by, asked_of}
use Rattle.console.proofs.script.asked_lives.Given as goal

abbrev pub invariant-loop-life : goal.invariant-loop-life
invariant-loop-life l = map asked_of l.asked.items ≡ map (asked_by l.geometry) (take l.life-index l.lives)

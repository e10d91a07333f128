use Rattle.std.proofs.Common.{◌≡◌, ◌+◌, ◌-◌, ◌<◌, ◌^◌, drop}
use Rattle.journal.specs.LinePayloads.{packed}
use Rattle.journal.proofs.line.packed.Given as goal

abbrev pub invariant-loop-place : goal.invariant-loop-place
invariant-loop-place l = record {
  is : l.rest ≡ packed l.fn.line.number (drop (8 - l.place) l.fn.line.words);
  small : l.rest < 2 ^ (55 + l.place);
}

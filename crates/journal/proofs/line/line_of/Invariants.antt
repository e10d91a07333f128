use Rattle.std.proofs.Common.{◌≡◌, ◌++◌, take, drop, length, get_or}
use Rattle.journal.specs.LinePayloads.{joined, number_in}
use Rattle.journal.proofs.line.line_of.Given as goal

abbrev pub invariant-loop-place : goal.invariant-loop-place
invariant-loop-place l = record {
  size : length l.words ≡ 8;
  words : take l.place l.words ++ joined (drop l.place (take 8 l.fn.payloads)) l.rest ≡ joined (take 8 l.fn.payloads) (get_or l.fn.payloads 8 0);
  number : number_in (drop l.place (take 8 l.fn.payloads)) l.rest ≡ number_in (take 8 l.fn.payloads) (get_or l.fn.payloads 8 0);
}

use Rattle.std.proofs.Common.{arith}
use Rattle.std.proofs.lemmas.Bool.{lt-ltb}
use Rattle.std.proofs.lemmas.Bool.Decides.{nat_tests}
use Rattle.board.proofs.Covers.{in_due}
use Rattle.board.proofs.fitting.is_due.Goals as goal

pub returns-then-before-timestamp : goal.returns-then-before-timestamp
returns-then-before-timestamp c = grind (arith, in_due, lt-ltb)

pub returns-else-before-timestamp : goal.returns-else-before-timestamp
returns-else-before-timestamp c = grind (arith, nat_tests, in_due)

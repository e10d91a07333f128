use Rattle.std.proofs.Common.{◌≡◌, true, take}
use Rattle.std.specs.List.{list_all}
use Rattle.board.specs.Lists.{is_among, due}
use Rattle.board.proofs.fitting.are_due.Given as goal

abbrev pub invariant-loop-long : goal.invariant-loop-long
invariant-loop-long l = list_all (is_among (due l.left l.before l.upto)) (take l.long-index l.longs) ≡ true

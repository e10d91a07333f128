use Rattle.std.proofs.Common.{ap, ◌∙◌, suc, take, drop, ◌++◌, filter}
use Rattle.board.specs.Due.{stay}
use Rattle.board.proofs.Due.{rest_of}
use Rattle.board.proofs.fitting.after_left.Goals as goal

pub returns-in-None-clause-none : goal.returns-in-None-clause-none
returns-in-None-clause-none c rest all =
    let left = c.args.left.now in
    let i = c.loop-timestamp.timestamp-index in
    c.in-None.ensures.none (take i left) (drop (suc i) left ++ rest) c.loop-timestamp.invariant.1
    (all ∙ ap (filter (stay c.args.longs.now)) (rest_of left rest i _ c.loop-timestamp-test.true))

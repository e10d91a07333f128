use Rattle.std.proofs.Common.{◌≡◌, ◌+◌, ◌-◌, ◌++◌, ◌∙◌, ap, filter, arith}
use Rattle.std.specs.List.{range_with_len}
use Rattle.board.specs.Due.{stay}
use Rattle.board.proofs.Due.{range_rest, range_one}
use Rattle.board.proofs.fitting.after_range.Goals as goal

pub returns-in-None-clause-none : goal.returns-in-None-clause-none
returns-in-None-clause-none c met meets all =
    let a = c.args.before + 1 in
    let k = c.loop-timestamp.timestamp - c.args.before in
    let low = c.loop-timestamp.auto.timestamp in
    let at : a + k ≡ c.loop-timestamp.timestamp + 1 = omega (arith, low) in
    c.in-None.ensures.none (met ++ range_with_len a k) (range_with_len (c.loop-timestamp.timestamp + 1 + 1) (c.args.upto - c.args.before - k - 1)) (c.loop-timestamp.invariant.1 met meets)
    (all ∙ ap (filter (stay c.args.longs.now)) (range_rest met a k (c.loop-timestamp.timestamp + 1) (c.args.upto - c.args.before) at (omega (arith, low, c.loop-timestamp-test.true))))

pub loop-timestamp-preserved : goal.loop-timestamp-preserved
loop-timestamp-preserved c = grind (arith, range_one)

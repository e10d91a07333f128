use Rattle.std.proofs.Common.{◌≡◌, arith}
use Rattle.base.specs.Layout.{version_lines}
use Rattle.session_steps.proofs.TouchedLines.{touches-next, touches-own}
use Rattle.session_steps.proofs.touching.touch_own.Goals as goal

pub loop-part-preserved : goal.loop-part-preserved
loop-part-preserved c =
    touches-next c.args.session c.slot_line-first.result c.loop-part.part c.args.dirty.now c.loop-part.dirty c.touch.new.self c.loop-part.invariant c.touch.ensures

pub returns-after-loop-part : goal.returns-after-loop-part
returns-after-loop-part c =
    let all : c.loop-part.part ≡ version_lines c.args.geometry = omega (arith, c.loop-part-test.false, c.loop-part.auto.part-end, c.slot_lines-part-end.ensures.value) in
    touches-own c.args.session c.args.geometry c.args.slot c.in-Some.slot c.slot_line-first.result c.loop-part.part c.args.dirty.now c.loop-part.dirty
    c.in-Some.is c.slot_line-first.ensures.value all c.loop-part.invariant

use Rattle.std.proofs.Common.{suc, inl, inr, arith, rules}
use Rattle.base.specs.declared.step.Step.TheVariants as step
use Rattle.console.specs.Obeyed.{is_answered}
use Rattle.console.proofs.KeptHistory.{leads-step}
use Rattle.console.proofs.Obeyed.{more-ticks}
use Rattle.console.proofs.Repeating.{collects-so}
use Rattle.console.proofs.lines.collect.Goals as goal

pub loop-init : goal.loop-init
loop-init g c = (0, omega arith, omega arith, leads-step g.D.Pmem.state c.args.room.now c.step-reply.new.self step.Collect _ c.step-reply.ensures.step)

pub loop-preserved : goal.loop-preserved
loop-preserved g c =
    let before = c.loop.invariant in (
      suc before.0,
      omega (arith, before.1),
      omega (arith, before.1, before.2, c.loop-test.true),
      more-ticks g.D.Pmem.state c.args.room.now c.loop.room c.step-reply-in-loop.new.self step.Collect is_answered before.0 c.loop.reply _ (search rules) before.3 (leads-step g.D.Pmem.state c.loop.room c.step-reply-in-loop.new.self step.Collect _ c.step-reply-in-loop.ensures.step),
    )

pub returns-after-loop : goal.returns-after-loop
returns-after-loop g c =
    let made = c.loop.invariant in
    let needed = c.visits_needed-needed.ensures in
    collects-so g.D.Pmem.state c.args.room.now c.loop.room c.geometry.result c.args.visits made.0 c.loop.reply c.geometry.ensures
    (omega (arith, made.2, needed)) (inl (omega (arith, made.1, made.2, needed, c.loop-test.false))) made.3

pub returns-then-not-is_answered : goal.returns-then-not-is_answered
returns-then-not-is_answered g c =
    let made = c.loop.invariant in
    let needed = c.visits_needed-needed.ensures in
    collects-so g.D.Pmem.state c.args.room.now c.loop.room c.geometry.result c.args.visits made.0 c.loop.reply c.geometry.ensures
    (omega (arith, made.2, needed)) (inr (search rules)) made.3

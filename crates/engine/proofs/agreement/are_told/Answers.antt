use Rattle.std.proofs.Common.{refl, subst}
use Rattle.std.specs.Prelude.{Option, IfSome}
use Rattle.engine.specs.declared.halt.Halt.{Halt}
use Rattle.engine.specs.Agreement.{IsTold}
use Rattle.engine.proofs.Telling.{told-all, told-more, told-none}
use Rattle.engine.proofs.agreement.are_told.Goals as goal

pub loop-session-init : goal.loop-session-init
loop-session-init g c = told-none c.args.entries.now c.args.first c.args.sessions.now

pub loop-session-preserved : goal.loop-session-preserved
loop-session-preserved g c =
    told-more c.args.entries.now c.args.first c.args.sessions.now c.loop-session.session-index c.session-item.result c.loop-session-test.true c.session-item.is c.loop-session.invariant
    (subst (λ (o : Option Halt). IfSome o (IsTold c.args.entries.now c.args.first)) c.told.ensures.told (c.is_told.ensures.0 c.if-not-is_told.false))

pub returns : goal.returns
returns g c = (λ yes. told-all c.args.entries.now c.args.first c.args.sessions.now c.loop-session.session-index c.loop-session-test.false c.loop-session.invariant, λ all. refl)

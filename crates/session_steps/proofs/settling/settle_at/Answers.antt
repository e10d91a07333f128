use Rattle.std.proofs.Common.{◌∙◌, sym, refl}
use Rattle.session_steps.proofs.Settled.{stays-past, stays-unsettled, out-settled}
use Rattle.session_steps.proofs.settling.settle_at.Goals as goal

pub returns-in_default : goal.returns-in_default
returns-in_default c = stays-past _ c.args.place c.args.index.now c.args.index.now _ c.in_default.ensures.none refl refl

pub returns-then-not-is_settled : goal.returns-then-not-is_settled
returns-then-not-is_settled c = stays-unsettled _ c.args.place c.args.index.now c.args.index.now _ c.in-Some.key c.in-Some.entry c.in-Some.ensures.at c.in-Some.ensures.entry (sym c.is_settled.ensures ∙ c.if-not-is_settled.true) refl refl

pub returns : goal.returns
returns c = out-settled _ c.args.place c.args.index.now c.remove.new.self _ c.in-Some.key c.in-Some.entry c.in-Some.ensures.at c.in-Some.ensures.entry (sym c.is_settled.ensures ∙ c.if-not-is_settled.false) refl c.remove.ensures.entries c.remove.ensures.room

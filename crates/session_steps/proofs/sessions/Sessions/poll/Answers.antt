use Rattle.std.proofs.Common.{refl, sym, ◌∙◌, ap, rules, tests}
use Rattle.std.specs.Prelude.{Some, None}
use Rattle.session_steps.proofs.transactions.Steps.{polls-not, polls-waiting, polls-committed}
use Rattle.session_steps.proofs.sessions.Sessions.poll.Goals as goal

pub returns-in-None : goal.returns-in-None
returns-in-None c = record { step = λ h holds. polls-not c.args.self.now c.args.session _ h None (sym c.in-None.ensures.transaction) refl holds }

pub returns-in-Some-Active : goal.returns-in-Some-Active
returns-in-Some-Active c = record { step = λ h holds. polls-not c.args.self.now c.args.session _ h _ (sym c.in-Some-Active.ensures.transaction ∙ ap Some c.in-Some-Active.field-0-is) (refl, refl) holds }

pub returns-then-is_some : goal.returns-then-is_some
returns-then-is_some c = record {
  step = λ h holds. polls-waiting c.args.self.now c.args.session _ h (sym c.in-Some-Drawn.ensures.transaction ∙ ap Some c.in-Some-Drawn.field-0-is) (search (rules, tests, c.is_some.ensures, c.get-in-Some-Drawn.ensures, c.if-is_some.true)) holds;
}

pub returns-else-is_some : goal.returns-else-is_some
returns-else-is_some c = record {
  step = λ h holds. polls-committed c.args.self.now c.args.session _ h (sym c.in-Some-Drawn.ensures.transaction ∙ ap Some c.in-Some-Drawn.field-0-is) (search (rules, tests, c.is_some.ensures, c.get-in-Some-Drawn.ensures, c.if-is_some.false)) holds;
}

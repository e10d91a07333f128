use Rattle.std.proofs.Common.{sym, subst}
use Rattle.std.specs.Prelude.{IfOk}
use Rattle.answering.specs.Earned.{Commits, IsEarnedBy}
use Rattle.commands.specs.declared.command.Request.{Request}
use Rattle.answering.proofs.session.Session.answer.Goals as goal

pub returns-in-Put : goal.returns-in-Put
returns-in-Put g c = record { earned = subst (λ (request : Request). IfOk c.write.result (IsEarnedBy (Commits request))) (sym c.in-Put.is) c.write.ensures }

use Rattle.std.proofs.Common.{◌≡◌, ℕ, rules, refl, subst}
use Rattle.requests.specs.declared.answer.Answer.TheVariants.{Row, Refused}
use Rattle.serving.specs.Served.{Gets}
use Rattle.serving.proofs.Opened.{in-some}
use Rattle.serving.proofs.session.Session.get.Goals as goal

pub returns-in-Ok : goal.returns-in-Ok
returns-in-Ok g c =
    let same : c.deref.result.now.reads.session ≡ c.in-Some.transaction.snapshot.reads.session = rw c.deref.ensures refl in
    in-some _ (Gets c.args.key) c.args.self.now.current c.in-Some.transaction _ (search rules)
    (subst (λ (session : ℕ). Gets c.args.key session (Row c.in-Ok.row)) same c.in-Ok.ensures.answers)

pub returns-in-Err : goal.returns-in-Err
returns-in-Err g c =
    let same : c.deref.result.now.reads.session ≡ c.in-Some.transaction.snapshot.reads.session = rw c.deref.ensures refl in
    in-some _ (Gets c.args.key) c.args.self.now.current c.in-Some.transaction _ (search rules)
    (subst (λ (session : ℕ). Gets c.args.key session (Refused c.status_of.result c.text_of.result)) same (c.in-Err.error, c.in-Err.ensures.answers, c.status_of.ensures))

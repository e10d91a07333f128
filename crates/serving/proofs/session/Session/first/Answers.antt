use Rattle.std.proofs.Common.{◌≡◌, ℕ, rules, refl, subst}
use Rattle.requests.specs.declared.answer.Answer.TheVariants.{Rows, Refused}
use Rattle.serving.specs.Served.{ScansFirst}
use Rattle.serving.proofs.Opened.{in-some}
use Rattle.serving.proofs.session.Session.first.Goals as goal

pub returns-in-Ok : goal.returns-in-Ok
returns-in-Ok g c =
    let same : c.deref.result.now.reads.session ≡ c.in-Some.transaction.snapshot.reads.session = rw c.deref.ensures refl in
    in-some _ (ScansFirst c.args.range c.args.limit) c.args.self.now.current c.in-Some.transaction _ (search rules)
    (subst (λ (session : ℕ). ScansFirst c.args.range c.args.limit session (Rows c.in-Ok.rows)) same (c.in-Ok.ensures.ok (search rules)))

pub returns-in-Err : goal.returns-in-Err
returns-in-Err g c =
    let same : c.deref.result.now.reads.session ≡ c.in-Some.transaction.snapshot.reads.session = rw c.deref.ensures refl in
    in-some _ (ScansFirst c.args.range c.args.limit) c.args.self.now.current c.in-Some.transaction _ (search rules)
    (subst (λ (session : ℕ). ScansFirst c.args.range c.args.limit session (Refused c.status_of.result c.text_of.result)) same (c.in-Err.error, c.in-Err.ensures.err (search rules), c.status_of.ensures))

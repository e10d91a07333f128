use Rattle.std.proofs.Common.{◌∙◌, ℕ, sym, subst, Ok}
use Rattle.base.specs.declared.step.Step.TheVariants.{Begin}
use Rattle.database.specs.Obeys.{AnswersStep}
use Rattle.database.specs.Replies.{began_of}
use Rattle.database.proofs.Histories.{begun-as, begun-kept}
use Rattle.database.proofs.database.Database.begin.Goals as goal

pub new-requires : goal.new-requires
new-requires g c = record { kept = begun-kept g.J.Origin.opened c.args.self.now.is_kept c.in-Ok.session c.in-Ok.begun c.in-Ok.ensures.begun ∙ c.args.self.now.kept }

pub returns-in-Ok-clause-ok : goal.returns-in-Ok-clause-ok
returns-in-Ok-clause-ok g c = subst (λ (n : ℕ). AnswersStep Begin began_of (Ok n)) (sym c.new.ensures.session) c.in-Ok.ensures.ok

pub returns-in-Ok-clause-begun : goal.returns-in-Ok-clause-begun
returns-in-Ok-clause-begun g c =
    begun-as g.J.Origin.opened c.args.self.now.is_kept g.J.Origin.kept c.in-Ok.session c.new.result.session c.in-Ok.begun c.new.result.trace c.in-Ok.ensures.begun c.args.self.now.kept c.new.ensures.session c.new.ensures.trace

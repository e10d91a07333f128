use Rattle.std.proofs.Common.{ℕ, subst}
use Rattle.database.specs.Committing.{IsAnswered}
use Rattle.database.proofs.Errors.{answered-so, answered-if}
use Rattle.database.proofs.answers.Answers.take.Goals as goal

pub returns : goal.returns
returns g c =
    answered-if c.args.session c.args.timestamp c.in-Answered.answer.result c.answer_to.result
    (subst (λ (n : ℕ). IsAnswered n c.in-Answered.answer.result) c.if-answer-session.false
    (answered-so c.in-Answered.answer.session c.in-Answered.answer.result c.in-Answered.answer.acknowledged c.in-Answered.answer.why))
    c.answer_to.ensures.some

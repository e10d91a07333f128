use Rattle.std.proofs.Common.{refl, sym, subst}
use Rattle.engine.specs.Keeping.{KeepsSixteen}
use Rattle.engine.proofs.Publishing.{announced-left, told-batch}
use Rattle.engine.proofs.posting.post_batch.Goals as goal

pub returns-in-Done-clause-published : goal.returns-in-Done-clause-published
returns-in-Done-clause-published g c = (
  c.token.ensures,
  told-batch c.args.board.now c.post.new.self c.args.batch c.token.result c.in-Done.ensures.posts c.token.ensures,
  subst KeepsSixteen (sym c.token.ensures) (c.in-Done.ensures.keeps refl),
)

pub returns-in-None-clause-left : goal.returns-in-None-clause-left
returns-in-None-clause-left g c =
    announced-left c.args.board.now c.post.new.self c.args.batch c.in-Again.rest c.announced.result c.in-Again.ensures.posts c.in-None.is c.announced.ensures

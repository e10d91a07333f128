use Rattle.std.proofs.Common.{subst}
use Rattle.engine.specs.declared.posting.Posting.{Posting}
use Rattle.engine.specs.Posting.{Posts}
use Rattle.engine.proofs.Sixteen.{keeps-posted, sixteen-posted}
use Rattle.engine.proofs.keeping.Board.post.Goals as goal

pub invariant_of-self : goal.invariant_of-self
invariant_of-self g c = keeps-posted c.self.inside.board c.publish_and_prune.new.board c.args.left c.publish_and_prune.result c.publish_and_prune.ensures c.self.invariant

pub returns-clause-keeps : goal.returns-clause-keeps
returns-clause-keeps g c = λ done.
    let posts = subst (λ (posting : Posting). Posts c.self.inside.board c.publish_and_prune.new.board c.args.left posting) done c.publish_and_prune.ensures in
    sixteen-posted c.self.inside.board c.publish_and_prune.new.board c.args.left posts c.self.invariant

use Rattle.engine.specs.Posting.{IsLeftOf}
use Rattle.engine.proofs.posting.post.Given as goal

-- what is left is left of the batch
abbrev pub invariant-loop : goal.invariant-loop
invariant-loop g l = IsLeftOf l.fn.batch l.left

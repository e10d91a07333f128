use Rattle.std.proofs.Common.{List, replicate, sym, subst}
use Rattle.base.specs.declared.step.Step.{Step}
use Rattle.history.specs.Marks.{AreMarked}
use Rattle.history.proofs.Marks.{marked-start}
use Rattle.history.proofs.log.Log.new.Goals as goal

pub invariant_of-result : goal.invariant_of-result
invariant_of-result g c = subst (λ (l : List Step). AreMarked (replicate 64 0) l) (sym c.named-book.ensures) marked-start

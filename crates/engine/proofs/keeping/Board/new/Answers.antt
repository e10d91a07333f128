use Rattle.engine.proofs.Sixteen.{keeps-begun}
use Rattle.engine.proofs.keeping.Board.new.Goals as goal

pub invariant_of-result : goal.invariant_of-result
invariant_of-result g c = keeps-begun c.args.board c.requires.waits c.requires.floor

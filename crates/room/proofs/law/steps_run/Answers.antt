use Rattle.room.proofs.Runs.{run-none, run-more}
use Rattle.room.proofs.law.steps_run.Goals as goal

pub returns-clause-none : goal.returns-clause-none
returns-clause-none g c = λ q shown. run-none g.D.Pmem.state c.args.first.now q (g.met.D.Pmem.orderly c.args.first.now.device) shown

pub returns-clause-more : goal.returns-clause-more
returns-clause-more g c = λ step reply steps replies q q' states one more. run-more g.D.Pmem.state c.args.first.now c.args.next.now c.args.last.now step reply steps replies q q' states one more

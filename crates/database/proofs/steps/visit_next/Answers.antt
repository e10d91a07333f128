use Rattle.base.specs.declared.step.Step.TheVariants.{Collect}
use Rattle.session_steps.specs.Collecting.{as_reply as visited}
use Rattle.database.proofs.Covering.{times-then}
use Rattle.database.proofs.Histories.{quiet-join}
use Rattle.database.proofs.steps.visit_next.Goals as goal

pub returns-clause-visits : goal.returns-clause-visits
returns-clause-visits g c =
    times-then g.D.Pmem.state c.args.room.now.room c.pass-passed.new.self.room c.visit.new.self.room Collect c.pass-passed.result (visited c.visit.result) c.pass-passed.ensures.visits c.visit.ensures.step

pub returns-clause-log : goal.returns-clause-log
returns-clause-log g c = quiet-join c.args.room.now.log c.pass-passed.new.self.log c.visit.new.self.log c.pass-passed.ensures.log c.visit.ensures.log

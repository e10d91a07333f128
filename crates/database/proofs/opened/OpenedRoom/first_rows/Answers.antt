use Rattle.base.specs.declared.step.Step.TheVariants.{Scan}
use Rattle.session_steps.specs.Reads.{WouldReply, first_of}
use Rattle.room.proofs.Runs.{comes-to}
use Rattle.database.proofs.opened.OpenedRoom.first_rows.Goals as goal

pub returns-clause-comes : goal.returns-clause-comes
returns-clause-comes g c = comes-to g.D.Pmem.state c.args.self.now.room (λ q. WouldReply q (Scan c.args.session c.args.table c.args.lo c.args.hi) (first_of c.args.limit) c.first_rows.result) c.args.self.now.run c.first_rows.ensures

use Rattle.base.specs.declared.step.Step.TheVariants.{Abort}
use Rattle.database.specs.Replies.{done_of}
use Rattle.database.proofs.Runs.{answers-step}
use Rattle.database.proofs.locked.Locked.abort.Goals as goal

pub returns-clause-made : goal.returns-clause-made
returns-clause-made g c =
    answers-step g.D.Pmem.state c.in-Some.room.room c.abort.new.room.room (Abort c.args.session) done_of c.abort.result c.in-Some.room.run c.abort.ensures.step

use Rattle.std.specs.Prelude.{is_ok}
use Rattle.database.specs.Histories.{made_if}
use Rattle.base.specs.Steps.{as_reply}
use Rattle.base.specs.declared.step.Step.TheVariants.{Delete}
use Rattle.session_steps.specs.Replies.{done}
use Rattle.database.proofs.Runs.{run-led}
use Rattle.database.proofs.Readings.{reads-done}
use Rattle.database.proofs.Histories.{logged-led, made-delete}
use Rattle.database.proofs.steps.delete.Goals as goal

pub invariant_of-room : goal.invariant_of-room
invariant_of-room g c = record {
  run = run-led g.D.Pmem.state c.args.room.now.room c.delete-returned.new.self (Delete c.args.session c.args.key) (as_reply (done c.delete-returned.result)) c.args.room.now.run c.delete-returned.ensures.step;
  logged = logged-led g.D.Pmem.state g.J.Origin.opened c.args.room.now.room c.delete-returned.new.self (Delete c.args.session c.args.key) (as_reply (done c.delete-returned.result)) (made_if (is_ok c.delete-returned.result) (Delete c.args.session c.args.key)) c.args.room.now.log c.note.new.log c.args.room.now.logged c.delete-returned.ensures.step c.note.ensures (made-delete c.args.session c.args.key c.delete-returned.result);
}

pub returns-clause-step : goal.returns-clause-step
returns-clause-step g c = (as_reply (done c.delete-returned.result), c.delete-returned.ensures.step, reads-done c.delete-returned.result)

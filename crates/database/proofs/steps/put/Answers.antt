use Rattle.std.specs.Prelude.{is_ok}
use Rattle.database.specs.Histories.{made_if}
use Rattle.base.specs.Steps.{as_reply}
use Rattle.base.specs.declared.step.Step.TheVariants.{Put}
use Rattle.session_steps.specs.Replies.{done}
use Rattle.database.proofs.Runs.{run-led}
use Rattle.database.proofs.Readings.{reads-done}
use Rattle.database.proofs.Histories.{logged-led, made-put}
use Rattle.database.proofs.steps.put.Goals as goal

pub invariant_of-room : goal.invariant_of-room
invariant_of-room g c = record {
  run = run-led g.D.Pmem.state c.args.room.now.room c.put-returned.new.self (Put c.args.session c.args.key c.args.row.now) (as_reply (done c.put-returned.result)) c.args.room.now.run c.put-returned.ensures.step;
  logged = logged-led g.D.Pmem.state g.J.Origin.opened c.args.room.now.room c.put-returned.new.self (Put c.args.session c.args.key c.args.row.now) (as_reply (done c.put-returned.result)) (made_if (is_ok c.put-returned.result) (Put c.args.session c.args.key c.args.row.now)) c.args.room.now.log c.note_put.new.log c.args.room.now.logged c.put-returned.ensures.step c.note_put.ensures (made-put c.args.session c.args.key c.args.row.now c.put-returned.result);
}

pub returns-clause-step : goal.returns-clause-step
returns-clause-step g c = (as_reply (done c.put-returned.result), c.put-returned.ensures.step, reads-done c.put-returned.result)

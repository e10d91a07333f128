use Rattle.std.specs.Prelude.{is_ok}
use Rattle.database.specs.Histories.{made_if}
use Rattle.base.specs.Steps.{as_reply}
use Rattle.base.specs.declared.step.Step.TheVariants.{Stamp}
use Rattle.session_steps.specs.Replies.{stamped}
use Rattle.database.proofs.Runs.{run-led}
use Rattle.database.proofs.Readings.{reads-stamped}
use Rattle.database.proofs.Histories.{logged-led, made-stamped}
use Rattle.database.proofs.steps.stamp.Goals as goal

pub invariant_of-room : goal.invariant_of-room
invariant_of-room g c = record {
  run = run-led g.D.Pmem.state c.args.room.now.room c.stamp-returned.new.self (Stamp c.args.session) (as_reply (stamped c.stamp-returned.result)) c.args.room.now.run c.stamp-returned.ensures.step;
  logged = logged-led g.D.Pmem.state g.J.Origin.opened c.args.room.now.room c.stamp-returned.new.self (Stamp c.args.session) (as_reply (stamped c.stamp-returned.result)) (made_if (is_ok c.stamp-returned.result) (Stamp c.args.session)) c.args.room.now.log c.note.new.log c.args.room.now.logged c.stamp-returned.ensures.step c.note.ensures (made-stamped c.args.session c.stamp-returned.result);
}

pub returns-clause-step : goal.returns-clause-step
returns-clause-step g c = (as_reply (stamped c.stamp-returned.result), c.stamp-returned.ensures.step, reads-stamped c.stamp-returned.result)

use Rattle.std.specs.Prelude.{is_ok}
use Rattle.database.specs.Histories.{made_if}
use Rattle.base.specs.Steps.{as_reply}
use Rattle.base.specs.declared.step.Step.TheVariants.{Draw}
use Rattle.session_steps.specs.Replies.{drawn}
use Rattle.database.proofs.Runs.{run-led}
use Rattle.database.proofs.Readings.{reads-drawn}
use Rattle.database.proofs.Histories.{logged-led, made-drew, drew-led}
use Rattle.database.proofs.steps.draw.Goals as goal

pub invariant_of-room : goal.invariant_of-room
invariant_of-room g c = record {
  run = run-led g.D.Pmem.state c.args.room.now.room c.draw-returned.new.self (Draw c.args.session) (as_reply (drawn c.draw-returned.result)) c.args.room.now.run c.draw-returned.ensures.step;
  logged = logged-led g.D.Pmem.state g.J.Origin.opened c.args.room.now.room c.draw-returned.new.self (Draw c.args.session) (as_reply (drawn c.draw-returned.result)) (made_if (is_ok c.draw-returned.result) (Draw c.args.session)) c.args.room.now.log c.note.new.log c.args.room.now.logged c.draw-returned.ensures.step c.note.ensures (made-drew c.args.session c.draw-returned.result);
}

pub returns-clause-step : goal.returns-clause-step
returns-clause-step g c = (as_reply (drawn c.draw-returned.result), c.draw-returned.ensures.step, reads-drawn c.draw-returned.result)

pub returns-clause-next : goal.returns-clause-next
returns-clause-next g c = drew-led g.D.Pmem.state g.J.Origin.opened c.args.room.now.room c.draw-returned.new.self c.args.session c.args.room.now.log c.draw-returned.result c.args.room.now.logged c.draw-returned.ensures.step

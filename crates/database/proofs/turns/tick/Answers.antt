use Rattle.std.proofs.Common.{◌∙◌, sym, ap, subst}
use Rattle.std.specs.Prelude.{is_some, Ok, Err}
use Rattle.base.specs.declared.step.Step.TheVariants.{Commit}
use Rattle.room.specs.Room.{Leads, covered_by}
use Rattle.room.specs.Ticks.{as_reply as ticked}
use Rattle.database.specs.Obeys.{ended_of}
use Rattle.database.specs.Ticking.{turn_of, refusals_after, covered_after}
use Rattle.database.proofs.Errors.{has-lacked}
use Rattle.database.proofs.Ticks.{err-of, reply-of}
use Rattle.database.proofs.turns.tick.Goals as goal

pub after_refusal-requires : goal.after_refusal-requires
after_refusal-requires g c = record {
  lacked = λ is.
      let new = c.tick.new.self.room in
      has-lacked g.D.Pmem.state c.in-Some.room.room new c.in-Some.room.run
      (subst (λ r. Leads g.D.Pmem.state c.in-Some.room.room new Commit (ticked r (covered_by new))) (c.in-Err.is ∙ ap Err is) c.tick.ensures.step);
}

pub after_tick-requires : goal.after_tick-requires
after_tick-requires g c = record { covers = λ is. c.tick.ensures.covers (c.in-Ok.is ∙ ap Ok is) }

pub returns-in-Err-clause-once : goal.returns-in-Err-clause-once
returns-in-Err-clause-once g c there =
    let last = covered_by c.tick.new.self.room in
    let told = reply-of c.tick.result (Err c.in-Err.fault) last c.in-Err.is in
    record {
      reply = ticked c.tick.result last;
      ticks = (c.in-Some.room, c.tick.new.self, c.in-Some.is, c.after_refusal.ensures.room, c.tick.ensures.step);
      ended = λ fault same other. ap ended_of c.after_refusal.ensures.room ∙ c.tick.ensures.ended fault (err-of c.tick.result last fault same) other;
      goes_on = λ goes. ap ended_of c.after_refusal.ensures.room ∙ (c.tick.ensures.goes_on (λ fault is. goes fault (sym (reply-of c.tick.result (Err fault) last is))) ∙ sym (ap ended_of c.in-Some.is));
      counted = c.after_refusal.ensures.refusals ∙ ap (refusals_after c.args.locked.now.refusals) told;
      covered = c.after_refusal.ensures.covered ∙ ap (covered_after c.args.locked.now.covered) told;
      turn = c.after_refusal.ensures.turn ∙ ap turn_of told;
      transactions = c.after_refusal.ensures.«open»;
      rest = c.after_refusal.ensures.rest;
    }

pub returns-in-Ok-clause-once : goal.returns-in-Ok-clause-once
returns-in-Ok-clause-once g c there =
    let last = covered_by c.tick.new.self.room in
    let told = reply-of c.tick.result (Ok c.in-Ok.tick) last c.in-Ok.is in
    record {
      reply = ticked c.tick.result last;
      ticks = (c.in-Some.room, c.tick.new.self, c.in-Some.is, c.after_tick.ensures.room, c.tick.ensures.step);
      ended = λ fault same other. ap ended_of c.after_tick.ensures.room ∙ c.tick.ensures.ended fault (err-of c.tick.result last fault same) other;
      goes_on = λ goes. ap ended_of c.after_tick.ensures.room ∙ (c.tick.ensures.goes_on (λ fault is. goes fault (sym (reply-of c.tick.result (Err fault) last is))) ∙ sym (ap ended_of c.in-Some.is));
      counted = c.after_tick.ensures.refusals ∙ ap (refusals_after c.args.locked.now.refusals) told;
      covered = c.after_tick.ensures.covered ∙ ap (covered_after c.args.locked.now.covered) told;
      turn = c.after_tick.ensures.turn ∙ ap turn_of told;
      transactions = c.after_tick.ensures.«open»;
      rest = c.after_tick.ensures.rest;
    }

pub returns-in-Err-clause-stopped : goal.returns-in-Err-clause-stopped
returns-in-Err-clause-stopped g c is =
    ap is_some (ap ended_of c.after_refusal.ensures.room ∙ c.tick.ensures.ended c.in-Err.fault c.in-Err.is (c.after_refusal.ensures.stopped is))

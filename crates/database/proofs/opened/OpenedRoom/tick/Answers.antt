use Rattle.std.proofs.Common.{subst}
use Rattle.std.specs.Prelude.{is_ok}
use Rattle.base.specs.declared.step.Step.TheVariants.{Commit}
use Rattle.room.specs.Room.{covered_by}
use Rattle.room.specs.Ticks.{Waits, as_reply as ticked}
use Rattle.database.specs.Histories.{made_if}
use Rattle.database.proofs.Errors.{run-ticked}
use Rattle.database.proofs.Histories.{logged-led, made-ticked}
use Rattle.database.proofs.opened.OpenedRoom.tick.Goals as goal

pub invariant_of-self : goal.invariant_of-self
invariant_of-self g c = record {
  run = run-ticked g.D.Pmem.state c.args.self.now.room c.advance-returned.new.self c.advance-returned.result (covered_by c.advance-returned.new.self) c.keep_end.new.ended c.args.self.now.run c.advance-returned.ensures.step
      c.keep_end.ensures.either;
  logged = logged-led g.D.Pmem.state g.J.Origin.opened c.args.self.now.room c.advance-returned.new.self Commit (ticked c.advance-returned.result (covered_by c.advance-returned.new.self)) (made_if (is_ok c.advance-returned.result) Commit) c.args.self.now.log c.note.new.log c.args.self.now.logged c.advance-returned.ensures.step c.note.ensures (made-ticked c.advance-returned.result (covered_by c.advance-returned.new.self));
}

pub returns-clause-covers : goal.returns-clause-covers
returns-clause-covers g c is = subst (λ r. Waits r (covered_by c.args.self.now.room) (covered_by c.advance-returned.new.self)) is c.advance-returned.ensures.waits

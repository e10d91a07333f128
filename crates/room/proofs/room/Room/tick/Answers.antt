use Rattle.std.proofs.Common.{refl}
use Rattle.base.specs.declared.step.Step.TheVariants.{Commit}
use Rattle.room.proofs.Calls.{tick-waits}
use Rattle.room.proofs.Untouched.{some-alike, leads-alike}
use Rattle.room.proofs.room.Room.tick.Goals as goal

pub invariant_of-self : goal.invariant_of-self
invariant_of-self g c =
    let new = c.advance-returned.new.self in
    record { shown = some-alike new.volatile c.reply_of.new.self c.reply_of.ensures.sessions c.reply_of.ensures.cycle _ _ new.shown }

pub returns : goal.returns
returns g c = record { step = leads-alike g.D.Pmem.state c.args.self.now c.advance-returned.new.self _ c.reply_of.ensures.sessions c.reply_of.ensures.cycle refl refl Commit _ _ c.reply_of.ensures.reply c.advance-returned.ensures.step; waits = tick-waits c.advance-returned.result _ _ _ _ c.advance-returned.ensures.waits c.reply_of.ensures.reply c.reply_of.ensures.waits }

use Rattle.std.proofs.Common.{refl, ap}
use Rattle.session_steps.specs.declared.sessions.Sessions.{Sessions}
use Rattle.room.proofs.Runs.{leads-none}
use Rattle.room.proofs.Passing.{passes-along, passed-some}
use Rattle.room.proofs.room.Room.pass.Goals as goal

pub returns-then-self-clause-steps : goal.returns-then-self-clause-steps
returns-then-self-clause-steps g c = leads-none g.D.Pmem.state c.args.self.now (g.met.D.Pmem.orderly c.args.self.now.device)

pub invariant_of-self : goal.invariant_of-self
invariant_of-self g c = record {
  shown = passed-some c.args.self.now.volatile (record c.args.self.now.volatile { sessions = c.pass.new.self }) (g.D.Pmem.state c.args.self.now.device) c.pass.result (g.met.D.Pmem.orderly c.args.self.now.device)
      (ap (λ (s : Sessions). s.drawn.commits) c.pass.ensures.moved) refl c.pass.ensures.passes c.args.self.now.failed c.if-self.false c.args.self.now.shown;
}

pub returns-clause-steps : goal.returns-clause-steps
returns-clause-steps g c =
    passes-along g.D.Pmem.state c.args.self.now _ c.pass.result c.if-self.false refl refl (g.met.D.Pmem.orderly c.args.self.now.device) refl (ap (λ (s : Sessions). s.drawn.commits) c.pass.ensures.moved) c.pass.ensures.passes

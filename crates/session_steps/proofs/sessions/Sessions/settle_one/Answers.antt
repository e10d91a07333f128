use Rattle.session_steps.proofs.Settled.{settles-tidies}
use Rattle.session_steps.proofs.sessions.Sessions.settle_one.Goals as goal

pub returns-then-settle_at : goal.returns-then-settle_at
returns-then-settle_at c = record {
  tidies = settles-tidies c.args.self.now c.args.self.now.next_entry c.args.self.now.next_entry c.settle_at.new.index c.settle_at.result c.settle_at.ensures;
  looks = (c.settle_at.result, c.settle_at.ensures);
}

pub returns : goal.returns
returns c = record {
  tidies = settles-tidies c.args.self.now c.args.self.now.next_entry c.next_in-self.result c.settle_at.new.index c.settle_at.result c.settle_at.ensures;
  looks = (c.settle_at.result, c.settle_at.ensures);
}

use Rattle.std.proofs.Common.{[]}
use Rattle.std.proofs.KnownBytes.{Appends-nil, Consumes-nil}
use Rattle.serving.proofs.Conversations.{converses-answered}
use Rattle.serving.proofs.channel.serve.Goals as goal

pub loop-init : goal.loop-init
loop-init g c = record {
  exchanges = [];
  came = Consumes-nil (g.I.Read.remaining c.args.input.now);
  went = Appends-nil (g.O.Write.contents c.args.output.now);
  follows = c.new-session.ensures;
}

pub loop-preserved : goal.loop-preserved
loop-preserved g c = converses-answered _ _ _ _ _ _ _ _ _ c.in_ok-exchange.field-0 c.in-Answered.is c.loop.invariant c.in_ok-exchange.ensures

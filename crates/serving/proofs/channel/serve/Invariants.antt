use Rattle.std.specs.Prelude.{None, option_map}
use Rattle.serving.specs.Conversations.{Converses}
use Rattle.serving.proofs.channel.serve.Given as goal

abbrev pub invariant-loop : goal.invariant-loop
invariant-loop g l =
    Converses (g.I.Read.remaining l.initial.input) (g.I.Read.remaining l.input) (g.O.Write.contents l.initial.output) (g.O.Write.contents l.output)
    None (option_map (λ t. t.snapshot.reads.session) l.session.current)

use Rattle.std.proofs.Common.{length}
use Rattle.std.specs.Io.KnownBytes.{Keeps, append_known}
use Rattle.standard_streams.proofs.last_line.LastLine.pass_on.Given as goal

abbrev pub invariant-loop-self : goal.invariant-loop-self
invariant-loop-self g l = Keeps (append_known (g.W.Write.contents l.initial.self.output) l.initial.self.held.items) (append_known (g.W.Write.contents l.self.output) l.self.held.items)

abbrev pub decreases-loop-self : goal.decreases-loop-self
decreases-loop-self g l = length l.self.held.items

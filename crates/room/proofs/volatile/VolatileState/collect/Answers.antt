use Rattle.std.proofs.Common.{refl}
use Rattle.std.proofs.Math.Logic.{∥∥₁_map}
use Rattle.room.proofs.covers.BatchStays.{visits-named}
use Rattle.room.proofs.volatile.VolatileState.collect.Goals as goal

pub collect-requires : goal.collect-requires
collect-requires g c = record { shown = ∥∥₁_map c.requires.shown (λ some. (some.0, some.1.shown, some.2)) }

pub returns : goal.returns
returns g c = record { step = visits-named c.args.self.now.sessions (record c.args.self.now { sessions = c.collect.new.self }) (g.D.Pmem.state c.args.device.now) _ c.collect.result _ refl c.collect.ensures.step; waits = refl }

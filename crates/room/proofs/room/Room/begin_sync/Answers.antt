use Rattle.std.proofs.Common.{refl, sym, subst}
use Rattle.pmem.specs.Device.{Device}
use Rattle.room.specs.Steps.{ShowsAs}
use Rattle.room.proofs.Untouched.{shows-same}
use Rattle.room.proofs.room.Room.begin_sync.Goals as goal

pub invariant_of-self : goal.invariant_of-self
invariant_of-self g c =
    let old = c.args.self.now in
    record { shown = subst (λ (d : Device). ∥ ShowsAs old.volatile d old.failed ∥₁) (sym c.begin_sync.ensures) old.shown }

pub returns-clause-shows : goal.returns-clause-shows
returns-clause-shows g c = shows-same g.D.Pmem.state c.args.self.now _ refl refl c.begin_sync.ensures

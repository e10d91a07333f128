use Rattle.store.proofs.store.over.Goals as goal

pub invariant_of-result : goal.invariant_of-result
invariant_of-result g c = record { laid_out = c.geometry-layout.ensures }

use Rattle.std.proofs.Common.{refl}
use Rattle.pmem_model.proofs.Listed.{listing_none}
use Rattle.pmem_model.proofs.pending.Pending.new.Goals as goal

pub invariant_of-result-clause-listing : goal.invariant_of-result-clause-listing
invariant_of-result-clause-listing c = listing_none _ _ _ _ refl

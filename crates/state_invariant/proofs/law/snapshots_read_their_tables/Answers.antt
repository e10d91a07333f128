use Rattle.state_invariant.proofs.reads.Tables.{reads}
use Rattle.state_invariant.proofs.law.snapshots_read_their_tables.Goals as goal

pub returns : goal.returns
returns c = reads

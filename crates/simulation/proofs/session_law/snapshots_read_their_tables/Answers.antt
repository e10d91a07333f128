use Rattle.simulation.proofs.sessions.Reading.{reads}
use Rattle.simulation.proofs.session_law.snapshots_read_their_tables.Goals as goal

pub returns : goal.returns
returns c = reads

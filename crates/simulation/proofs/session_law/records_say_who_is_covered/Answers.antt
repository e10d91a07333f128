use Rattle.simulation.proofs.sessions.Batches.{covers-batch}
use Rattle.simulation.proofs.session_law.records_say_who_is_covered.Goals as goal

pub returns : goal.returns
returns c = covers-batch

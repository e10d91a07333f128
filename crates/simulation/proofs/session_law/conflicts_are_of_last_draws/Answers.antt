use Rattle.simulation.proofs.sessions.Conflicts.{conflicts}
use Rattle.simulation.proofs.session_law.conflicts_are_of_last_draws.Goals as goal

pub returns : goal.returns
returns c = conflicts

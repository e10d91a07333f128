use Rattle.simulation.proofs.sessions.Present.{present-sees}
use Rattle.simulation.proofs.sessions.Sight.{sees-step}
use Rattle.simulation.proofs.session_law.snapshots_stay_exact.Goals as goal

pub returns : goal.returns
returns c = record {
  present = present-sees;
  step = λ o q q' step reply snapshot begun kept within stepped sees. sees-step o q snapshot begun within kept sees step reply q' stepped;
}

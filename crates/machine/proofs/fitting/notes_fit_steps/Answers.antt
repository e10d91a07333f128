use Rattle.machine.proofs.Notes.{steps-fit, runs-fit}
use Rattle.machine.proofs.fitting.notes_fit_steps.Goals as goal

pub returns : goal.returns
returns c = record { steps = steps-fit; runs = runs-fit }

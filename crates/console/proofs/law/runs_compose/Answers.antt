use Rattle.console.proofs.KeptHistory.{keeps-both}
use Rattle.console.proofs.law.runs_compose.Goals as goal

pub returns : goal.returns
returns c = λ first second third one two. keeps-both first second third one two

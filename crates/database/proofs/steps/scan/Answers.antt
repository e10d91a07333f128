use Rattle.base.specs.Steps.{as_reply}
use Rattle.session_steps.specs.Replies.{scanned}
use Rattle.database.proofs.Readings.{reads-rows}
use Rattle.database.proofs.steps.scan.Goals as goal

pub returns-clause-step : goal.returns-clause-step
returns-clause-step g c = (as_reply (scanned c.scan.result), c.scan.ensures.step, reads-rows c.scan.result)

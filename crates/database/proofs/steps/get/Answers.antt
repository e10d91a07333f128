use Rattle.base.specs.Steps.{as_reply}
use Rattle.session_steps.specs.Replies.{read}
use Rattle.database.proofs.Readings.{reads-row}
use Rattle.database.proofs.steps.get.Goals as goal

pub returns-clause-step : goal.returns-clause-step
returns-clause-step g c = (as_reply (read c.get.result), c.get.ensures.step, reads-row c.get.result)

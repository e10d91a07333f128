use Rattle.session_laws.proofs.Images.{along-log, commits-survive}
use Rattle.session_laws.proofs.law.crashes_keep_commits.Goals as goal

pub returns : goal.returns
returns c = record { along = along-log; survive = commits-survive }

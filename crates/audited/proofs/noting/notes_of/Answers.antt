use Rattle.audited.proofs.Compose.{rows_change_nothing}
use Rattle.audited.proofs.noting.notes_of.Goals as goal

pub returns-in-Err-clause-err : goal.returns-in-Err-clause-err
returns-in-Err-clause-err c = rows_change_nothing _ c.in-Err.ensures.err

pub returns-in-Err-of-clause-err : goal.returns-in-Err-of-clause-err
returns-in-Err-of-clause-err c = rows_change_nothing _ c.in-Err-of.ensures.err

use Rattle.session_steps.proofs.covers.Lines.{table-lines}
use Rattle.session_steps.proofs.law.table_has_the_lines_of_a_batch.Goals as goal

pub returns : goal.returns
returns c = λ q drawn dirty sessions test is holds rising of. table-lines q drawn dirty sessions test is holds of rising

use Rattle.console.proofs.Input.{lines-read-back}
use Rattle.console.proofs.law.written_lines_are_read_back.Goals as goal

pub returns : goal.returns
returns c = λ lines none. lines-read-back lines none

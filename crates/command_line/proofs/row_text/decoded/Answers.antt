use Rattle.std.proofs.Common.{rules}
use Rattle.command_line.proofs.Rows.{hex-row, no_hex-no_row, bad-no_row}
use Rattle.command_line.proofs.row_text.decoded.Goals.{then-is_empty-via-then-is_empty, then-is_empty-via-else-is_empty+then-has_upper_case, then-is_empty-via-else-is_empty+else-has_upper_case+then-not-is_hex}
use Rattle.command_line.proofs.row_text.decoded.Goals as goal

pub returns-then-is_empty-clause-refused : goal.returns-then-is_empty-clause-refused
returns-then-is_empty-clause-refused c = λ same. elim c.then-is_empty.branch [
  | then-is_empty-via-then-is_empty w ↦ bad-no_row c.args.word.now (search rules) (search rules)
  | then-is_empty-via-else-is_empty+then-has_upper_case w ↦ bad-no_row c.args.word.now (search rules) (search rules)
  | then-is_empty-via-else-is_empty+else-has_upper_case+then-not-is_hex w ↦ no_hex-no_row c.args.word.now (search rules) (search rules) (search rules)
]

pub returns-in-Err-clause-memory : goal.returns-in-Err-clause-memory
returns-in-Err-clause-memory c = λ same. hex-row c.args.word.now (search rules) (search rules) (search rules)

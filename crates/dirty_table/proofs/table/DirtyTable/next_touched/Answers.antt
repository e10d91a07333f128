use Rattle.std.proofs.Common.{arith}
use Rattle.dirty_table.proofs.Tables.{next-some, next-none}
use Rattle.dirty_table.proofs.table.DirtyTable.next_touched.Goals as goal

pub returns-clause-some : goal.returns-clause-some
returns-clause-some c = grind (arith, next-some)

pub returns-clause-none : goal.returns-clause-none
returns-clause-none c = grind (arith, next-none)

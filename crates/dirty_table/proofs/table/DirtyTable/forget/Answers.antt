use Rattle.std.proofs.Common.{arith}
use Rattle.dirty_table.proofs.Tables.{forgot-none, forgot-on, forgot-all}
use Rattle.dirty_table.proofs.table.DirtyTable.forget.Goals as goal

pub loop-line-init : goal.loop-line-init
loop-line-init c = forgot-none c.args.sessions.now c.args.self.now

pub loop-line-preserved : goal.loop-line-preserved
loop-line-preserved c =
    forgot-on c.args.sessions.now c.args.self.now c.loop-line.self c.loop-line.from c.loop-line.invariant c.in-Some.line c.forget_line.new.self c.in-Some.ensures.some c.forget_line.ensures.touched c.forget_line.ensures.size

pub returns : goal.returns
returns c = grind (arith, forgot-all)

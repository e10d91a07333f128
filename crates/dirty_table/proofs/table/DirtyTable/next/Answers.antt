use Rattle.std.proofs.Common.{ℕ, subst, sym, ◌∙◌}
use Rattle.std.specs.Prelude.{Option, IfNone}
use Rattle.dirty_table.specs.Touches.{IsUntouchedFrom}
use Rattle.dirty_table.proofs.Tables.{walks-found, walks-on, walks-past, lines_touched-rising}
use Rattle.dirty_table.proofs.table.DirtyTable.next.Goals as goal

pub loop-line-preserved : goal.loop-line-preserved
loop-line-preserved c = walks-on c.args.sessions.now c.args.self.now c.args.from c.loop-line.low c.loop-line.invariant c.in-Some.line c.in-Some.ensures.some (sym c.meets.ensures ∙ c.if-meets.false)

pub returns-then-meets-clause-line : goal.returns-then-meets-clause-line
returns-then-meets-clause-line c = walks-found c.args.sessions.now c.args.self.now c.args.from c.loop-line.low c.loop-line.invariant c.in-Some.line c.in-Some.ensures.some (sym c.meets.ensures ∙ c.if-meets.true)

pub returns-then-meets-clause-rising : goal.returns-then-meets-clause-rising
returns-then-meets-clause-rising c = lines_touched-rising c.args.sessions.now c.args.self.now

pub returns-clause-line : goal.returns-clause-line
returns-clause-line c =
    walks-past c.args.sessions.now c.args.self.now c.args.from c.loop-line.low c.loop-line.invariant
    (subst (λ (r : Option ℕ). IfNone r (IsUntouchedFrom c.args.self.now c.loop-line.low)) c.in_default.is c.next_touched.ensures.none)

pub returns-clause-rising : goal.returns-clause-rising
returns-clause-rising c = lines_touched-rising c.args.sessions.now c.args.self.now

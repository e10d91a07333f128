use Rattle.std.proofs.Common.{◌+◌, ◌≤◌, subst, sym, ◌∙◌, arith}
use Rattle.std.specs.Prelude.{IsTrue}
use Rattle.std.proofs.lemmas.Bool.{leb-true, le-leb}
use Rattle.group_commit.specs.declared.stage.CycleStage.{CycleStage}
use Rattle.group_commit.specs.Cycles.{is_counted}
use Rattle.group_commit.proofs.Batches.{found-from}
use Rattle.group_commit.proofs.cycle.Cycle.tick.Goals as goal

pub overflow_add-self : goal.overflow_add-self
overflow_add-self g c =
    let counted : c.in-FlushLines.flushed ≤ c.in-FlushLines.from = leb-true c.in-FlushLines.flushed c.in-FlushLines.from (subst (λ (s : CycleStage). IsTrue (is_counted s)) c.in-FlushLines.is c.self.invariant) in
    let above = found-from c.in-FlushLines.from c.in-Some.line _ (sym c.next.ensures.line ∙ c.in-Some.is) in
    omega (arith, c.if-prove.false, counted, above)

pub invariant_of-self : goal.invariant_of-self
invariant_of-self g c =
    let counted : c.in-FlushLines.flushed ≤ c.in-FlushLines.from = leb-true c.in-FlushLines.flushed c.in-FlushLines.from (subst (λ (s : CycleStage). IsTrue (is_counted s)) c.in-FlushLines.is c.self.invariant) in
    let above = found-from c.in-FlushLines.from c.in-Some.line _ (sym c.next.ensures.line ∙ c.in-Some.is) in
    le-leb (c.in-FlushLines.flushed + 1) (c.in-Some.line + 1) (omega (arith, counted, above))

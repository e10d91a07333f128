use Rattle.std.proofs.Common.{sym, ap, ◌∙◌, arith}
use Rattle.std.specs.Prelude.{if◌then◌else◌, Bool}
use Rattle.engine.specs.Agreement.{count_at}
use Rattle.engine.proofs.Counting.{more_than_once}
use Rattle.engine.proofs.agreement.is_once.Goals as goal

-- one session has it more than once
pub returns-then-count-gt1 : goal.returns-then-count-gt1
returns-then-count-gt1 g c =
    let here = ap (count_at c.args.place) (sym c.receipts.ensures.receipts) ∙ sym c.count_at-count.ensures in
    more_than_once c.args.place c.args.sessions.now c.loop-session.session-index c.session-item.result _ c.count_at-count.result c.loop-session-test.true c.session-item.is
    c.loop-session.invariant here (omega (arith, c.if-count-gt1.true))

-- two sessions have it
pub returns-then-found : goal.returns-then-found
returns-then-found g c =
    let here = ap (count_at c.args.place) (sym c.receipts.ensures.receipts) ∙ sym c.count_at-count.ensures in
    let before = c.loop-session.invariant ∙ ap (λ (b : Bool). if b then 1 else 0) c.if-found.true in
    more_than_once c.args.place c.args.sessions.now c.loop-session.session-index c.session-item.result 1 c.count_at-count.result c.loop-session-test.true c.session-item.is
    before here (omega (arith, c.if-count-eq1.true))

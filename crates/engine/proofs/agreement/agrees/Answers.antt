use Rattle.std.proofs.Common.{sym, ap, ◌∙◌, arith}
use Rattle.std.proofs.lemmas.List.{take_all}
use Rattle.std.proofs.lemmas.List.Elements.{All-same, All-append}
use Rattle.std.proofs.lemmas.Bool.{false≢true}
use Rattle.engine.specs.Agreement.{IsEntry, receipts_in}
use Rattle.engine.proofs.Counting.{receipts_more, All-session}
use Rattle.engine.proofs.agreement.agrees.Goals as goal

-- a session has a receipt of something else
pub returns-then-not-are_entries : goal.returns-then-not-are_entries
returns-then-not-are_entries g c = (
  λ h. absurd (false≢true h),
  λ agrees. sym c.if-not-are_entries.true ∙ c.are_entries.ensures.1
      (All-same (IsEntry c.args.entries.now c.args.first) _ _ c.receipts.ensures.receipts
      (All-session (IsEntry c.args.entries.now c.args.first) c.args.sessions.now c.loop-session.session-index c.session-item.result c.loop-session-test.true c.session-item.is agrees.each)),
)

pub loop-session-preserved : goal.loop-session-preserved
loop-session-preserved g c =
    All-same (IsEntry c.args.entries.now c.args.first) _ _ (receipts_more c.args.sessions.now c.loop-session.session-index c.session-item.result c.loop-session-test.true c.session-item.is)
    (All-append (IsEntry c.args.entries.now c.args.first) _ _ c.loop-session.invariant
    (All-same (IsEntry c.args.entries.now c.args.first) _ _ (sym c.receipts.ensures.receipts) (c.are_entries.ensures.0 c.if-not-are_entries.false)))

pub loop-place-init : goal.loop-place-init
loop-place-init g c =
    record {
      each = All-same (IsEntry c.args.entries.now c.args.first) _ _ (ap receipts_in (sym (take_all c.loop-session.session-index c.args.sessions.now c.loop-session-test.false))) c.loop-session.invariant;
      once = λ place from to. absurd (omega (arith, from, to));
    }

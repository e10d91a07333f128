use Rattle.std.proofs.Common.{◌≡◌, refl, subst, sym, take}
use Rattle.std.proofs.lemmas.List.{take_all}
use Rattle.std.proofs.lemmas.List.Elements.{All-more, All-same}
use Rattle.engine.specs.Agreement.{IsEntry}
use Rattle.audited.specs.declared.receipt.Receipt.{Receipt}
use Rattle.engine.proofs.agreement.are_entries.Goals as goal

pub loop-receipt-preserved : goal.loop-receipt-preserved
loop-receipt-preserved c =
    All-more (IsEntry c.args.entries.now c.args.first) c.args.receipts.now c.loop-receipt.receipt-index c.receipt-item.result c.loop-receipt-test.true c.loop-receipt.invariant
    (subst (λ (r : Receipt). IsEntry c.args.entries.now c.args.first r) c.receipt-item.is (c.is_entry.ensures.0 c.if-not-is_entry.false))

pub returns : goal.returns
returns c =
    let all : take c.loop-receipt.receipt-index c.args.receipts.now ≡ c.args.receipts.now = take_all c.loop-receipt.receipt-index c.args.receipts.now c.loop-receipt-test.false in
    (λ yes. All-same (IsEntry c.args.entries.now c.args.first) _ _ (sym all) c.loop-receipt.invariant, λ all. refl)

use Rattle.std.proofs.Common.{rules, tests, ◌≡◌, ◌∙◌, ℕ, true, false, Bool, ◌&&◌, not, map, List, sym, ap, arith}
use Rattle.std.specs.List.{list_any}
use Rattle.base.specs.Choosing.{is_chosen, is_idle, reach, has_other_reason_to_write}
use Rattle.base.specs.Layout.{Layout, most_longs}
use Rattle.base.specs.Records.{Record}
use Rattle.txn.specs.declared.drawn.DrawnCommit.{DrawnCommit}
use Rattle.txn.specs.DrawnCommits.{plain_drawn}
use Rattle.group_commit.proofs.Batches.{none-chosen}
use Rattle.group_commit.proofs.batch.is_idle.Goals as goal

-- by whether one is chosen, up to what the next record reaches
tested : (a : Layout) (ruling : Record) (next : ℕ) (swept : Bool) (ds es : List DrawnCommit) (r : ℕ) (some : Bool)
    → some ≡ list_any (λ d. is_chosen r (plain_drawn d)) es → r ≡ reach (most_longs a.version) ruling.persisted (map plain_drawn ds) → es ≡ ds
    → is_idle a ruling next swept (map plain_drawn ds) ≡ (not some && not (has_other_reason_to_write a ruling next swept))
tested a ruling next swept ds es r some is at same = grind (arith, none-chosen)

pub returns-after-window_is_short : goal.returns-after-window_is_short
returns-after-window_is_short c =
    let none : c.has_chosen.result ≡ false = search (rules, tests) in
    let due : c.if-window_is_short.result ≡ has_other_reason_to_write c.args.numbers.now.geometry c.args.numbers.now.record c.args.numbers.now.next c.args.swept = search (rules, tests) in
    sym (tested c.args.numbers.now.geometry c.args.numbers.now.record c.args.numbers.now.next c.args.swept _ _ _ _ c.has_chosen.ensures c.reach_of-reach.ensures c.as_slice-2.ensures.commits ∙ λ i. not (none i) && not (sym due i))

pub returns-else-not-has_chosen : goal.returns-else-not-has_chosen
returns-else-not-has_chosen c =
    let some : c.has_chosen.result ≡ true = search (rules, tests) in
    sym (tested c.args.numbers.now.geometry c.args.numbers.now.record c.args.numbers.now.next c.args.swept _ _ _ _ c.has_chosen.ensures c.reach_of-reach.ensures c.as_slice-2.ensures.commits ∙ (λ i. not (some i) && not (has_other_reason_to_write c.args.numbers.now.geometry c.args.numbers.now.record c.args.numbers.now.next c.args.swept)) ∙ ap not (sym some))

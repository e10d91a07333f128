use Rattle.std.proofs.Common.{◌≡◌, true, cond, inr, sym, ◌∙◌, ap, subst, ℕ, ◌+◌}
use Rattle.std.specs.BTreeSet.{contains}
use Rattle.std.specs.BTreeMap.{is_at}
use Rattle.std.proofs.lemmas.Bool.{not-true, not-false}
use Rattle.base.specs.declared.key.Key.{Key}
use Rattle.base.specs.declared.fault.Fault.TheVariants.{Damaged}
use Rattle.recovery.specs.Slots.{key_cmp}
use Rattle.recovery.proofs.reads.Visits.{found-free, found-live, found-bad, keys-free, keys-live, second-seen}
use Rattle.recovery.proofs.holding.visit.Goals as goal

pub returns-in-Free-clause-keys : goal.returns-in-Free-clause-keys
returns-in-Free-clause-keys c = λ image found keys. keys-free image _ (contains key_cmp c.args.seen.now) (found-free image _ (sym c.in-Free.is ∙ found)).0 keys

pub returns-in-Free-clause-good : goal.returns-in-Free-clause-good
returns-in-Free-clause-good c = λ image found keys. (found-free image _ (sym c.in-Free.is ∙ found)).1

pub returns-in-Ok-true-clause-keys : goal.returns-in-Ok-true-clause-keys
returns-in-Ok-true-clause-keys c = λ image found keys.
    let live = found-live image _ c.in-Live.key (sym c.in-Live.is ∙ found) in
    let old = contains key_cmp c.args.seen.now in
    let new = contains key_cmp c.insert.new.self in
    keys-live image c.args.slot old new live.1
    (λ q. subst (λ (k : Key). new q ≡ cond (is_at (key_cmp k) q) true (old q)) live.2 (c.in-Ok-true.ensures.updates.0 q)) keys

pub returns-in-Ok-true-clause-good : goal.returns-in-Ok-true-clause-good
returns-in-Ok-true-clause-good c = λ image found keys.
    let live = found-live image _ c.in-Live.key (sym c.in-Live.is ∙ found) in
    let old = contains key_cmp c.args.seen.now in
    live.3 ∙ second-seen image _ old keys ∙ ap old (sym live.2) ∙ not-true (old c.in-Live.key) (sym c.in-Ok-true.ensures.added ∙ c.in-Ok-true.field-0-test)

pub returns-in-Ok-false-clause-fault : goal.returns-in-Ok-false-clause-fault
returns-in-Ok-false-clause-fault c = λ image found keys.
    let live = found-live image _ c.in-Live.key (sym c.in-Live.is ∙ found) in
    let old = contains key_cmp c.args.seen.now in
    inr (live.3 ∙ second-seen image _ old keys ∙ ap old (sym live.2) ∙ not-false (old c.in-Live.key) (sym c.in-Ok-false.ensures.added ∙ c.in-Ok-false.field-0-test), ap (λ (n : ℕ). Damaged (n + c.args.slot)) c.places.ensures.places)

pub returns-in-Bad-clause-fault : goal.returns-in-Bad-clause-fault
returns-in-Bad-clause-fault c = λ image found keys. inr (found-bad image _ (sym c.in-Bad.is ∙ found), ap (λ (n : ℕ). Damaged (n + c.args.slot)) c.places-in-Bad.ensures.places)

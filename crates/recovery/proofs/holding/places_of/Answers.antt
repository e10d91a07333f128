use Rattle.std.proofs.Common.{ℕ, List, IfOk, length, rules, tests, subst, arith}
use Rattle.std.specs.BTreeMap.{IsFromIterResult}
use Rattle.std.proofs.lemmas.Iterator.{YieldsList-from_range, YieldsList-from_slice, YieldsList-from_zip}
use Rattle.std.proofs.lemmas.Iterator.Consumers.{YieldsList-at, YieldsList-from_filter_map}
use Rattle.std.proofs.lemmas.Iterator.Adapters.{fact_from_collect}
use Rattle.base.specs.declared.key.Key.{Key}
use Rattle.recovery.specs.declared.slots.SlotContent.{SlotContent}
use Rattle.recovery.specs.Held.{held_keys}
use Rattle.recovery.specs.Slots.{held_key, key_cmp}
use Rattle.recovery.proofs.reads.HeldSlots.{held-few, numbered-of}
use Rattle.recovery.proofs.holding.places_of.Goals as goal

pub returns : goal.returns
returns c =
    let readings = c.args.readings.now in
    subst (λ (pairs : List (Key × ℕ)). IfOk c.collect.result (IsFromIterResult key_cmp pairs)) (numbered-of 0 (held_keys readings) (length readings) (held-few readings))
    (fact_from_collect (IsFromIterResult key_cmp) c.collect.result c.collect.ensures.ran
    (YieldsList-from_zip
    (YieldsList-at c.zip.ensures.first
    (YieldsList-from_filter_map _ (λ (reading : SlotContent). held_key reading) (YieldsList-at c.filter_map.ensures.source (YieldsList-from_slice readings (cc))) c.filter_map.ensures.closure (λ x r q k. search (rules, tests))))
    (YieldsList-at c.zip.ensures.second (YieldsList-from_range 0 (length readings) (length readings) (cc) (omega arith)))))

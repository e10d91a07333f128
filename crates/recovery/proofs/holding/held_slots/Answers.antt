use Rattle.std.proofs.Common.{◌≡◌, ◌∙◌, ℕ, None, List, ap, sym, subst, arith, rules}
use Rattle.std.specs.BTreeMap.{IsFromIterResult}
use Rattle.base.proofs.Layouts.{few_slots}
use Rattle.base.specs.declared.key.Key.{Key}
use Rattle.recovery.specs.Held.{placed, numbered}
use Rattle.recovery.specs.Slots.{bad_below, key_cmp}
use Rattle.recovery.proofs.reads.Visits.{slots-memory}
use Rattle.recovery.proofs.reads.HeldSlots.{none-bad, are-held, placed-numbered}
use Rattle.recovery.proofs.holding.held_slots.Goals as goal
use Rattle.recovery.proofs.holding.held_slots.Goals.{then-len+in-Ok-find_bad, else-len+else-not-are_fit}

pub returns-in_default-clause-fault : goal.returns-in_default-clause-fault
returns-in_default-clause-fault g c = λ image are. slots-memory c.args.geometry image

pub returns-clause-held : goal.returns-clause-held
returns-clause-held g c = λ image are.
    let n = c.args.geometry.slots in
    let readings = c.args.readings.now in
    let made = c.in-Ok.made in
    let told = c.in-Ok.ensures.findings in
    let live = made.1.live in
    let placed-so : IsFromIterResult key_cmp (placed 0 live.items) made.0 =
    subst (λ (pairs : List (Key × ℕ)). IsFromIterResult key_cmp pairs made.0) (ap (numbered 0) (sym told.keys) ∙ placed-numbered 0 live.items) c.in-Ok.ensures.places in
    let good : bad_below image n ≡ None = elim c.if-len.branch [
      | then-len+in-Ok-find_bad w ↦ w.in-Ok-find_bad.ensures.good image are
      | else-len+else-not-are_fit w ↦
          none-bad image n readings are live made.0 told.live placed-so (omega (arith, c.len.ensures.len, c.len-2.ensures, w.if-len.false)) (told.are_fit.0 (w.are_fit.ensures.0 (cc))) told.each
    ] in
    are-held image n readings are live made.0 told.live placed-so good made.1.free told.free

pub side_by_side-requires-after_bounds : goal.side_by_side-requires-after_bounds
side_by_side-requires-after_bounds g c κs within = omega (arith, c.requires.size, few_slots c.args.geometry (search rules))

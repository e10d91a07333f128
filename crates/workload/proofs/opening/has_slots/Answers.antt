use Rattle.std.proofs.Common.{◌≡◌, ◌+◌, ◌*◌, ◌≤◌, ◌<◌, ℕ, Bool, true, false, MatchBool, length, refl, sym, ap, ◌∙◌, arith}
use Rattle.std.proofs.lemmas.Bool.{leb-true, leb-false}
use Rattle.base.proofs.Layouts.{few_slots}
use Rattle.workload.specs.Load.{HasFree, LacksFree}
use Rattle.workload.proofs.opening.has_slots.Goals as goal

decided : (test : Bool) (P Q : Type 0) → (test ≡ true → P) → (test ≡ false → Q) → MatchBool test P Q
decided true P Q holds fails = holds refl
decided false P Q holds fails = fails refl

pub returns-clause-ok : goal.returns-clause-ok
returns-clause-ok g c = λ q shows.
    let rows = c.in_ok-rows.rows.items in
    let listed = c.in_ok-rows.ensures.ok q shows in
    let layout = c.geometry.ensures q shows in
    let few = few_slots c.geometry.result c.slots.ensures.in_limits in
    let slots = c.slots.ensures.value ∙ ap (λ (a : Rattle.base.specs.Layout.Layout). a.slots) layout in
    decided _ (HasFree (2 * c.args.sessions) q) (LacksFree (2 * c.args.sessions) q)
    (λ enough. (rows, listed, omega (arith, c.saturating_mul.ensures, c.len.ensures, c.saturating_add-wanted.ensures, c.slots.ensures.value, slots, few, leb-true _ _ enough)))
    (λ short. (rows, listed, omega (arith, c.saturating_mul.ensures, c.len.ensures, c.saturating_add-wanted.ensures, c.slots.ensures.value, slots, few, leb-false _ _ short)))

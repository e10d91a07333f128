-- Visits of the collector that nothing comes between.
use Rattle.std.proofs.Common.{◌≡◌, ◌⊎◌, inl, inr, ℕ, zero, suc, ◌+◌, ◌-◌, ◌*◌, ◌/◌, ◌%◌, ◌<◌, ◌≤◌, Bool, true, false, cond, nat_le, refl, sym, ◌∙◌, ap, subst, arith}
use Rattle.std.specs.Prelude.{None}
use Rattle.std.proofs.lemmas.Bool.{leb-false}
use Rattle.std.proofs.lemmas.Nat.{div-add-mod'}
use Rattle.base.specs.declared.fault.Fault.{Fault}
use Rattle.base.specs.declared.step.Step.TheVariants as step
use Rattle.base.specs.declared.step.Reply.{Reply}
use Rattle.base.specs.declared.step.Reply.TheVariants as reply
use Rattle.base.specs.Layout.{Layout}
use Rattle.machine.specs.Machine.{State, Stepped, answered, refusal}
use Rattle.machine.specs.Collecting.{visited, collected}
use Rattle.machine.specs.Rounds.{visits, round_of}
use Rattle.machine.proofs.collector.Visits.{visit-changes}
use Rattle.machine.proofs.collector.Rounds.{rounds-repeat, visits-add, visits-split, layout-visits}
use Rattle.pmem.specs.Device.{Device}
use Rattle.pmem.specs.declared.device.Pmem.{Ghosts}
use Rattle.room.specs.Room.{Shows}
use Rattle.room.specs.declared.room.Room.{Room}
use Rattle.console.specs.Kept.{LeadsBy}
use Rattle.console.specs.Obeyed.{Ticks, Collects, is_answered}
use Rattle.console.specs.Rounds.{visits_needed, NeededAreEnough}

-- ---- visits, one after another

one-more : (n : ℕ) (q : State) → visited (visits n q) ≡ visits (suc n) q
one-more n q = sym (visits-split (suc n) n 1 q (omega arith))

works-still : (n : ℕ) (q : State) → q.failed ≡ false → (visits n q).failed ≡ false
works-still zero q works = works
works-still (suc n) q works = works-still n (visited q) ((visit-changes q).failed ∙ works)

-- ---- whole rounds

abbrev round : Layout → ℕ
round layout = layout.slots + 1

-- after a round, any number of further rounds changes nothing
rounds-after : (q : State) (more : ℕ) → visits (round q.layout + more) q ≡ visits (round q.layout + more % round q.layout) q
rounds-after q more =
    let settled = round_of q in
    let same : round settled.layout ≡ round q.layout = ap round (layout-visits (round q.layout) q) in
    let rounds = more / round q.layout in
    let rest = more % round q.layout in
    let parts : more ≡ rounds * round settled.layout + rest = sym (div-add-mod' more (round q.layout)) ∙ ap (λ (k : ℕ). rounds * k + rest) (sym same) in
    visits-add (round q.layout) more q
    ∙ ap (λ (k : ℕ). visits k settled) parts
    ∙ rounds-repeat.repeat settled rounds rest (rounds-repeat.settle q)
    ∙ sym (visits-add (round q.layout) rest q)

enough : (q : State) (all : ℕ) (few : Bool) → nat_le all (round q.layout) ≡ few
    → visits (cond few all (round q.layout + 1 + (all - round q.layout - 1) % round q.layout) - 1) q ≡ visits (all - 1) q
enough q all true is = refl
enough q all false is =
    let more = all - round q.layout - 1 in
    let long : round q.layout < all = leb-false all (round q.layout) is in
    let left : round q.layout + 1 + more % round q.layout - 1 ≡ round q.layout + more % round q.layout = omega arith in
    let right : all - 1 ≡ round q.layout + more = omega (arith, long) in
    ap (λ (k : ℕ). visits k q) left ∙ sym (rounds-after q more) ∙ ap (λ (k : ℕ). visits k q) (sym right)

pub needed-are-enough : NeededAreEnough
needed-are-enough = λ q all. enough q all (nat_le all (round q.layout)) refl

few-by : (slots all : ℕ) (few : Bool) → nat_le all (slots + 1) ≡ few → cond few all (slots + 1 + 1 + (all - (slots + 1) - 1) % (slots + 1)) ≤ all
few-by slots all a is = grind (arith, leb-false, div-add-mod')

-- no more than all are needed
needed-few : (layout : Layout) (all : ℕ) → visits_needed layout all ≤ all
needed-few layout all = few-by layout.slots all (nat_le all (layout.slots + 1)) refl

-- ---- steps of the collector

works-before : (q : State) → refusal q step.Collect ≡ None → q.failed ≡ false
works-before q none = grind (arith)

allowed : (q : State) → q.failed ≡ false → refusal q step.Collect ≡ None
allowed q works = rw works refl

no_both : (b : Bool) → b ≡ true → b ≡ false → ⊥
no_both b y n = cc

refused-not : (answer : Reply) (fault : Fault) → answer ≡ reply.Refused fault → is_answered answer ≡ true → ⊥
refused-not answer fault is goes = no_both _ goes (ap is_answered is)

-- a step that isn't refused is a visit
record IsVisit (q : State) (answer : Reply) (q' : State) : Type 0 where
  works : q.failed ≡ false
  answers : answer ≡ collected q
  leads : q' ≡ visited q

visit-of : (q : State) (answer : Reply) (q' : State) → Stepped q step.Collect answer q' → is_answered answer ≡ true → IsVisit q answer q'
visit-of q answer q' a goes = grind (arith, refused-not, works-before)

collected-goes : (q : State) → is_answered (collected q) ≡ true
collected-goes q = grind (arith)

-- that many and one more, none refused, from a state in which the device works
record AreVisits (more : ℕ) (q : State) (answer : Reply) (q' : State) : Type 0 where
  works : q.failed ≡ false
  answers : answer ≡ collected (visits more q)
  leads : q' ≡ visits (suc more) q

are-visits : (more : ℕ) (q : State) (answer : Reply) (q' : State) → Ticks step.Collect is_answered more q answer q' → is_answered answer ≡ true → AreVisits more q answer q'
are-visits zero q answer q' one goes = grind (arith, visit-of)
are-visits (suc more) q answer q' (before, mid, earlier, went, last) goes = grind (arith, are-visits more q before mid earlier went, visit-of, one-more)

visits-are : (more : ℕ) (q : State) → q.failed ≡ false → Ticks step.Collect is_answered more q (collected (visits more q)) (visits (suc more) q)
visits-are zero q works = answered (allowed q works) refl refl
visits-are (suc more) q works = grind (arith, visits-are more q works, collected-goes, allowed, works-still, one-more)

-- as many visits as needed come to the same as all
all-made : (q : State) (all more : ℕ) (answer : Reply) (q' : State) → more ≤ visits_needed q.layout all - 1 → (more ≡ visits_needed q.layout all - 1) ⊎ (is_answered answer ≡ false)
    → Ticks step.Collect is_answered more q answer q' → Collects q all answer q'
all-made q all more answer q' few done made = by (is_answered answer) refl done
  where
    within : more ≤ all - 1
    within = omega (arith, few, needed-few q.layout all)

    as_all : is_answered answer ≡ true → more ≡ visits_needed q.layout all - 1 → Collects q all answer q'
    as_all goes is =
        let are = are-visits more q answer q' made goes in
        let same : visits more q ≡ visits (all - 1) q = ap (λ (k : ℕ). visits k q) is ∙ needed-are-enough q all in
        let answer_is : collected (visits (all - 1) q) ≡ answer = ap collected (sym same) ∙ sym are.answers in
        let state_is : visits (suc (all - 1)) q ≡ q' = sym (one-more (all - 1) q) ∙ ap visited (sym same) ∙ one-more more q ∙ sym are.leads in (
          all - 1,
          subst (λ (r : Reply). Ticks step.Collect is_answered (all - 1) q r q') answer_is
              (subst (λ (p : State). Ticks step.Collect is_answered (all - 1) q (collected (visits (all - 1) q)) p) state_is (visits-are (all - 1) q are.works)),
          omega arith,
          inl refl,
        )

    by : (b : Bool) → is_answered answer ≡ b → (more ≡ visits_needed q.layout all - 1) ⊎ (is_answered answer ≡ false) → Collects q all answer q'
    by false stops which = (more, made, within, inr stops)
    by true goes (inl is) = as_all goes is
    by true goes (inr stops) = absurd (no_both _ goes stops)

pub collects-so : {D : Type 0} {G : Ghosts D} (state : D → Device) (old new : Room D G) (layout : Layout) (all more : ℕ) (answer : Reply)
    → ((q : State) → Shows state old q → layout ≡ q.layout)
    → more ≤ visits_needed layout all - 1 → (more ≡ visits_needed layout all - 1) ⊎ (is_answered answer ≡ false)
    → LeadsBy state old new (λ q q'. Ticks step.Collect is_answered more q answer q') → LeadsBy state old new (λ q q'. Collects q all answer q')
collects-so state old new layout all more answer laid few done made = record {
  each = λ q shows.
      let one = made.each q shows in
      let is = laid q shows in (
        one.0,
        all-made q all more answer one.0
            (subst (λ (a : Layout). more ≤ visits_needed a all - 1) is few)
            (subst (λ (a : Layout). (more ≡ visits_needed a all - 1) ⊎ (is_answered answer ≡ false)) is done) one.1,
        one.2,
      );
}

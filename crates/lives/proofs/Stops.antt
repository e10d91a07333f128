-- How far a device goes, and where it is stopped.
use Rattle.std.proofs.Common.{◌≡◌, ◌⊎◌, inl, inr, ℕ, zero, suc, ◌+◌, ◌<◌, Bool, true, false, List, [], ◌∷◌, ◌++◌, length, replicate, refl, sym, ◌∙◌, ap, subst, arith}
use Rattle.std.specs.Prelude.{Contains, Option, Some, None, Result, Ok, Err, IfErr}
use Rattle.std.specs.Option.{option_map}
use Rattle.std.proofs.lemmas.Bool.{cases_lt}
use Rattle.std.proofs.lemmas.List.Elements.{All-contains, Contains-append_cases, Contains-append_left, Contains-append_right, Contains-push}
use Rattle.std.proofs.lemmas.Option.{none-some}
use Rattle.base.specs.declared.fault.Fault.{Fault}
use Rattle.base.specs.declared.fault.Fault.TheVariants.{Device as DeviceFault, OutOfMemory, NotFormatted, Version, BadGeometry, Damaged, TimestampsOut, Failed}
use Rattle.base.specs.declared.step.Step.{Step}
use Rattle.base.specs.declared.step.Reply.{Reply}
use Rattle.base.specs.declared.step.Reply.TheVariants.{Refused}
use Rattle.base.specs.Search.{first_of, first_below, some_if}
use Rattle.base.specs.Images.{Image, opening_fault, damage, faults_of, log_damage, layout_of, is_wrong_gate, ruling, ruling_place, is_bad_slot, is_near_limit}
use Rattle.machine.specs.Openings.{OpensAs, StandsOpening}
use Rattle.machine.specs.Lives.{World}
use Rattle.machine.specs.Machine.{State, StandsClosed, StandsClosing, closing_fault}
use Rattle.pmem.specs.Device.{Device, IsOrderly, MayLeave, limited, restarted}
use Rattle.pmem.specs.Words.{Continues, LeavesOnly}
use Rattle.pmem.proofs.Images.{continues_refl, continues_trans}
use Rattle.pmem_model.specs.declared.choice.Choice.{Choice}
use Rattle.pmem_model.specs.Chosen.{IsChosen}
use Rattle.pmem_model.specs.Sim.{IsWithinLimit}
use Rattle.recovery.specs.Opened.{IsRefusal, MakesOpening}
use Rattle.recovery.proofs.openings.Faults.{log-first}
use Rattle.room.specs.Closing.{IsClosingRefusal}
use Rattle.room.specs.Committing.{Shows}
use Rattle.room.specs.Steps.{StepsTo}
use Rattle.room.specs.declared.volatile.VolatileState.{VolatileState}
use Rattle.lives.specs.declared.life.Life.{Life}
use Rattle.lives.specs.declared.life.LifeReport.{LifeReport}
use Rattle.lives.specs.declared.life.Numbers.{Numbers}
use Rattle.lives.specs.declared.life.Opened.{Opened}
use Rattle.lives.specs.declared.life.Repeated.{Repeated}
use Rattle.lives.specs.ReportedReplies.{AreReported, IsReported, has_failed, is_final, steps_of}
use Rattle.lives.specs.Stops.{ClosesWithDevice, EndsOn, FailsOn, GoesOn, IsStopped, LivesOn, OpensOn, PlaysOn, ReportsDevice, StepsOn, StopsBy}

-- ---- going on

no_more : (m n : ℕ) → n ≡ m → m < n → ⊥
no_more m n same more = omega (arith, same, more)

-- one after the other
pub goes-on : {A B C : Type 0} {old mid new : Device} → GoesOn old mid A → GoesOn mid new B → (A → C) → (B → C) → (C → A ⊎ B) → GoesOn old new C
goes-on {A} {B} {C} {old} {mid} {new} first then by_first by_then one = grind (arith, continues_trans, cases_lt)

-- without a failure, and without a report of one
pub goes-quietly : {R : Type 0} {old new : Device} → Continues old new → new.failures ≡ old.failures → (R → ⊥) → GoesOn old new R
goes-quietly {R} {old} {new} continues same none = grind (arith, no_more)

pub goes-nowhere : {R : Type 0} (old new : Device) → new ≡ old → (R → ⊥) → GoesOn old new R
goes-nowhere old new same none = goes-quietly (subst (λ (d : Device). Continues old d) (sym same) (continues_refl old)) (ap (λ (d : Device). d.failures) same) none

none-yet : {X : Type 0} (x : X) → Contains [] x → ⊥
none-yet x (k, lt, is) = omega (arith, lt)

-- without a reply
goes-silent : (device end : Device) (replies : List Reply) → end ≡ device → replies ≡ [] → GoesOn device end (Contains replies (Refused DeviceFault))
goes-silent device end replies is empty = goes-nowhere device end is (λ has. none-yet (Refused DeviceFault) (subst (λ (l : List Reply). Contains l (Refused DeviceFault)) empty has))

has-first : {X : Type 0} (x : X) (xs : List X) (y : X) → Contains (x ∷ xs) y → (x ≡ y) ⊎ Contains xs y
has-first {X} x xs y has = grind (arith, none-yet)

-- a step before them
goes-before : {old mid new : Device} (reply : Reply) (replies : List Reply) → GoesOn old mid (reply ≡ Refused DeviceFault) → GoesOn mid new (Contains replies (Refused DeviceFault))
    → GoesOn old new (Contains (reply ∷ replies) (Refused DeviceFault))
goes-before reply replies first then =
    goes-on first then
    (λ is. subst (λ (r : Reply). Contains (reply ∷ replies) r) is (Contains-append_left (reply ∷ []) replies reply (Contains-push [] reply)))
    (λ has. Contains-append_right (reply ∷ []) replies (Refused DeviceFault) has)
    (λ has. has-first reply replies (Refused DeviceFault) has)

-- a step
step-goes : (volatile : VolatileState) (device next : Device) (step : Step) (reply : Reply) (q q' : State) → StepsTo volatile device next step reply q q'
    → GoesOn device next (reply ≡ Refused DeviceFault)
step-goes volatile device next step reply q q' taken = record { continues = taken.effect.images.continues; cause = taken.effect.failure.cause; shown = taken.effect.failure.shown }

-- steps
steps-go : (q : State) (device : Device) (steps : List Step) (replies : List Reply) (last : State) (end : Device) → StepsOn q device steps replies last end
    → GoesOn device end (Contains replies (Refused DeviceFault))
steps-go q device [] [] last end (same, is) = goes-silent device end [] is refl
steps-go q device (step ∷ steps) (reply ∷ replies) last end (q', next, volatile, taken, inl (fails, none, same, is)) =
    goes-before reply replies (step-goes volatile device next step reply q q' taken) (goes-silent next end replies is none)
steps-go q device (step ∷ steps) (reply ∷ replies) last end (q', next, volatile, taken, inr (works, rest)) =
    goes-before reply replies (step-goes volatile device next step reply q q' taken) (steps-go q' next steps replies last end rest)
steps-go q device [] (reply ∷ replies) last end none = absurd none
steps-go q device (step ∷ steps) [] last end none = absurd none

-- ---- what is reported of replies

abbrev failed_reply : Reply
failed_reply = Refused DeviceFault

busy-not : (b : Bool) → b ≡ false → b ≡ true → ⊥
busy-not b f t = cc

first-or : {X : Type 0} (x y : X) (P : Type 0) → (P → x ≡ y) → (x ≡ y) ⊎ P → x ≡ y
first-or x y a later b = grind (arith)

repeated-is : {X : Type 0} (n : ℕ) (x y : X) → Contains (replicate n x) y → x ≡ y
repeated-is zero x y has = absurd (none-yet y has)
repeated-is (suc n) x y has = first-or x y (Contains (replicate n x) y) (repeated-is n x y) (has-first x (replicate n x) y has)

-- a failure is the one that is reported
own-told : (own : List Reply) (answer : Option Reply) → IsReported own answer → Contains own failed_reply → answer ≡ Some failed_reply
own-told own None none has = absurd (none-yet failed_reply (subst (λ (l : List Reply). Contains l failed_reply) none has))
own-told own (Some answer) (before, more, busy, is) has = by (Contains-append_cases before (replicate (suc more) answer) failed_reply (subst (λ (l : List Reply). Contains l failed_reply) is has))
  where
    by : Contains before failed_reply ⊎ Contains (replicate (suc more) answer) failed_reply → Some answer ≡ Some failed_reply
    by (inl early) = absurd (busy-not true (All-contains (λ r. is_final r ≡ false) before failed_reply busy early) refl)
    by (inr late) = ap Some (repeated-is (suc more) answer failed_reply late)

told-own : (own : List Reply) (answer : Option Reply) → IsReported own answer → answer ≡ Some failed_reply → Contains own failed_reply
told-own own None none is = absurd (cc is)
told-own own (Some answer) (before, more, busy, made) is =
    let same : answer ≡ failed_reply = cc is in
    subst (λ (l : List Reply). Contains l failed_reply) (sym made)
    (Contains-append_right before (answer ∷ replicate more answer) failed_reply
    (subst (λ (r : Reply). Contains (answer ∷ replicate more answer) r) same (Contains-append_left (answer ∷ []) (replicate more answer) answer (Contains-push [] answer))))

-- what is reported of a step, and of those after it
abbrev Rest : List Repeated → Repeated → List Reply → List Reply → Option Reply → List (Option Reply) → Type 0
Rest asked one own later answer told =
    ((has_failed answer ≡ true) × (later ≡ []) × (told ≡ [])) ⊎ ((has_failed answer ≡ false) × (length own ≡ one.times) × AreReported asked later told)

first-has : {X : Type 0} (x : X) (xs : List X) → Contains (x ∷ xs) x
first-has x xs = Contains-append_left (x ∷ []) xs x (Contains-push [] x)

later-told : (asked : List Repeated) (one : Repeated) (own later : List Reply) (answer : Option Reply) (told : List (Option Reply)) → IsReported own answer
    → (AreReported asked later told → Contains later failed_reply → Contains told (Some failed_reply))
    → Contains own failed_reply ⊎ Contains later failed_reply → Rest asked one own later answer told → Contains (answer ∷ told) (Some failed_reply)
later-told asked one own later answer told mine others (inl early) rest =
    subst (λ (x : Option Reply). Contains (answer ∷ told) x) (own-told own answer mine early) (first-has answer told)
later-told asked one own later answer told mine others (inr late) (inl (fails, none, end)) = absurd (none-yet failed_reply (subst (λ (l : List Reply). Contains l failed_reply) none late))
later-told asked one own later answer told mine others (inr late) (inr (works, counted, more)) = Contains-append_right (answer ∷ []) told (Some failed_reply) (others more late)

-- so it is of all steps
told-has : (asked : List Repeated) (replies : List Reply) (told : List (Option Reply)) → AreReported asked replies told → Contains replies failed_reply → Contains told (Some failed_reply)
told-has [] replies told (none, empty) has = absurd (none-yet failed_reply (subst (λ (l : List Reply). Contains l failed_reply) none has))
told-has (one ∷ asked) replies [] none has = absurd none
told-has (one ∷ asked) replies (answer ∷ told) (own, later, is, mine, rest) has =
    later-told asked one own later answer told mine (told-has asked later told) (Contains-append_cases own later failed_reply (subst (λ (l : List Reply). Contains l failed_reply) is has)) rest

told-later : (asked : List Repeated) (one : Repeated) (own later : List Reply) (answer : Option Reply) (told : List (Option Reply)) → IsReported own answer
    → (AreReported asked later told → Contains told (Some failed_reply) → Contains later failed_reply)
    → (answer ≡ Some failed_reply) ⊎ Contains told (Some failed_reply) → Rest asked one own later answer told → Contains (own ++ later) failed_reply
told-later asked one own later answer told mine others (inl early) rest = Contains-append_left own later failed_reply (told-own own answer mine early)
told-later asked one own later answer told mine others (inr late) (inl (fails, none, end)) = absurd (none-yet (Some failed_reply) (subst (λ (l : List (Option Reply)). Contains l (Some failed_reply)) end late))
told-later asked one own later answer told mine others (inr late) (inr (works, counted, more)) = Contains-append_right own later failed_reply (others more late)

has-told : (asked : List Repeated) (replies : List Reply) (told : List (Option Reply)) → AreReported asked replies told → Contains told (Some failed_reply) → Contains replies failed_reply
has-told [] replies told (none, empty) has = absurd (none-yet (Some failed_reply) (subst (λ (l : List (Option Reply)). Contains l (Some failed_reply)) empty has))
has-told (one ∷ asked) replies [] none has = absurd none
has-told (one ∷ asked) replies (answer ∷ told) (own, later, is, mine, rest) has =
    subst (λ (l : List Reply). Contains l failed_reply) (sym is)
    (told-later asked one own later answer told mine (has-told asked later told) (has-first answer told (Some failed_reply) has) rest)

-- ---- what no refusal is for

abbrev IsNotDevice : Option Fault → Type 0
IsNotDevice reason = reason ≡ Some DeviceFault → ⊥

abbrev AreNotDevice : List (Option Fault) → Type 0
AreNotDevice [] = Unit {0}
AreNotDevice (reason ∷ reasons) = IsNotDevice reason × AreNotDevice reasons

none-not : IsNotDevice None
none-not e = cc

some-not : (fault : Fault) → (fault ≡ DeviceFault → ⊥) → IsNotDevice (Some fault)
some-not fault other e = grind (arith)

first-not : (reasons : List (Option Fault)) → AreNotDevice reasons → IsNotDevice (first_of reasons)
first-not [] others e = none-not e
first-not (None ∷ reasons) (one, others) e = first-not reasons others e
first-not (Some fault ∷ reasons) (one, others) e = one e

if-not : (test : Bool) (fault : Fault) → (fault ≡ DeviceFault → ⊥) → IsNotDevice (some_if test fault)
if-not a fault other = grind (arith, some-not, none-not)

damaged-not : (place : ℕ) → Damaged place ≡ DeviceFault → ⊥
damaged-not place e = cc

map-not : (f : ℕ → ℕ) (place : Option ℕ) → IsNotDevice (option_map (λ n. Damaged (f n)) place)
map-not f a = grind (arith, none-not, some-not, damaged-not)

not-formatted : NotFormatted ≡ DeviceFault → ⊥
not-formatted e = cc

version-not : (version : ℕ) → Version version ≡ DeviceFault → ⊥
version-not version e = cc

geometry-not : BadGeometry ≡ DeviceFault → ⊥
geometry-not e = cc

timestamps-not : TimestampsOut ≡ DeviceFault → ⊥
timestamps-not e = cc

failed-not : Failed ≡ DeviceFault → ⊥
failed-not e = cc

memory-not : OutOfMemory ≡ DeviceFault → ⊥
memory-not e = cc

damage-not : (image : Image) → IsNotDevice (damage image)
damage-not image =
    first-not (faults_of image) (
      if-not _ NotFormatted not-formatted,
      (
        if-not _ (Version (layout_of image).version) (version-not (layout_of image).version),
        (
          if-not _ BadGeometry geometry-not,
          (
            map-not (λ n. n) (first_below (layout_of image).places (is_wrong_gate image)),
            (
              if-not _ (Damaged (ruling_place image)) (damaged-not (ruling_place image)),
              (map-not (λ slot. (layout_of image).places + slot) (first_below (layout_of image).slots (is_bad_slot (ruling image) image)), tt),
            ),
          ),
        ),
      ),
    )

-- opening never returns Device because of the image
pub opening-not : (image : Image) → IsNotDevice (opening_fault image)
opening-not image = grind (arith, first-not, damage-not image, if-not (is_near_limit image) TimestampsOut timestamps-not, timestamps-not)

-- nor does closing because of the state
closing-not : (q : State) → IsNotDevice (closing_fault q)
closing-not q = grind (arith, first-not, if-not, failed-not, timestamps-not)

-- ---- opening

abbrev opening-fault : Result Opened Fault → Fault
opening-fault (Ok opened) = OutOfMemory
opening-fault (Err fault) = fault

none-closed : ClosesWithDevice None → ⊥
none-closed e = cc

-- opening was refused
pub refused-goes : (old new : Device) (image : Image) (fault : Fault) (report : LifeReport) → report.opening ≡ Err fault → report.replies.items ≡ [] → report.closed ≡ None
    → IsRefusal (opening_fault image) old new fault → Continues old new → GoesOn old new (ReportsDevice report)
refused-goes old new image fault report opening replies closed refusal continues = grind (arith, none-yet, none-closed, opening-not, memory-not, goes-nowhere)

-- what is known of the image before holds of what it stands for
pub fails-on : (old new : Device) (image : Image) (before : World) (report : LifeReport) (fault : Fault) → report.opening ≡ Err fault → before.image ≡ image
    → IsRefusal (opening_fault image) old new fault → LeavesOnly old new (StandsOpening image before.history before.next) → FailsOn old before report new
fails-on old new image before report fault fails same refusal images = record {
  fault = fault;
  fails = fails;
  refusal = subst (λ (i : Image). IsRefusal (opening_fault i) old new fault) (sym same) refusal;
  images = subst (λ (i : Image). LeavesOnly old new (StandsOpening i before.history before.next)) (sym same) images;
}

pub opens-on : (old new : Device) (image : Image) (before : World) (q : State) (volatile : VolatileState) → before.image ≡ image → OpensAs image before.history before.lost q
    → MakesOpening image old new → LeavesOnly old new (StandsOpening image before.history before.next) → Shows volatile new q → OpensOn old before q new
opens-on old new image before q volatile same opens made images shows = grind (arith)

ok-not : (opened : Opened) → ◌≡◌ {A = Result Opened Fault} (Ok opened) (Err DeviceFault) → ⊥
ok-not opened e = cc

-- a life whose opening succeeded goes on by its steps, and up to its stop
pub played-stops : (life : Life) (q after : State) (old mid : Device) (left : Image) (opened : Opened) (report : LifeReport) (replies : List Reply) → report.opening ≡ Ok opened
    → AreReported life.steps.items replies report.replies.items → StepsOn q old (steps_of life.steps.items) replies after mid
    → StopsBy life.choice mid (ClosesWithDevice report.closed) (EndsOn after report.closed mid) left
    → StopsBy life.choice old (ReportsDevice report) (PlaysOn q old life report replies) left
played-stops life q after old mid left opened report replies opening tells steps stops = record {
  last = stops.last;
  leads = record { opening = opened; opens = opening; after = after; left = mid; steps = steps; ends = stops.leads };
  goes_on = goes-on (steps-go q old (steps_of life.steps.items) replies after mid steps) stops.goes_on (λ has. inr (inl (told-has life.steps.items replies report.replies.items tells has))) (λ told. inr (inr told)) cases;
  orderly = stops.orderly;
  within = stops.within;
  chosen = stops.chosen;
}
  where
    cases : ReportsDevice report → Contains replies (Refused DeviceFault) ⊎ ClosesWithDevice report.closed
    cases (inl told) = absurd (ok-not opened (sym opening ∙ told))
    cases (inr (inl has)) = inl (has-told life.steps.items replies report.replies.items tells has)
    cases (inr (inr told)) = inr told

-- the opening came before
pub opened-stops : {R : Type 0} (life : Life) (report : LifeReport) (replies : List Reply) (before : World) (q : State) (old mid : Device) (left : Image) → OpensOn old before q mid
    → mid.failures ≡ old.failures → StopsBy life.choice mid R (PlaysOn q mid life report replies) left → StopsBy life.choice old R (LivesOn old before life report replies) left
opened-stops life report replies before q old mid left opens same stops = record {
  last = stops.last;
  leads = inr (q, mid, opens, stops.leads);
  goes_on = goes-on (goes-quietly {R = ⊥} opens.images.continues same (λ e. e)) stops.goes_on (λ e. absurd e) (λ told. told) (λ told. inr told);
  orderly = stops.orderly;
  within = stops.within;
  chosen = stops.chosen;
}

-- ---- an end

-- without closing
pub open-stops : (choice : Choice) (q : State) (old last : Device) (left : Image) → last ≡ old → IsOrderly last → IsWithinLimit last → IsChosen choice last left
    → StopsBy choice old (ClosesWithDevice None) (EndsOn q None old) left
open-stops choice q old last left same tidy within chosen = record { last = last; leads = same; goes_on = goes-nowhere old last same none-closed; orderly = tidy; within = within; chosen = chosen }

some-closed : (told : Result Numbers Fault) → ClosesWithDevice (Some told) → told ≡ Err DeviceFault
some-closed told e = grind (arith)

numbers-not : (numbers : Numbers) → ◌≡◌ {A = Result Numbers Fault} (Ok numbers) (Err DeviceFault) → ⊥
numbers-not numbers e = cc

read-not : (image : Image) (told : Result Numbers Fault) → damage image ≡ None → IfErr told (λ fault. log_damage image ≡ Some fault) → told ≡ Err DeviceFault → ⊥
read-not image (Ok numbers) sound is e = numbers-not numbers e
read-not image (Err fault) sound is e = none-some fault (sym sound ∙ log-first image fault is)

-- after closing succeeded
pub closed-stops : (choice : Choice) (q : State) (old last : Device) (left : Image) (told : Result Numbers Fault) → LeavesOnly old last (StandsClosing q) → last.failures ≡ old.failures
    → ((image : Image) → MayLeave last image → StandsClosed q image) → damage left ≡ None → IfErr told (λ fault. log_damage left ≡ Some fault)
    → IsOrderly last → IsWithinLimit last → IsChosen choice last left → StopsBy choice old (ClosesWithDevice (Some told)) (EndsOn q (Some told) old) left
closed-stops choice q old last left told images same closed sound is tidy within chosen = record {
  last = last;
  leads = by told is;
  orderly = tidy;
  goes_on = goes-quietly images.continues same (λ e. read-not left told sound is (some-closed told e));
  within = within;
  chosen = chosen;
}
  where
    by : (told : Result Numbers Fault) → IfErr told (λ fault. log_damage left ≡ Some fault) → EndsOn q (Some told) old last
    by (Ok numbers) is = (same, images, closed)
    by (Err fault) is = absurd (none-some fault (sym sound ∙ log-first left fault is))

abbrev close-fault : Result Numbers Fault → Fault
close-fault (Ok numbers) = OutOfMemory
close-fault (Err fault) = fault

-- while closing, if it failed
pub refused-stops : (choice : Choice) (q : State) (old last : Device) (left : Image) (fault : Fault) → LeavesOnly old last (StandsClosing q) → IsClosingRefusal q old last fault
    → IsOrderly last → IsWithinLimit last → IsChosen choice last left → StopsBy choice old (ClosesWithDevice (Some (Err fault))) (EndsOn q (Some (Err fault)) old) left
refused-stops choice q old last left fault images refusal tidy within chosen = record { last = last; leads = (refusal, images); goes_on = by refusal; orderly = tidy; within = within; chosen = chosen }
  where
    is_device : ClosesWithDevice (Some (Err fault)) → fault ≡ DeviceFault
    is_device told = ap close-fault (some-closed (Err fault) told)

    by : IsClosingRefusal q old last fault → GoesOn old last (ClosesWithDevice (Some (Err fault)))
    by (inl (because, same)) = goes-nowhere old last same (λ told. closing-not q (because ∙ ap Some (is_device told)))
    by (inr (none, is, more)) = record { continues = images.continues; cause = λ told. more; shown = λ failed. ap (λ (f : Fault). Some (Err f)) is }

-- ---- a life

from-nothing : (fuse : Option ℕ) → option_map (λ left. 0 + left) fuse ≡ fuse
from-nothing a = grind (arith)

-- its device began with the image at rest, under its fuse
pub is-stopped : (life : Life) (report : LifeReport) (replies : List Reply) (before : World) (left : Image) (begun : Device) → begun ≡ limited life.fuse (restarted before.image)
    → StopsBy life.choice begun (ReportsDevice report) (LivesOn begun before life report replies) left → IsStopped life report replies before left
is-stopped life report replies before left begun is stops =
    let last = stops.last in
    let limit : last.limit ≡ life.fuse = stops.goes_on.continues.same_limit ∙ ap (λ (d : Device). d.limit) is ∙ from-nothing life.fuse in
    let none : begun.failures ≡ 0 = ap (λ (d : Device). d.failures) is in
    let within = stops.within in
    record {
      last = last;
      lives = subst (λ (d : Device). LivesOn d before life report replies last) is stops.leads;
      goes_on = subst (λ (d : Device). Continues d last) is stops.goes_on.continues;
      orderly = stops.orderly;
      counted = within.counted;
      most = λ fuse asked. omega (arith, within.counted, within.most fuse (limit ∙ asked));
      reported = (λ told. omega (arith, none, stops.goes_on.cause told), λ failed. stops.goes_on.shown (omega (arith, none, failed)));
      all = λ told. sym limit ∙ within.all (λ zero. no_more 0 last.failures zero (omega (arith, none, stops.goes_on.cause told))) ∙ ap Some (sym within.counted);
      chosen = stops.chosen;
    }

-- Steps one after another, and runs that begin with opening.
use Rattle.std.proofs.Common.{◌≡◌, ◌⊎◌, inl, inr, zero, suc, ℕ, ◌+◌, ◌<◌, ◌≤◌, List, [], ◌∷◌, ◌++◌, refl, sym, subst, arith}
use Rattle.std.proofs.Math.Logic.{∥∥₁_map}
use Rattle.std.specs.Prelude.{Contains, None, map}
use Rattle.std.proofs.lemmas.Bool.{cases_lt}
use Rattle.std.proofs.lemmas.List.{map-append}
use Rattle.std.proofs.lemmas.List.Elements.{Contains-append_cases, Contains-append_left, Contains-append_right}
use Rattle.base.specs.declared.fault.Fault.TheVariants.{Device as DeviceFault}
use Rattle.base.specs.declared.step.Step.{Step}
use Rattle.base.specs.declared.step.Note.{Note}
use Rattle.base.specs.declared.step.Reply.{Reply}
use Rattle.base.specs.declared.step.Reply.TheVariants.{Refused}
use Rattle.base.specs.Commits.{Commit}
use Rattle.base.specs.Images.{Image, opening_fault, ruling}
use Rattle.base.specs.Replies.{note_of}
use Rattle.base.specs.Stands.{Stands}
use Rattle.base.proofs.Histories.{history_in, sound-stands, opens-sound}
use Rattle.machine.specs.Machine.{State, Run, final, Noted, most_operations_along, StandsAt, StandsAlong}
use Rattle.machine.specs.Openings.{OpensAs, StandsOpening}
use Rattle.machine.proofs.Runs.{Noted-append, StandsAt-within}
use Rattle.pmem.specs.Device.{Device, IsOrderly}
use Rattle.pmem.specs.Words.{IsAtRest, LeavesOnly, image_of}
use Rattle.pmem.specs.declared.device.Pmem.{Ghosts}
use Rattle.pmem.proofs.Images.{leaves_refl, leaves_trans, leaves_weaken}
use Rattle.room.specs.declared.room.Room.{Room}
use Rattle.room.specs.Room.{Shows, StepsTo, RunsTo, Leads, device_of}
use Rattle.room.specs.Runs.{RunOf, StandsSince, RunOver, EndsRun, EndsRunIn, ComesTo, LeadsAlong, HasTaken}

-- ---- one run after another

final-join : (q : State) (states later : List State) → final q (states ++ later) ≡ final (final q states) later
final-join q [] later = refl
final-join q (q1 ∷ states) later = final-join q1 states later

Run-join : (q : State) (steps : List Step) (replies : List Reply) (states : List State) (more : List Step) (others : List Reply) (later : List State)
    → Run q steps replies states → Run (final q states) more others later → Run q (steps ++ more) (replies ++ others) (states ++ later)
Run-join q [] [] [] more others later one two = two
Run-join q (s1 ∷ steps) (r1 ∷ replies) (q1 ∷ states) more others later one two = (one.0, Run-join q1 steps replies states more others later one.1 two)
Run-join q [] [] (q1 ∷ states) more others later one two = absurd one
Run-join q [] (r1 ∷ replies) states more others later one two = absurd one
Run-join q (s1 ∷ steps) [] states more others later one two = absurd one
Run-join q (s1 ∷ steps) (r1 ∷ replies) [] more others later one two = absurd one

pub along-at : (q : State) (states : List State) (image : Image) → StandsAt q image → StandsAlong q states image
along-at q [] image s = s
along-at q (q' ∷ states) image s = inl (StandsAt-within q q' image s)

along-before : (q : State) (states later : List State) (image : Image) → StandsAlong q states image → StandsAlong q (states ++ later) image
along-before q [] later image s = along-at q later image s
along-before q (q1 ∷ states) later image (inl s) = inl s
along-before q (q1 ∷ states) later image (inr s) = inr (along-before q1 states later image s)

along-after : (q : State) (states later : List State) (image : Image) → StandsAlong (final q states) later image → StandsAlong q (states ++ later) image
along-after q [] later image s = s
along-after q (q1 ∷ states) later image s = inr (along-after q1 states later image s)

operations-join : (q : State) (steps : List Step) (replies : List Reply) (states : List State) (more : List Step) (later : List State) → Run q steps replies states
    → most_operations_along q (steps ++ more) (states ++ later) ≡ most_operations_along q steps states + most_operations_along (final q states) more later
operations-join q [] [] [] more later run = omega arith
operations-join q (s1 ∷ steps) (r1 ∷ replies) (q1 ∷ states) more later run = omega (arith, operations-join q1 steps replies states more later run.1)
operations-join q [] [] (q1 ∷ states) more later run = absurd run
operations-join q [] (r1 ∷ replies) states more later run = absurd run
operations-join q (s1 ∷ steps) [] states more later run = absurd run
operations-join q (s1 ∷ steps) (r1 ∷ replies) [] more later run = absurd run

-- ---- of a room

pub run-none : {D : Type 0} {G : Ghosts D} (state : D → Device) (room : Room D G) (q : State) → IsOrderly (state room.device) → Shows state room q → RunsTo state room room [] [] q []
run-none state room q orderly shown = record {
  run = tt;
  shows = shown;
  images = leaves_refl (state room.device) (StandsAlong q []) orderly shown.stands;
  failure = record { no_fewer = omega arith; cause = λ told. absurd (omega (arith, told.1)); shown = λ less. absurd (omega (arith, less)) };
  operations = omega arith;
}

pub run-one : {D : Type 0} {G : Ghosts D} (state : D → Device) (old new : Room D G) (step : Step) (reply : Reply) (q q' : State) → StepsTo state old new step reply q q' → RunsTo state old new (step ∷ []) (reply ∷ []) q (q' ∷ [])
run-one state old new step reply q q' one = record {
  run = (one.stepped, tt);
  shows = one.shows;
  images = leaves_weaken (λ image s. inl s) one.effect.images;
  failure = record { no_fewer = one.effect.failure.no_fewer; cause = cause; shown = λ less. (0, omega arith, one.effect.failure.shown less) };
  operations = omega (arith, one.effect.operations);
}
  where
    cause : Contains (reply ∷ []) (Refused DeviceFault) → (state old.device).failures < (state new.device).failures
    cause (zero, within, is) = one.effect.failure.cause is
    cause (suc k, within, is) = absurd (omega (arith, within))

pub run-join : {D : Type 0} {G : Ghosts D} (state : D → Device) (first next last : Room D G) (steps : List Step) (replies : List Reply) (more : List Step) (others : List Reply) (q : State) (states later : List State)
    → RunsTo state first next steps replies q states → RunsTo state next last more others (final q states) later → RunsTo state first last (steps ++ more) (replies ++ others) q (states ++ later)
run-join state first next last steps replies more others q states later one two = record {
  run = Run-join q steps replies states more others later one.run two.run;
  shows = subst (λ (x : State). Shows state last x) (sym (final-join q states later)) two.shows;
  images = leaves_trans (leaves_weaken (along-before q states later) one.images) (leaves_weaken (along-after q states later) two.images);
  failure = record {
    no_fewer = omega (arith, one.failure.no_fewer, two.failure.no_fewer);
    cause = λ told. cause (Contains-append_cases replies others (Refused DeviceFault) told);
    shown = λ less. shown less (cases_lt (state first.device).failures (state next.device).failures);
  };
  operations = omega (arith, one.operations, two.operations, operations-join q steps replies states more later one.run);
}
  where
    cause : Contains replies (Refused DeviceFault) ⊎ Contains others (Refused DeviceFault) → (state first.device).failures < (state last.device).failures
    cause (inl before) = omega (arith, one.failure.cause before, two.failure.no_fewer)
    cause (inr after) = omega (arith, one.failure.no_fewer, two.failure.cause after)

    shown : (state first.device).failures < (state last.device).failures → ((state first.device).failures < (state next.device).failures) ⊎ ((state next.device).failures ≤ (state first.device).failures)
        → Contains (replies ++ others) (Refused DeviceFault)
    shown less (inl early) = Contains-append_left replies others (Refused DeviceFault) (one.failure.shown early)
    shown less (inr late) = Contains-append_right replies others (Refused DeviceFault) (two.failure.shown (omega (arith, less, late)))

-- a step before the others
pub run-more : {D : Type 0} {G : Ghosts D} (state : D → Device) (first next last : Room D G) (step : Step) (reply : Reply) (steps : List Step) (replies : List Reply) (q q' : State) (states : List State)
    → StepsTo state first next step reply q q' → RunsTo state next last steps replies q' states → RunsTo state first last (step ∷ steps) (reply ∷ replies) q (q' ∷ states)
run-more state first next last step reply steps replies q q' states one more =
    run-join state first next last (step ∷ []) (reply ∷ []) steps replies q (q' ∷ []) states (run-one state first next step reply q q' one) more

-- a step after the others
pub run-then : {D : Type 0} {G : Ghosts D} (state : D → Device) (first next last : Room D G) (steps : List Step) (replies : List Reply) (step : Step) (reply : Reply) (q : State) (states : List State) (q' : State)
    → RunsTo state first next steps replies q states → StepsTo state next last step reply (final q states) q' → RunsTo state first last (steps ++ step ∷ []) (replies ++ reply ∷ []) q (states ++ q' ∷ [])
run-then state first next last steps replies step reply q states q' runs one =
    run-join state first next last steps replies (step ∷ []) (reply ∷ []) q states (q' ∷ []) runs (run-one state next last step reply (final q states) q' one)

-- ---- from each state that it showed

pub leads-none : {D : Type 0} {G : Ghosts D} (state : D → Device) (room : Room D G) → IsOrderly (state room.device) → LeadsAlong state room room []
leads-none state room orderly q shows = ([], run-none state room q orderly shows)

pub leads-one : {D : Type 0} {G : Ghosts D} (state : D → Device) (old new : Room D G) (step : Step) (reply : Reply) → Leads state old new step reply → LeadsAlong state old new ((step, reply) ∷ [])
leads-one state old new step reply leads q shows = let a = leads q shows in (a.0 ∷ [], run-one state old new step reply q a.0 a.1)

abbrev step_in : Step × Reply → Step
step_in one = one.0

abbrev reply_in : Step × Reply → Reply
reply_in one = one.1

pub leads-join : {D : Type 0} {G : Ghosts D} (state : D → Device) (old mid new : Room D G) (taken more : List (Step × Reply)) → LeadsAlong state old mid taken → LeadsAlong state mid new more → LeadsAlong state old new (taken ++ more)
leads-join state old mid new taken more one two q shows =
    let a = one q shows in
    let b = two (final q a.0) a.1.shows in (
      a.0 ++ b.0,
      rw (map-append step_in taken more, map-append reply_in taken more)
          (run-join state old mid new (map step_in taken) (map reply_in taken) (map step_in more) (map reply_in more) q a.0 b.0 a.1 b.1),
    )

-- ---- from the opening of an image, by notes

-- no step was made yet
pub of-opened : {D : Type 0} {G : Ghosts D} (state : D → Device) (room : Room D G) (image : Image) → opening_fault image ≡ None
    → ((history drawn : List Commit) (next : ℕ) (lost : List ℕ) → Stands image history drawn next → (q : State) × OpensAs image history lost q × Shows state room q) → RunOf image [] (Shows state room)
of-opened state room image may shows = record { may_open = may; each = λ history drawn next lost stands. let s = shows history drawn next lost stands in (s.0, s.1, (s.0, refl, s.2)) }

-- one step more
pub of-led : {D : Type 0} {G : Ghosts D} (state : D → Device) (old new : Room D G) (image : Image) (entries : List (Step × Note)) (step : Step) (reply : Reply)
    → RunOf image entries (Shows state old) → Leads state old new step reply → RunOf image (entries ++ (step, note_of reply) ∷ []) (Shows state new)
of-led state old new image entries step reply r leads = record {
  may_open = r.may_open;
  each = λ history drawn next lost stands.
      let s = r.each history drawn next lost stands in
      let a = leads s.2.0 s.2.2 in
      (s.0, s.1, (a.0, Noted-append s.0 entries s.2.0 step reply a.0 s.2.1 a.1.stepped, a.1.shows));
}

-- of what follows from it
pub of-weaken : (image : Image) (entries : List (Step × Note)) (Is Other : State → Type 0) → ((q : State) → Is q → Other q) → RunOf image entries Is → RunOf image entries Other
of-weaken image entries Is Other weaker r = record {
  may_open = r.may_open;
  each = λ history drawn next lost stands. let s = r.each history drawn next lost stands in (s.0, s.1, (s.2.0, s.2.1, weaker s.2.0 s.2.2));
}

-- an image that opens stands for some history, so that there is such a run
pub of-some : (image : Image) (entries : List (Step × Note)) (Is : State → Type 0) → RunOf image entries Is → (start now : State) × Noted start entries now × Is now
of-some image entries Is r =
    let s = r.each (history_in image) [] (ruling image).dirty [] (sound-stands image (opens-sound image r.may_open)) in
    (s.0, s.2.0, s.2.1, s.2.2)

-- ---- from the opening of a device

since-before : (before : Image) (history : List Commit) (next : ℕ) (start : State) (states later : List State) (image : Image) → StandsSince before history next start states image → StandsSince before history next start (states ++ later) image
since-before before history next start states later image (inl opening) = inl opening
since-before before history next start states later image (inr along) = inr (along-before start states later image along)

-- no step was made yet
pub over-opened : {D : Type 0} {G : Ghosts D} (state : D → Device) (room : Room D G) (opened : Device) → IsAtRest opened → opening_fault (image_of opened) ≡ None
    → ((history drawn : List Commit) (next : ℕ) (lost : List ℕ) → Stands (image_of opened) history drawn next → (q : State) × OpensAs (image_of opened) history lost q × Shows state room q)
    → ((history drawn : List Commit) (next : ℕ) → Stands (image_of opened) history drawn next → LeavesOnly opened (device_of state room) (StandsOpening (image_of opened) history next))
    → RunOver opened (device_of state room) [] (Shows state room)
over-opened state room opened rests may shows images = record {
  at_rest = rests;
  may_open = may;
  each = λ history drawn next lost stands.
      let s = shows history drawn next lost stands in
      (s.0, s.1, record { states = []; run = tt; images = leaves_weaken (λ image i. inl i) (images history drawn next stands); is = s.2 });
}

-- the room takes more steps
pub over-led : {D : Type 0} {G : Ghosts D} (state : D → Device) (old new : Room D G) (opened : Device) (taken more : List (Step × Reply))
    → RunOver opened (device_of state old) taken (Shows state old) → LeadsAlong state old new more → RunOver opened (device_of state new) (taken ++ more) (Shows state new)
over-led state old new opened taken more r leads = record {
  at_rest = r.at_rest;
  may_open = r.may_open;
  each = λ history drawn next lost stands.
      let s = r.each history drawn next lost stands in
      let a = leads (final s.0 s.2.states) s.2.is in (
        s.0,
        s.1,
        record {
          states = s.2.states ++ a.0;
          run = rw (map-append step_in taken more, map-append reply_in taken more) (Run-join s.0 (map step_in taken) (map reply_in taken) s.2.states (map step_in more) (map reply_in more) a.0 s.2.run a.1.run);
          images = leaves_trans (leaves_weaken (since-before _ history next s.0 s.2.states a.0) s.2.images) (leaves_weaken (λ image i. inr (along-after s.0 s.2.states a.0 image i)) a.1.images);
          is = subst (λ (q : State). Shows state new q) (sym (final-join s.0 s.2.states a.0)) a.1.shows;
        },
      );
}

-- of what follows from it
pub over-weaken : (opened now : Device) (taken : List (Step × Reply)) (Is Other : State → Type 0) → ((q : State) → Is q → Other q) → RunOver opened now taken Is → RunOver opened now taken Other
over-weaken opened now taken Is Other weaker r = record {
  at_rest = r.at_rest;
  may_open = r.may_open;
  each = λ history drawn next lost stands.
      let s = r.each history drawn next lost stands in
      (s.0, s.1, record { states = s.2.states; run = s.2.run; images = s.2.images; is = weaker (final s.0 s.2.states) s.2.is });
}

-- an image that opens stands for some history, so that there is a state to which it comes
pub over-some : (opened now : Device) (taken : List (Step × Reply)) (Is : State → Type 0) → RunOver opened now taken Is → (q : State) × Is q
over-some opened now taken Is r =
    let image = image_of opened in
    let s = r.each (history_in image) [] (ruling image).dirty [] (sound-stands image (opens-sound image r.may_open)) in
    (final s.0 s.2.states, s.2.is)

pub taken-led : {D : Type 0} {G : Ghosts D} (state : D → Device) (old new : Room D G) (more : List (Step × Reply)) (Fact Other : List (Step × Reply) → Type 0)
    → ∥ HasTaken state old Fact ∥₁ → LeadsAlong state old new more → ((taken : List (Step × Reply)) → Fact taken → Other (taken ++ more)) → ∥ HasTaken state new Other ∥₁
taken-led state old new more Fact Other some leads so = ∥∥₁_map some (λ r. record {
  opened = r.opened;
  taken = r.taken ++ more;
  run = over-led state old new r.opened r.taken more r.run leads;
  so = so r.taken r.so;
})

-- nothing was done to it
pub taken-same : {D : Type 0} {G : Ghosts D} (state : D → Device) (old new : Room D G) (Fact : List (Step × Reply) → Type 0) → device_of state new ≡ device_of state old → ((q : State) → Shows state old q → Shows state new q)
    → ∥ HasTaken state old Fact ∥₁ → ∥ HasTaken state new Fact ∥₁
taken-same state old new Fact is shows some = ∥∥₁_map some (λ r. record {
  opened = r.opened;
  taken = r.taken;
  run = subst (λ (d : Device). RunOver r.opened d r.taken (Shows state new)) (sym is) (over-weaken r.opened (device_of state old) r.taken (Shows state old) (Shows state new) shows r.run);
  so = r.so;
})

-- the steps that the room makes end a run, in a state of which this holds
pub ends-run-in : {D : Type 0} {G : Ghosts D} {Made : List (Step × Reply) → Type 0} (state : D → Device) (old new : Room D G) (taken : List (Step × Reply)) (Fact : List (Step × Reply) → Type 0) (Is : State → Type 0)
    → ∥ HasTaken state old Made ∥₁ → LeadsAlong state old new taken → Fact taken → ((q : State) → Shows state new q → Is q) → EndsRunIn Fact Is
ends-run-in state old new taken Fact Is some leads fact is =
    ∥∥₁_map some (λ r.
    (r.opened, device_of state new, r.taken, taken, over-weaken r.opened (device_of state new) (r.taken ++ taken) (Shows state new) Is is (over-led state old new r.opened r.taken taken r.run leads), fact))

pub ends-run : {D : Type 0} {G : Ghosts D} {Made : List (Step × Reply) → Type 0} (state : D → Device) (old new : Room D G) (taken : List (Step × Reply)) (Fact : List (Step × Reply) → Type 0)
    → ∥ HasTaken state old Made ∥₁ → LeadsAlong state old new taken → Fact taken → EndsRun Fact
ends-run state old new taken Fact some leads fact = ends-run-in state old new taken Fact _ some leads fact (λ q shows. tt)

-- what each state has that the room shows
pub comes-to : {D : Type 0} {G : Ghosts D} {Made : List (Step × Reply) → Type 0} (state : D → Device) (room : Room D G) (Is : State → Type 0) → ∥ HasTaken state room Made ∥₁ → ((q : State) → Shows state room q → Is q) → ComesTo Is
comes-to state room Is some is = ∥∥₁_map some (λ r. (r.opened, device_of state room, [], r.taken, over-weaken r.opened (device_of state room) r.taken (Shows state room) Is is r.run, tt))

pub comes-weaken : (Is Other : State → Type 0) → ((q : State) → Is q → Other q) → ComesTo Is → ComesTo Other
comes-weaken Is Other weaker comes = ∥∥₁_map comes (λ r. (r.0, r.1, r.2, r.3, over-weaken r.0 r.1 (r.2 ++ r.3) Is Other weaker r.4, tt))

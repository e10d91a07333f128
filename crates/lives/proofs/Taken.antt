-- Steps one after another, up to the first in which the device fails.
use Rattle.std.proofs.Common.{◌≡◌, ◌⊎◌, ℕ, suc, ◌+◌, Bool, true, false, List, [], ◌∷◌, ◌++◌, length, replicate, refl, sym, ◌∙◌, ap, subst, append-nil, append_assoc, inl, inr, arith}
use Rattle.std.specs.Prelude.{All, Option, Some, None}
use Rattle.std.proofs.lemmas.Grind.{flat_map-append}
use Rattle.std.proofs.lemmas.List.{length-append, length-replicate, replicate-append-replicate}
use Rattle.std.proofs.lemmas.List.Elements.{All-nil, All-push}
use Rattle.base.specs.declared.step.Step.{Step}
use Rattle.base.specs.declared.step.Reply.{Reply}
use Rattle.machine.specs.Machine.{State, Stepped, final}
use Rattle.base.specs.Replies.{is_failure}
use Rattle.machine.specs.Lives.{RunsUp}
use Rattle.machine.proofs.Failures.{failed-after}
use Rattle.pmem.specs.Device.{Device, IsOrderly}
use Rattle.pmem.specs.declared.device.Pmem.{Ghosts}
use Rattle.room.specs.Room.{Shows, StepsTo as RoomStepsTo, device_of as device_in}
use Rattle.room.specs.Steps.{StepsTo}
use Rattle.room.specs.declared.volatile.VolatileState.{VolatileState}
use Rattle.room.specs.declared.room.Room.{Room}
use Rattle.lives.specs.Parts.{HasObeyed, HasRepeated}
use Rattle.lives.specs.Stops.{StepsOn}
use Rattle.lives.specs.ReportedReplies.{AreReported, has_failed, is_final, steps_of}
use Rattle.lives.specs.declared.life.Repeated.{Repeated}
use Rattle.lives.proofs.Final.{final-works, is-final-again, repeats}

-- ---- one step

-- from any state of which the first holds the step leads to one of which the other does
abbrev pub Takes : (State → Type 0) → Device → Step → Reply → Device → (State → Type 0) → Type 0
Takes P device step reply next P' = (q : State) → P q → (q' : State) × (volatile : VolatileState) × StepsTo volatile device next step reply q q' × P' q'

-- a step of the room does
pub room-takes : {D : Type 0} {G : Ghosts D} (state : D → Device) (old new : Room D G) (step : Step) (reply : Reply)
    → ((q : State) → Shows state old q → (q' : State) × RoomStepsTo state old new step reply q q')
    → Takes (Shows state old) (device_in state old) step reply (device_in state new) (Shows state new)
room-takes state old new step reply taken q shows =
    let made = taken q shows in
    let s = made.1 in (
      made.0,
      new.volatile,
      record { stepped = s.stepped; shows = s.shows.agrees.shown; effect = s.effect },
      s.shows,
    )

-- ---- some of the steps

-- these have their replies, the device has not failed, and whatever goes on from there goes on from the first state
pub record SoFar (q : State) (device : Device) (steps : List Step) (replies : List Reply) (now : Device) (P : State → Type 0) : Type 0 where
  pub at : State
  pub goes_on : (more : List Step) (later : List Reply) (last : State) (end : Device) → StepsOn at now more later last end → StepsOn q device (steps ++ more) (replies ++ later) last end
  pub after_it : P at
  pub works : q.failed ≡ false → at.failed ≡ false

pub so-far-none : (q : State) (device : Device) (P : State → Type 0) → P q → SoFar q device [] [] device P
so-far-none q device P p = record { at = q; goes_on = λ more later last end runs. runs; after_it = p; works = λ works. works }

-- ---- one step, again and again

abbrev pub IsBusy : Reply → Type 0
IsBusy reply = is_final reply ≡ false

-- it was taken this often, each time with something to do, and then once more, with this reply
pub record TakenAgain (q : State) (device : Device) (step : Step) (count : ℕ) (reply : Reply) (now : Device) (P : State → Type 0) : Type 0 where
  pub before : List Reply
  pub counted : length before ≡ count
  pub busy : All IsBusy before
  pub at : State
  pub mid : Device
  pub goes_on : (more : List Step) (later : List Reply) (end : State) (ended : Device) → StepsOn at mid more later end ended → StepsOn q device (replicate count step ++ more) (before ++ later) end ended
  pub works : q.failed ≡ false → at.failed ≡ false
  pub last : State
  pub volatile : VolatileState
  pub taken : StepsTo volatile mid now step reply at last
  pub after_it : P last

pub taken-once : (q : State) (device now : Device) (step : Step) (reply : Reply) (P P' : State → Type 0) → P q → Takes P device step reply now P' → TakenAgain q device step 0 reply now P'
taken-once q device now step reply P P' p one =
    let took = one q p in
    record {
      before = [];
      counted = refl;
      busy = All-nil _;
      at = q;
      mid = device;
      goes_on = λ more later end ended runs. runs;
      works = λ works. works;
      last = took.0;
      volatile = took.1;
      taken = took.2;
      after_it = took.3;
    }

one-more : {X : Type 0} (count : ℕ) (x : X) → replicate count x ++ x ∷ [] ≡ replicate (suc count) x
one-more count x = let more : count + 1 ≡ suc count = omega arith in replicate-append-replicate count 1 x ∙ ap (λ (n : ℕ). replicate n x) more

pub taken-more : (q : State) (device now next : Device) (step : Step) (count : ℕ) (reply again : Reply) (P P' : State → Type 0)
    → is_final reply ≡ false → TakenAgain q device step count reply now P → Takes P now step again next P' → TakenAgain q device step (suc count) again next P'
taken-more q device now next step count reply again P P' busy so_far one =
    let took = one so_far.last so_far.after_it in
    let more : count + 1 ≡ suc count = omega arith in
    record {
      before = so_far.before ++ reply ∷ [];
      counted = length-append so_far.before (reply ∷ []) ∙ (ap (λ (n : ℕ). n + 1) so_far.counted ∙ more);
      busy = All-push IsBusy so_far.before reply so_far.busy busy;
      at = so_far.last;
      mid = now;
      goes_on = λ more later end ended runs.
          subst (λ (l : List Reply). StepsOn q device (replicate (suc count) step ++ more) l end ended) (sym (append_assoc so_far.before (reply ∷ []) later))
          (subst (λ (l : List Step). StepsOn q device l (so_far.before ++ reply ∷ later) end ended)
          (sym (append_assoc (replicate count step) (step ∷ []) more) ∙ ap (λ (l : List Step). l ++ more) (one-more count step))
          (so_far.goes_on (step ∷ more) (reply ∷ later) end ended (so_far.last, now, so_far.volatile, so_far.taken, inr (final-works reply busy, runs))));
      works = λ began. failed-after so_far.at step reply so_far.last so_far.taken.stepped (so_far.works began) ∙ final-works reply busy;
      last = took.0;
      volatile = took.1;
      taken = took.2;
      after_it = took.3;
    }

false-true : (b : Bool) → b ≡ false → b ≡ true → ⊥
false-true b f t = cc

-- no time at all
pub repeated-none : (q : State) (device : Device) (asked : Repeated) (P : State → Type 0) → asked.times ≡ 0 → P q → HasRepeated q device asked None device P
repeated-none q device asked P none p = grind (arith, false-true)

-- this often, and some more
whole : (step : Step) (times count rest : ℕ) (more : List Step) → times ≡ count + suc rest → replicate count step ++ step ∷ (replicate rest step ++ more) ≡ replicate times step ++ more
whole step times count rest more is =
    sym (append_assoc (replicate count step) (step ∷ replicate rest step) more)
    ∙ ap (λ (l : List Step). l ++ more) (replicate-append-replicate count (suc rest) step ∙ ap (λ (n : ℕ). replicate n step) (sym is))

-- further times repeat the answer from this state on, with nothing done to the device
abbrev pub Again : Step → Reply → ℕ → State → Device → Type 0
Again step reply rest q device = (more : List Step) (later : List Reply) (end : State) (ended : Device)
    → StepsOn q device more later end ended → StepsOn q device (replicate rest step ++ more) (replicate rest reply ++ later) end ended

again-none : (step : Step) (reply : Reply) (rest : ℕ) (q : State) (device : Device) → rest ≡ 0 → Again step reply rest q device
again-none step reply rest q device none more later end ended runs =
    subst (λ (n : ℕ). StepsOn q device (replicate n step ++ more) (replicate n reply ++ later) end ended) (sym none) runs

-- the last answer isn't to be followed by another time, or is final
pub repeated-so : {D : Type 0} {G : Ghosts D} (state : D → Device) (room : Room D G) (q : State) (device : Device) (asked : Repeated) (count rest : ℕ) (reply : Reply)
    → IsOrderly (device_in state room) → asked.times ≡ count + suc rest → (rest ≡ 0) ⊎ (is_final reply ≡ true)
    → TakenAgain q device asked.step count reply (device_in state room) (Shows state room)
    → HasRepeated q device asked (Some reply) (device_in state room) (Shows state room)
repeated-so state room q device asked count rest reply orderly times done so_far = by (is_failure reply) refl
  where
    step : Step
    step = asked.step

    next : Device
    next = device_in state room

    last : State
    last = so_far.last

    failure : q.failed ≡ false → last.failed ≡ is_failure reply
    failure began = failed-after so_far.at step reply last so_far.taken.stepped (so_far.works began)

    again : is_failure reply ≡ false → (rest ≡ 0) ⊎ (is_final reply ≡ true) → Again step reply rest last next
    again works (inl none) = again-none step reply rest last next none
    again works (inr final) =
        let same : last ≡ so_far.at = is-final-again so_far.at step reply last so_far.taken.stepped final works in
        let stays : Stepped last step reply last = subst (λ (x : State). Stepped x step reply last) (sym same) so_far.taken.stepped in
        λ more later end ended runs. repeats state room orderly step reply works rest last more later end ended so_far.after_it stays so_far.volatile so_far.taken.shows runs

    by : (b : Bool) → is_failure reply ≡ b → HasRepeated q device asked (Some reply) next (Shows state room)
    by true fails = record {
      own = so_far.before ++ reply ∷ [];
      reported = (so_far.before, 0, so_far.busy, refl);
      last = last;
      after_it = so_far.after_it;
      failure = failure;
      counted = λ works. absurd (false-true (is_failure reply) works fails);
      goes_on = λ works more later end ended runs. absurd (false-true (is_failure reply) works fails);
      stops = λ failed more.
          subst (λ (l : List Step). StepsOn q device l (so_far.before ++ reply ∷ []) last next) (whole step asked.times count rest more times)
          (so_far.goes_on (step ∷ (replicate rest step ++ more)) (reply ∷ []) last next (last, next, so_far.volatile, so_far.taken, inl (fails, refl, refl, refl)));
    }
    by false works = record {
      own = so_far.before ++ replicate (suc rest) reply;
      reported = (so_far.before, rest, so_far.busy, refl);
      last = last;
      after_it = so_far.after_it;
      failure = failure;
      counted = λ ok. length-append so_far.before (replicate (suc rest) reply) ∙ (ap (λ (n : ℕ). n + length (replicate (suc rest) reply)) so_far.counted
          ∙ (ap (λ (n : ℕ). count + n) (length-replicate (suc rest) reply) ∙ sym times));
      goes_on = λ ok more later end ended runs.
          subst (λ (l : List Reply). StepsOn q device (replicate asked.times step ++ more) l end ended) (sym (append_assoc so_far.before (replicate (suc rest) reply) later))
          (subst (λ (l : List Step). StepsOn q device l (so_far.before ++ reply ∷ (replicate rest reply ++ later)) end ended) (whole step asked.times count rest more times)
          (so_far.goes_on (step ∷ (replicate rest step ++ more)) (reply ∷ (replicate rest reply ++ later)) end ended
          (last, next, so_far.volatile, so_far.taken, inr (works, again works done more later end ended runs))));
      stops = λ failed more. absurd (false-true (is_failure reply) works failed);
    }

-- ---- all steps

-- this much is reported of these
pub record ReportedSoFar (q : State) (device : Device) (asked : List Repeated) (told : List (Option Reply)) (now : Device) (P : State → Type 0) : Type 0 where
  pub replies : List Reply
  pub so_far : SoFar q device (steps_of asked) replies now P
  pub reported : (more : List Repeated) (later : List Reply) (rest : List (Option Reply)) → AreReported more later rest → AreReported (asked ++ more) (replies ++ later) (told ++ rest)

pub told-none : (q : State) (device : Device) (P : State → Type 0) → P q → ReportedSoFar q device [] [] device P
told-none q device P p = record { replies = []; so_far = so-far-none q device P p; reported = λ more later rest told. told }

abbrev pub each : Repeated → List Step
each asked = replicate asked.times asked.step

steps-more : (asked : List Repeated) (one : Repeated) (more : List Repeated) → steps_of (asked ++ one ∷ more) ≡ steps_of asked ++ (each one ++ steps_of more)
steps-more asked one more = flat_map-append (λ (r : Repeated). replicate r.times r.step) asked (one ∷ more)

steps-last : (asked : List Repeated) (one : Repeated) → steps_of (asked ++ one ∷ []) ≡ steps_of asked ++ each one
steps-last asked one = steps-more asked one [] ∙ ap (λ (l : List Step). steps_of asked ++ l) (append-nil (each one))

-- a step more, in which the device didn't fail
pub told-more : (q : State) (device now next : Device) (asked : List Repeated) (told : List (Option Reply)) (P P' : State → Type 0) (one : Repeated) (answer : Option Reply)
    → has_failed answer ≡ false → (so_far : ReportedSoFar q device asked told now P) → HasRepeated so_far.so_far.at now one answer next P'
    → ReportedSoFar q device (asked ++ one ∷ []) (told ++ answer ∷ []) next P'
told-more q device now next asked told P P' one answer works so_far took = record {
  replies = so_far.replies ++ took.own;
  so_far = record {
    at = took.last;
    goes_on = λ more later last end runs.
        subst (λ (l : List Step). StepsOn q device l ((so_far.replies ++ took.own) ++ later) last end) (sym (append_assoc (steps_of asked) (each one) more) ∙ ap (λ (l : List Step). l ++ more) (sym (steps-last asked one)))
        (subst (λ (l : List Reply). StepsOn q device (steps_of asked ++ (each one ++ more)) l last end) (sym (append_assoc so_far.replies took.own later))
        (so_far.so_far.goes_on (each one ++ more) (took.own ++ later) last end (took.goes_on works more later last end runs)));
    after_it = took.after_it;
    works = λ began. took.failure (so_far.so_far.works began) ∙ works;
  };
  reported = λ more later rest tells.
      subst (λ (l : List Repeated). AreReported l ((so_far.replies ++ took.own) ++ later) ((told ++ answer ∷ []) ++ rest)) (sym (append_assoc asked (one ∷ []) more))
      (subst (λ (l : List Reply). AreReported (asked ++ one ∷ more) l ((told ++ answer ∷ []) ++ rest)) (sym (append_assoc so_far.replies took.own later))
      (subst (λ (l : List (Option Reply)). AreReported (asked ++ one ∷ more) (so_far.replies ++ (took.own ++ later)) l) (sym (append_assoc told (answer ∷ []) rest))
      (so_far.reported (one ∷ more) (took.own ++ later) (answer ∷ rest) (took.own, later, refl, took.reported, inr (works, took.counted works, tells)))));
}

-- all steps are taken
pub obeyed-all : (q : State) (device now : Device) (asked : List Repeated) (told : List (Option Reply)) (P : State → Type 0) → ReportedSoFar q device asked told now P
    → HasObeyed q device asked told false now P
obeyed-all q device now asked told P so_far = record {
  last = so_far.so_far.at;
  replies = so_far.replies;
  runs = subst (λ (x : List Reply). StepsOn q device (steps_of asked) x so_far.so_far.at now) (append-nil so_far.replies)
      (subst (λ (x : List Step). StepsOn q device x (so_far.replies ++ []) so_far.so_far.at now) (append-nil (steps_of asked)) (so_far.so_far.goes_on [] [] so_far.so_far.at now (refl, refl)));
  reported = subst (λ (x : List Repeated). AreReported x so_far.replies told) (append-nil asked)
      (subst (λ (x : List Reply). AreReported (asked ++ []) x told) (append-nil so_far.replies)
      (subst (λ (x : List (Option Reply)). AreReported (asked ++ []) (so_far.replies ++ []) x) (append-nil told) (so_far.reported [] [] [] (refl, refl))));
  after_it = so_far.so_far.after_it;
  failure = so_far.so_far.works;
}

-- the next one is the first in which the device fails
pub obeyed-failed : (q : State) (device now next : Device) (asked : List Repeated) (told : List (Option Reply)) (P P' : State → Type 0) (one : Repeated) (answer : Option Reply) (unread : List Repeated)
    → has_failed answer ≡ true → (so_far : ReportedSoFar q device asked told now P) → HasRepeated so_far.so_far.at now one answer next P'
    → HasObeyed q device (asked ++ one ∷ unread) (told ++ answer ∷ []) true next P'
obeyed-failed q device now next asked told P P' one answer unread fails so_far took = record {
  last = took.last;
  replies = so_far.replies ++ took.own;
  runs = subst (λ (l : List Step). StepsOn q device l (so_far.replies ++ took.own) took.last next) (sym (steps-more asked one unread))
      (so_far.so_far.goes_on (each one ++ steps_of unread) took.own took.last next (took.stops fails (steps_of unread)));
  reported = so_far.reported (one ∷ unread) took.own (answer ∷ []) (took.own, [], sym (append-nil took.own), took.reported, inl (fails, refl, refl));
  after_it = took.after_it;
  failure = λ began. took.failure (so_far.so_far.works began) ∙ fails;
}

-- ---- their states

-- the states that the steps lead through
pub runs-up : (q : State) (device : Device) (steps : List Step) (replies : List Reply) (last : State) (end : Device) → StepsOn q device steps replies last end
    → (states : List State) × RunsUp q steps replies states × (final q states ≡ last)
runs-up q device [] [] last end (same, is) = ([], tt, sym same)
runs-up q device (step ∷ steps) (reply ∷ replies) last end (q', next, volatile, taken, inl (fails, none, same, is)) =
    (q' ∷ [], (taken.stepped, inl (fails, none, refl)), sym same)
runs-up q device (step ∷ steps) (reply ∷ replies) last end (q', next, volatile, taken, inr (works, rest)) =
    let later = runs-up q' next steps replies last end rest in (q' ∷ later.0, (taken.stepped, inr (works, later.1)), later.2)
runs-up q device [] (reply ∷ replies) last end none = absurd none
runs-up q device (step ∷ steps) [] last end none = absurd none

-- A call of a session, as what the room makes of it.
use Rattle.std.proofs.Common.{◌≡◌, Bool, true, false, refl, sym, ◌∙◌, ap, subst, arith}
use Rattle.std.specs.Prelude.{⊤, Option, Some, None, Result, Ok, Err}
use Rattle.std.proofs.Math.Logic.{∥∥₁_map, ∥∥₁_elim}
use Rattle.base.specs.declared.fault.Fault.{Fault}
use Rattle.base.specs.declared.fault.Fault.TheVariants.{Device as DeviceFault}
use Rattle.base.specs.declared.step.Step.{Step}
use Rattle.base.specs.declared.step.Reply.{Reply}
use Rattle.base.specs.declared.step.Reply.TheVariants as reply
use Rattle.base.specs.declared.step.SessionStep.{SessionStep}
use Rattle.base.specs.declared.step.SessionReply.{SessionReply}
use Rattle.base.specs.declared.step.SessionReply.TheVariants.{Refused}
use Rattle.base.specs.Steps.{as_step, as_reply}
use Rattle.base.specs.Batches.{Batch}
use Rattle.base.specs.Replies.{is_failure}
use Rattle.machine.specs.Machine.{State}
use Rattle.machine.proofs.Failures.{failed-after}
use Rattle.pmem.specs.Device.{Device}
use Rattle.pmem.specs.declared.device.Pmem.{Ghosts}
use Rattle.group_commit.specs.Cycles.{Cycling}
use Rattle.session_steps.specs.declared.sessions.Sessions.{Sessions}
use Rattle.collector.specs.declared.visit.Visit.{Visit}
use Rattle.session_steps.specs.Replies.{done, stamped}
use Rattle.session_steps.specs.Collecting.{as_reply as visited}
use Rattle.session_steps.specs.Steps.{HoldsSome, HoldsSomeOn, Steps as SessionSteps}
use Rattle.session_steps.proofs.Stepping.{shown-held, shown-held-on}
use Rattle.room.specs.declared.volatile.VolatileState.{VolatileState}
use Rattle.room.specs.declared.room.Room.{Room}
use Rattle.room.specs.declared.ticks.Tick.{Tick}
use Rattle.room.specs.declared.ticks.Tick.TheVariants as came
use Rattle.room.specs.Ticks.{Waits, as_reply as ticked}
use Rattle.room.specs.Committing.{ShowsIn}
use Rattle.room.specs.Steps.{ShowsAs, ShowsSome, ShowsSomeIn, StepsToIn, reports_failure}
use Rattle.room.specs.Room.{Leads, left_after}
use Rattle.room.proofs.Rooms.{step-on, shows-some}
use Rattle.room.proofs.covers.BatchStays.{session-steps}
use Rattle.room.proofs.closes.Stamps.{sessions-shown}

-- ---- what holds before it

module _ (c : VolatileState) (device : Device) (failed : Bool) (works : failed ≡ false) (some : ∥ ShowsAs c device failed ∥₁) where
  -- something is hidden
  pub held : ∥ HoldsSome c.sessions ∥₁
  held = shown-held c.sessions device (sessions-shown c device (shows-some c device failed works some))

  -- on the device
  pub held-on : ∥ HoldsSomeOn c.sessions device ∥₁
  held-on = shown-held-on c.sessions device (sessions-shown c device (shows-some c device failed works some))

-- ---- whether it reports a failing device

pub done-failure : (r : Result ⊤ Fault) → reports_failure r ≡ is_failure (as_reply (done r))
done-failure a = grind (arith)

pub stamped-failure : (r : Result Bool Fault) → reports_failure r ≡ is_failure (as_reply (stamped r))
stamped-failure a = grind (arith)

pub tick-failure : (r : Result Tick Fault) (last : Option Batch) → reports_failure r ≡ is_failure (ticked r last)
tick-failure a last = grind (arith)

pub visit-failure : (r : Result Visit Fault) → reports_failure r ≡ is_failure (visited r)
visit-failure a = grind (arith)

the-device : (fault : Fault) → is_failure (reply.Refused fault) ≡ true → fault ≡ DeviceFault
the-device a is = grind (arith)

fails-with : (r : SessionReply) → is_failure (as_reply r) ≡ true → r ≡ Refused DeviceFault
fails-with a is = grind (arith, the-device)

-- a step doesn't fail if nothing is done to the device
pub unfailing : (old new : Sessions) (cycle : Option Cycling) (device : Device) (s : SessionStep) (r : SessionReply) → SessionSteps old new device device s r → ∥ ShowsSomeIn old cycle device ∥₁ → is_failure (as_reply r) ≡ false
unfailing old new cycle device s r steps some = by (is_failure (as_reply r)) refl
  where
    by : (b : Bool) → is_failure (as_reply r) ≡ b → b ≡ false
    by false is = refl
    by true is = absurd (∥∥₁_elim some (λ x y. absurd x) (λ shown. let told = (steps shown.0 shown.1.shown shown.2).1.effect.failure.cause (fails-with r is) in omega (arith, told)))

-- ---- what waits to be handed out after it

-- the batch that a tick covered is handed out with its reply
pub tick-waits : (r : Result Tick Fault) (before now last : Option Batch) (answer : Reply) → Waits r before now → answer ≡ ticked r now → last ≡ left_after now answer → last ≡ left_after before answer
tick-waits (Ok came.Idle) before now last answer waits told is = is ∙ ap (λ (o : Option Batch). left_after o answer) waits
tick-waits (Ok (came.Reached stage)) before now last answer waits told is = is ∙ ap (λ (o : Option Batch). left_after o answer) waits
tick-waits (Ok came.Covered) before (Some batch) last answer waits told is = is ∙ ap (λ (r : Reply). left_after (Some batch) r) told ∙ sym (ap (λ (r : Reply). left_after before r) told)
tick-waits (Ok came.Covered) before None last answer waits told is = absurd (cc waits)
tick-waits (Err fault) before now last answer waits told is = is ∙ ap (λ (o : Option Batch). left_after o answer) waits

-- no other reply hands one out
visit-leaves : (r : Result Visit Fault) (before : Option Batch) → left_after before (visited r) ≡ before
visit-leaves a before = grind (arith)

pub visit-waits : (r : Result Visit Fault) (before now : Option Batch) (answer : Reply) → answer ≡ visited r → now ≡ before → now ≡ left_after before answer
visit-waits r before now answer told same = same ∙ sym (ap (λ (a : Reply). left_after before a) told ∙ visit-leaves r before)

session-leaves : (r : SessionReply) (before : Option Batch) → left_after before (as_reply r) ≡ before
session-leaves a before = grind (arith)

pub session-waits : (r : SessionReply) (before now : Option Batch) (answer : Reply) → answer ≡ as_reply r → now ≡ before → now ≡ left_after before answer
session-waits r before now answer told same = same ∙ sym (ap (λ (a : Reply). left_after before a) told ∙ session-leaves r before)

-- ---- what it makes of a room

-- some state is shown then
pub shows-after-call : (old new : Sessions) (cycle : Option Cycling) (before now : Device) (s : SessionStep) (r : SessionReply) (failed : Bool) → failed ≡ is_failure (as_reply r) → SessionSteps old new before now s r
    → ∥ ShowsSomeIn old cycle before ∥₁ → ∥ ((q' : State) × ShowsIn new cycle now q' × (q'.failed ≡ failed)) ∥₁
shows-after-call old new cycle before now s r failed tells steps some =
    ∥∥₁_map some (λ shown. let one = session-steps old new cycle before now s r steps shown.0 shown.1 shown.2 in (one.0, one.1.shows, failed-after shown.0 (as_step s) (as_reply r) one.0 one.1.stepped shown.2 ∙ sym tells))

-- the same if nothing is done to the device
pub shows-after-quiet : (old new : Sessions) (cycle : Option Cycling) (device : Device) (s : SessionStep) (r : SessionReply) (failed : Bool) → failed ≡ false → SessionSteps old new device device s r
    → ∥ ((q : State) × ShowsIn old cycle device q × (q.failed ≡ failed)) ∥₁ → ∥ ((q' : State) × ShowsIn new cycle device q' × (q'.failed ≡ failed)) ∥₁
shows-after-quiet old new cycle device s r failed works steps some =
    let working : ∥ ShowsSomeIn old cycle device ∥₁ = subst (λ (b : Bool). ∥ ((q : State) × ShowsIn old cycle device q × (q.failed ≡ b)) ∥₁) works some in
    shows-after-call old new cycle device device s r failed (works ∙ sym (unfailing old new cycle device s r steps working)) steps working

module _ {D : Type 0} {G : Ghosts D} (state : D → Device) where
  -- the room makes the step, with the reply that the returned value stands for
  pub call-leads : (old new : Room D G) (s : SessionStep) (r : SessionReply) → old.failed ≡ false → new.failed ≡ is_failure (as_reply r) → new.volatile.cycle ≡ old.volatile.cycle
      → SessionSteps old.volatile.sessions new.volatile.sessions (state old.device) (state new.device) s r → Leads state old new (as_step s) (as_reply r)
  call-leads old new s r works tells same steps = step-on state old new (as_step s) (as_reply r) works tells (λ q shows here.
      let one = session-steps old.volatile.sessions new.volatile.sessions old.volatile.cycle (state old.device) (state new.device) s r steps q shows here in
      (one.0, subst (λ (c : Option Cycling). StepsToIn new.volatile.sessions c (state old.device) (state new.device) (as_step s) (as_reply r) q one.0) (sym same) one.1))

  -- the same if nothing is done to the device
  pub quiet-leads : (old new : Room D G) (s : SessionStep) (r : SessionReply) → old.failed ≡ false → new.failed ≡ old.failed → new.volatile.cycle ≡ old.volatile.cycle → state new.device ≡ state old.device
      → ∥ ShowsAs old.volatile (state old.device) old.failed ∥₁ → SessionSteps old.volatile.sessions new.volatile.sessions (state old.device) (state old.device) s r → Leads state old new (as_step s) (as_reply r)
  quiet-leads old new s r works same_failed same same_device some steps =
      let working : ∥ ShowsSome old.volatile (state old.device) ∥₁ = shows-some old.volatile (state old.device) old.failed works some in
      call-leads old new s r works (same_failed ∙ works ∙ sym (unfailing old.volatile.sessions new.volatile.sessions old.volatile.cycle (state old.device) s r steps working)) same
      (subst (λ (d : Device). SessionSteps old.volatile.sessions new.volatile.sessions (state old.device) d s r) (sym same_device) steps)

  -- a step under another name, and its reply
  pub leads-named : (old new : Room D G) (step step' : Step) (answer answer' : Reply) → step ≡ step' → answer ≡ answer' → Leads state old new step' answer' → Leads state old new step answer
  leads-named old new step step' answer answer' is told leads = subst (λ (s : Step). Leads state old new s answer) (sym is) (subst (λ (r : Reply). Leads state old new step' r) (sym told) leads)

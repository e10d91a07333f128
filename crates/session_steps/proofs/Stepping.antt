-- From what is hidden to the plain states that are shown.
use Rattle.std.proofs.Common.{◌≡◌, true, false, refl, sym, ◌∙◌, ap, subst, arith}
use Rattle.std.specs.Prelude.{Some}
use Rattle.std.proofs.Math.Logic.{∥∥₁_map}
use Rattle.base.specs.declared.fault.Fault.{Fault}
use Rattle.base.specs.declared.fault.Fault.TheVariants.{Device as DeviceFault}
use Rattle.base.specs.declared.step.Step.{Step}
use Rattle.base.specs.declared.step.Reply.{Reply}
use Rattle.base.specs.declared.step.Reply.TheVariants as reply
use Rattle.base.specs.declared.step.SessionStep.{SessionStep}
use Rattle.base.specs.declared.step.SessionReply.{SessionReply}
use Rattle.base.specs.declared.step.SessionReply.TheVariants.{Refused}
use Rattle.base.specs.Steps.{as_step, as_reply}
use Rattle.machine.specs.SessionSteps.{SessionStepped}
use Rattle.machine.specs.Machine.{State, Answers, refused, refusal, operates}
use Rattle.machine.proofs.Failures.{refusal-quiet, answer-quiet}
use Rattle.pmem.specs.Device.{Device, IsOrderly}
use Rattle.state_invariant.specs.Kept.{Origin}
use Rattle.device_invariant.specs.Upholds.{Upholds}
use Rattle.simulation.specs.steps.Moves.{is_quiet}
use Rattle.simulation.specs.steps.Laws.{QuietStepsLead}
use Rattle.simulation.proofs.steps.StepsWithoutStores.{refusals-lead}
use Rattle.session_steps.proofs.CodeTests.{same-drawers}
use Rattle.session_steps.specs.declared.sessions.Sessions.{Sessions}
use Rattle.session_steps.specs.Shows.{Hidden, plain_of, Agrees, Shows}
use Rattle.session_steps.specs.Steps.{Holds, HoldsOn, Goes, GoesOn, Takes, TakesOn, StepsTo, Steps, HoldsSome, HoldsSomeOn, ShowsSome}
use Rattle.session_steps.proofs.Effects.{nothing-done}

-- ---- which replies report the device

-- no step is refused for the device before it is asked
undevice : (q : State) (step : Step) → refusal q step ≡ Some DeviceFault → ⊥
undevice q step is = let quiet = refusal-quiet q step DeviceFault is in absurd (cc quiet)

-- no answer is one of the device's
answered-apart : (q : State) (s : SessionStep) (r : Reply) → Answers q (as_step s) r → r ≡ reply.Refused DeviceFault → ⊥
answered-apart q s r is told = grind (arith, answer-quiet)

quiet-idle : (q : State) (s : SessionStep) → is_quiet (as_step s) ≡ true → operates q (as_step s) ≡ false
quiet-idle q a quiet = grind (arith)

-- a step that makes no operation doesn't report the device
never-told : (q q' : State) (s : SessionStep) (r : SessionReply) → is_quiet (as_step s) ≡ true → SessionStepped q s r q' → r ≡ Refused DeviceFault → ⊥
never-told q q' s r quiet a told = grind (arith, undevice, answered-apart, quiet-idle)

-- ---- steps

module _ (old new : Sessions) (before now : Device) (s : SessionStep) (r : SessionReply) where
  -- what is so of every hidden part is so of every state that is shown
  pub steps-shown : ((h : Hidden) → HoldsOn old h before → (q' : State) × StepsTo old new before now s r (plain_of old h) q') → Steps old new before now s r
  steps-shown each = λ q shown works.
      let holds : HoldsOn old shown.hidden before = record {
        works = sym (ap (λ (p : State). p.failed) shown.plain) ∙ works;
        upholds = subst (λ (p : State). Upholds shown.hidden.origin p before) shown.plain shown.upholds;
        agrees = subst (λ (p : State). Agrees old shown.hidden.origin shown.hidden.seen p) shown.plain shown.agrees;
      } in
      subst (λ (p : State). (q' : State) × StepsTo old new before now s r p q') (sym shown.plain) (each shown.hidden holds)

  -- a step on the device
  pub on-device : TakesOn old new before now s r → Steps old new before now s r
  on-device takes = steps-shown (λ h holds. let on = takes h holds in let goes = on.goes in (
    plain_of new goes.next,
    record {
      stepped = goes.stepped;
      shows = record { hidden = goes.next; plain = refl; upholds = subst (λ (o : Origin). Upholds o (plain_of new goes.next) now) (sym goes.origin) on.upholds; agrees = subst (λ (o : Origin). Agrees new o goes.next.seen (plain_of new goes.next)) (sym goes.origin) goes.agrees };
      effect = on.effect;
      drawers = goes.drawers;
    },
  ))

-- a step that makes no operation
pub goes-quietly : QuietStepsLead → (old new : Sessions) (device : Device) (s : SessionStep) (r : SessionReply) → IsOrderly device → is_quiet (as_step s) ≡ true → (h : Hidden) → HoldsOn old h device → Goes old new s r h
    → GoesOn old new device device s r h
goes-quietly law old new device s r orderly quiet h holds goes =
    let leads = law h.origin (plain_of old h) (as_step s) (as_reply r) (plain_of new goes.next) device orderly quiet goes.stepped holds.upholds in
    record { goes = goes; upholds = leads.upholds; effect = nothing-done leads.images (never-told (plain_of old h) (plain_of new goes.next) s r quiet goes.stepped) }

-- nothing changes if a step is refused, for another reason than a failing device
pub unmoved-on : (s : Sessions) (device : Device) (step : SessionStep) (fault : Fault) (h : Hidden) → IsOrderly device → HoldsOn s h device → SessionStepped (plain_of s h) step (Refused fault) (plain_of s h) → (fault ≡ DeviceFault → ⊥)
    → GoesOn s s device device step (Refused fault) h
unmoved-on s device step fault h orderly holds stepped other =
    let leads = refusals-lead h.origin (plain_of s h) device orderly holds.upholds in
    record {
      goes = record { next = h; origin = refl; stepped = stepped; agrees = holds.agrees; drawers = same-drawers s.drawn.commits };
      upholds = holds.upholds;
      effect = nothing-done leads.images (λ told. let same : fault ≡ DeviceFault = cc told in other same);
    }

-- a refusal
pub refused-on : (s : Sessions) (device : Device) (step : SessionStep) (fault : Fault) (h : Hidden) → IsOrderly device → HoldsOn s h device → refusal (plain_of s h) (as_step step) ≡ Some fault → GoesOn s s device device step (Refused fault) h
refused-on s device step fault h orderly holds is = unmoved-on s device step fault h orderly holds (refused fault is refl refl) (λ same. undevice (plain_of s h) (as_step step) (is ∙ ap (λ (f : Fault). Some f) same))

-- what holds on a device holds
pub held-on : (s : Sessions) (h : Hidden) (device : Device) → HoldsOn s h device → Holds s h
held-on s h device holds = record { works = holds.works; keeps = holds.upholds.keeps; agrees = holds.agrees }

pub quietly : QuietStepsLead → (old new : Sessions) (device : Device) (s : SessionStep) (r : SessionReply) → IsOrderly device → is_quiet (as_step s) ≡ true → Takes old new s r → TakesOn old new device device s r
quietly law old new device s r orderly quiet takes = λ h holds. goes-quietly law old new device s r orderly quiet h holds (takes h (held-on s' h device holds))
  where
    s' : Sessions
    s' = old

-- what holds if a state is shown
holds-of : (s : Sessions) (device : Device) (q : State) (shown : Shows s device q) → q.failed ≡ false → HoldsOn s shown.hidden device
holds-of s device q shown works = grind (arith) steps 800000

pub shown-held-on : (s : Sessions) (device : Device) → ∥ ShowsSome s device ∥₁ → ∥ HoldsSomeOn s device ∥₁
shown-held-on s device some = ∥∥₁_map some (λ shown. (shown.1.hidden, holds-of s device shown.0 shown.1 shown.2))

pub shown-held : (s : Sessions) (device : Device) → ∥ ShowsSome s device ∥₁ → ∥ HoldsSome s ∥₁
shown-held s device some = ∥∥₁_map some (λ shown. (shown.1.hidden, held-on s shown.1.hidden device (holds-of s device shown.0 shown.1 shown.2)))

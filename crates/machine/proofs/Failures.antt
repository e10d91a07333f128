-- Which replies report a failing device, and what a failed state replies.
use Rattle.std.proofs.Common.{◌≡◌, Bool, true, false, cond, sym, ◌∙◌, ap, arith}
use Rattle.std.specs.Prelude.{Option, Some, None}
use Rattle.std.specs.Option.{option_or, option_map}
use Rattle.base.specs.declared.key.Key.{Key}
use Rattle.base.specs.declared.fault.Fault.{Fault}
use Rattle.base.specs.declared.fault.Fault.TheVariants.{Failed, Conflict}
use Rattle.base.specs.declared.step.Step.{Step}
use Rattle.base.specs.declared.step.Reply.{Reply}
use Rattle.base.specs.declared.step.Reply.TheVariants.{Refused}
use Rattle.base.specs.Search.{some_if}
use Rattle.machine.specs.Machine.{State, Stepped, refused, answered, memory_refused, device_failed, refusal, next_state}
use Rattle.base.specs.Replies.{is_failure}
use Rattle.machine.proofs.Runs.{IsAnswer, Answers-answer}
use Rattle.machine.proofs.collector.Visits.{visit-changes}

-- ---- a refusal of a step that isn't made reports no failing device

-- if there is a fault, it doesn't report a failing device
abbrev Quiet : Option Fault → Type 0
Quiet o = (fault : Fault) → o ≡ Some fault → is_failure (Refused fault) ≡ false

quiet-none : Quiet None
quiet-none fault e = absurd (cc e)

quiet-if : (test : Bool) (known : Fault) → is_failure (Refused known) ≡ false → Quiet (some_if test known)
quiet-if a known quiet = grind (arith)

quiet-conflict : (o : Option Key) → Quiet (option_map Conflict o)
quiet-conflict a = grind (arith)

quiet-or : (a b : Option Fault) → Quiet a → Quiet b → Quiet (option_or a b)
quiet-or a b p r = grind (arith)

pub refusal-quiet : (q : State) (step : Step) (fault : Fault) → refusal q step ≡ Some fault → is_failure (Refused fault) ≡ false
refusal-quiet q step = grind (arith, quiet-or, quiet-if, quiet-conflict, quiet-none)

pub answer-quiet : (reply : Reply) → IsAnswer reply → is_failure reply ≡ false
answer-quiet b a = grind (arith)

-- ---- the state fails with the device, and in no other case

choice : (b : Bool) (x y : State) (v : Bool) → x.failed ≡ v → y.failed ≡ v → (cond b x y).failed ≡ v
choice a x y v p r = grind (arith)

answered-works : (q : State) (step : Step) → (next_state q step).failed ≡ q.failed
answered-works q a = grind (arith, visit-changes)

pub failed-after : (q : State) (step : Step) (reply : Reply) (q' : State) → Stepped q step reply q' → q.failed ≡ false → q'.failed ≡ is_failure reply
failed-after q step reply q' (refused fault e r s) works = ap (λ (x : State). x.failed) s ∙ works ∙ sym (refusal-quiet q step fault e) ∙ sym (ap is_failure r)
failed-after q step reply q' (answered e a s) works = ap (λ (x : State). x.failed) s ∙ answered-works q step ∙ works ∙ sym (answer-quiet reply (Answers-answer q step reply a))
failed-after q step reply q' (memory_refused e m r s) works = ap (λ (x : State). x.failed) s ∙ works ∙ sym (ap is_failure r)
failed-after q step reply q' (device_failed e m r s) works = ap (λ (x : State). x.failed) s ∙ sym (ap is_failure r)

-- a failed state refuses each step
pub failed-refuses : (q : State) (step : Step) → q.failed ≡ true → refusal q step ≡ Some Failed
failed-refuses q step failed = grind arith

-- Ticks of the committer after which there is nothing to do.
use Rattle.std.proofs.Common.{◌≡◌, true, false, sym, ◌∙◌, subst, arith}
use Rattle.std.specs.Prelude.{Option, None}
use Rattle.std.proofs.lemmas.Option.{none-some}
use Rattle.std.proofs.lemmas.Bool.{true≢false}
use Rattle.base.specs.declared.fault.Fault.{Fault}
use Rattle.base.specs.declared.step.Step.TheVariants as step
use Rattle.base.specs.declared.step.Reply.{Reply}
use Rattle.base.specs.declared.step.Reply.TheVariants as reply
use Rattle.base.specs.Replies.{is_failure}
use Rattle.machine.specs.Machine.{State, Hand, Stepped, refused, answered, memory_refused, device_failed, is_idle, ticked, state_ticked, refusal}
use Rattle.console.specs.Obeyed.{is_busy}
use Rattle.console.specs.Rounds.{QuietTicks}

-- ---- the reply to a tick

-- of those that aren't refused, Idle alone leaves nothing to do
idle-by : (q : State) (hand : Option Hand) → is_busy (ticked q hand) ≡ false → ticked q hand ≡ reply.Idle
idle-by q a e = grind (arith, true≢false)

-- no batch is pending, and there is nothing to choose
record IsQuiet (q : State) (hand : Option Hand) : Type 0 where
  none : hand ≡ None
  idle : is_idle q ≡ true
  still : state_ticked q hand ≡ q

quiet-of : (q : State) (hand : Option Hand) → ticked q hand ≡ reply.Idle → IsQuiet q hand
quiet-of q a e = grind (arith, true≢false)

-- ---- steps

refused-not : (fault : Fault) → reply.Idle ≡ reply.Refused fault → ⊥
refused-not fault e = cc e

stay : (q q' : State) (answer : Reply) → Stepped q step.Commit answer q' → is_busy answer ≡ false → is_failure answer ≡ false → q' ≡ q
stay q q' answer a quiet works = grind (arith, quiet-of, idle-by, quiet, true≢false)

-- if the reply to a tick is Idle, it was allowed, and changed nothing
record WasIdle (q q' : State) : Type 0 where
  allowed : refusal q step.Commit ≡ None
  quiet : IsQuiet q q.hand
  answers : ticked q q.hand ≡ reply.Idle
  same : q' ≡ q

was-idle : (q q' : State) → Stepped q step.Commit reply.Idle q' → WasIdle q q'
was-idle q q' (refused fault why is same) = absurd (refused-not fault is)
was-idle q q' (answered none says is) =
    let quiet = quiet-of q q.hand (sym says) in record { allowed = none; quiet = quiet; answers = sym says; same = is ∙ quiet.still }
was-idle q q' (memory_refused none takes is same) = absurd (refused-not _ is)
was-idle q q' (device_failed none operates is fails) = absurd (refused-not _ is)

again : (q q' after : State) (answer : Reply) → WasIdle q q' → Stepped q step.Commit answer after → answer ≡ reply.Idle
again q q' after answer was a = grind (arith, none-some, true≢false)

pub quiet : QuietTicks
quiet = record {
  stay = stay;
  idle = λ q q' after answer first second.
      let was = was-idle q q' first in
      again q q' after answer was (subst (λ (p : State). Stepped p step.Commit answer after) was.same second);
}

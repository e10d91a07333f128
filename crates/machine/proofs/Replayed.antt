-- What the machine replies as a function is what it may reply, unless memory runs out or the device fails.
use Rattle.std.proofs.Common.{◌≡◌, List, [], ◌∷◌, refl, ◌∙◌, ap, ◌⊎◌, arith}
use Rattle.std.specs.Prelude.{Option, Some, None}
use Rattle.base.specs.declared.fault.Fault.{Fault}
use Rattle.base.specs.declared.fault.Fault.TheVariants.{OutOfMemory, Device}
use Rattle.base.specs.declared.step.Step.{Step}
use Rattle.base.specs.declared.step.Step.TheVariants.{Begin, Get, Scan, Put, Delete, Draw, Stamp, Poll, Abort, End, Commit as CommitTick, Collect}
use Rattle.base.specs.declared.step.Reply.{Reply}
use Rattle.base.specs.declared.step.Reply.TheVariants.{Rows, Refused}
use Rattle.base.specs.Commits.{in_range}
use Rattle.machine.specs.Machine.{State, seen_by, refusal, next_state, Answers, Stepped, refused, answered, Run, final}
use Rattle.machine.specs.Replay.{answer, scanned, reply_on, state_on, reply_of, state_of, replies, states, end}
use Rattle.machine.proofs.reads.Scans.{scan-lists, one-listing}

accepted : (q : State) (step : Step) → refusal q step ≡ None → Stepped q step (answer q step) (next_state q step)
accepted q Begin e = answered e refl refl
accepted q (Get n key) e = answered e refl refl
accepted q (Scan n table lo hi) e = answered e (scanned q n table lo hi, refl, scan-lists q n table lo hi) refl
accepted q (Put n key row) e = answered e refl refl
accepted q (Delete n key) e = answered e refl refl
accepted q (Draw n) e = answered e refl refl
accepted q (Stamp n) e = answered e refl refl
accepted q (Poll n) e = answered e refl refl
accepted q (Abort n) e = answered e refl refl
accepted q (End n) e = answered e refl refl
accepted q CommitTick e = answered e refl refl
accepted q Collect e = answered e refl refl

step_on : (q : State) (step : Step) (o : Option Fault) → refusal q step ≡ o → Stepped q step (reply_on q step o) (state_on q step o)
step_on q step None e = accepted q step e
step_on q step (Some fault) e = refused fault e refl refl

-- what the function replies, the machine may reply
pub stepped : (q : State) (step : Step) → Stepped q step (reply_of q step) (state_of q step)
stepped q step = step_on q step (refusal q step) refl

pub replayed : (q : State) (steps : List Step) → Run q steps (replies q steps) (states q steps)
replayed q [] = tt
replayed q (step ∷ steps) = (stepped q step, replayed (state_of q step) steps)

-- and this is its only possible reply

answers-answer : (q : State) (step : Step) (reply : Reply) → Answers q step reply → reply ≡ answer q step
answers-answer q Begin reply a = a
answers-answer q (Get n key) reply a = a
answers-answer q (Scan n table lo hi) reply a =
    a.1 ∙ ap Rows (one-listing a.0 (scanned q n table lo hi) (in_range table lo hi (seen_by q n)) a.2 (scan-lists q n table lo hi))
answers-answer q (Put n key row) reply a = a
answers-answer q (Delete n key) reply a = a
answers-answer q (Draw n) reply a = a
answers-answer q (Stamp n) reply a = a
answers-answer q (Poll n) reply a = a
answers-answer q (Abort n) reply a = a
answers-answer q (End n) reply a = a
answers-answer q CommitTick reply a = a
answers-answer q Collect reply a = a

pub decided : (q : State) (step : Step) (reply : Reply) (q' : State) → Stepped q step reply q'
    → ((reply ≡ reply_of q step) × (q' ≡ state_of q step)) ⊎ (reply ≡ Refused OutOfMemory) ⊎ (reply ≡ Refused Device)
decided q step reply q' b = grind (arith, answers-answer)

pub ends : (q : State) (steps : List Step) → final q (states q steps) ≡ end q steps
ends q [] = refl
ends q (step ∷ steps) = ends (state_of q step) steps

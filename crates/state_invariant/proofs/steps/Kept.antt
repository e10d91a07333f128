-- Every step, whatever it replies, keeps what a state keeps.
use Rattle.std.proofs.Common.{◌≡◌, ◌+◌, Bool, true, false, cond, List, [], ◌∷◌, refl, sym, subst, Option, Some, None, arith}
use Rattle.std.proofs.lemmas.Option.{same_Some}
use Rattle.base.specs.declared.step.Step.{Step}
use Rattle.base.specs.declared.step.Step.TheVariants.{Begin, Get, Scan, Put, Delete, Draw, Stamp, Poll, Abort, End, Commit as CommitTick, Collect}
use Rattle.base.specs.declared.step.Stage.{Stage}
use Rattle.base.specs.declared.step.Reply.{Reply}
use Rattle.machine.specs.Machine.{State, Hand, Stepped, refused, answered, memory_refused, device_failed, Run, final, next_state, refusal, state_ticked, state_ticked_on, next_stage, is_idle, taken_in_hand}
use Rattle.state_invariant.specs.Kept.{Origin, KeepsHand, Keeps}
use Rattle.state_invariant.proofs.covers.Kept.{keeps-covered}
use Rattle.state_invariant.proofs.covers.Chosen.{keeps-chosen}
use Rattle.state_invariant.proofs.draws.Kept.{keeps-draw}
use Rattle.state_invariant.proofs.stamps.Kept.{keeps-stamp}
use Rattle.state_invariant.proofs.collector.Kept.{keeps-visited}
use Rattle.state_invariant.proofs.sessions.Steps.{keeps-begin, keeps-put, keeps-delete, keeps-abort, keeps-end}

-- ---- another batch being written, or a device that failed

abbrev pub with_hand : State → Option Hand → Bool → State
with_hand q hand failed = record q { hand = hand; failed = failed }

pub keeps-with_hand : (o : Origin) (q : State) (hand : Option Hand) (failed : Bool) → Keeps o q → ((h : Hand) → hand ≡ Some h → KeepsHand q h) → Keeps o (with_hand q hand failed)
keeps-with_hand o q hand failed kept keeps = grind arith

-- ---- the committer's ticks

keeps-ticked_on : (o : Origin) (q : State) (hand : Hand) (stage : Option Stage) → Keeps o q → q.hand ≡ Some hand → Keeps o (state_ticked_on q hand stage)
keeps-ticked_on o q hand (Some stage) kept is =
    keeps-with_hand o q (Some (record hand { ticks = hand.ticks + 1 })) q.failed kept
    (λ h same. subst (KeepsHand q) (same_Some (record hand { ticks = hand.ticks + 1 }) h same) (kept.numbers.hand hand is))
keeps-ticked_on o q hand None kept is = keeps-covered o q hand kept (kept.numbers.hand hand is)

keeps-ticked : (o : Origin) (q : State) (hand : Option Hand) → Keeps o q → q.hand ≡ hand → Keeps o (state_ticked q hand)
keeps-ticked o q None kept is = by (is_idle q)
  where
    by : (b : Bool) → Keeps o (cond b q (record q { hand = Some (taken_in_hand q) }))
    by true = kept
    by false = keeps-with_hand o q (Some (taken_in_hand q)) q.failed kept (λ h same. subst (KeepsHand q) (same_Some (taken_in_hand q) h same) (keeps-chosen o q kept))
keeps-ticked o q (Some hand) kept is = keeps-ticked_on o q hand (next_stage q hand) kept is

-- ---- every step

pub keeps-next : (o : Origin) (q : State) (step : Step) → Keeps o q → refusal q step ≡ None → Keeps o (next_state q step)
keeps-next o q Begin kept none = keeps-begin o q kept none
keeps-next o q (Get n key) kept none = kept
keeps-next o q (Scan n table lo hi) kept none = kept
keeps-next o q (Put n key row) kept none = keeps-put o q n key row kept none
keeps-next o q (Delete n key) kept none = keeps-delete o q n key kept none
keeps-next o q (Draw n) kept none = keeps-draw o q n kept none
keeps-next o q (Stamp n) kept none = keeps-stamp o q n kept none
keeps-next o q (Poll n) kept none = kept
keeps-next o q (Abort n) kept none = keeps-abort o q n kept
keeps-next o q (End n) kept none = keeps-end o q n kept none
keeps-next o q CommitTick kept none = keeps-ticked o q q.hand kept refl
keeps-next o q Collect kept none = keeps-visited o q kept

pub keeps-failed : (o : Origin) (q : State) → Keeps o q → Keeps o (record q { failed = true })
keeps-failed o q kept = keeps-with_hand o q q.hand true kept (λ h is. kept.numbers.hand h is)

pub keeps-step : (o : Origin) (q : State) (step : Step) (reply : Reply) (q' : State) → Keeps o q → Stepped q step reply q' → Keeps o q'
keeps-step o q step reply q' kept (refused fault is told same) = subst (Keeps o) (sym same) kept
keeps-step o q step reply q' kept (answered none answer same) = subst (Keeps o) (sym same) (keeps-next o q step kept none)
keeps-step o q step reply q' kept (memory_refused none takes told same) = subst (Keeps o) (sym same) kept
keeps-step o q step reply q' kept (device_failed none makes told same) = subst (Keeps o) (sym same) (keeps-failed o q kept)

pub keeps-run : (o : Origin) (q : State) (steps : List Step) (replies : List Reply) (states : List State) → Keeps o q → Run q steps replies states → Keeps o (final q states)
keeps-run o q [] [] [] kept run = kept
keeps-run o q (step ∷ steps) (reply ∷ replies) (q1 ∷ states) kept run = keeps-run o q1 steps replies states (keeps-step o q step reply q1 kept run.0) run.1
keeps-run o q [] [] (q1 ∷ states) kept run = absurd run
keeps-run o q [] (r1 ∷ replies) states kept run = absurd run
keeps-run o q (s1 ∷ steps) [] states kept run = absurd run
keeps-run o q (s1 ∷ steps) (r1 ∷ replies) [] kept run = absurd run

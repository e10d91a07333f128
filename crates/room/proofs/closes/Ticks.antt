-- A tick for the pending batch, as a part of closing.
use Rattle.std.proofs.Common.{◌≡◌, ◌≢◌, true, false, ◌&&◌, not, refl, sym, ◌∙◌, ap, subst, true≢false, arith}
use Rattle.std.proofs.Math.Bridge.{le_prop}
use Rattle.std.proofs.Math.Logic.{∥∥₁_elim}
use Rattle.std.proofs.Math.Nat.{ℕ_set}
use Rattle.std.specs.Prelude.{Option, Some, None, Result, Err, is_none, is_some, IsTrue}
use Rattle.base.specs.declared.fault.Fault.{Fault}
use Rattle.base.specs.declared.fault.Fault.TheVariants.{Device as DeviceFault}
use Rattle.base.specs.Batches.{Batch}
use Rattle.base.specs.declared.step.Step.TheVariants.{Commit as CommitTick}
use Rattle.base.specs.declared.step.Reply.{Reply}
use Rattle.base.specs.declared.step.Reply.TheVariants.{Refused}
use Rattle.machine.specs.Machine.{State, Hand, Stepped, refusal, is_idle, StandsClosing}
use Rattle.pmem.specs.Device.{Device}
use Rattle.pmem.specs.Words.{LeavesOnly}
use Rattle.pmem.proofs.Images.{leaves_weaken}
use Rattle.group_commit.specs.Cycles.{Cycling}
use Rattle.simulation.proofs.cycles.closes.States.{closes-on}
use Rattle.simulation.proofs.cycles.covers.Ticks.{refusal-in_hand}
use Rattle.session_steps.proofs.Effects.{none-failed}
use Rattle.session_steps.specs.declared.sessions.Sessions.{Sessions}
use Rattle.room.specs.declared.volatile.VolatileState.{VolatileState}
use Rattle.room.specs.Committing.{HoldsCycle, Shows}
use Rattle.room.specs.Steps.{Steps, ShowsSome, ShowsSomeIn}
use Rattle.room.specs.declared.ticks.Tick.{Tick}
use Rattle.room.specs.Ticks.{as_reply}
use Rattle.room.specs.Closing.{ClosePhaseDone, ClosePhaseFailed}
use Rattle.room.proofs.closes.Parts.{device-fault}

-- ---- what a tick of a cycle comes to

module _ (q q' : State) (hand : Hand) (reply : Reply) (in_hand : q.hand ≡ Some hand) (up : q.failed ≡ false) (stepped : Stepped q CommitTick reply q') where
  unrefused : (fault : Fault) → refusal q CommitTick ≡ Some fault → ⊥
  unrefused fault is = let none = refusal-in_hand q hand up in_hand in cc

  takes-none : IsTrue (is_none q.hand && not (is_idle q)) → ⊥
  takes-none takes = true≢false (sym takes ∙ ap (λ (h : Option Hand). is_none h && not (is_idle q)) in_hand)

  -- it fails with the device alone
  fails : (fault : Fault) → reply ≡ Refused fault → fault ≡ DeviceFault
  fails fault is = grind (arith, unrefused, takes-none) steps 800000

  -- and otherwise the state works on
  works-on : ((fault : Fault) → reply ≢ Refused fault) → q'.failed ≡ false
  works-on un = grind (arith) steps 800000

-- ---- the cycle of the pending batch

pub with-hand : (s : Sessions) (o : Option Cycling) (cycle : Cycling) (device : Device) → o ≡ Some cycle → ∥ ShowsSomeIn s o device ∥₁ → ∥ ShowsSomeIn s (Some cycle) device ∥₁
with-hand s o cycle device is some = subst (λ (hand : Option Cycling). ∥ ShowsSomeIn s hand device ∥₁) is some

pub one-hand : (o : Option Cycling) (a b : Cycling) → o ≡ Some a → o ≡ Some b → a ≡ b
one-hand o a b first second = cc (first, second)

-- ---- its reply

-- the reply isn't a refusal if nothing was refused
pub unrefused-reply : (r : Result Tick Fault) (last : Option Batch) → ((fault : Fault) → r ≢ Err fault) → (fault : Fault) → as_reply r last ≢ Refused fault
unrefused-reply a last un fault is = grind (arith)

-- ---- a part

pub rests : (o : Option Cycling) → is_some o ≡ false → o ≡ None
rests a is = grind (arith)

module _ (old new : VolatileState) (before now : Device) (reply : Reply) (busy : is_some old.cycle ≡ true) (some : ∥ ShowsSome old before ∥₁) (steps : Steps old new before now CommitTick reply) where
  hand-of : (q : State) → Shows old before q → (hand : Hand) × (q.hand ≡ Some hand)
  hand-of q shown = by q.hand old.cycle refl busy shown.cycle_is
    where
      by : (h : Option Hand) (o : Option Cycling) → q.hand ≡ h → is_some o ≡ true → HoldsCycle q old.sessions.drawn.commits h o → (hand : Hand) × (q.hand ≡ Some hand)
      by None None is there holds = absurd (cc there)
      by None (Some cycle) is there holds = absurd holds
      by (Some hand) o is there holds = (hand, is)

  images-of : (q : State) → Shows old before q → q.failed ≡ false → LeavesOnly before now (StandsClosing q)
  images-of q shown works =
      let to = steps q shown works in
      let hand = hand-of q shown in
      leaves_weaken (λ image s. closes-on.ticking q to.0 hand.0 reply image hand.1 works to.1.stepped s) to.1.effect.images

  pub tick-done : ((fault : Fault) → reply ≢ Refused fault) → ClosePhaseDone old new before now
  tick-done un = record {
    no_failure = ∥∥₁_elim some (ℕ_set _ _) (λ shown. none-failed (steps shown.0 shown.1 shown.2).1.effect (un DeviceFault));
    goes_on = λ q shown works.
        let to = steps q shown works in
        let hand = hand-of q shown in
        let works' = works-on q to.0 hand.0 reply hand.1 works to.1.stepped un in (
          to.0,
          record {
            shows = to.1.shows;
            works = works';
            closes = closes-on.tick shown.shown.hidden.origin q to.0 hand.0 reply shown.shown.upholds.keeps hand.1 works to.1.stepped works';
            images = images-of q shown works;
          },
        );
  }

  pub tick-failed : (fault : Fault) → reply ≡ Refused fault → ClosePhaseFailed old before now fault
  tick-failed fault is = record {
    fault_is = told;
    failure = ∥∥₁_elim some le_prop (λ shown. (steps shown.0 shown.1 shown.2).1.effect.failure.cause (is ∙ ap (λ (f : Fault). Refused f) told));
    images = images-of;
  }
    where
      told : fault ≡ DeviceFault
      told = device-fault fault some (λ shown.
          let to = steps shown.0 shown.1 shown.2 in
          let hand = hand-of shown.0 shown.1 in
          fails shown.0 to.0 hand.0 reply hand.1 shown.2 to.1.stepped fault is)

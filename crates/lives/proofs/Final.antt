-- A step that was refused, or found nothing to do, changes nothing, and would have the same reply again.
use Rattle.std.proofs.Common.{◌≡◌, ℕ, zero, suc, Bool, true, false, cond, List, [], ◌++◌, replicate, refl, ◌∙◌, ap, inr, arith}
use Rattle.std.specs.Prelude.{Option}
use Rattle.base.specs.declared.step.Step.{Step}
use Rattle.base.specs.declared.step.Reply.{Reply}
use Rattle.base.specs.Replies.{is_failure}
use Rattle.machine.specs.Machine.{State, Hand, Stepped, Answers, next_state, state_ticked, ticked, StandsWithin}
use Rattle.machine.proofs.Runs.{StandsAt-within}
use Rattle.pmem.specs.Device.{Device, IsOrderly}
use Rattle.pmem.proofs.Images.{leaves_refl}
use Rattle.pmem.specs.declared.device.Pmem.{Ghosts}
use Rattle.room.specs.Room.{Shows, device_of as device_in}
use Rattle.room.specs.Committing.{ShowsIn}
use Rattle.room.specs.declared.room.Room.{Room}
use Rattle.room.specs.declared.volatile.VolatileState.{VolatileState}
use Rattle.lives.specs.Stops.{StepsOn}
use Rattle.lives.specs.ReportedReplies.{is_final}

-- ---- replies

-- a reply that is not final isn't a failure
pub final-works : (reply : Reply) → is_final reply ≡ false → is_failure reply ≡ false
final-works a e = grind (arith)

no-both : (b : Bool) → b ≡ false → b ≡ true → ⊥
no-both b f t = cc

-- what isn't final is not the reply
other : {X : Type 0} (reply given : Reply) → is_final given ≡ false → reply ≡ given → is_final reply ≡ true → X
other reply given busy is final = absurd (no-both (is_final reply) (ap is_final is ∙ busy) final)

either : {X : Type 0} (b : Bool) (reply first second : Reply) → is_final first ≡ false → is_final second ≡ false → reply ≡ cond b first second → is_final reply ≡ true → X
either a reply first second one two is final = grind (arith, other)

-- ---- steps

-- a tick that finds nothing to do
idle-still : (q : State) (hand : Option Hand) → is_final (ticked q hand) ≡ true → state_ticked q hand ≡ q
idle-still q a final = grind (arith, no-both)

-- a step that isn't refused, and has a final reply
answered-still : (q : State) (step : Step) (reply : Reply) → Answers q step reply → is_final reply ≡ true → next_state q step ≡ q
answered-still q a reply is final = grind (arith, other, either, idle-still)

-- the state stays
pub is-final-again : (q : State) (step : Step) (reply : Reply) (q' : State) → Stepped q step reply q' → is_final reply ≡ true → is_failure reply ≡ false → q' ≡ q
is-final-again q step reply q' a final works = grind (arith, answered-still, no-both)

-- so it may be taken again any number of times, with no device operation
pub repeats : {D : Type 0} {G : Ghosts D} (state : D → Device) (room : Room D G) → IsOrderly (device_in state room) → (step : Step) (reply : Reply) → is_failure reply ≡ false
    → (times : ℕ) (q : State) (more : List Step) (later : List Reply) (end : State) (ended : Device) → Shows state room q → Stepped q step reply q
    → (volatile : VolatileState) → ShowsIn volatile.sessions volatile.cycle (device_in state room) q
    → StepsOn q (device_in state room) more later end ended → StepsOn q (device_in state room) (replicate times step ++ more) (replicate times reply ++ later) end ended
repeats state room orderly step reply works zero q more later end ended shows stepped volatile shown runs = runs
repeats state room orderly step reply works (suc times) q more later end ended shows stepped volatile shown runs = (
  q,
  device_in state room,
  volatile,
  record {
    stepped = stepped;
    shows = shown;
    effect = record {
      images = leaves_refl (device_in state room) (StandsWithin q q) orderly (λ image left. StandsAt-within q q image (shows.stands image left));
      failure = record { no_fewer = omega arith; cause = λ told. absurd (no-both (is_failure reply) works (ap is_failure told)); shown = λ more. absurd (omega (arith, more)) };
      operations = omega arith;
      actor = record { operations = []; made = refl; by_actor = refl };
      declined = λ fault other told. refl;
    };
  },
  inr (works, repeats state room orderly step reply works times q more later end ended shows stepped volatile shown runs),
)

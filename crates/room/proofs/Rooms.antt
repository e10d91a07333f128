-- What a step makes of a room, from what it makes of its volatile state.
use Rattle.std.proofs.Common.{◌≡◌, Bool, true, false, refl, sym, ◌∙◌, subst, arith}
use Rattle.std.specs.Prelude.{Option, slice_index}
use Rattle.std.proofs.Math.Logic.{∥∥₁_map}
use Rattle.base.specs.declared.fault.Fault.TheVariants.{Failed}
use Rattle.base.specs.declared.step.Step.{Step}
use Rattle.base.specs.declared.step.Reply.{Reply}
use Rattle.base.specs.declared.step.Reply.TheVariants.{Refused}
use Rattle.base.specs.Images.{Image}
use Rattle.base.specs.Layout.{total_words}
use Rattle.base.specs.Replies.{is_failure}
use Rattle.machine.specs.Machine.{State, Hand, refused, StandsAt, StandsWithin}
use Rattle.machine.proofs.Failures.{failed-after, failed-refuses}
use Rattle.machine.proofs.Runs.{StandsAt-within}
use Rattle.pmem.specs.Device.{Device, IsOrderly, MayLeave}
use Rattle.pmem.specs.declared.device.Pmem.{Ghosts}
use Rattle.pmem.proofs.Images.{leaves_refl}
use Rattle.state_invariant.specs.Shown.{word_of}
use Rattle.device_invariant.specs.Log.{HoldsHand as LogHoldsHand}
use Rattle.device_invariant.proofs.Words.{slots-survive, within-slot}
use Rattle.device_invariant.proofs.Upheld.{every-image-stands}
use Rattle.session_steps.specs.Shows.{ShowsAny}
use Rattle.session_steps.proofs.Effects.{nothing-done}
use Rattle.room.specs.declared.volatile.VolatileState.{VolatileState}
use Rattle.room.specs.declared.room.Room.{Room}
use Rattle.room.specs.Committing.{Shows as CommitterShows}
use Rattle.room.specs.Steps.{Steps, ShowsSome, ShowsAs}
use Rattle.room.specs.Room.{Shows, StepsTo, IsClear}

-- each image that the device of a volatile state may leave is consistent with the state shown
pub shown-stands : (c : VolatileState) (device : Device) (q : State) → CommitterShows c device q → (image : Image) → MayLeave device image → StandsAt q image
shown-stands c device q shows image left = every-image-stands shows.shown.hidden.origin q device image shows.shown.upholds left

-- the device has the words of the layout
words-of : (q : State) (device : Device) (hand : Option Hand) → LogHoldsHand q device hand → device.words ≡ total_words q.layout
words-of q device a holds = grind (arith)

-- and once the gaps are swept it is clear of them
pub shown-clear : (c : VolatileState) (device : Device) (q : State) → CommitterShows c device q → q.swept ≡ true → (image : Image) → MayLeave device image → IsClear q image
shown-clear c device q shows swept image left slot w lt two =
    let holds = shows.shown.upholds.holds in
    let survives = (slots-survive {a = q.layout} {device = device} (words-of q device q.hand holds.log) left).each slot w lt (within-slot q.layout.version w (omega (arith, two))) in
    (holds.sweeping.over swept slot w lt two).each (slice_index image (word_of q.layout slot w)) survives

module _ {D : Type 0} {G : Ghosts D} (state : D → Device) where
  -- a room whose device doesn't fail steps as its volatile state does
  pub step-on : (old new : Room D G) (step : Step) (reply : Reply) → old.failed ≡ false → new.failed ≡ is_failure reply
      → Steps old.volatile new.volatile (state old.device) (state new.device) step reply → (q : State) → Shows state old q → (q' : State) × StepsTo state old new step reply q q'
  step-on old new step reply works tells steps q shows =
      let agrees = shows.agrees in
      let here : q.failed ≡ false = agrees.failed ∙ works in
      let one = steps q agrees.shown here in (
        one.0,
        record {
          stepped = one.1.stepped;
          shows = record {
            stands = shown-stands new.volatile (state new.device) one.0 one.1.shows;
            swept = shown-clear new.volatile (state new.device) one.0 one.1.shows;
            agrees = record { shown = one.1.shows; failed = failed-after q step reply one.0 one.1.stepped here ∙ sym tells };
          };
          effect = one.1.effect;
        },
      )

  -- a room whose device failed refuses each step
  pub step-refused : (room : Room D G) (step : Step) → IsOrderly (state room.device) → room.failed ≡ true → (q : State) → Shows state room q → (q' : State) × StepsTo state room room step (Refused Failed) q q'
  step-refused room step orderly failed q shows = (
    q,
    record {
      stepped = refused Failed (failed-refuses q step (shows.agrees.failed ∙ failed)) refl refl;
      shows = shows;
      effect = nothing-done (leaves_refl (state room.device) (StandsWithin q q) orderly (λ image left. StandsAt-within q q image (shows.stands image left))) (λ told. absurd (cc told));
    },
  )

-- ---- that some state is shown

-- a state that hasn't failed is shown, if the room says so
pub shows-some : (c : VolatileState) (device : Device) (failed : Bool) → failed ≡ false → ∥ ShowsAs c device failed ∥₁ → ∥ ShowsSome c device ∥₁
shows-some c device failed works some = subst (λ (b : Bool). ∥ ShowsAs c device b ∥₁) works some

-- and after a step, one that has failed if the step reports it
pub shows-then : (old new : VolatileState) (before now : Device) (step : Step) (reply : Reply) (failed : Bool) → failed ≡ is_failure reply → Steps old new before now step reply → ∥ ShowsSome old before ∥₁ → ∥ ShowsAs new now failed ∥₁
shows-then old new before now step reply failed tells steps some =
    ∥∥₁_map some (λ shown. let one = steps shown.0 shown.1 shown.2 in (one.0, one.1.shows, failed-after shown.0 step reply one.0 one.1.stepped shown.2 ∙ sym tells))

-- the sessions show it
pub sessions-show : (c : VolatileState) (device : Device) (failed : Bool) → ∥ ShowsAs c device failed ∥₁ → ∥ ShowsAny c.sessions device ∥₁
sessions-show c device failed some = ∥∥₁_map some (λ shown. (shown.0, shown.1.shown))

-- The parts of closing, one after the other.
use mathlib.Core.HLevel.{⊥_prop}
use Rattle.std.proofs.Common.{◌≡◌, refl, ◌∙◌, arith}
use Rattle.std.proofs.Math.Logic.{∥∥₁_elim, ∥∥₁_map}
use Rattle.base.specs.declared.fault.Fault.{Fault}
use Rattle.base.specs.declared.fault.Fault.TheVariants.{Device as DeviceFault}
use Rattle.base.specs.Images.{Image}
use Rattle.machine.specs.Machine.{State, StandsClosing}
use Rattle.machine.proofs.Runs.{StandsAt-closing}
use Rattle.pmem.specs.Device.{Device, IsOrderly, MayLeave}
use Rattle.pmem.proofs.Images.{leaves_refl, leaves_trans, leaves_weaken}
use Rattle.device_invariant.proofs.Upheld.{every-image-stands}
use Rattle.simulation.specs.cycles.Closing.{ClosesAs}
use Rattle.room.specs.declared.volatile.VolatileState.{VolatileState}
use Rattle.room.specs.Committing.{Shows}
use Rattle.room.specs.Steps.{ShowsSome}
use Rattle.room.specs.Closing.{ClosePhaseDone, ClosePhaseFailed, CloseCovered}

-- what may be left now may be left while closing
pub stands-closing : (c : VolatileState) (device : Device) (q : State) → Shows c device q → (image : Image) → MayLeave device image → StandsClosing q image
stands-closing c device q shown image may = StandsAt-closing q image (every-image-stands shown.shown.hidden.origin q device image shown.shown.upholds may)

closes_refl : (q : State) → ClosesAs q q
closes_refl q = record { number = refl; within = λ image s. s; after_it = λ image s. s }

closes_trans : (p q r : State) → ClosesAs p q → ClosesAs q r → ClosesAs p r
closes_trans p q r a b = record { number = b.number ∙ a.number; within = λ image s. a.within image (b.within image s); after_it = λ image s. a.after_it image (b.after_it image s) }

-- nothing is done
pub part_refl : (c : VolatileState) (device : Device) → IsOrderly device → ClosePhaseDone c c device device
part_refl c device orderly = record {
  no_failure = refl;
  goes_on = λ q shown works. (q, record { shows = shown; works = works; closes = closes_refl q; images = leaves_refl device (StandsClosing q) orderly (stands-closing c device q shown) });
}

module _ (old mid new : VolatileState) (before between now : Device) (a : ClosePhaseDone old mid before between) where
  pub part_trans : ClosePhaseDone mid new between now → ClosePhaseDone old new before now
  part_trans b = record {
    no_failure = b.no_failure ∙ a.no_failure;
    goes_on = λ q shown works.
        let first = a.goes_on q shown works in
        let second = b.goes_on first.0 first.1.shows first.1.works in (
          second.0,
          record {
            shows = second.1.shows;
            works = second.1.works;
            closes = closes_trans q first.0 second.0 first.1.closes second.1.closes;
            images = leaves_trans first.1.images (leaves_weaken first.1.closes.within second.1.images);
          },
        );
  }

  pub failed_after : (fault : Fault) → ClosePhaseFailed mid between now fault → ClosePhaseFailed old before now fault
  failed_after fault b = record {
    fault_is = b.fault_is;
    failure = omega (arith, a.no_failure, b.failure);
    images = λ q shown works.
        let first = a.goes_on q shown works in
        leaves_trans first.1.images (leaves_weaken first.1.closes.within (b.images first.0 first.1.shows first.1.works));
  }

  pub last_after : CloseCovered mid between now → CloseCovered old before now
  last_after b = record {
    no_failure = b.no_failure ∙ a.no_failure;
    images = λ q shown works.
        let first = a.goes_on q shown works in
        leaves_trans first.1.images (leaves_weaken first.1.closes.within (b.images first.0 first.1.shows first.1.works));
    closed = λ q shown works image may.
        let first = a.goes_on q shown works in
        first.1.closes.after_it image (b.closed first.0 first.1.shows first.1.works image may);
  }

  pub shown_after : ∥ ShowsSome old before ∥₁ → ∥ ShowsSome mid between ∥₁
  shown_after some = ∥∥₁_map some (λ shown. let first = a.goes_on shown.0 shown.1 shown.2 in (first.0, first.1.shows, first.1.works))

-- the fault is Device if that follows from some state, which need not be known
pub device-fault : {A : Type 0} (fault : Fault) → ∥ A ∥₁ → (A → fault ≡ DeviceFault) → fault ≡ DeviceFault
device-fault DeviceFault some tells = refl
device-fault _ some tells = absurd (∥∥₁_elim some ⊥_prop (λ a. cc (tells a)))

-- The number of the last record of closing, why closing is refused, and closing as a whole.
use Rattle.std.proofs.Common.{◌≡◌, inr, ℕ, ◌+◌, ◌^◌, ◌<◌, Bool, false, cond, ◌∙◌, ap, arith}
use Rattle.std.proofs.Math.Bridge.{le_prop}
use Rattle.std.proofs.Math.Logic.{∥∥₁_elim}
use Rattle.std.proofs.lemmas.Bool.{leb-true}
use Rattle.std.specs.Prelude.{Option, Some, None, Result, Ok, Err, IfErr, OnOk, is_some, nat_le, if◌then◌else◌}
use Rattle.std.specs.Option.{option_or}
use Rattle.base.specs.declared.fault.Fault.{Fault}
use Rattle.base.specs.declared.fault.Fault.TheVariants.{Failed, TimestampsOut}
use Rattle.base.specs.Search.{some_if}
use Rattle.machine.specs.Machine.{State, Hand, closing_gate, closing_fault, StandsClosing}
use Rattle.pmem.specs.Device.{Device, IsOrderly}
use Rattle.pmem.specs.Words.{LeavesOnly}
use Rattle.pmem.proofs.Images.{leaves_refl}
use Rattle.group_commit.specs.Cycles.{Cycling}
use Rattle.room.specs.declared.volatile.VolatileState.{VolatileState}
use Rattle.room.specs.Committing.{HoldsCycle, Shows}
use Rattle.room.specs.Steps.{ShowsSome}
use Rattle.room.specs.Closing.{IsClosingRefusal, ClosePhaseDone, ClosePhaseFailed, CloseCovered}
use Rattle.room.proofs.closes.Parts.{stands-closing, failed_after, last_after}

-- ---- the number of the last record

-- there is a cycle exactly if a batch is pending
hand-is : (q : State) (c : VolatileState) (h : Option Hand) (o : Option Cycling) → HoldsCycle q c.sessions.drawn.commits h o → is_some h ≡ is_some o
hand-is q c a b holds = grind (arith)

pub gate-is : (c : VolatileState) (device : Device) (q : State) → Shows c device q → closing_gate q ≡ c.sessions.numbers.record.gate + (if is_some c.cycle then 2 else 1)
gate-is c device q shown = grind (arith, hand-is)

-- there are numbers after that of the record that rules
pub ruling-below : (c : VolatileState) (device : Device) (q : State) → Shows c device q → c.sessions.numbers.record.gate < 2 ^ 62
ruling-below c device q shown = grind (arith) steps 800000

pub some-below : (c : VolatileState) (device : Device) → ∥ ShowsSome c device ∥₁ → c.sessions.numbers.record.gate < 2 ^ 62
some-below c device some = ∥∥₁_elim some le_prop (λ shown. ruling-below c device shown.0 shown.1)

-- ---- why closing is refused

fault-of : (failed past : Bool) → failed ≡ false → option_or (some_if failed Failed) (option_or (some_if past TimestampsOut) None) ≡ cond past (Some TimestampsOut) None
fault-of a past works = grind (arith)

not-past : (n : ℕ) → n < 2 ^ 62 → nat_le (2 ^ 62) n ≡ false
not-past n less = grind (arith, leb-true) steps 800000

fault-none : (q : State) → q.failed ≡ false → closing_gate q < 2 ^ 62 → closing_fault q ≡ None
fault-none q works below = fault-of q.failed (nat_le (2 ^ 62) (closing_gate q)) works ∙ ap (λ (b : Bool). cond b (Some TimestampsOut) None) (not-past (closing_gate q) below)

module _ (c : VolatileState) (before : Device) (gate : ℕ) (is : gate ≡ c.sessions.numbers.record.gate + (if is_some c.cycle then 2 else 1)) where
  -- nothing is done
  pub unmoved : IsOrderly before → (q : State) → Shows c before q → q.failed ≡ false → LeavesOnly before before (StandsClosing q)
  unmoved orderly q shown works = leaves_refl before (StandsClosing q) orderly (stands-closing c before q shown)

  module _ (below : gate < 2 ^ 62) where
    pub may-close : (q : State) → Shows c before q → q.failed ≡ false → closing_fault q ≡ None
    may-close q shown works = fault-none q works (omega (arith, below, is, gate-is c before q shown))

    -- a part fails
    pub refused-part : (now : Device) (fault : Fault) → ClosePhaseFailed c before now fault → (q : State) → Shows c before q → q.failed ≡ false → IsClosingRefusal q before now fault
    refused-part now fault part q shown works = inr (may-close q shown works, part.fault_is, part.failure)

    -- ---- closing as a whole

    module _ (new : VolatileState) (between : Device) (done : ClosePhaseDone c new before between) where
      pub numbered-last : new.cycle ≡ None → ∥ ShowsSome c before ∥₁ → new.sessions.numbers.record.gate + 1 < 2 ^ 62
      numbered-last rests some = ∥∥₁_elim some le_prop (λ shown.
          let at = done.goes_on shown.0 shown.1 shown.2 in
          let last : closing_gate at.0 ≡ new.sessions.numbers.record.gate + 1 = gate-is new between at.0 at.1.shows ∙ ap (λ (o : Option Cycling). new.sessions.numbers.record.gate + (if is_some o then 2 else 1)) rests in
          omega (arith, below, is, gate-is c before shown.0 shown.1, at.1.closes.number, last))

      module _ (now : Device) (result : Result (Unit {0}) Fault) (ok : OnOk result (CloseCovered new between now)) (err : IfErr result (ClosePhaseFailed new between now)) where
        pub images-last : (q : State) → Shows c before q → q.failed ≡ false → LeavesOnly before now (StandsClosing q)
        images-last = by result ok err
          where
            by : (r : Result (Unit {0}) Fault) → OnOk r (CloseCovered new between now) → IfErr r (ClosePhaseFailed new between now) → (q : State) → Shows c before q → q.failed ≡ false → LeavesOnly before now (StandsClosing q)
            by (Ok x) last failed = (last_after c new new before between now done last).images
            by (Err fault) last failed = (failed_after c new new before between now done fault failed).images

        pub refused-last : IfErr result (λ fault. (q : State) → Shows c before q → q.failed ≡ false → IsClosingRefusal q before now fault)
        refused-last = by result err
          where
            by : (r : Result (Unit {0}) Fault) → IfErr r (ClosePhaseFailed new between now) → IfErr r (λ fault. (q : State) → Shows c before q → q.failed ≡ false → IsClosingRefusal q before now fault)
            by (Ok x) failed = tt
            by (Err fault) failed = refused-part now fault (failed_after c new new before between now done fault failed)

pub on_ok-from : (result : Result (Unit {0}) Fault) {P : Type 0} → P → OnOk result P
on_ok-from a p = grind (arith)

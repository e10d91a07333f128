-- How a life ends.
use Rattle.std.proofs.Common.{◌≡◌, inl, inr, ℕ, Bool, true, false, not, ◌&&◌, List, [], ◌∷◌, ◌++◌, refl, sym, ◌∙◌, ap, arith}
use Rattle.std.specs.Prelude.{Option, Some, None, Result, Ok, Err, IfOk, IfErr, IsTrue}
use Rattle.std.proofs.lemmas.Option.{none-some}
use Rattle.base.specs.declared.fault.Fault.{Fault}
use Rattle.base.specs.Records.{Record}
use Rattle.base.specs.Images.{Image, log_damage}
use Rattle.machine.specs.Machine.{State, Cover, StandsAsOne, StandsAt, StandsClosing, StandsClosed, covers_at, covers_closing, closed, closing_fault, drawn_of}
use Rattle.machine.specs.Lives.{World, Numbers, StopsAt, left_out}
use Rattle.pmem.specs.Device.{Device, IsOrderly, MayLeave}
use Rattle.pmem.specs.Words.{LeavesOnly}
use Rattle.pmem.proofs.Images.{left_now}
use Rattle.pmem_model.specs.Sim.{device_of}
use Rattle.pmem_model.specs.Orderly.{orderly_of}
use Rattle.pmem_model.specs.declared.sim.SimPmem.{SimPmem}
use Rattle.recovery.proofs.openings.Faults.{log-first}
use Rattle.room.specs.Closing.{IsClosingRefusal}
use Rattle.lives.specs.declared.life.Numbers.{Numbers as ReportedNumbers}
use Rattle.lives.specs.Plain.{numbers_of, closed_of}
use Rattle.lives.specs.Parts.{HasEnded, MayAsk, ruling_numbers}

-- ---- what a crash leaves now

pub orderly : (sim : SimPmem) → IsOrderly (device_of sim)
orderly sim = orderly_of (device_of sim).history sim.cells.histories.values.items sim.cells.histories.spans.items.items sim.cells.histories.log.items sim.cells.histories.clock (device_of sim).limit (device_of sim).failures sim.stores sim.flushes sim.fences sim.cells.histories.sound

pub leaves-now : (old new : Device) (P : Image → Type 0) → IsOrderly new → LeavesOnly old new P → (image : Image) → MayLeave new image → P image
leaves-now old new P tidy leaves image may = leaves.each image (record { moment = new.clock; from = leaves.continues.later; to = omega arith; left = left_now tidy may })

-- ---- a stop

stopped : (q : State) (covers : List Cover) (lost : List ℕ) (image : Image) → StandsAsOne q covers image
    → (after : World) × (after.image ≡ image) × StopsAt q covers lost after
stopped q covers lost image (cover, one, stands) = (
  record { image = image; history = cover.commits; drawn = drawn_of q; next = q.next; lost = lost ++ left_out cover.commits (drawn_of q) },
  refl,
  record { cover = cover; one = one; stands = stands; history = refl; drawn = refl; next = refl; loses = refl },
)

-- without closing
pub ends-open : (q : State) (image : Image) → StandsAt q image → HasEnded q false None image
ends-open q image stands lost = let s = stopped q (covers_at q) lost image stands in (s.0, s.1, (refl, s.2))

-- after closing succeeded
pub ends-closed : (q : State) (image : Image) (told : Result ReportedNumbers Fault) → q.failed ≡ false → closing_fault q ≡ None → StandsClosed q image
    → IfOk told (λ numbers. numbers_of numbers ≡ ruling_numbers image) → IfErr told (λ fault. log_damage image ≡ Some fault)
    → HasEnded q true (closed_of (Some told)) image
ends-closed q image (Ok numbers) works may stands is found = λ lost.
    let s = stopped q (closed q ∷ []) lost image (closed q, (0, omega arith, refl), stands) in
    (s.0, s.1, (refl, works, may, is ∙ ap (λ (r : Record). record { gate = r.gate; persisted = r.persisted; dirty = r.dirty }) stands.ruled, s.2))
ends-closed q image (Err fault) works may stands is found = absurd (none-some fault (sym stands.stands.sound ∙ log-first image fault found))

-- while closing, if it failed
pub ends-refused : (q : State) (image : Image) (old new : Device) (fault : Fault) → q.failed ≡ false → IsClosingRefusal q old new fault
    → (new ≡ old → StandsAt q image) → StandsClosing q image → HasEnded q true (Some (Err fault)) image
ends-refused q image old new fault works (inl (because, same)) at within = λ lost.
    let s = stopped q (covers_at q) lost image (at same) in (s.0, s.1, (refl, works, inl (because, s.2)))
ends-refused q image old new fault works (inr (none, is, failed)) at within = λ lost.
    let s = stopped q (covers_closing q) lost image within in (s.0, s.1, (refl, works, inr (none, is, s.2)))

-- so closing may be asked for
pub may-ask : (q : State) (close failed : Bool) → q.failed ≡ failed → MayAsk (close && not failed) q
may-ask q close a is asked = grind (arith)

-- after the device failed, closing isn't asked for
pub ends-as_asked : (q : State) (close failed : Bool) (told : Option (Result Numbers Fault)) (image : Image) → q.failed ≡ failed
    → HasEnded q (close && not failed) told image → HasEnded q close told image
ends-as_asked q false failed told image because ended = ended
ends-as_asked q true false told image because ended = ended
ends-as_asked q true true None image because ended = λ lost. let e = ended lost in (e.0, e.1, (because, e.2.1))
ends-as_asked q true true (Some (Ok numbers)) image because ended = λ lost. absurd (no_way (ended lost).2.0)
  where
    no_way : IsTrue false → ⊥
    no_way e = cc
ends-as_asked q true true (Some (Err fault)) image because ended = λ lost. absurd (no_way (ended lost).2.0)
  where
    no_way : IsTrue false → ⊥
    no_way e = cc

-- Slots are freed, the collector goes on, and a sweep ends, while the device does nothing.
use Rattle.std.proofs.Common.{◌≡◌, ℕ, ◌<◌, Bool, true, arith}
use Rattle.std.specs.Prelude.{Option}
use Rattle.machine.specs.Machine.{State, Hand, Version}
use Rattle.pmem.specs.Device.{Device}
use Rattle.pmem.specs.Words.{value_of}
use Rattle.state_invariant.specs.Kept.{Origin}
use Rattle.state_invariant.specs.Shown.{word_of, IsNever}
use Rattle.state_invariant.proofs.collector.Garbage.{garbage-undrawn, garbage-replaced}
use Rattle.state_invariant.proofs.collector.Kept.{moved, OnlyFrees, stays as same_holder, frees, keeps-moved, shows-moved}
use Rattle.state_invariant.proofs.steps.Links.{links-moved}
use Rattle.device_invariant.specs.Slots.{SlotHolds}
use Rattle.device_invariant.specs.Sweeps.{IsSweeping}
use Rattle.device_invariant.specs.Log.{HoldsHand}
use Rattle.device_invariant.specs.Upholds.{HoldsState, Upholds}
use Rattle.device_invariant.specs.Laws.{ChangesHolder, stays, freed}
use Rattle.device_invariant.proofs.moves.Holders.{holds-then, uncovered-hand}

module _ (o : Origin) (q : State) (device : Device) (held : ℕ → Option Version) (swept : Bool) (place : ℕ) (still : q.swept ≡ true → swept ≡ true) (only : (slot : ℕ) → OnlyFrees q held slot) (u : Upholds o q device) where
  -- first the holders change
  abbrev half : State
  half = record q { sessions = q.sessions; held = held }

  abbrev then : State
  then = moved q held swept place

  changes : (slot : ℕ) → ChangesHolder q held device slot
  changes slot = by (only slot)
    where
      by : OnlyFrees q held slot → ChangesHolder q held device slot
      by (same_holder same) = stays same
      by (frees g none) = freed g.timestamp g.key g.held (garbage-undrawn o q u.keeps slot g) (garbage-replaced o q u.keeps slot g) none

  holds-half : HoldsState half device
  holds-half = holds-then q q.sessions held device (λ slot lt. changes slot) (uncovered-hand o q u.keeps) u.holds

  -- and nothing else that the slots and the log go by
  slot-moved : (slot : ℕ) → SlotHolds half device slot → SlotHolds then device slot
  slot-moved slot h = grind (arith) steps 800000

  hand-moved : (hand : Option Hand) → HoldsHand half device hand → HoldsHand then device hand
  hand-moved a holds = grind (arith)

  pub upholds-moved : ((slot w : ℕ) → slot < q.layout.slots → w < 2 → IsNever o q (value_of device (word_of q.layout slot w)) → IsNever o then (value_of device (word_of q.layout slot w)))
      → IsSweeping then device → Upholds o then device
  upholds-moved never sweeping = record {
    keeps = keeps-moved o q u.keeps held swept place still only;
    shows = shows-moved o q u.keeps held swept place still only (value_of device) never u.shows;
    links = links-moved o q held swept place (value_of device) only u.links;
    holds = record {
      slots = record { each = λ slot lt. slot-moved slot (holds-half.slots.each slot lt) };
      log = hand-moved q.hand holds-half.log;
      sweeping = sweeping;
    };
  }

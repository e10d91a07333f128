-- Moves under which no word of the slots is stored.
use Rattle.std.proofs.Common.{◌≡◌, inl, inr, ℕ, ◌-◌, ◌<◌, List, [], ◌∷◌, take, sym, subst, arith}
use Rattle.std.specs.Prelude.{Option, Some, None}
use Rattle.base.specs.declared.key.Key.{Key}
use Rattle.base.specs.Layout.{Layout, slot_words}
use Rattle.machine.specs.Machine.{State, Hand}
use Rattle.pmem.specs.Device.{Device}
use Rattle.pmem.specs.Words.{OnlyShrinks}
use Rattle.log_area.specs.Writings.{IsNextRecord}
use Rattle.log_area.proofs.UntouchedWords.{KeepsLog, holds_record_kept, replacing_kept}
use Rattle.state_invariant.specs.Shown.{word_of}
use Rattle.device_invariant.specs.Slots.{Counts, IsDead, IsLive, SlotHolds, SlotsHold}
use Rattle.device_invariant.specs.Sweeps.{IsSweeping}
use Rattle.device_invariant.specs.Log.{Line, IsLineReady, AreReady, IsBatchSettled, HoldsHand, writing_at, lines_in}
use Rattle.pmem.proofs.Changes.{each-shrinks, settled_at-shrinks}
use Rattle.device_invariant.proofs.Words.{within-slot}
use Rattle.device_invariant.proofs.collector.Fences.{ShrinksSlotsBehind}

-- each word of the slot only shrinks
abbrev pub ShrinksSlot : Layout → Device → Device → ℕ → Type 0
ShrinksSlot a old new slot = (w : ℕ) → w < slot_words a.version → OnlyShrinks old new (word_of a slot w)

abbrev pub ShrinksSlots : Layout → Device → Device → Type 0
ShrinksSlots a old new = (slot : ℕ) → slot < a.slots → ShrinksSlot a old new slot

-- ---- the slots

pub slot-shrink : (q : State) (old new : Device) (slot : ℕ) → ShrinksSlot q.layout old new slot → SlotHolds q old slot → SlotHolds q new slot
slot-shrink q old new slot shrinks h = record {
  begin_before = each-shrinks first (λ x lt. lt) h.begin_before;
  end_before = each-shrinks second (λ x lt. lt) h.end_before;
  free = λ held. dead (h.free held);
  own = λ n key held. settled_at-shrinks first (h.own n key held);
  drawn = λ t key d held found. each-shrinks first (λ x is. is) (h.drawn t key d held found);
  unstamped = λ t key d held found not_stamped up. settled_at-shrinks first (h.unstamped t key d held found not_stamped up);
  newest = λ key held. live key (h.newest key held);
  replaced = λ t key held none other. each-shrinks second (λ x is. is) (h.replaced t key held none other);
}
  where
    first : OnlyShrinks old new (word_of q.layout slot 0)
    first = shrinks 0 (within-slot q.layout.version 0 (omega arith))

    second : OnlyShrinks old new (word_of q.layout slot 1)
    second = shrinks 1 (within-slot q.layout.version 1 (omega arith))

    dead : IsDead q old slot → IsDead q new slot
    dead (inl begin) = inl (each-shrinks first (λ x is. is) begin)
    dead (inr end) = inr (each-shrinks second (λ x is. is) end)

    live : (key : Key) → IsLive q old slot key → IsLive q new slot key
    live key l = record {
      begin = first.settled l.begin;
      counted = subst (Counts q) (sym first.value) l.counted;
      end = each-shrinks second (λ x is. is) l.end;
      settled = λ w two low. (shrinks w low).settled (l.settled w two low);
    }

pub slots-shrink : (q : State) (old new : Device) → ShrinksSlots q.layout old new → SlotsHold q old → SlotsHold q new
slots-shrink q old new shrinks h = record { each = λ slot lt. slot-shrink q old new slot (shrinks slot lt) (h.each slot lt) }

-- a slot whose begin and end only shrink stays out of the gaps
pub sweeping-shrink : (q : State) (old new : Device) → ShrinksSlots q.layout old new → ShrinksSlotsBehind q.layout old new → IsSweeping q old → IsSweeping q new
sweeping-shrink q old new shrinks behind s = record {
  over = λ swept slot w lt low. each-shrinks (shrinks slot lt w (within-slot q.layout.version w (omega (arith, low)))) (λ x is. is) (s.over swept slot w lt low);
  under_way = λ unswept slot lt before w low. record { each = λ x there. (s.under_way unswept slot lt before w low).each x (behind slot w lt (within-slot q.layout.version w (omega (arith, low))) x there) };
}

-- ---- the lines

pub line-shrink : (a : Layout) (old new : Device) (line : Line) → ShrinksSlots a old new → IsLineReady a old line → IsLineReady a new line
line-shrink a old new line shrinks ready = record { each = λ w lt from to low. (shrinks line.slot lt w low).ready 0 (ready.each w lt from to low) }

pub ready-shrink : (a : Layout) (old new : Device) (lines : List Line) → ShrinksSlots a old new → AreReady a old lines → AreReady a new lines
ready-shrink a old new [] shrinks ready = tt
ready-shrink a old new (line ∷ lines) shrinks ready = (line-shrink a old new line shrinks ready.0, ready-shrink a old new lines shrinks ready.1)

pub settled-shrink : (q : State) (hand : Hand) (old new : Device) → ShrinksSlots q.layout old new → IsBatchSettled q hand.commits old → IsBatchSettled q hand.commits new
settled-shrink q hand old new shrinks settled = record {
  own = λ slot lt own. record { each = λ w low. (shrinks slot lt w low).settled ((settled.own slot lt own).each w low) };
  ended = λ slot lt ended. (shrinks slot lt 1 (within-slot q.layout.version 1 (omega arith))).settled (settled.ended slot lt ended);
}

-- ---- the log

pub follows-shrink : (q : State) (hand : Hand) (old new : Device) → new.words ≡ old.words → KeepsLog q.layout old new → IsNextRecord q.layout q.ruling hand.target old → IsNextRecord q.layout q.ruling hand.target new
follows-shrink q hand old new size log follows = record { holds = holds_record_kept q.layout old new size log q.ruling follows.holds; next = follows.next; fits = follows.fits }

pub hand-shrink : (q : State) (old new : Device) (hand : Option Hand) → new.words ≡ old.words → KeepsLog q.layout old new → ShrinksSlots q.layout old new → HoldsHand q old hand → HoldsHand q new hand
hand-shrink q old new None size log shrinks holds = holds_record_kept q.layout old new size log q.ruling holds
hand-shrink q old new (Some hand) size log shrinks (inl f) = grind (arith, follows-shrink q hand old new size log, ready-shrink q.layout old new (take (hand.ticks - 1) (lines_in q hand.commits)) shrinks)
hand-shrink q old new (Some hand) size log shrinks (inr r) = grind (arith, replacing_kept (writing_at q hand r.stage) old new size log q.ruling, settled-shrink q hand old new shrinks)

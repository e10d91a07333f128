-- Slots that are freed.
use Rattle.std.specs.Prelude.{◌≡◌, ℕ, Bool, true, false, ◌&&◌, nat_lt, nat_le, is_none, List, length, slice_get, slice_set, Option, Some, None, Contains}
use Rattle.std.specs.List.{list_all}
use Rattle.std.specs.Option.{option_and_then}
use Rattle.base.specs.declared.key.Key.{Key}
use Rattle.txn.specs.declared.write.Write.{Write}
use Rattle.snapshot.specs.Snapshots.{Seen}
use Rattle.txn.specs.declared.transaction.Transaction.{Transaction}
use Rattle.txn.specs.declared.transaction.Transaction.TheVariants.{Active}
use Rattle.txn.specs.Transactions.{transaction_at}
use Rattle.txn.specs.WriteSets.{HasRoomFor, write_of}

-- the slot, if there is one, is one of this many
abbrev pub fits_slot : ℕ → Option ℕ → Bool
fits_slot slots None = true
fits_slot slots (Some slot) = nat_lt slot slots

-- the slots of all writes are
abbrev pub fits_writes : ℕ → List Write → Bool
fits_writes slots writes = list_all (λ write. fits_slot slots write.slot) writes

-- the slots that the writes have are free, and the others as they were
pub record ReleasesSlots (writes : List Write) (old new : List Bool) : Type 0 where
  pub size : length new ≡ length old
  pub given : (write : Write) (slot : ℕ) → Contains writes write → write.slot ≡ Some slot → slice_get new slot ≡ Some true
  pub others : (slot : ℕ) → ((write : Write) → Contains writes write → write.slot ≡ Some slot → ⊥) → slice_get new slot ≡ slice_get old slot

-- the slot of the write of the key, if it has one
abbrev pub own_of : Key → List Write → Option ℕ
own_of key writes = option_and_then (λ write. write.slot) (write_of key writes)

-- the free slots with this one, if there is one
abbrev pub given : Option ℕ → List Bool → List Bool
given None free = free
given (Some slot) free = slice_set free slot true

-- the writes are as many as they may be, and none is of the key
abbrev pub is_full_of : Key → List Write → Bool
is_full_of key writes = is_none (write_of key writes) && nat_le 32 (length writes)

-- the session is Active, may write the key, and has this slot for it, if any
pub record IsReady (transactions : List (Option Transaction)) (session : ℕ) (key : Key) (own : Option ℕ) : Type 0 where
  pub snapshot : Seen
  pub writes : List Write
  pub active : transaction_at transactions session ≡ Some (Active snapshot writes)
  pub room : HasRoomFor key writes
  pub fits : is_full_of key writes ≡ false
  pub slot : own_of key writes ≡ own

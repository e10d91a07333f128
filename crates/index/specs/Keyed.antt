-- What the fields of a key with its entry stand for.
use Rattle.std.specs.Prelude.{Bool, true, ◌&&◌, ℕ, ◌+◌, ◌*◌, ◌-◌, ◌^◌, nat_lt, Option, Some, None, if◌then◌else◌}
use Rattle.base.specs.declared.key.Key.{Key}
use Rattle.index.specs.declared.entry.Entry.{Entry}
use Rattle.index.specs.declared.entry.Halves.{Halves}
use Rattle.index.specs.declared.entry.KeyedEntry.TheInside.{Inside}

-- the number, if there is one
abbrev pub some_if : Bool → ℕ → Option ℕ
some_if has number = if has then Some number else None

-- the number of which these are the halves
abbrev pub joined : Halves → ℕ
joined halves = halves.high * 2 ^ 32 + halves.low

-- the slot that the number stands for, if it stands for one
abbrev pub slot_in : ℕ → Option ℕ
slot_in number = if nat_lt number (2 ^ 32 - 1) then Some number else None

-- some number stands for the slot, or for none
abbrev pub is_kept : Option ℕ → Bool
is_kept None = true
is_kept (Some slot) = nat_lt slot (2 ^ 32 - 1)

-- and for those of the entry
abbrev pub are_kept : Entry → Bool
are_kept entry = is_kept entry.newest && is_kept entry.drawn

-- the key that the fields hold
abbrev pub key_in : Inside → Key
key_in k = record { table = k.table; key = joined k.key }

-- and its entry
abbrev pub entry_in : Inside → Entry
entry_in k = record { newest = slot_in k.newest; ended = k.ended; drawn = slot_in k.drawn; last = some_if k.has_last (joined k.last) }

-- The slots of each key's versions.
use Rattle.std.specs.Prelude.{◌≡◌, ℕ, Bool, true, false, not, ◌&&◌, ◌||◌, List, Option, Some, None, is_some, unwrap_or, slice_get, nat_eq, if◌then◌else◌}
use Rattle.std.specs.Option.{option_or, option_eq}
use Rattle.std.specs.declared.cmp.Ordering.{Ordering}
use Rattle.std.specs.Ordering.{nat_cmp, ordering_then}
use Rattle.base.specs.declared.key.Key.{Key}
use Rattle.base.specs.Keys.{key_eq, lookup_key}
use Rattle.index.specs.declared.entry.Entry.{Entry}

-- the order of keys
abbrev pub key_cmp : Key → Key → Ordering
key_cmp a b = ordering_then (nat_cmp a.table b.table) (nat_cmp a.key b.key)

-- the entry of a key without versions
abbrev pub blank : Entry
blank = record { newest = None; ended = false; drawn = None; last = None }

-- the key's entry; a key that has none has a blank one
abbrev pub entry_at : List (Key × Entry) → Key → Entry
entry_at entries key = unwrap_or (lookup_key entries key) blank

-- the key has a place for its entry, so that a change of it takes no memory
abbrev pub has_room : List (Key × Entry) → Key → Bool
has_room entries key = is_some (lookup_key entries key)

-- the key's entry is at this place
abbrev pub IsAt : List (Key × Entry) → ℕ → Key → Type 0
IsAt entries place key = slice_get entries place ≡ Some (key, entry_at entries key)

-- each key has an entry at its place, and no two entries are of one key
pub record ArePlaced (places : List (Key × ℕ)) (entries : List (Key × Entry)) : Type 0 where
  pub there : (key : Key) (place : ℕ) → lookup_key places key ≡ Some place → (entry : Entry) × (slice_get entries place ≡ Some (key, entry))
  pub once : (key : Key) (place : ℕ) (entry : Entry) → slice_get entries place ≡ Some (key, entry) → lookup_key places key ≡ Some place

-- ---- what an entry says

-- the slot of the key's covered row
abbrev pub live_of : Entry → Option ℕ
live_of entry = if entry.ended then None else entry.newest

-- the slot of the newest version that has a row, drawn or covered
abbrev pub head_of : Entry → Option ℕ
head_of entry = option_or entry.drawn entry.newest

-- the entry once the drawn commit is covered, whose version is in the slot, or which is a deletion
abbrev pub covered : Option ℕ → Entry → Entry
covered (Some slot) entry = record entry { newest = Some slot; ended = false; drawn = None }
covered None entry = record entry { ended = true; drawn = None }

-- the entry once the version in the slot is freed
abbrev pub forgotten : ℕ → Entry → Entry
forgotten slot entry = if option_eq nat_eq entry.newest (Some slot) then record entry { newest = None; ended = false } else entry

-- ---- changes

-- the key has this entry, and each other key the one that it had
abbrev pub Sets : List (Key × Entry) → List (Key × Entry) → Key → Entry → Type 0
Sets old new key entry = (k : Key) → entry_at new k ≡ (if key_eq key k then entry else entry_at old k)

-- each key has room that had it, and no other
abbrev pub KeepsRoom : List (Key × Entry) → List (Key × Entry) → Type 0
KeepsRoom old new = (k : Key) → has_room new k ≡ has_room old k

-- and the key has it too
abbrev pub GainsRoom : List (Key × Entry) → List (Key × Entry) → Key → Type 0
GainsRoom old new key = (k : Key) → has_room new k ≡ (key_eq key k || has_room old k)

-- the key has none, and each other key has it that had it
abbrev pub LosesRoom : List (Key × Entry) → List (Key × Entry) → Key → Type 0
LosesRoom old new key = (k : Key) → has_room new k ≡ (not (key_eq key k) && has_room old k)

-- How many keys have a covered row.
use Rattle.std.specs.Prelude.{◌≡◌, ℕ, Bool, List, is_some, count_by}
use Rattle.std.specs.List.{IsDistinct}
use Rattle.std.specs.Set.{is_member}
use Rattle.base.specs.declared.key.Key.{Key}
use Rattle.base.specs.Keys.{key_eq}
use Rattle.index.specs.declared.entry.Entry.{Entry}
use Rattle.index.specs.Entries.{entry_at, live_of}

-- the list has each key with a covered row, and each of them once
pub record AreLive (keys : List Key) (entries : List (Key × Entry)) : Type 0 where
  pub once : IsDistinct key_eq keys
  pub same : (key : Key) → is_member key_eq keys key ≡ is_some (live_of (entry_at entries key))

-- the entry is of a key that has a covered row
abbrev pub is_live : Key × Entry → Bool
is_live e = is_some (live_of e.1)

-- how many of the entries are
abbrev pub live_number : List (Key × Entry) → ℕ
live_number entries = count_by is_live entries

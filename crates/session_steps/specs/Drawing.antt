-- What a draw asks, and what it touches.
use Rattle.std.specs.Prelude.{ℕ, ◌+◌, ◌/◌, Bool, ◌&&◌, List, [], ◌∷◌, map, ◌++◌, find, Option, Some, None}
use Rattle.std.specs.List.{list_all, range_with_len}
use Rattle.std.specs.Option.{option_map_or}
use Rattle.base.specs.declared.key.Key.{Key}
use Rattle.base.specs.Layout.{Layout, slot_start, version_lines}
use Rattle.snapshot.specs.Snapshots.{Seen}
use Rattle.txn.specs.declared.write.Write.{Write}
use Rattle.index.specs.declared.entry.Entry.{Entry}
use Rattle.index.specs.Entries.{entry_at, live_of}
use Rattle.simulation.specs.sessions.Sees.{is_unseen}
use Rattle.session_steps.specs.Giving.{fits_slot}

-- the least of the keys that was drawn last by a commit which the snapshot doesn't cover
abbrev pub conflict_in : List (Key × Entry) → Seen → List Write → Option Key
conflict_in entries snapshot writes = find (λ key. is_unseen snapshot (entry_at entries key).last) (map (λ write. write.key) writes)

-- the lines of a version that is made: all of its slot
abbrev pub own_lines : Layout → ℕ → List ℕ
own_lines a slot = map (λ part. slot_start a slot / 8 + part) (range_with_len 0 (version_lines a))

-- the line of a version that is ended: the first of its slot, which has its end
abbrev pub ended_lines : Layout → ℕ → List ℕ
ended_lines a slot = slot_start a slot / 8 ∷ []

-- the lines of the version that the write makes and of the one that it ends
abbrev pub touched_lines : Layout → List (Key × Entry) → Write → List ℕ
touched_lines a entries write = option_map_or (own_lines a) write.slot [] ++ option_map_or (ended_lines a) (live_of (entry_at entries write.key)) []

-- their slots are among the layout's
abbrev pub fits_touched : Layout → List (Key × Entry) → List Write → Bool
fits_touched a entries writes = list_all (λ write. fits_slot a.slots write.slot && fits_slot a.slots (live_of (entry_at entries write.key))) writes

-- the entry of a key that the commit of this timestamp writes, or doesn't
abbrev pub drawn_entry : Option Write → ℕ → Entry → Entry
drawn_entry None t entry = entry
drawn_entry (Some write) t entry = record entry { drawn = write.slot; last = Some t }

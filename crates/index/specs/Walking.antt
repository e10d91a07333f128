-- Following links from a key's newest version, slot by slot.
use Rattle.std.specs.Prelude.{ℕ, ◌≡◌, ◌&&◌, nat_lt, if◌then◌else◌, List, Some}
use Rattle.base.specs.declared.key.Key.{Key}
use Rattle.base.specs.Keys.{key_eq}
use Rattle.base.specs.Images.{Image}
use Rattle.snapshot.specs.Snapshots.{Seen, covers}
use Rattle.snapshot.specs.Walks.{IsSeenAt, is_counted, Leads, IsLinked}
use Rattle.version_slot.specs.declared.words.Slot.{Slot}
use Rattle.index.specs.declared.entry.Entry.{Entry}
use Rattle.index.specs.Entries.{entry_at}
use Rattle.index.specs.Reading.{HasSeen}
use Rattle.index.specs.declared.walking.Next.{Next}
use Rattle.index.specs.declared.walking.Next.TheVariants.{Seen as SeesRow, Earlier, Over}

-- what the snapshot sees is reached from the newest version that the index has of each key
abbrev pub AreLinked : Seen → Image → List (Key × Entry) → Type 0
AreLinked s image index = (key : Key) → IsLinked s image key (entry_at index key).newest

-- what the words of a slot say to a walk that comes from a version that began at the bound
abbrev pub next_at : Seen → Key → ℕ → Slot → Next
next_at s key bound held =
    if key_eq held.version.key key && nat_lt held.begin bound
    then (if covers s held.begin then (if covers s held.end then Over else SeesRow)
    else (if is_counted s held.begin then Earlier held.begin held.version.previous else Over))
    else Over

-- what it says about the way, and about this row if the snapshot sees the version
abbrev pub Looks : Seen → Image → Key → ℕ → ℕ → List ℕ → Next → Type 0
Looks s image key bound slot row SeesRow = HasSeen (covers s) image slot key row
Looks s image key bound slot row (Earlier begin previous) =
    (target : ℕ) → IsSeenAt s image key target → Leads s image key target bound slot → (next : ℕ) × (previous ≡ Some next) × Leads s image key target begin next
Looks s image key bound slot row Over = (target : ℕ) → IsSeenAt s image key target → Leads s image key target bound slot → ⊥

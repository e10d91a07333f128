-- How links lead from a key's newest version to what a snapshot sees, in the words of an image.
use Rattle.std.specs.Prelude.{ℕ, ◌+◌, ◌^◌, ◌-◌, ◌<◌, ◌≡◌, Bool, true, false, ◌&&◌, not, nat_lt, Option, Some}
use Rattle.base.specs.declared.key.Key.{Key}
use Rattle.base.specs.Records.{is_in}
use Rattle.base.specs.Images.{Image, layout_of, begin_of, key_of, link_of, is_live, is_misfit}
use Rattle.snapshot.specs.Snapshots.{Seen, covers}

-- the slot's words from the third on are a version of the key
pub record IsOfKey (image : Image) (slot : ℕ) (key : Key) : Type 0 where
  pub within : slot < (layout_of image).slots
  pub fits : is_misfit image slot ≡ false
  pub at : key_of image slot ≡ key

-- the timestamp isn't 0, and is in no gap of the snapshot
abbrev pub is_counted : Seen → ℕ → Bool
is_counted s t = nat_lt 0 t && not (is_in s.gaps t)

-- Links lead from a slot to the target. Each version on the way is one of the key that the snapshot doesn't cover, and begins fall from
-- below the bound on.
-- Excluded: a link that is followed to another key, or to a begin that isn't smaller.
pub data Leads (s : Seen) (image : Image) (key : Key) (target : ℕ) : ℕ → ℕ → Type 0 where
  arrives : (bound slot : ℕ) → slot ≡ target → begin_of image slot < bound → Leads s image key target bound slot
  passes : (bound slot next : ℕ) → IsOfKey image slot key → begin_of image slot < bound → covers s (begin_of image slot) ≡ false → is_counted s (begin_of image slot) ≡ true
      → link_of image slot ≡ next + 1 → Leads s image key target (begin_of image slot) next → Leads s image key target bound slot

-- the snapshot sees the slot's version of the key
pub record IsSeenAt (s : Seen) (image : Image) (key : Key) (slot : ℕ) : Type 0 where
  pub version : IsOfKey image slot key
  pub live : is_live (covers s) image slot ≡ true

-- what the snapshot sees of the key is reached from its newest version
abbrev pub IsLinked : Seen → Image → Key → Option ℕ → Type 0
IsLinked s image key newest = (target : ℕ) → IsSeenAt s image key target → (head : ℕ) × (newest ≡ Some head) × Leads s image key target (2 ^ 64 - 1) head

-- What a snapshot sees of the slots of an image.
use Rattle.std.specs.Prelude.{◌≡◌, ◌↔◌, ◌<◌, ◌≤◌, ℕ, Bool, true, false, not, ◌&&◌, List, Some, None, if◌then◌else◌}
use Rattle.std.specs.BTreeMap.{BTreeMap, get}
use Rattle.std.specs.declared.ops.Bound.{Bound}
use Rattle.std.specs.declared.ops.Bound.TheVariants.{Included, Unbounded}
use Rattle.base.specs.declared.key.Key.{Key}
use Rattle.base.specs.Keys.{key_lt, is_in_range}
use Rattle.base.specs.Commits.{Tables}
use Rattle.base.specs.Layout.{Layout}
use Rattle.base.specs.Images.{Image, layout_of, key_of, row_of, is_live, is_misfit, Shown}
use Rattle.snapshot.specs.Snapshots.{Seen, covers}
use Rattle.index.specs.declared.ranges.KeyRange.{KeyRange}
use Rattle.index.specs.Entries.{key_cmp}
use Rattle.index.specs.declared.ranges.KeyRange.TheVariants.{All, Within, Between}

-- the image has this layout, and the timestamps that count make the same slots live as those that the snapshot covers
pub record CountsAs (counts : ℕ → Bool) (s : Seen) (a : Layout) (image : Image) : Type 0 where
  pub laid_out : layout_of image ≡ a
  pub live : (slot : ℕ) → slot < a.slots → is_live counts image slot ≡ is_live (covers s) image slot

-- a slot that is live, by the timestamps that count, and whose words aren't a misfit has this row at this key
pub record HasSeen (counts : ℕ → Bool) (image : Image) (slot : ℕ) (key : Key) (row : List ℕ) : Type 0 where
  pub within : slot < (layout_of image).slots
  pub live : is_live counts image slot ≡ true
  pub fits : is_misfit image slot ≡ false
  pub at : key_of image slot ≡ key
  pub is : row_of image slot ≡ row

-- the live slots have the rows of the tables, and no others
pub record ShowsTables (counts : ℕ → Bool) (a : Layout) (image : Image) (tables : Tables) : Type 0 where
  pub rows : (key : Key) (row : List ℕ) → Shown counts image key row ↔ (tables key ≡ Some row)
  pub fits : (slot : ℕ) → slot < a.slots → is_live counts image slot ≡ true → is_misfit image slot ≡ false

-- the key comes neither before the first nor after the last, whatever their tables
abbrev pub is_between : Key → Key → Key → Bool
is_between first last key = not (key_lt key first) && not (key_lt last key)

-- the range has the key
abbrev pub contains : KeyRange → Key → Bool
contains All key = true
contains (Within table lo hi) key = is_in_range table lo hi key
contains (Between first last) key = is_between first last key

-- the bounds of its keys
abbrev pub bounds_of : KeyRange → Bound Key × Bound Key
bounds_of All = (Unbounded, Unbounded)
bounds_of (Within table lo hi) = (Included (record { table = table; key = lo }), Included (record { table = table; key = hi }))
bounds_of (Between first last) = (Included first, Included last)

-- the first isn't behind the last
abbrev pub IsForward : KeyRange → Type 0
IsForward All = Unit {0}
IsForward (Within table lo hi) = lo ≤ hi
IsForward (Between first last) = key_lt last first ≡ false

-- the rows of the tables in the range
abbrev pub ranged : KeyRange → Tables → Tables
ranged range tables key = if contains range key then tables key else None

-- the map has the rows of the tables, and no others
abbrev pub HasRows : BTreeMap Key (List ℕ) → Tables → Type 0
HasRows rows tables = (key : Key) → get key_cmp rows key ≡ tables key

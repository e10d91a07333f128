-- What opening gives to the sessions.
use Rattle.std.specs.Prelude.{◌≡◌, ℕ, ◌<◌, Bool, true, false, List, [], slice_get, Some, None, is_none, is_some}
use Rattle.base.specs.declared.key.Key.{Key}
use Rattle.base.specs.Layout.{Layout}
use Rattle.base.specs.Records.{Record}
use Rattle.base.specs.Images.{Image, key_of, is_misfit}
use Rattle.machine.specs.Machine.{State}
use Rattle.pmem.specs.Device.{Device}
use Rattle.index.specs.declared.entry.Entry.{Entry}
use Rattle.index.specs.Entries.{blank, entry_at}
use Rattle.state_invariant.specs.Kept.{origin_of}
use Rattle.device_invariant.specs.Upholds.{Upholds}
use Rattle.session_steps.specs.declared.sessions.Sessions.{Sessions}
use Rattle.session_steps.specs.Shows.{Shows}

-- ---- the state

-- the state is one in which a life begins: it has this layout, record and next timestamp, no session is open and nothing is
-- drawn, and these slots are free
pub record Begins (a : Layout) (ruling : Record) (next : ℕ) (free : List Bool) (q : State) : Type 0 where
  pub layout_is : q.layout ≡ a
  pub ruling_is : q.ruling ≡ ruling
  pub next_is : q.next ≡ next
  pub none_drawn : q.drawn ≡ []
  pub none_open : (n : ℕ) → q.sessions n ≡ None
  pub unswept : q.swept ≡ false
  pub first : q.place ≡ 0
  pub free_are : (slot : ℕ) → slot < a.slots → slice_get free slot ≡ Some (is_none (q.held slot))

-- the sessions show each such state that the device upholds
abbrev pub ShowsOpened : Sessions → Device → Layout → Record → ℕ → List Bool → Type 0
ShowsOpened s device a ruling next free = (q : State) → Begins a ruling next free q → Upholds (origin_of q) q device → Shows s device q

-- ---- the index

-- Of the first slots, up to this count, those that aren't free are found: each key of such a slot has one of them, and nothing
-- else is known about any key
pub record HasFound (image : Image) (free : List Bool) (count : ℕ) (index : List (Key × Entry)) : Type 0 where
  pub nothing_else : (key : Key) → entry_at index key ≡ record blank { newest = (entry_at index key).newest }
  pub newest : (key : Key) (slot : ℕ) → (entry_at index key).newest ≡ Some slot → (slot < count) × (slice_get free slot ≡ Some false) × (key_of image slot ≡ key)
  pub each : (slot : ℕ) → slot < count → slice_get free slot ≡ Some false → is_misfit image slot ≡ false → is_some (entry_at index (key_of image slot)).newest ≡ true

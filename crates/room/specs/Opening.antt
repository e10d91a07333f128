-- What opening makes of a device and its volatile state.
use Rattle.std.specs.Prelude.{◌≡◌, ℕ, ◌-◌, ◌^◌, ◌<◌, Bool, List, map, Some, None, All}
use Rattle.base.specs.declared.key.Key.{Key}
use Rattle.base.specs.Images.{Image}
use Rattle.base.specs.Layout.{Layout}
use Rattle.base.specs.Records.{Record}
use Rattle.pmem.specs.Device.{Device}
use Rattle.recovery.specs.Opened.{HasExamined, HasOpened}
use Rattle.recovery.specs.declared.rows.LiveSlot.{LiveSlot}
use Rattle.index.specs.declared.entry.Entry.{Entry}
use Rattle.index.specs.Entries.{blank}
use Rattle.session_steps.specs.Opening.{ShowsOpened}
use Rattle.room.specs.declared.opening.Learnt.{Learnt}
use Rattle.room.specs.declared.volatile.VolatileState.{VolatileState}

-- the entry of a key whose version was found live
abbrev pub entry_of : LiveSlot → Key × Entry
entry_of s = (s.key, record blank { newest = Some s.slot })

-- the number of each of these slots is small enough for an entry
abbrev pub AreFew : List LiveSlot → Type 0
AreFew live = All (λ s. s.slot < 2 ^ 32 - 1) live

-- what opening needs of an image, and the entries of the versions that it found live
pub record HasLearnt (image : Image) (learnt : Learnt) : Type 0 where
  pub live : List LiveSlot
  pub found : HasExamined image learnt.found live
  pub entries_are : learnt.entries ≡ map entry_of live

-- the device was opened, the sessions show each state in which a life begins on it so, no batch is pending, and none waits to
-- be handed out
pub record HasBegun (old new : Device) (c : VolatileState) : Type 0 where
  pub layout : Layout
  pub ruling : Record
  pub next : ℕ
  pub free : List Bool
  pub live : List LiveSlot
  pub opened : HasOpened old new layout ruling next free live
  pub shows : ShowsOpened c.sessions new layout ruling next free
  pub rests : c.cycle ≡ None
  pub waits : c.covered ≡ None

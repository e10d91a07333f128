-- What a status says about a state.
use Rattle.std.specs.Prelude.{◌≡◌, ◌+◌, ◌-◌, ◌*◌, ◌^◌, ℕ, length, min}
use Rattle.base.specs.Layout.{row_limit}
use Rattle.machine.specs.Machine.{State}
use Rattle.session_steps.specs.Usage.{free_slots, CountsRows}
use Rattle.store.specs.declared.status.Status.{Status}

-- the numbers of the layout
pub record ShowsLayout (q : State) (status : Status) : Type 0 where
  pub version_is : status.version ≡ q.layout.version
  pub slots_are : status.slots ≡ q.layout.slots
  pub places_are : status.places ≡ q.layout.places
  pub window_is : status.window ≡ q.layout.window
  pub limit_is : status.row_limit ≡ row_limit q.layout.version

-- how many timestamps may still be drawn: the machine refuses a draw once two windows from the next one reach past the last
abbrev pub draws_left : ℕ → ℕ → ℕ
draws_left window next = 2 ^ 62 - (next + 2 * window)

-- how many records may still follow the one whose gate this is
abbrev pub records_left : ℕ → ℕ
records_left gate = 2 ^ 62 - (gate + 1)

-- the numbers of the ruling record, how many long commits and gaps it has, and how many commits may still be made, if each takes a record
pub record ShowsNumbers (q : State) (status : Status) : Type 0 where
  pub record_is : status.record ≡ q.ruling.gate
  pub persisted : status.persisted ≡ q.ruling.persisted
  pub longs : status.longs ≡ length q.ruling.longs
  pub gaps : status.gaps ≡ length q.ruling.gaps
  pub left : status.left ≡ min (draws_left status.window q.next) (records_left q.ruling.gate)

-- how many rows are committed, and how many slots hold no version
pub record ShowsFill (q : State) (status : Status) : Type 0 where
  pub rows : CountsRows q status.rows
  pub free : status.free ≡ free_slots q

-- all of these, of one state
pub record ShowsStore (q : State) (status : Status) : Type 0 where
  pub layout : ShowsLayout q status
  pub numbers : ShowsNumbers q status
  pub fill : ShowsFill q status

-- How a room's slots are used.
use Rattle.std.specs.Prelude.{◌≡◌}
use Rattle.machine.specs.Machine.{State}
use Rattle.session_steps.specs.Usage.{free_slots, CountsRows}
use Rattle.room.specs.declared.usage.Usage.{Usage}

-- how many rows are covered, and how many slots hold no version
pub record ShowsUsage (q : State) (usage : Usage) : Type 0 where
  pub rows : CountsRows q usage.rows
  pub free : usage.free ≡ free_slots q

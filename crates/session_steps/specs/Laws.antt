-- What follows for a caller that lends the sessions to a committer. Each law is stated here in words that need no proof, and a
-- public function promises it.
use Rattle.std.specs.Prelude.{◌≡◌, ℕ, Bool, ◌&&◌, nat_eq, List, map, filter, Option, IsTrue}
use Rattle.std.specs.List.{list_any}
use Rattle.machine.specs.Machine.{State, Hand, drawn_of}
use Rattle.base.specs.Records.{are_rising}
use Rattle.pmem.specs.Device.{Device}
use Rattle.device_invariant.specs.Upholds.{Upholds}
use Rattle.txn.specs.declared.drawn.DrawnCommit.{DrawnCommit}
use Rattle.dirty_table.specs.declared.sessions.SessionSet.{SessionSet}
use Rattle.dirty_table.specs.Touches.{has, lines_touched}
use Rattle.session_steps.specs.declared.sessions.Sessions.{Sessions}
use Rattle.simulation.specs.cycles.Batches.{line_numbers}
use Rattle.session_steps.specs.Shows.{plain_drawn, HoldsLines, Shows}

-- what the sessions show they also show with any pending batch, or as failed, on a device that upholds that state
pub record ShowsAnyHand : Type 0 where
  pub hand : (s : Sessions) (before now : Device) (q : State) (hand : Option Hand) (shown : Shows s before q) → Upholds shown.hidden.origin (record q { hand = hand }) now → Shows s now (record q { hand = hand })
  pub failed : (s : Sessions) (before now : Device) (q : State) (failed : Bool) (shown : Shows s before q) → Upholds shown.hidden.origin (record q { failed = failed }) now → Shows s now (record q { failed = failed })

-- the lines that the dirty table has for the sessions of those drawn commits whose timestamps pass a test are those that these
-- touch
abbrev pub TableHasLines : Type 0
TableHasLines =
    (q : State) (drawn : List DrawnCommit) (dirty : List SessionSet) (sessions : SessionSet) (test : ℕ → Bool) → q.drawn ≡ map plain_drawn drawn → HoldsLines q drawn dirty → IsTrue (are_rising (lines_touched sessions dirty))
    → ((n : ℕ) → has sessions n ≡ list_any (λ d. nat_eq d.session n && test d.timestamp) drawn) → lines_touched sessions dirty ≡ line_numbers q (filter (λ commit. test commit.timestamp) (drawn_of q))

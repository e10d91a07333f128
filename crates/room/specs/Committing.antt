-- Which plain states a room's volatile state shows on a device.
use Rattle.std.specs.Prelude.{◌≡◌, ◌≢◌, ℕ, ◌&&◌, nat_eq, List, Option, Some, None}
use Rattle.std.specs.List.{list_any}
use Rattle.machine.specs.Machine.{State, Hand, batch_of}
use Rattle.base.specs.Records.{is_committed}
use Rattle.pmem.specs.Device.{Device}
use Rattle.log_area.specs.declared.stage.WritingStage.TheVariants.{Done}
use Rattle.txn.specs.declared.drawn.DrawnCommit.{DrawnCommit}
use Rattle.dirty_table.specs.Touches.{has}
use Rattle.group_commit.specs.Cycles.{Cycling}
use Rattle.group_commit.specs.Laws.{IsAfter}
use Rattle.simulation.specs.cycles.Batches.{line_numbers}
use Rattle.session_steps.specs.Shows.{Shows as SessionsShow}
use Rattle.session_steps.specs.declared.sessions.Sessions.{Sessions}
use Rattle.room.specs.declared.volatile.VolatileState.{VolatileState}

-- The cycle is that of the pending batch, after the ticks that were made for it: the cycle's sessions drew the commits that its
-- record commits, and its last operation isn't made
pub record HoldsHand (q : State) (drawn : List DrawnCommit) (hand : Hand) (cycle : Cycling) : Type 0 where
  pub sessions : (n : ℕ) → has cycle.sessions n ≡ list_any (λ d. nat_eq d.session n && is_committed hand.target d.timestamp) drawn
  pub batch : cycle.batch ≡ batch_of q hand
  pub layout : cycle.writing.layout ≡ q.layout
  pub target : cycle.writing.target ≡ hand.target
  pub unfinished : cycle.writing.stage ≢ Done
  pub ticks : IsAfter (line_numbers q hand.commits) hand.ticks cycle

-- there is a cycle exactly while a batch is pending
abbrev pub HoldsCycle : State → List DrawnCommit → Option Hand → Option Cycling → Type 0
HoldsCycle q drawn None None = Unit {0}
HoldsCycle q drawn (Some hand) (Some cycle) = HoldsHand q drawn hand cycle
HoldsCycle q drawn None (Some cycle) = ⊥
HoldsCycle q drawn (Some hand) None = ⊥

-- the sessions show the state, and the cycle is that of the pending batch
pub record ShowsIn (sessions : Sessions) (cycle : Option Cycling) (device : Device) (q : State) : Type 0 where
  pub shown : SessionsShow sessions device q
  pub cycle_is : HoldsCycle q sessions.drawn.commits q.hand cycle

-- the same of a room's volatile state
abbrev pub Shows : VolatileState → Device → State → Type 0
Shows c device q = ShowsIn c.sessions c.cycle device q

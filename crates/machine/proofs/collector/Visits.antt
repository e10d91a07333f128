-- What a visit of the collector changes of a state: what takes a slot, its place, and whether the gaps are swept.
use Rattle.std.proofs.Common.{◌≡◌, Bool, cond, arith}
use Rattle.machine.specs.State.{State}
use Rattle.machine.specs.Collecting.{is_at_slot, slot_visited, sweep_ended, visited}

-- the other fields are the same
pub record LeavesAll (q q' : State) : Type 0 where
  pub layout : q'.layout ≡ q.layout
  pub ruling : q'.ruling ≡ q.ruling
  pub history : q'.history ≡ q.history
  pub drawn : q'.drawn ≡ q.drawn
  pub lost : q'.lost ≡ q.lost
  pub sessions : q'.sessions ≡ q.sessions
  pub next : q'.next ≡ q.next
  pub failed : q'.failed ≡ q.failed
  pub hand : q'.hand ≡ q.hand

either : (q : State) (b : Bool) → LeavesAll q (cond b (slot_visited q) (sweep_ended q))
either q a = grind (arith)

pub visit-changes : (q : State) → LeavesAll q (visited q)
visit-changes q = either q (is_at_slot q)

use Rattle.std.proofs.Common.{◌≡◌, ◌≤◌, List, length, take}
use Rattle.std.specs.Prelude.{fold}
use Rattle.std.specs.Vec.{vec_len, vec_capacity}
use Rattle.machine.specs.Machine.{State}
use Rattle.room.specs.Room.{Shows, RunsTo, covered_by, left_after}
use Rattle.room.proofs.room.Room.drive.Given as goal

abbrev pub invariant-loop-step : goal.invariant-loop-step
invariant-loop-step g l = record {
  runs : (q : State) → Shows g.D.Pmem.state l.initial.self q → (states : List State) × RunsTo g.D.Pmem.state l.initial.self l.self (take l.step-index l.steps) l.replies.items q states;
  waits : covered_by l.self ≡ fold left_after (covered_by l.initial.self) l.replies.items;
  replied : vec_len l.replies ≡ l.step-index;
  reserved : length l.steps ≤ vec_capacity l.replies;
}

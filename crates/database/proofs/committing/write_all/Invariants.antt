use Rattle.std.proofs.Common.{◌≡◌, take}
use Rattle.std.specs.Prelude.{Ok}
use Rattle.database.specs.Committing.{LeadsByWrites}
use Rattle.database.specs.Histories.{LogsOwn, write_steps}
use Rattle.database.proofs.committing.write_all.Given as goal

-- all writes so far were made
abbrev pub invariant-loop-one : goal.invariant-loop-one
invariant-loop-one g l = record {
  made : LeadsByWrites g.D.Pmem.state l.fn.room.room l.room.room l.session (take l.one-index l.writes) (Ok tt);
  ended : l.room.ended ≡ l.fn.room.ended;
  log : LogsOwn l.session (write_steps l.session (take l.one-index l.writes)) l.fn.room.log l.room.log;
}

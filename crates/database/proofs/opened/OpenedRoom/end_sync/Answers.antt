use Rattle.room.proofs.Runs.{taken-same}
use Rattle.database.specs.Ended.{EndedAlong}
use Rattle.database.proofs.Histories.{logged-as}
use Rattle.database.proofs.opened.OpenedRoom.end_sync.Goals as goal

pub invariant_of-self : goal.invariant_of-self
invariant_of-self g c = record {
  run = taken-same g.D.Pmem.state c.args.self.now.room c.end_sync.new.self (EndedAlong c.args.self.now.ended) c.end_sync.ensures.device c.end_sync.ensures.shows c.args.self.now.run;
  logged = logged-as g.D.Pmem.state g.J.Origin.opened c.args.self.now.room c.end_sync.new.self c.args.self.now.log c.end_sync.ensures.device c.end_sync.ensures.shows c.args.self.now.logged;
}

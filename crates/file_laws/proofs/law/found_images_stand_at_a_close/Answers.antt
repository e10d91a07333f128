use Rattle.file_laws.proofs.FoundRuns.{found-closing, found-closed}
use Rattle.file_laws.proofs.law.found_images_stand_at_a_close.Goals as goal

pub returns-clause-meanwhile : goal.returns-clause-meanwhile
returns-clause-meanwhile g c = λ since moment steps replies q states image runs leaves from to found.
    found-closing g.D.Pmem.state c.args.first.now c.args.last.now (g.D.Pmem.state c.args.device.now) since moment steps replies q states image runs.shows runs.comes runs.runs leaves from to found

pub returns-clause-after : goal.returns-clause-after
returns-clause-after g c = λ since steps replies q states image runs leaves stands found.
    found-closed g.D.Pmem.state c.args.first.now c.args.last.now (g.D.Pmem.state c.args.device.now) since steps replies q states image (g.met.D.Pmem.orderly c.args.device.now) runs.shows runs.comes runs.runs leaves stands found

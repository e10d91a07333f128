use Rattle.file_laws.proofs.FoundRuns.{found-now, found-within}
use Rattle.file_laws.proofs.law.found_images_stand.Goals as goal

pub returns-clause-now : goal.returns-clause-now
returns-clause-now g c = λ since steps replies q states image runs found.
    found-now g.D.Pmem.state c.args.first.now c.args.last.now since steps replies q states image (g.met.D.Pmem.orderly c.args.last.now.device) runs.shows runs.comes runs.runs found

pub returns-clause-within : goal.returns-clause-within
returns-clause-within g c = λ since moment steps replies step reply q q' states image runs one from to found.
    found-within g.D.Pmem.state c.args.first.now c.args.next.now c.args.last.now since moment steps replies step reply q states q' image runs.shows runs.comes runs.runs one from to found

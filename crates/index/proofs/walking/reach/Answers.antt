use Rattle.std.proofs.Common.{sym, rules}
use Rattle.pmem.specs.Words.{image_of}
use Rattle.index.proofs.Lookups.{seen-row, none-seen}
use Rattle.index.proofs.Ways.{over, nowhere, counted, seen-at}
use Rattle.index.proofs.walking.reach.Goals as goal

pub returns-in-Seen-clause-tables : goal.returns-in-Seen-clause-tables
returns-in-Seen-clause-tables g c = λ counts tables agree linked shows.
    let image = image_of (g.D.Pmem.state c.args.device.now) in
    let seen = counted c.args.snapshot.now image c.args.key counts c.args.geometry agree c.in-Some.slot c.look.new.held.version.row (c.in-Seen.ensures.within (search rules)) (c.in-Seen.ensures.looks agree.laid_out) in
    sym (seen-row counts c.args.snapshot.now c.args.geometry image tables agree shows c.in-Some.slot c.args.key c.look.new.held.version.row seen)

pub returns-in-Over-clause-none : goal.returns-in-Over-clause-none
returns-in-Over-clause-none g c = λ counts agree linked slot row seen.
    let image = image_of (g.D.Pmem.state c.args.device.now) in
    let at = seen-at c.args.snapshot.now image c.args.key counts c.args.geometry agree slot row seen in
    over c.args.snapshot.now image c.args.key c.loop-at.bound c.in-Some.slot c.loop-at.at c.look.new.held.version.row c.in-Some.is (c.in-Over.ensures.looks agree.laid_out) slot at (c.loop-at.invariant agree.laid_out slot at (linked slot at))

pub returns-in-Over-clause-tables : goal.returns-in-Over-clause-tables
returns-in-Over-clause-tables g c = λ counts tables agree linked shows.
    sym (none-seen counts c.args.snapshot.now c.args.geometry (image_of (g.D.Pmem.state c.args.device.now)) tables agree shows c.args.key (returns-in-Over-clause-none g c counts agree linked))

pub returns-clause-none : goal.returns-clause-none
returns-clause-none g c = λ counts agree linked slot row seen.
    let image = image_of (g.D.Pmem.state c.args.device.now) in
    let at = seen-at c.args.snapshot.now image c.args.key counts c.args.geometry agree slot row seen in
    nowhere c.args.snapshot.now image c.args.key c.loop-at.bound c.loop-at.at (search rules) slot (c.loop-at.invariant agree.laid_out slot at (linked slot at))

pub returns-clause-tables : goal.returns-clause-tables
returns-clause-tables g c = λ counts tables agree linked shows.
    sym (none-seen counts c.args.snapshot.now c.args.geometry (image_of (g.D.Pmem.state c.args.device.now)) tables agree shows c.args.key (returns-clause-none g c counts agree linked))

use Rattle.std.proofs.Common.{length, arith}
use Rattle.journal.specs.Kept.{HoldsOnly}
use Rattle.journal.proofs.Placings.{placed-all, placed-none}
use Rattle.journal.proofs.unplaced.put_unplaced.Goals as goal

pub returns-clause-kept : goal.returns-clause-kept
returns-clause-kept g c =
    let old = g.S.Storage.may_hold c.args.storage.now in
    let mid = g.S.Storage.may_hold c.write_unplaced.new.storage in
    let shown = g.S.Storage.shows c.write_unplaced.new.storage in
    let new = g.S.Storage.may_hold c.sync.new.self in
    let unplaced = c.args.unplaced.now in
    placed-all old mid shown new unplaced.lines.items unplaced.marks.items c.args.image.now.value.items c.requires.placed c.write_unplaced.ensures.found
    (rw c.as_slice.ensures.value at c.in_ok-write_unplaced.ensures.written) c.sync.ensures.found c.in_ok-sync.ensures.synced

pub returns-clause-placed : goal.returns-clause-placed
returns-clause-placed g c =
    let old = g.S.Storage.may_hold c.args.storage.now in
    let mid = g.S.Storage.may_hold c.write_unplaced.new.storage in
    let shown = g.S.Storage.shows c.write_unplaced.new.storage in
    let new = g.S.Storage.may_hold c.sync.new.self in
    let unplaced = c.args.unplaced.now in
    let image = c.args.image.now.value.items in
    let kept : HoldsOnly new (length image) image =
    placed-all old mid shown new unplaced.lines.items unplaced.marks.items image c.requires.placed c.write_unplaced.ensures.found
    (rw c.as_slice.ensures.value at c.in_ok-write_unplaced.ensures.written) c.sync.ensures.found c.in_ok-sync.ensures.synced in
    let marks = c.write_unplaced.new.marks.items in
    placed-none new c.clear.new.self.items marks image c.clear.ensures.items (omega (arith, c.write_unplaced.ensures.size, c.requires.placed.size)) c.in_ok-write_unplaced.ensures.marks kept

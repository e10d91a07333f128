use Rattle.journal.proofs.Placings.{any_ok, placed-still}
use Rattle.journal.proofs.rewriting.begin_pass.Goals as goal

pub returns-clause-placed : goal.returns-clause-placed
returns-clause-placed g c =
    let image = c.args.image.now.value.items in
    let mid = g.S.Storage.may_hold c.fill.new.storage in
    let new = g.S.Storage.may_hold c.turn.new.storage in
    any_ok c.turn.result (placed-still mid new _ _ image c.turn.ensures.place c.in_ok-fill.ensures.placed)

use Rattle.std.proofs.Common.{rules, ◌≡◌, ◌≤◌, Some, slice_get, false}
use Rattle.base.specs.declared.key.Key.{Key}
use Rattle.base.specs.Keys.{lookup_key}
use Rattle.board.specs.Cells.{is_written}
use Rattle.board.proofs.Settling.{stands_alike}
use Rattle.board.proofs.Indexing.{indexed_removed}
use Rattle.board.proofs.rows.settle_one.Goals as goal

pub returns-in_err-lay-clause-rows : goal.returns-in_err-lay-clause-rows
returns-in_err-lay-clause-rows c list h =
    let batch = c.in-Some.batch.now in
    let at : slice_get c.args.batches.now.items 0 ≡ Some batch = search rules in
    let low : batch.stamp ≤ c.args.floor = search rules in
    let same : (k : Key) → is_written k batch.commits ≡ false → lookup_key c.lay.new.rows.entries k ≡ lookup_key c.args.rows.now.entries k = rw (← c.commits.ensures) c.lay.ensures.others in
    stands_alike c.args.last.now c.args.floor _ _ c.args.batches.now.items batch list at low same h

pub returns-clause-versions : goal.returns-clause-versions
returns-clause-versions c h =
    let at : slice_get c.args.batches.now.items 0 ≡ Some c.in-Some.batch.now = search rules in
    rw (c.after.ensures, c.remove-batch.ensures.items)
    (indexed_removed c.args.last.now.stamp _ c.forget.new.versions.entries c.remove-batch.result c.args.batches.now.items _ at c.remove-batch.ensures.value h (rw (← c.commits-2.ensures, ← c.stamp-2.ensures) c.forget.ensures))

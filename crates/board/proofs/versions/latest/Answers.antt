use Rattle.std.proofs.Common.{ℕ, List, Option}
use Rattle.board.specs.declared.versions.Place.{Place}
use Rattle.board.proofs.Places.{latest_none, latest_some}
use Rattle.board.proofs.versions.latest.Goals as goal

pub returns-in_err-row : goal.returns-in_err-row
returns-in_err-row c =
    let part = rw (c.new.ensures.start, c.new.ensures.end) at (c.range.ensures.in_range c.new.ensures.exhausted) in
    rw c.from_residual.ensures (latest_none c.args.versions.now c.args.key.now c.args.stamp (part.5 c.in_err-row.ensures.steps.0))

pub returns : goal.returns
returns c =
    let part = rw (c.new.ensures.start, c.new.ensures.end) at (c.range.ensures.in_range c.new.ensures.exhausted) in
    let e : Place × Option (List ℕ) = (c.in_ok-row.field-0-0.now, c.in_ok-row.row.now) in
    latest_some c.args.versions.now c.args.key.now c.args.stamp e (part.3 e _ c.in_ok-row.ensures.steps) (part.4 e _ c.in_ok-row.ensures.steps)

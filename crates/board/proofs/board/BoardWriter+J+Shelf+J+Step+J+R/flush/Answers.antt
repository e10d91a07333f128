use Rattle.std.proofs.Common.{◌∙◌, ap, sym}
use Rattle.left_right.specs.Handles.{pending}
use Rattle.board.specs.Shown.{shown}
use Rattle.board.proofs.Growing.{done, flushed_front, flushed_view}
use Rattle.board.proofs.board.BoardWriter+J+Shelf+J+Step+J+R.flush.Goals as goal

pub invariant_of-self-2 : goal.invariant_of-self-2
invariant_of-self-2 g c =
    let inv = c.self.invariant in
    let empty = sym c.is_some.ensures ∙ c.if-is_some.false in
    let values = done _ c.publish.result (sym c.is_err.ensures.value ∙ c.if-is_err.false) c.publish.ensures.values in
    let front = flushed_front (λ step. step.change) _ _ c.self.inside.front _ _ c.self.inside.kept inv.0 empty inv.1 values.0 values.1 in
    (front.0, front.1, inv.2)

pub returns : goal.returns
returns g c =
    let inv = c.self.invariant in
    let empty = sym c.is_some.ensures ∙ c.if-is_some.false in
    let values = done _ c.publish.result (sym c.is_err.ensures.value ∙ c.if-is_err.false) c.publish.ensures.values in
    let ops = pending c.self.inside.handle in
    flushed_view (λ step. step.change) _ _ ops _ c.self.inside.kept inv.0 empty values.0 values.1 ∙ ap shown (c.self.view_is ∙ c.hand_over.ensures)

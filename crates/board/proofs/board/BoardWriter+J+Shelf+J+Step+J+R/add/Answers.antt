use Rattle.std.proofs.Common.{◌∙◌}
use Rattle.board.proofs.Growing.{may_follow}
use Rattle.board.proofs.board.BoardWriter+J+Shelf+J+Step+J+R.add.Goals as goal

pub then-requires : goal.then-requires
then-requires g c =
    let inv = c.self.invariant in
    record { legal = may_follow _ _ c.self.inside.front c.args.self.now c.args.change inv.0 inv.1 (c.self.view_is ∙ c.hand_over.ensures) c.is_published.ensures.0 c.is_published.ensures.1 c.requires }

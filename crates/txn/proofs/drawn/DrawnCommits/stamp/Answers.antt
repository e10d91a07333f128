use Rattle.std.proofs.Common.{◌≡◌, true, List, map, subst, sym, ◌∙◌, ap, rules}
use Rattle.std.proofs.lemmas.List.{with_items_is}
use Rattle.txn.specs.declared.drawn.DrawnCommit.{DrawnCommit}
use Rattle.txn.specs.DrawnCommits.{with_stamp, are_in_order, are_numbered}
use Rattle.txn.proofs.InOrder.{order-stamped}
use Rattle.txn.proofs.Numbered.{numbered-stamped}
use Rattle.txn.proofs.drawn.DrawnCommits.stamp.Goals as goal

pub invariant_of-self : goal.invariant_of-self
invariant_of-self c =
    let same : c.stamp_in.new.commits ≡ map (with_stamp c.args.timestamp) c.self.inside.commits.items = c.stamp_in.ensures ∙ ap (map (with_stamp c.args.timestamp)) c.as_mut_slice.ensures.value in
    let is = with_items_is c.self.inside.commits c.stamp_in.new.commits (search rules) ∙ same in
    (subst (λ (ds : List DrawnCommit). are_numbered ds ≡ true) (sym is) (numbered-stamped c.args.timestamp c.self.inside.commits.items c.self.invariant.0), subst (λ (ds : List DrawnCommit). are_in_order ds ≡ true) (sym is) (order-stamped c.args.timestamp c.self.inside.commits.items c.self.invariant.1))

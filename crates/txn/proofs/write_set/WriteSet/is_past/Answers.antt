use Rattle.std.proofs.Common.{◌≡◌, ◌∙◌, ◌-◌, List, Some, length, sym, subst, arith}
use Rattle.std.specs.Prelude.{slice_get}
use Rattle.std.proofs.lemmas.Option.{slice_get_within}
use Rattle.txn.specs.declared.write.Write.{Write}
use Rattle.txn.proofs.Rising.{past-last}
use Rattle.txn.proofs.write_set.WriteSet.is_past.Goals as goal

pub returns-in-Some : goal.returns-in-Some
returns-in-Some c below =
    let writes = c.args.self.now in
    let at : slice_get writes (length writes - 1) ≡ Some c.in-Some.last.now = subst (λ (ws : List Write). slice_get ws (length ws - 1) ≡ Some c.in-Some.last.now) c.as_slice.ensures.slice (sym c.in-Some.ensures.value) in
    let within = slice_get_within writes (length writes - 1) c.in-Some.last.now at in
    past-last c.args.key writes (length writes - 1) c.in-Some.last.now c.as_slice.ensures.rising (omega (arith, within)) at (sym c.is_below.ensures ∙ below)

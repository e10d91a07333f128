use Rattle.std.proofs.Common.{◌<◌, List, ◌&&◌, not, length, sym, ◌∙◌, ap, subst}
use Rattle.dirty_table.specs.declared.sessions.SessionSet.{SessionSet}
use Rattle.dirty_table.specs.Touches.{has}
use Rattle.dirty_table.proofs.Tables.{read-at, noted-still}
use Rattle.dirty_table.proofs.table.DirtyTable.forget_line.Goals as goal

pub invariant_of-self-else-is_empty : goal.invariant_of-self-else-is_empty
invariant_of-self-else-is_empty c =
    let inside : c.args.line < length c.self.inside.sessions.items = subst (λ (table : List SessionSet). c.args.line < length table) (sym c.self.view_is) c.requires in
    noted-still c.self.inside.sessions.items c.args.line c.args.sessions.now c.remove_all.new.self inside
    (λ n. c.remove_all.ensures n ∙ ap (λ (s : SessionSet). has s n && not (has c.args.sessions.now n)) (read-at c.self.inside.sessions.items c.args.line c.index_mut.result.now inside c.index_mut.ensures.value))
    c.self.inside.touched c.self.invariant

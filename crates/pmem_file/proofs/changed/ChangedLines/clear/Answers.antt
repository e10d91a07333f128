use Rattle.std.proofs.Common.{rules, List, ℕ, sym, subst}
use Rattle.std.proofs.lemmas.List.{with_items_is}
use Rattle.pmem_file.specs.Changed.{AreMarked, Unmarks}
use Rattle.pmem_file.specs.declared.changed.Mark.{Mark}
use Rattle.pmem_file.proofs.Marks.{none-left}
use Rattle.pmem_file.proofs.changed.ChangedLines.clear.Goals as goal

pub invariant_of-self : goal.invariant_of-self
invariant_of-self c =
    let gone = subst (λ (lines : List ℕ). Unmarks lines c.self.inside.marks.items c.unmark.new.marks) c.as_slice.ensures.value
    (subst (λ (marks : List Mark). Unmarks c.as_slice.result.now marks c.unmark.new.marks) c.as_mut_slice.ensures.value c.unmark.ensures.unmarks) in
    subst (λ (marks : List Mark). AreMarked c.self.inside.places c.clear.new.self.items marks) (sym (with_items_is c.self.inside.marks c.unmark.new.marks (search rules)))
    (subst (λ (lines : List ℕ). AreMarked c.self.inside.places lines c.unmark.new.marks) (sym c.clear.ensures.items)
    (none-left c.self.inside.places c.self.inside.lines.items c.self.inside.marks.items c.unmark.new.marks c.self.invariant gone))

use Rattle.std.proofs.Common.{◌≡◌, ◌<◌, true, List, ℕ, set, sym, subst}
use Rattle.journal.specs.Changes.{is_listed}
use Rattle.pmem_file.specs.Changed.{AreMarked, Changes, mark_of}
use Rattle.pmem_file.specs.declared.changed.Mark.{Mark}
use Rattle.pmem_file.proofs.Marks.{listed-last, listed-before, marked-more}
use Rattle.pmem_file.proofs.changed.ChangedLines.add.Goals as goal

pub invariant_of-self-in-Unchanged : goal.invariant_of-self-in-Unchanged
invariant_of-self-in-Unchanged c =
    let marks = c.self.inside.marks.items in
    let places = c.self.inside.places in
    subst (λ (mark : Mark). AreMarked places c.push.new.self.items (set marks c.args.line mark)) (sym c.mark_of.ensures)
    (subst (λ (l : List ℕ). AreMarked places l (set marks c.args.line (mark_of places c.args.line))) (sym c.in_ok-push-in-Unchanged.ensures.items)
    (marked-more places c.self.inside.lines.items marks c.args.line (subst (λ (v : Changes). c.args.line < v.count) (sym c.self.view_is) c.requires) c.self.invariant))

pub returns-in_ok-push-in-Unchanged-clause-has : goal.returns-in_ok-push-in-Unchanged-clause-has
returns-in_ok-push-in-Unchanged-clause-has c = subst (λ (l : List ℕ). is_listed l c.args.line ≡ true) (sym c.in_ok-push-in-Unchanged.ensures.items) (listed-last c.self.inside.lines.items c.args.line)

pub returns-in_ok-push-in-Unchanged-clause-others : goal.returns-in_ok-push-in-Unchanged-clause-others
returns-in_ok-push-in-Unchanged-clause-others c other is =
    subst (λ (l : List ℕ). is_listed l other ≡ true) (sym c.in_ok-push-in-Unchanged.ensures.items)
    (listed-before c.self.inside.lines.items c.args.line other (subst (λ (v : Changes). is_listed v.lines other ≡ true) (sym c.self.view_is) is))

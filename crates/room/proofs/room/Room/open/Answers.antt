use Rattle.std.proofs.Common.{◌+◌, ◌*◌, ◌≤◌, refl, sym, subst}
use Rattle.base.specs.Layout.{Layout}
use Rattle.room.proofs.openings.Shown.{no-failure, begun-shows-some, opened-shows}
use Rattle.room.proofs.room.Room.open.Goals as goal

pub invariant_of-result : goal.invariant_of-result
invariant_of-result g c = record { shown = begun-shows-some (g.D.Pmem.state c.args.device) (g.D.Pmem.state c.begin.new.device) c.in-Ok.volatile c.in-Ok.ensures.ok }

pub returns-in-Ok-clause-ok : goal.returns-in-Ok-clause-ok
returns-in-Ok-clause-ok g c = λ history drawn next lost stands. opened-shows g.D.Pmem.state (g.D.Pmem.state c.args.device) _ c.in-Ok.ensures.ok refl history drawn next lost stands

pub returns-in-Ok-clause-no_failure : goal.returns-in-Ok-clause-no_failure
returns-in-Ok-clause-no_failure g c =
    let begun = c.in-Ok.ensures.ok in no-failure (g.D.Pmem.state c.args.device) (g.D.Pmem.state c.begin.new.device) begun.layout begun.ruling begun.next begun.free begun.live begun.opened

pub returns-in-Ok-clause-slots : goal.returns-in-Ok-clause-slots
returns-in-Ok-clause-slots g c = λ word past within.
    let begun = c.in-Ok.ensures.ok in begun.opened.slots word (subst (λ (a : Layout). 8 + 32 * a.places ≤ word) (sym begun.opened.layout_is) past) within

pub returns-in-Ok-clause-waits : goal.returns-in-Ok-clause-waits
returns-in-Ok-clause-waits g c = c.in-Ok.ensures.ok.waits

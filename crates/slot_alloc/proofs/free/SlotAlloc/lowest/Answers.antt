use Rattle.std.proofs.Common.{sym, ◌∙◌, ap}
use Rattle.slot_alloc.specs.Free.{lowest_free}
use Rattle.slot_alloc.proofs.Lowest.{lowest-at, lowest-nowhere}
use Rattle.slot_alloc.proofs.free.SlotAlloc.lowest.Goals as goal

pub returns-in-Some : goal.returns-in-Some
returns-in-Some c = sym (ap lowest_free (sym c.self.view_is) ∙ lowest-at c.self.inside.free c.in-Some.slot c.in-Some.ensures.some)

pub returns-in-None : goal.returns-in-None
returns-in-None c = sym (ap lowest_free (sym c.self.view_is) ∙ lowest-nowhere c.self.inside.free c.in-None.ensures.none)

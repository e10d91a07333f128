use Rattle.std.proofs.Common.{sym, ◌∙◌}
use Rattle.pmem_model.specs.Past.{history_of}
use Rattle.pmem_model.proofs.Awaited.{fenced_listed}
use Rattle.pmem_model.proofs.pending.Pending.persist.Goals as goal

pub returns-else-is_full-clause-history : goal.returns-else-is_full-clause-history
returns-else-is_full-clause-history c =
    let p = c.args.self.now in
    fenced_listed (history_of c.args.histories.now.past) (history_of c.persist_listed.new.histories.past) p.room p.counts p.listed.items c.args.actor.number c.args.histories.now.clock c.args.actor.in_range c.requires.tracked
    (sym c.is_full.ensures ∙ c.if-is_full.false) c.persist_listed.ensures.history

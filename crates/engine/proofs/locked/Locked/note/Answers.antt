use Rattle.std.proofs.Common.{◌∙◌, sym}
use Rattle.roles.specs.Dues.{enough_for}
use Rattle.engine.proofs.Noting.{match-some, record-due}
use Rattle.engine.proofs.locked.Locked.note.Goals as goal

pub returns-then-makes_record_due-clause-due : goal.returns-then-makes_record_due-clause-due
returns-then-makes_record_due-clause-due g c =
    match-some _ _ c.args.self.now.audited c.in-Some.audited c.in-Some.is (λ q shows.
    let layout = c.geometry-geometry.ensures q shows in
    let w = c.want_tick.ensures in
    record-due c.args.self.now.workers.due c.note.new.due c.want_tick.new.self c.args.reply.now (enough_for q.layout.slots) c.enough_for_round-enough.result c.status.result q c.window.result (c.status.ensures q shows)
    (cc (c.window.ensures.value, layout)) (cc (c.enough_for_round-enough.ensures, c.slots.ensures.value, layout)) (sym c.makes_record_due-makes_record_due.ensures ∙ c.if-makes_record_due.true) c.note.ensures
    w.tick w.committer w.others w.visit w.counts)

use Rattle.std.proofs.Common.{◌∙◌, sym, ap}
use Rattle.std.specs.Prelude.{Some}
use Rattle.session_steps.specs.Collecting.{is_covered_in}
use Rattle.session_steps.proofs.collector.Readers.{one-uncovers, covers-past}
use Rattle.session_steps.proofs.collect.SnapshotsInUse.each_covers.Goals as goal

pub returns-then-not-covers : goal.returns-then-not-covers
returns-then-not-covers c =
    sym (one-uncovers c.args.self.now.transactions.now c.args.ts c.in-Some.number c.in-Some-Active.ensures.within.0 c.in-Some-Active.ensures.within.1
    (sym (ap (is_covered_in c.args.ts) c.in-Some-Active.ensures.transaction) ∙ ap (λ x. is_covered_in c.args.ts (Some x)) c.in-Some-Active.field-0-is ∙ sym c.covers.ensures.covers ∙ c.if-not-covers.true))

pub returns : goal.returns
returns c = sym (covers-past c.args.self.now.transactions.now c.args.ts c.loop-number.from c.loop-number.invariant.1 c.in_default.ensures.none)

use Rattle.std.proofs.Common.{◌≡◌, ℕ, ◌<◌, List, length, get_or, sym, ◌∙◌, ap, subst, arith}
use Rattle.std.specs.Prelude.{Some, slice_get}
use Rattle.std.proofs.lemmas.List.{take_all}
use Rattle.std.proofs.lemmas.Option.{slice_get-get_or}
use Rattle.base.specs.Commits.{overlaid}
use Rattle.txn.specs.declared.write.Write.{Write}
use Rattle.txn.specs.WriteSets.{plain_writes}
use Rattle.index.specs.Reading.{HasRows, ranged}
use Rattle.session_steps.proofs.reads.Scans.{one-over}
use Rattle.session_steps.proofs.scan.lay_over.Goals as goal

at-index : (items writes : List Write) (i : ℕ) (item : Write) → items ≡ writes → i < length items → item ≡ get_or items i item → slice_get writes i ≡ Some item
at-index items writes i item same within is = subst (λ (l : List Write). slice_get l i ≡ Some item) same (slice_get-get_or items i item within ∙ ap Some (sym is))

pub loop-write-preserved : goal.loop-write-preserved
loop-write-preserved c =
    let items = c.as_slice-write-items in
    let i = c.loop-write.write-index in
    let write = c.write-item.result in
    record {
      rows = λ tables has.
          one-over c.args.range c.loop-write.rows c.lay_within.new.rows c.args.writes.now i write tables items.ensures.rising
          (at-index items.result.now c.args.writes.now i write items.ensures.slice c.loop-write-test.true c.write-item.is) c.in-Ok.ensures.inside c.in-Ok.ensures.outside (c.loop-write.invariant.rows tables has);
      count = omega (arith, c.loop-write.invariant.count, c.in-Ok.ensures.count);
      bound = omega (arith, c.loop-write-test.true, ap (length {A = Write}) items.ensures.slice);
    }

pub returns-clause-rows : goal.returns-clause-rows
returns-clause-rows c = λ tables has.
    let writes = c.args.writes.now in
    let all = take_all c.loop-write.write-index writes (omega (arith, c.loop-write-test.false, ap (length {A = Write}) c.as_slice-write-items.ensures.slice)) in
    subst (λ (l : List Write). HasRows c.loop-write.rows (ranged c.args.range (overlaid (plain_writes l) tables))) all (c.loop-write.invariant.rows tables has)

pub returns-clause-count : goal.returns-clause-count
returns-clause-count c = omega (arith, c.loop-write.invariant.count, c.loop-write.invariant.bound)

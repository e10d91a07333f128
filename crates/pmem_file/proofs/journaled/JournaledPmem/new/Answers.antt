use Rattle.std.proofs.Common.{rules, sym, subst}
use Rattle.pmem_file.specs.declared.trace.Trace.{Trace}
use Rattle.pmem_file.specs.Journaled.{IsSince}
use Rattle.pmem_file.specs.Shown.{IsShown}
use Rattle.pmem_file.specs.Traces.{device_of}
use Rattle.pmem_file.proofs.Since.{since-kept}
use Rattle.pmem_file.proofs.journaled.JournaledPmem.new.Goals as goal

pub invariant_of-result-clause-since : goal.invariant_of-result-clause-since
invariant_of-result-clause-since g c =
    let shown : IsShown (device_of c.begun-trace.result) c.args.words.items = search rules in
    subst (λ (t : Trace). IsSince (device_of c.begun-trace.result) (device_of t).clock (g.I.Images.may_hold c.args.images)) (sym c.of-kept.ensures)
    (since-kept (device_of c.begun-trace.result) c.args.words.items (g.I.Images.may_hold c.args.images) shown c.requires.holds)

pub invariant_of-result-clause-since_written : goal.invariant_of-result-clause-since_written
invariant_of-result-clause-since_written g c none =
    let shown : IsShown (device_of c.begun-trace.result) c.args.words.items = search rules in
    subst (λ (t : Trace). IsSince (device_of c.begun-trace.result) (device_of t).clock (g.I.Images.shows c.args.images)) (sym c.of-written.ensures)
    (since-kept (device_of c.begun-trace.result) c.args.words.items (g.I.Images.shows c.args.images) shown (λ image shows. c.requires.holds image (g.met.I.Images.shown_is_found c.args.images image shows)))

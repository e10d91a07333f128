use Rattle.std.proofs.Common.{sym, ◌∙◌, ap}
use Rattle.std.proofs.lemmas.Bool.{iff_false}
use Rattle.base.proofs.Results.{on_err}
use Rattle.base.specs.Layout.{total_words}
use Rattle.pmem.proofs.Traces.{words-run}
use Rattle.log_area.specs.Writings.{Progress}
use Rattle.log_area.proofs.Whole.{written-more, written-stops, written-whole}
use Rattle.log_area.proofs.write.write_record.Goals as goal

pub tick-requires-clause-size : goal.tick-requires-clause-size
tick-requires-clause-size g c = words-run c.loop-writing.invariant.run ∙ c.requires ∙ ap (λ (p : Progress). total_words p.layout) (sym c.loop-writing.invariant.same)

pub loop-writing-preserved : goal.loop-writing-preserved
loop-writing-preserved g c =
    written-more c.args.geometry c.args.target c.loop-writing.writing c.tick.new.self c.loop-writing.invariant c.is_done.ensures.staged (iff_false c.is_done.ensures.done c.loop-writing-test.true) (g.met.D.Pmem.orderly c.tick.new.device) c.in_ok-tick.ensures.operation
    c.in_ok-tick.ensures.ok

pub returns-in_err-tick-clause-stopped : goal.returns-in_err-tick-clause-stopped
returns-in_err-tick-clause-stopped g c =
    on_err c.from_residual.result (written-stops c.args.geometry c.args.target c.loop-writing.writing c.loop-writing.invariant c.is_done.ensures.staged (iff_false c.is_done.ensures.done c.loop-writing-test.true) (g.met.D.Pmem.orderly c.tick.new.device)
    c.in_err-tick.ensures.failure)

pub returns-clause-run : goal.returns-clause-run
returns-clause-run g c = written-whole c.args.geometry c.args.target c.loop-writing.writing c.loop-writing.invariant (c.is_done.ensures.done.0 c.loop-writing-test.false)

use Rattle.console.proofs.BadLine.{told-so}
use Rattle.console.proofs.Refusals.{refused-so}
use Rattle.console.proofs.execute.execute.Goals as goal

pub returns-in-Err-clause-bad_line : goal.returns-in-Err-clause-bad_line
returns-in-Err-clause-bad_line g c =
    told-so c.args.order.now c.in-Err.stop c.args.file.now (g.R.Read.remaining c.args.input.now) (g.W.Write.contents c.args.output.now) (g.W.Write.contents c.obey.new.output) (g.W.Write.contents c.report_stop.new.output)
    c.report_stop.result.stopped c.in-Err.ensures.bad_line c.report_stop.ensures.bad_line

pub returns-in-Err-clause-refused : goal.returns-in-Err-clause-refused
returns-in-Err-clause-refused g c =
    refused-so c.args.order.now c.in-Err.stop c.args.file.now (g.R.Read.remaining c.args.input.now) (g.W.Write.contents c.args.output.now) (g.W.Write.contents c.obey.new.output) (g.W.Write.contents c.report_stop.new.output)
    c.report_stop.result.stopped c.in-Err.ensures.refused c.report_stop.ensures.refused

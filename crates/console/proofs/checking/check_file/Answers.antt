use Rattle.std.proofs.Common.{arith}
use Rattle.console.proofs.Rows.{prints-so}
use Rattle.recovery.specs.Read.{IsReadRefusal}
use Rattle.console.proofs.Refusals.{damage-of-file, fault-on}
use Rattle.console.proofs.checking.check_file.Goals as goal

pub returns-clause-checked : goal.returns-clause-checked
returns-clause-checked g c =
    let r = c.in_ok-report.report in
    prints-so c.args.file.now c.in_ok-words.words.items (g.W.Write.contents c.args.output.now) (g.W.Write.contents c.print.new.out) (g.W.Write.contents c.show_rows.new.output) (g.W.Write.contents c.print-2.new.out)
    r.gate r.persisted r.dirty r.gaps c.as_slice-2.result.now r.longs c.as_slice-3.result.now r.rows.items c.as_slice-4.result.now c.len-rows.result
    c.as_slice.result.now c.as_slice.ensures.value c.in_ok-report.ensures.ok c.in_ok-words.ensures.length c.in_ok-words.ensures.ok
    c.as_slice-2.ensures.slice c.as_slice-3.ensures.slice c.as_slice-4.ensures.value (omega (arith, c.len-rows.ensures)) c.in_ok-print.ensures c.in_ok-show_rows.ensures c.in_ok-print-2.ensures

pub returns-in_err-report-clause-refused : goal.returns-in_err-report-clause-refused
returns-in_err-report-clause-refused g c =
    fault-on c.from_residual-in_err-report.result _ (λ fault. IsReadRefusal c.as_slice.result.now fault) _ c.from_residual-in_err-report.ensures.1
    (λ fault is. damage-of-file c.args.file.now c.in_ok-words.words.items c.as_slice.result.now (g.W.Write.contents c.args.output.now) fault
    c.in_ok-words.ensures.length c.in_ok-words.ensures.ok c.as_slice.ensures.value is)
    c.in_err-report.ensures.fault

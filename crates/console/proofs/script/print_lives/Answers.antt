use Rattle.std.proofs.Common.{◌+◌, ◌++◌}
use Rattle.console.specs.Scripts.{life_text, lives_text}
use Rattle.console.proofs.Obeyed.{appends-more}
use Rattle.console.proofs.Scripts.{lives-go-on}
use Rattle.console.proofs.script.print_lives.Goals as goal

pub loop-index-preserved : goal.loop-index-preserved
loop-index-preserved g c =
    let before = c.loop-index.invariant in
    let i = c.loop-index.index in
    let report = c.index-reports-index.result in (
      before.0 ++ life_text (i + 1) report,
      appends-more (g.W.Write.contents c.args.output.now) (g.W.Write.contents c.loop-index.output) (g.W.Write.contents c.print_life.new.output) before.0 (life_text (i + 1) report) before.1 c.in_ok-print_life.ensures,
      lives-go-on before.0 i (i + 1) c.args.reports.now report (lives_text 1 c.args.reports.now) c.loop-index-test.true c.index-reports-index.is before.2,
    )

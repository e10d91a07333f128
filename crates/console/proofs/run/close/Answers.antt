use Rattle.std.proofs.Common.{◌∷◌, ◌++◌, [], rules}
use Rattle.pmem_model.specs.Sim.{device_of}
use Rattle.command_line.specs.Texts.{closed_line}
use Rattle.console.proofs.KeptHistory.{file-restarted}
use Rattle.console.proofs.Lives.{ends-closed}
use Rattle.console.proofs.Refusals.{unprinted}
use Rattle.console.proofs.run.close.Goals as goal

pub returns-clause-ends : goal.returns-clause-ends
returns-clause-ends g c =
    let left = c.in_ok-device.ensures.possible in
    let next = c.status-next.result.next in (
      closed_line c.closing_gate-gate.result c.saturating_sub.result next ++ 10 ∷ [],
      c.in_ok-print.ensures,
      λ q shows. ends-closed device_of c.args.room (device_of c.in-Ok.closed) left.0 c.in_ok-file.file.items q c.closing_gate-gate.result c.saturating_sub.result next
          (c.closing_gate-gate.ensures q shows) (search rules) (c.status-next.ensures q shows).next
          c.in-Ok.ensures.closed left.1
          (file-restarted (device_of c.in_ok-device.device) left.0 c.in_ok-file.file.items left.2 c.in_ok-file.ensures.file) shows,
    )

pub returns-in-Err-clause-refused : goal.returns-in-Err-clause-refused
returns-in-Err-clause-refused g c = unprinted (g.W.Write.contents c.args.output.now) c.in-Err.ensures.fault

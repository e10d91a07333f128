use Rattle.std.proofs.Common.{◌∷◌, ◌++◌, []}
use Rattle.std.specs.Prelude.{codes}
use Rattle.pmem.specs.Words.{image_of}
use Rattle.pmem_model.specs.Sim.{device_of}
use Rattle.command_line.specs.Texts.{survivor_text}
use Rattle.console.proofs.Lives.{ends-stopped}
use Rattle.console.proofs.run.stop.Goals as goal

pub returns-clause-ends : goal.returns-clause-ends
returns-clause-ends g c = (
  (codes "stopped " ++ survivor_text c.args.keeps) ++ 10 ∷ [],
  c.in_ok-print.ensures,
  λ q shows. ends-stopped device_of c.args.room (device_of c.into_device-device.result) (image_of (device_of c.in_ok-left.left)) c.in_ok-file.file.items c.args.keeps q c.into_device-device.ensures
      c.in_ok-left.ensures.possible c.in_ok-file.ensures.file shows,
)

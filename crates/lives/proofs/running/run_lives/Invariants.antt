use Rattle.std.proofs.Common.{take}
use Rattle.pmem.specs.Words.{image_of}
use Rattle.pmem_model.specs.Sim.{device_of}
use Rattle.machine.specs.Lives.{IsWorld}
use Rattle.lives.specs.Chains.{fresh_world}
use Rattle.lives.specs.Stops.{IsRestarted}
use Rattle.lives.proofs.Chains.{Chain}
use Rattle.lives.proofs.running.run_lives.Given as goal

abbrev pub invariant-loop-life : goal.invariant-loop-life
invariant-loop-life g l = Chain l.fn.geometry (take l.life-index l.lives) l.reports.items (image_of (device_of l.device)) × IsRestarted (device_of l.device)
    × IsWorld (fresh_world l.fn.geometry)

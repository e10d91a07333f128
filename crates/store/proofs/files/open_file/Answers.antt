use Rattle.std.proofs.Common.{inl, inr}
use Rattle.pmem_file.specs.Devices.{state_of}
use Rattle.store.proofs.files.open_file.Goals as goal

pub returns-in-Err-clause-other : goal.returns-in-Err-clause-other
returns-in-Err-clause-other g c = c.in-Err.ensures.err c.args.geometry

pub returns-in-Err-read_geometry-clause-fault : goal.returns-in-Err-read_geometry-clause-fault
returns-in-Err-read_geometry-clause-fault g c = c.refusal_of.ensures.why c.args.geometry (inr (inl (state_of c.in-Ok.device, c.in-Ok.ensures.ok, c.in-Err-read_geometry.ensures.fault)))

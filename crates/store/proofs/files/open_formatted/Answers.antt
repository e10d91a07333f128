use Rattle.std.proofs.Common.{inl, ap}
use Rattle.pmem.specs.Device.{Device}
use Rattle.file_laws.proofs.Finding.{first-made, orderly}
use Rattle.pmem_file.specs.Devices.{state_of}
use Rattle.store.proofs.files.open_formatted.Goals as goal

pub returns-in-Err-format_new-clause-fault : goal.returns-in-Err-format_new-clause-fault
returns-in-Err-format_new-clause-fault g c =
    c.refusal_of.ensures.why c.args.geometry (inl (state_of c.in-Ok.device, state_of c.format_new.new.device, c.in-Ok.ensures.rest, c.in-Err-format_new.ensures.refusal))

pub returns-in-Ok-format_new-clause-first : goal.returns-in-Ok-format_new-clause-first
returns-in-Ok-format_new-clause-first g c =
    first-made (state_of c.in-Ok.device) (state_of c.format_new.new.device) c.args.geometry c.in-Ok-format_new.field-0 (orderly c.in-Ok.device)
    (ap (λ (d : Device). d.clock) c.in-Ok.ensures.device) c.in-Ok.ensures.rest c.in-Ok-format_new.ensures.made c.in-Ok-format_new.ensures.images

use Rattle.pmem_file.specs.Devices.{state_of}
use Rattle.std.proofs.Common.{refl}
use Rattle.base.specs.Layout.{Layout}
use Rattle.log_area.specs.Rulings.{IsLaidOut}
use Rattle.pmem.specs.Device.{Device}
use Rattle.pmem.specs.Words.{IsAtRest, image_of}
use Rattle.store.specs.Files.{IsFoundWith}
use Rattle.store.proofs.file.StoreFile.open.Goals as goal

-- the device of a file that was found has the layout that was found
found_with : (layout : Layout) (device : Device) → IsAtRest device → IsLaidOut layout (image_of device) → IsFoundWith layout device
found_with layout device rest laid_out = record { at_rest = rest; found = layout; laid_out = laid_out; is_asked_for = refl }

pub returns-in-Ok-clause-ok : goal.returns-in-Ok-clause-ok
returns-in-Ok-clause-ok g c = (c.args.self.layout, (state_of c.args.self.device, (found_with c.args.self.layout (state_of c.args.self.device) c.args.self.rest c.args.self.laid_out), c.in-Ok.ensures.ok))

pub returns-in-Err-clause-err : goal.returns-in-Err-clause-err
returns-in-Err-clause-err g c = c.not_opened.ensures.finding (c.in-Err.ensures.found c.args.self.layout (found_with c.args.self.layout (state_of c.args.self.device) c.args.self.rest c.args.self.laid_out))

pub not_opened-requires-clause-layout : goal.not_opened-requires-clause-layout
not_opened-requires-clause-layout g c = c.in-Err.ensures.err c.args.self.layout

pub not_opened-requires-clause-fault : goal.not_opened-requires-clause-fault
not_opened-requires-clause-fault g c = c.in-Err.ensures.fault c.args.self.layout (found_with c.args.self.layout (state_of c.args.self.device) c.args.self.rest c.args.self.laid_out)

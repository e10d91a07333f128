use Rattle.pmem.specs.Words.{image_of}
use Rattle.pmem_file.specs.Devices.{places_of, state_of}
use Rattle.store.proofs.Finding.{its-places}
use Rattle.store.proofs.files.find_file.Goals as goal

pub returns-in-Ok-read_geometry-clause-places : goal.returns-in-Ok-read_geometry-clause-places
returns-in-Ok-read_geometry-clause-places g c =
    its-places (image_of (state_of c.in-Ok.device)) (places_of c.in-Ok.device) c.in-Ok-read_geometry.layout c.in-Ok.ensures.layout c.in-Ok-read_geometry.ensures.ok

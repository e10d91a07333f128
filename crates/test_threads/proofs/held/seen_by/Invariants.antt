use Rattle.pmem.specs.Words.{image_of}
use Rattle.pmem_model.specs.Sim.{device_of}
use Rattle.test_threads.proofs.held.seen_by.Given as goal

-- the book of the new history
abbrev pub ghosts-hold-J-Naming : goal.ghosts-hold-J-Naming
ghosts-hold-J-Naming g a = record { book = a.history }

-- the image of the device that is opened
abbrev pub ghosts-hold-J-Origin : goal.ghosts-hold-J-Origin
ghosts-hold-J-Origin g a = record { image = image_of (device_of a.device.device) }

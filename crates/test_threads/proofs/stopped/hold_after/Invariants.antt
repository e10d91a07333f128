use Rattle.pmem.specs.Words.{image_of}
use Rattle.pmem_model.specs.Sim.{device_of}
use Rattle.test_threads.proofs.stopped.hold_after.Given as goal

-- the book of the new history
abbrev pub ghosts-hold_collector-J-Naming : goal.ghosts-hold_collector-J-Naming
ghosts-hold_collector-J-Naming g a = record { book = a.history }

-- the image of the device that is opened
abbrev pub ghosts-hold_collector-J-Origin : goal.ghosts-hold_collector-J-Origin
ghosts-hold_collector-J-Origin g a = record { image = image_of (device_of a.device) }

use Rattle.pmem.specs.Words.{image_of}
use Rattle.pmem_model.specs.Sim.{device_of}
use Rattle.test_threads.proofs.acknowledged.read_fresh.Given as goal

-- the book of the new history
abbrev pub ghosts-live-J-Naming : goal.ghosts-live-J-Naming
ghosts-live-J-Naming g a = record { book = a.history }

-- the image of the device that is opened
abbrev pub ghosts-live-J-Origin : goal.ghosts-live-J-Origin
ghosts-live-J-Origin g a = record { image = image_of (device_of a.device) }

use Rattle.pmem.specs.Words.{image_of}
use Rattle.pmem_model.specs.Sim.{device_of}
use Rattle.test_threads.proofs.sleeping.made_alone.Given as goal

-- the book of the new history
abbrev pub ghosts-read_alone-J-Naming : goal.ghosts-read_alone-J-Naming
ghosts-read_alone-J-Naming g a = record { book = a.history }

-- the image of the device that is opened
abbrev pub ghosts-read_alone-J-Origin : goal.ghosts-read_alone-J-Origin
ghosts-read_alone-J-Origin g a = record { image = image_of (device_of a.device) }

use Rattle.pmem.specs.Words.{image_of}
use Rattle.pmem_model.specs.Sim.{device_of}
use Rattle.test_threads.proofs.calls.call_fresh.Given as goal

-- the book of the new history
abbrev pub ghosts-call_all-J-Naming : goal.ghosts-call_all-J-Naming
ghosts-call_all-J-Naming g a = record { book = a.history }

-- the image of the device that is opened
abbrev pub ghosts-call_all-J-Origin : goal.ghosts-call_all-J-Origin
ghosts-call_all-J-Origin g a = record { image = image_of (device_of a.device) }

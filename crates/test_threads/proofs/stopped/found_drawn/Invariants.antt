use Rattle.pmem.specs.Words.{image_of}
use Rattle.pmem_model.specs.Sim.{device_of}
use Rattle.test_threads.proofs.stopped.found_drawn.Given as goal

-- the book of the new history
abbrev pub ghosts-draw_and_close-J-Naming : goal.ghosts-draw_and_close-J-Naming
ghosts-draw_and_close-J-Naming g a = record { book = a.history }

-- the image of the device that is opened
abbrev pub ghosts-draw_and_close-J-Origin : goal.ghosts-draw_and_close-J-Origin
ghosts-draw_and_close-J-Origin g a = record { image = image_of (device_of a.device) }

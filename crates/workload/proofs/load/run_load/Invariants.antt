use Rattle.pmem.specs.Words.{image_of}
use Rattle.workload.proofs.load.run_load.Given as goal

-- the book of the new history
abbrev pub ghosts-lent-J-Naming : goal.ghosts-lent-J-Naming
ghosts-lent-J-Naming g a = record { book = a.history }

-- the image of the device that is opened
abbrev pub ghosts-lent-J-Origin : goal.ghosts-lent-J-Origin
ghosts-lent-J-Origin g a = record { image = image_of (g.D.Pmem.state a.device) }

use Rattle.std.proofs.Common.{true}
use Rattle.database.proofs.kept.run_kept.Given as goal

-- the book of the new history, and the device that is opened
abbrev pub ghosts-run_named : goal.ghosts-run_named
ghosts-run_named g a = record { kept = true; book = a.history; opened = g.D.Pmem.state a.device }

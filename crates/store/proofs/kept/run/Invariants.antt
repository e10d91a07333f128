use Rattle.std.proofs.Common.{true}
use Rattle.pmem_file.specs.Devices.{state_of}
use Rattle.store.proofs.kept.run.Given as goal

-- the book of the new history, and the device that is opened
abbrev pub ghosts-run_named : goal.ghosts-run_named
ghosts-run_named g a = record { kept = true; book = a.history; opened = state_of a.device }

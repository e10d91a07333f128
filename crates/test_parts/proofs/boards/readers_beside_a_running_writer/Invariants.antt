use Rattle.test_parts.proofs.boards.readers_beside_a_running_writer.Given as goal

-- the book of the new history
abbrev pub ghosts-busy : goal.ghosts-busy
ghosts-busy g a = record { book = a.history }

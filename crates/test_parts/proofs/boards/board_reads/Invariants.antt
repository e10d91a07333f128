use Rattle.test_parts.proofs.boards.board_reads.Given as goal

-- the book of the new history
abbrev pub ghosts-one_commit : goal.ghosts-one_commit
ghosts-one_commit g a = record { book = a.history }

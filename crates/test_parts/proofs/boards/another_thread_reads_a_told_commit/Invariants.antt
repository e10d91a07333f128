use Rattle.test_parts.proofs.boards.another_thread_reads_a_told_commit.Given as goal

-- the book of the new history
abbrev pub ghosts-read_across : goal.ghosts-read_across
ghosts-read_across g a = record { book = a.history }

use Rattle.test_parts.proofs.boards.long_commits_are_covered_later.Given as goal

-- the books of the new histories
abbrev pub ghosts-long_commit : goal.ghosts-long_commit
ghosts-long_commit g a = record { book = a.history }

use Rattle.test_parts.proofs.boards.sixteen_stamps_stay_readable.Given as goal

-- the book of the new history
abbrev pub ghosts-twenty_commits : goal.ghosts-twenty_commits
ghosts-twenty_commits g a = record { book = a.history }

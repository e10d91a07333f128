use Rattle.test_lives.proofs.hostile.published.publish.Given as goal

-- the book of the new history
abbrev pub ghosts-publish_on : goal.ghosts-publish_on
ghosts-publish_on g a = record { book = a.history }

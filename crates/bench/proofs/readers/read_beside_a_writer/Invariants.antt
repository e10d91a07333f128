use Rattle.bench.proofs.readers.read_beside_a_writer.Given as goal

-- the book of the new history
abbrev pub ghosts-read_one_board : goal.ghosts-read_one_board
ghosts-read_one_board g a = record { book = a.history }

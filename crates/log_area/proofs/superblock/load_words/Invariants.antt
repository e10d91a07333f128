use Rattle.std.proofs.Common.{◌≡◌, ℕ, ◌+◌, ◌<◌, get_or}
use Rattle.pmem.specs.Words.{image_of}
use Rattle.log_area.proofs.superblock.load_words.Given as goal

abbrev pub invariant-loop-k : goal.invariant-loop-k
invariant-loop-k g l = (j : ℕ) → j < l.k → get_or l.words j 0 ≡ get_or (image_of (g.D.Pmem.state l.device)) (l.start + j) 0

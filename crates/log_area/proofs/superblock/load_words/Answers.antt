use Rattle.std.proofs.Common.{arith}
use Rattle.log_area.proofs.Heads.{image_word, loaded_more}
use Rattle.log_area.proofs.superblock.load_words.Goals as goal

pub loop-k-preserved : goal.loop-k-preserved
loop-k-preserved g c = grind (arith, loaded_more, image_word)

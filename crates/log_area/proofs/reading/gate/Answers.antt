use Rattle.std.proofs.Common.{arith}
use Rattle.log_area.proofs.Heads.{image_size, image_word, laid_size}
use Rattle.log_area.proofs.reading.gate.Goals as goal

pub load-requires : goal.load-requires
load-requires g c = grind (arith, laid_size, image_size)

pub returns : goal.returns
returns g c = grind (arith, laid_size, image_size, image_word)

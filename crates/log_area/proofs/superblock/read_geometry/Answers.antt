use Rattle.std.proofs.Common.{arith}
use Rattle.log_area.proofs.Heads.{image_size, too_short, laid_out_at, damage_at, head_of}
use Rattle.log_area.proofs.superblock.read_geometry.Goals as goal

pub returns-then-words-lt8-clause-fault : goal.returns-then-words-lt8-clause-fault
returns-then-words-lt8-clause-fault g c = grind (arith, too_short, image_size)

pub returns-clause-ok : goal.returns-clause-ok
returns-clause-ok g c = grind (arith, laid_out_at, head_of, image_size)

pub returns-clause-fault : goal.returns-clause-fault
returns-clause-fault g c = grind (arith, damage_at, head_of, image_size)

use Rattle.std.proofs.Common.{rules}
use Rattle.pmem_file.proofs.Shapes.{no-ours-empty}
use Rattle.pmem_file.proofs.shape.new_shape.Goals as goal

pub returns-in-None-clause-ours : goal.returns-in-None-clause-ours
returns-in-None-clause-ours c ours = absurd (no-ours-empty c.args.asked.now c.args.file.now (search rules) c.requires ours)

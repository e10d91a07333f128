use Rattle.std.proofs.Common.{arith}
use Rattle.std.proofs.lemmas.List.{length-drop}
use Rattle.pmem_file.proofs.Shapes.{behind-drop}
use Rattle.pmem_file.proofs.shape.is_first_behind.Goals as goal

pub is_first_tail-requires : goal.is_first_tail-requires
is_first_tail-requires c = grind (arith, behind-drop, length-drop)

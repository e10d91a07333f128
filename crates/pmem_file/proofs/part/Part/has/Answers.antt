use Rattle.std.proofs.Common.{arith}
use Rattle.std.proofs.lemmas.Bool.{eq-eqb, eqb-true}
use Rattle.std.proofs.lemmas.Nat.{bit_set_by_shift}
use Rattle.pmem_file.proofs.part.Part.has.Goals as goal

pub returns-in-Words-clause-words : goal.returns-in-Words-clause-words
returns-in-Words-clause-words c = grind (arith, bit_set_by_shift, eq-eqb, eqb-true)

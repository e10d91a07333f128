use Rattle.std.proofs.Common.{arith}
use Rattle.pmem_file.proofs.Named.{names-stored}
use Rattle.pmem_file.proofs.journaled.leaves_places.Goals as goal

pub returns : goal.returns
returns c = λ is. names-stored c.args.places c.args.words.now c.args.word c.args.value (omega (arith, c.if-word-lt8.false)) c.requires

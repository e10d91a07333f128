use Rattle.pmem_file.proofs.Named.{names-own}
use Rattle.pmem_file.proofs.journaled.JournaledPmem.places.Goals as goal

pub returns-clause-named : goal.returns-clause-named
returns-clause-named g c = names-own c.args.self.now

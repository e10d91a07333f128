use Rattle.pmem_file.proofs.Stored.{IsStoring}
use Rattle.pmem_file.proofs.memory_storage.write_words.Given as goal

abbrev pub invariant-loop-place : goal.invariant-loop-place
invariant-loop-place l = IsStoring l.fn.part l.fn.into.items l.into.items l.fn.words l.fn.start l.place

use Rattle.std.proofs.Common.{arith}
use Rattle.std.proofs.lemmas.Result.{on_ok_weaker, on_err_weaker}
use Rattle.version_slot.proofs.Operations.{lines_store}
use Rattle.version_slot.proofs.writing.store_lines.Goals as goal

pub returns-clause-run : goal.returns-clause-run
returns-clause-run g c = grind (arith, on_ok_weaker, lines_store c.args.first c.args.count c.put_words.new.words c.args.version.now c.requires.count.0 c.requires.count.1 c.put_words.ensures.size c.put_words.ensures.words, c.put_words.ensures.size, c.put_words.ensures.words, c.store_all.ensures.run)

pub returns-clause-stopped : goal.returns-clause-stopped
returns-clause-stopped g c = grind (arith, on_err_weaker, lines_store c.args.first c.args.count c.put_words.new.words c.args.version.now c.requires.count.0 c.requires.count.1 c.put_words.ensures.size c.put_words.ensures.words, c.put_words.ensures.size, c.put_words.ensures.words, c.store_all.ensures.stopped)

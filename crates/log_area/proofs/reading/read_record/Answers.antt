use Rattle.std.proofs.Common.{arith}
use Rattle.pmem.specs.Words.{image_of}
use Rattle.log_area.proofs.Heads.{image_size, laid_size}
use Rattle.log_area.proofs.Finding.{place_read}
use Rattle.log_area.proofs.reading.read_record.Goals as goal

pub load_words-requires-clause-within : goal.load_words-requires-clause-within
load_words-requires-clause-within g c = grind (arith, laid_size, image_size)

pub returns-clause-read : goal.returns-clause-read
returns-clause-read g c = grind (arith, laid_size, place_read)

pub returns-clause-refused : goal.returns-clause-refused
returns-clause-refused g c = grind (arith, laid_size c.args.geometry (image_of (g.D.Pmem.state c.args.device.now)) c.requires.laid_out, place_read, c.place_start-start.ensures.within, c.version.ensures.value, c.place_start-start.ensures.value, c.load_words.ensures, c.from_words.ensures.refused)

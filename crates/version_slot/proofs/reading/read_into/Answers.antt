use Rattle.std.proofs.Common.{slice_index, sym, arith}
use Rattle.pmem.specs.Words.{value_of}
use Rattle.version_slot.specs.Words.{slot_at}
use Rattle.version_slot.proofs.Forming.{slot-same}
use Rattle.version_slot.proofs.reading.read_into.Goals as goal

pub returns-then-slot_words-eq8-clause-some : goal.returns-then-slot_words-eq8-clause-some
returns-then-slot_words-eq8-clause-some g c = λ yes.
    slot-same c.args.geometry (slice_index c.line_from.result) (slot_at c.args.geometry c.args.slot (value_of (g.D.Pmem.state c.args.device.now))) (λ w lt. c.line_from.ensures w (omega arith) lt)
    c.take_line.new.self (c.take_line.ensures.some yes)

pub returns-then-slot_words-eq8-clause-none : goal.returns-then-slot_words-eq8-clause-none
returns-then-slot_words-eq8-clause-none g c = λ no found is.
    c.take_line.ensures.none no found
    (slot-same c.args.geometry (slot_at c.args.geometry c.args.slot (value_of (g.D.Pmem.state c.args.device.now))) (slice_index c.line_from.result) (λ w lt. sym (c.line_from.ensures w (omega arith) lt)) found is)

pub returns-else-slot_words-eq8-clause-some : goal.returns-else-slot_words-eq8-clause-some
returns-else-slot_words-eq8-clause-some g c = λ yes.
    slot-same c.args.geometry (slice_index c.words_from.result) (slot_at c.args.geometry c.args.slot (value_of (g.D.Pmem.state c.args.device.now))) (λ w lt. c.words_from.ensures w (omega arith) lt)
    c.take_words.new.self (c.take_words.ensures.some yes)

pub returns-else-slot_words-eq8-clause-none : goal.returns-else-slot_words-eq8-clause-none
returns-else-slot_words-eq8-clause-none g c = λ no found is.
    c.take_words.ensures.none no found
    (slot-same c.args.geometry (slot_at c.args.geometry c.args.slot (value_of (g.D.Pmem.state c.args.device.now))) (slice_index c.words_from.result) (λ w lt. sym (c.words_from.ensures w (omega arith) lt)) found is)

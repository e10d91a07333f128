use Rattle.std.proofs.Common.{slice_index}
use Rattle.pmem.specs.Words.{value_of}
use Rattle.version_slot.specs.Words.{slot_at}
use Rattle.version_slot.proofs.Forming.{some-key, none-key}
use Rattle.version_slot.proofs.reading.read_key.Goals as goal

pub returns-then-slot_words-eq8-clause-some : goal.returns-then-slot_words-eq8-clause-some
returns-then-slot_words-eq8-clause-some g c =
    some-key c.args.geometry (slice_index c.line_from.result) (slot_at c.args.geometry c.args.slot (value_of (g.D.Pmem.state c.args.device.now))) c.line_from.ensures c.held_key.result c.held_key.ensures.some

pub returns-then-slot_words-eq8-clause-none : goal.returns-then-slot_words-eq8-clause-none
returns-then-slot_words-eq8-clause-none g c =
    none-key c.args.geometry (slice_index c.line_from.result) (slot_at c.args.geometry c.args.slot (value_of (g.D.Pmem.state c.args.device.now))) c.line_from.ensures c.held_key.result c.held_key.ensures.none

pub returns-else-slot_words-eq8-clause-some : goal.returns-else-slot_words-eq8-clause-some
returns-else-slot_words-eq8-clause-some g c =
    some-key c.args.geometry (slice_index c.words_from.result) (slot_at c.args.geometry c.args.slot (value_of (g.D.Pmem.state c.args.device.now))) c.words_from.ensures c.held_key-else-slot_words-eq8.result c.held_key-else-slot_words-eq8.ensures.some

pub returns-else-slot_words-eq8-clause-none : goal.returns-else-slot_words-eq8-clause-none
returns-else-slot_words-eq8-clause-none g c =
    none-key c.args.geometry (slice_index c.words_from.result) (slot_at c.args.geometry c.args.slot (value_of (g.D.Pmem.state c.args.device.now))) c.words_from.ensures c.held_key-else-slot_words-eq8.result c.held_key-else-slot_words-eq8.ensures.none

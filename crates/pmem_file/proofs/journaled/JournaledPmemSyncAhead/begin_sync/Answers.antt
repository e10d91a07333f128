use Rattle.std.proofs.Common.{◌≡◌, ◌∙◌, false, sym}
use Rattle.pmem_file.specs.Traces.{device_of}
use Rattle.pmem_file.proofs.Since.{Written, holds-within, written-within}
use Rattle.pmem_file.proofs.journaled.JournaledPmemSyncAhead.begin_sync.Goals as goal

pub invariant_of-self : goal.invariant_of-self
invariant_of-self g c =
    let old = c.write.new.self in
    let h = holds-within (device_of old.trace) old.words.items old.flushed.items old.places old.is_gate_stored (device_of old.kept.value).clock (g.I.Images.may_hold old.images) (g.I.Images.may_hold c.hand_out.new.self)
    c.hand_out.ensures.found (record { shown = old.shown; mirrored = old.mirrored; back = old.since; gates = old.gates }) in
    let before : g.I.Images.has_failed c.hand_out.new.self ≡ false → g.I.Images.has_failed old.images ≡ false = λ works. sym c.hand_out.ensures.noted ∙ works in
    let w : g.I.Images.has_failed c.hand_out.new.self ≡ false → Written (device_of old.trace) old.words.items old.places old.is_gate_unwritten (device_of old.written.value).clock (g.I.Images.shows c.hand_out.new.self) = λ works. written-within (device_of old.trace) old.words.items old.places old.is_gate_unwritten (device_of old.written.value).clock (g.I.Images.shows old.images) (g.I.Images.shows c.hand_out.new.self)
    c.hand_out.ensures.shown (record { back = old.since_written (before works); gates = old.gates_written (before works) }) in
    record {
      marked = old.marked;
      named = old.named;
      shown = h.shown;
      mirrored = h.mirrored;
      since = h.back;
      gates = h.gates;
      since_written = λ works. (w works).back;
      gates_written = λ works. (w works).gates;
      changes = λ works image may. old.changes (before works) image (c.hand_out.ensures.shown image may);
    }

use Rattle.std.proofs.Common.{◌≡◌, ℕ, Bool, false, List, ap, sym, ◌∙◌, subst, arith, slice_set}
use Rattle.std.proofs.lemmas.List.{length-set}
use Rattle.journal.specs.Changes.{DiffersIn}
use Rattle.pmem.specs.Device.{Device, stored}
use Rattle.pmem_file.specs.Journaled.{NamesPlaces}
use Rattle.pmem_file.specs.Traces.{device_of}
use Rattle.pmem_file.proofs.Differences.{differs-noted}
use Rattle.pmem_file.proofs.Since.{Holds, Written, holds-stored, written-stored}
use Rattle.pmem_file.proofs.journaled.JournaledPmem.store_first.Goals as goal

pub invariant_of-self-2 : goal.invariant_of-self-2
invariant_of-self-2 g c =
    let old = c.args.self.now in
    let words = slice_set old.words.items c.args.word c.args.value in
    let device = stored c.args.word c.args.value (device_of old.trace) in
    let S : Bool → Type 0 = λ b. Holds device words old.flushed.items old.places b (device_of old.kept.value).clock (g.I.Images.may_hold old.images) in
    let h0 = subst S (sym c.note_gate.ensures.stored) (holds-stored (device_of old.trace) old.words.items old.flushed.items old.places old.is_gate_stored (device_of old.kept.value).clock (g.I.Images.may_hold old.images) c.args.word c.args.value
    (record { shown = old.shown; mirrored = old.mirrored; back = old.since; gates = old.gates }) (c.requires) c.ranges.value.fits) in
    let P : Device → Type 0 = λ d. Holds d words old.flushed.items old.places c.note_gate.new.stored (device_of old.kept.value).clock (g.I.Images.may_hold old.images) in
    let h = subst P (sym c.note.ensures) h0 in
    let V : Bool → Type 0 = λ b. g.I.Images.has_failed old.images ≡ false → Written device words old.places b (device_of old.written.value).clock (g.I.Images.shows old.images) in
    let w0 = subst V (sym c.note_gate.ensures.unwritten) (λ works. written-stored (device_of old.trace) old.words.items old.places old.is_gate_unwritten (device_of old.written.value).clock (g.I.Images.shows old.images) c.args.word c.args.value (record { back = old.since_written works; gates = old.gates_written works })) in
    let W : Device → Type 0 = λ d. g.I.Images.has_failed old.images ≡ false → Written d words old.places c.note_gate.new.unwritten (device_of old.written.value).clock (g.I.Images.shows old.images) in
    let w = subst W (sym c.note.ensures) w0 in
    let named : NamesPlaces old.places words = subst (λ (l : List ℕ). NamesPlaces old.places (slice_set l c.args.word c.args.value)) c.deref.ensures.value (c.leaves_places.ensures c.if-not-leaves_places.false) in
    record {
      marked = (omega (arith, old.marked.0, length-set old.words.items c.args.word c.args.value, c.note_change.ensures.count), c.note_change.ensures.places ∙ old.marked.1);
      named = named;
      shown = h.shown;
      mirrored = h.mirrored;
      since = h.back;
      gates = h.gates;
      since_written = λ works. (w works).back;
      gates_written = λ works. (w works).gates;
      changes = λ none image may. differs-noted old.changed.lines c.note_change.new.changed.lines old.words.items image c.args.word c.args.value (old.changes none image may)
          (rw c.as_slice.ensures.value at (c.note_change.ensures.has c.if-not-note_change.false)) c.note_change.ensures.others;
    }

pub leaves_places-requires : goal.leaves_places-requires
leaves_places-requires g c = subst (λ (l : List ℕ). NamesPlaces c.args.self.now.places l) (sym c.deref.ensures.value) c.args.self.now.named

pub invariant_of-self-then-not-note_change : goal.invariant_of-self-then-not-note_change
invariant_of-self-then-not-note_change g c =
    let old = c.args.self.now in
    let same : c.note_change.new.changed ≡ old.changed = c.note_change.ensures.err c.if-not-note_change.true in
    record {
      marked = (omega (arith, old.marked.0, c.note_change.ensures.count), c.note_change.ensures.places ∙ old.marked.1);
      named = old.named;
      shown = old.shown;
      mirrored = old.mirrored;
      since = old.since;
      gates = old.gates;
      since_written = old.since_written;
      gates_written = old.gates_written;
      changes = λ works image may. subst (λ (numbers : List ℕ). DiffersIn numbers old.words.items image) (sym (ap (λ marks. marks.lines) same)) (old.changes works image may);
    }

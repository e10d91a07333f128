use Rattle.std.proofs.Common.{◌≡◌, ◌∙◌, false, sym, subst, List, ℕ}
use Rattle.std.proofs.lemmas.Bool.{true≢false}
use Rattle.pmem_file.specs.Traces.{device_of}
use Rattle.pmem_file.specs.Journaled.{IsSince}
use Rattle.pmem_file.proofs.Since.{Holds, gates-within, holds-finished, holds-within, since-within}
use Rattle.pmem_file.proofs.journaled.JournaledPmem.finish.Goals as goal

pub invariant_of-self : goal.invariant_of-self
invariant_of-self g c =
    let old = c.args.self.now in
    let h = holds-within (device_of old.trace) old.words.items old.flushed.items old.places old.is_gate_stored (device_of old.kept.value).clock (g.I.Images.may_hold old.images) (g.I.Images.may_hold c.finish.new.self)
    c.finish.ensures.whole (record { shown = old.shown; mirrored = old.mirrored; back = old.since; gates = old.gates }) in
    let failed : g.I.Images.has_failed c.finish.new.self ≡ false → ⊥ = λ works. true≢false (sym c.in_err-finish.ensures.noted ∙ works) in
    record { marked = old.marked; named = old.named; shown = h.shown; mirrored = h.mirrored; since = h.back; gates = h.gates; since_written = λ works. absurd (failed works); gates_written = λ works. absurd (failed works); changes = λ works. absurd (failed works) }

pub invariant_of-self-2 : goal.invariant_of-self-2
invariant_of-self-2 g c =
    let old = c.args.self.now in
    let device = device_of old.trace in
    let held = g.I.Images.may_hold old.images in
    let new = g.I.Images.may_hold c.finish.new.self in
    let shows = g.I.Images.shows c.finish.new.self in
    let found : (image : List ℕ) → shows image → new image = λ image. g.met.I.Images.shown_is_found c.finish.new.self image in
    let kept : (image : List ℕ) → new image → g.I.Images.shows old.images image = c.in_ok-finish.ensures.kept in
    let h0 = holds-finished device old.words.items old.flushed.items old.places old.is_gate_stored old.is_gate_unwritten (device_of old.kept.value).clock (device_of old.written.value).clock held (g.I.Images.shows old.images) new
    c.finish.ensures.whole kept (record { shown = old.shown; mirrored = old.mirrored; back = old.since; gates = old.gates }) (record { back = old.since_written c.requires; gates = old.gates_written c.requires }) in
    let P : ℕ → Type 0 = λ n. Holds device old.words.items old.flushed.items old.places old.is_gate_unwritten n new in
    let h = subst P (λ i. (device_of (sym c.swap.ensures.x_after i).value).clock) h0 in
    let S : ℕ → Type 0 = λ n. IsSince device n shows in
    let s = subst S (λ i. (device_of (sym c.swap.ensures.y_after i).value).clock) (since-within device (device_of old.kept.value).clock held shows (λ image may. c.finish.ensures.whole image (found image may)) old.since) in
    record {
      marked = old.marked;
      named = old.named;
      shown = h.shown;
      mirrored = h.mirrored;
      since = h.back;
      gates = h.gates;
      since_written = λ works. s;
      gates_written = λ works none. gates-within old.places old.words.items (g.I.Images.shows old.images) shows (λ image may. kept image (found image may)) (old.gates_written c.requires none);
      changes = λ works image may. old.changes c.requires image (kept image (found image may));
    }

use Rattle.std.proofs.Common.{◌≡◌, ◌∙◌, ◌⊎◌, ◌*◌, ◌≤◌, false, sym, subst, length, List, ℕ}
use Rattle.std.proofs.lemmas.Bool.{true≢false}
use Rattle.journal.specs.Changes.{DiffersIn}
use Rattle.pmem_file.specs.Changed.{Changes}
use Rattle.pmem_file.specs.declared.trace.Trace.{Trace}
use Rattle.pmem_file.specs.Traces.{device_of}
use Rattle.pmem_file.proofs.Differences.{differs-nowhere}
use Rattle.pmem_file.proofs.Since.{Written, holds-tried, written-now}
use Rattle.pmem_file.proofs.journaled.JournaledPmem.write.Goals as goal

pub invariant_of-self : goal.invariant_of-self
invariant_of-self g c =
    let old = c.args.self.now in
    let T : List ℕ → Type 0 = λ l. (image : List ℕ) → g.I.Images.may_hold c.begin.new.self image → g.I.Images.may_hold old.images image ⊎ (image ≡ l) in
    let whole : T old.words.items = c.begin.ensures.whole in
    let h = holds-tried (device_of old.trace) old.words.items old.flushed.items old.places old.is_gate_stored (device_of old.kept.value).clock (g.I.Images.may_hold old.images) (g.I.Images.may_hold c.begin.new.self)
    (record { shown = old.shown; mirrored = old.mirrored; back = old.since; gates = old.gates }) whole in
    let failed : g.I.Images.has_failed c.begin.new.self ≡ false → ⊥ = λ works. true≢false (sym c.in_err-begin.ensures.noted ∙ works) in
    record { marked = old.marked; named = old.named; shown = h.shown; mirrored = h.mirrored; since = h.back; gates = h.gates; since_written = λ works. absurd (failed works); gates_written = λ works. absurd (failed works); changes = λ works. absurd (failed works) }

pub invariant_of-self-2 : goal.invariant_of-self-2
invariant_of-self-2 g c =
    let old = c.args.self.now in
    let words = old.words.items in
    let shows = g.I.Images.shows c.begin.new.self in
    let T : List ℕ → Type 0 = λ l. (image : List ℕ) → g.I.Images.may_hold c.begin.new.self image → g.I.Images.may_hold old.images image ⊎ (image ≡ l) in
    let whole : T words = c.begin.ensures.whole in
    let B : List ℕ → Type 0 = λ l. (image : List ℕ) → shows image → image ≡ l in
    let begun : B words = c.in_ok-begin.ensures.begun in
    let h = holds-tried (device_of old.trace) words old.flushed.items old.places old.is_gate_stored (device_of old.kept.value).clock (g.I.Images.may_hold old.images) (g.I.Images.may_hold c.begin.new.self)
    (record { shown = old.shown; mirrored = old.mirrored; back = old.since; gates = old.gates }) whole in
    let Q : Trace → Type 0 = λ t. Written (device_of old.trace) words old.places false (device_of t).clock shows in
    let w : Q c.of.result.value = subst Q (sym c.of.ensures) (written-now (device_of old.trace) words old.places shows old.shown begun) in
    record {
      marked = subst (λ (changes : Changes). (length words ≤ 8 * changes.count) × (changes.places ≡ old.places)) (sym c.clear.ensures) old.marked;
      named = old.named;
      shown = h.shown;
      mirrored = h.mirrored;
      since = h.back;
      gates = h.gates;
      since_written = λ works. w.back;
      gates_written = λ works. w.gates;
      changes = λ works image may. subst (λ (changes : Changes). DiffersIn changes.lines words image) (sym c.clear.ensures) (differs-nowhere words image (begun image may));
    }

pub begin-requires : goal.begin-requires
begin-requires g c = record {
  differs = λ image may. subst (λ (l : List ℕ). DiffersIn l c.args.self.now.words.items image) (sym c.as_slice.ensures) (c.args.self.now.changes c.requires image may);
}

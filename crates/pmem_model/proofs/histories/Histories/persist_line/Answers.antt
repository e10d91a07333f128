use Rattle.std.proofs.Common.{◌≡◌, ◌<◌, ◌/◌, ℕ, List, length, set, cond, ◌==◌, ap, arith, subst, sym, ◌∙◌}
use Rattle.pmem.specs.Device.{Entry, persisted}
use Rattle.pmem_model.specs.declared.spans.Span.{Span}
use Rattle.pmem_model.specs.Log.{IsSound, IsTakenIn, NoneTakenIn}
use Rattle.pmem_model.specs.Past.{history_of}
use Rattle.pmem_model.specs.Spans.{span_at}
use Rattle.pmem_model.proofs.Sound.{sound-persisted, sound-passed}
use Rattle.pmem_model.proofs.histories.Histories.persist_line.Goals as goal

pub invariant_of-self : goal.invariant_of-self
invariant_of-self c =
    let h = c.args.self.now in
    let actor = c.args.actor.number in
    let at_line : c.args.line < length h.spans.items.items = omega (arith, c.requires, h.sound.lined) in
    let span = span_at h.spans.items.items c.args.line in
    let taken : IsTakenIn h.log.items actor c.args.line span c.in-Some.from = subst (λ (s : Span). IsTakenIn h.log.items actor c.args.line s c.in-Some.from) c.get-span.ensures c.in-Some.ensures.some in
    let spans : c.set.new.self.items.items ≡ set h.spans.items.items c.args.line (record { from = c.in-Some.from; to = span.to }) =
    c.set.ensures ∙ ap (λ (n : ℕ). set h.spans.items.items c.args.line (record { from = c.in-Some.from; to = n })) (ap (λ (s : Span). s.to) c.get-span.ensures) in
    let made = sound-persisted (history_of h.past) h.values.items h.spans.items.items h.log.items h.clock h.sound c.args.line actor c.in-Some.from c.args.actor.in_range at_line taken in
    record {
      sound = subst (λ (f : ℕ → List Entry). IsSound f h.values.items c.set.new.self.items.items h.log.items h.clock) (sym c.note.ensures)
          (subst (λ (s : List Span). IsSound (λ word. cond ((word / 8) == c.args.line) (persisted actor h.clock (history_of h.past word)) (history_of h.past word)) h.values.items s h.log.items h.clock) (sym spans) made);
    }

pub invariant_of-self-in_default : goal.invariant_of-self-in_default
invariant_of-self-in_default c =
    let h = c.args.self.now in
    let actor = c.args.actor.number in
    let none : NoneTakenIn h.log.items actor c.args.line (span_at h.spans.items.items c.args.line).from (span_at h.spans.items.items c.args.line).to = subst (λ (s : Span). NoneTakenIn h.log.items actor c.args.line s.from s.to) c.get-span.ensures c.in_default.ensures.none in
    record {
      sound = subst (λ (f : ℕ → List Entry). IsSound f h.values.items h.spans.items.items h.log.items h.clock) (sym c.note.ensures)
          (sound-passed (history_of h.past) h.values.items h.spans.items.items h.log.items h.clock h.sound c.args.line actor c.args.actor.in_range none);
    }

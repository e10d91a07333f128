use Rattle.std.proofs.Common.{◌≡◌, true, ◌∙◌, refl, sym, ap, subst, List}
use Rattle.std.proofs.Math.Bool.{Bool-set}
use Rattle.std.proofs.Math.Nat.{ℕ_set}
use Rattle.std.proofs.Math.Logic.{∥∥₁_elim}
use Rattle.base.specs.declared.gap.Gap.{Gap}
use Rattle.gap_list.specs.GapLists.{is_gap_list}
use Rattle.pmem.specs.Words.{value_of}
use Rattle.pmem.specs.Trace.{Operation, Runs, StopsWithin}
use Rattle.snapshot.specs.Snapshots.{seen_by}
use Rattle.slot_alloc.specs.Free.{is_free}
use Rattle.session_steps.specs.Collecting.{all_cover}
use Rattle.session_steps.proofs.reads.Tables.{gaps-shown, words-shown}
use Rattle.session_steps.proofs.collector.Visits.{collects-at, collects-end, collects-stopped, collects-shown, same-operations, shown-any, words-kept, counted-shown}
use Rattle.session_steps.proofs.Settled.{collects-tidied}
use Rattle.session_steps.proofs.sessions.Sessions.sweep.Goals as goal

pub of-gaps-requires : goal.of-gaps-requires
of-gaps-requires g c = subst (λ (gs : List Gap). is_gap_list gs ≡ true) (sym c.gaps.ensures) (∥∥₁_elim c.requires.shown (Bool-set _ _) (λ some. gaps-shown c.args.self.now (g.D.Pmem.state c.args.device.now) (shown-any _ _ some)))

pub tick-requires-clause-slots : goal.tick-requires-clause-slots
tick-requires-clause-slots g c = ∥∥₁_elim c.requires.shown (ℕ_set _ _) (λ some. counted-shown c.args.self.now (g.D.Pmem.state c.args.device.now) some)

pub tick-requires-clause-size : goal.tick-requires-clause-size
tick-requires-clause-size g c = ∥∥₁_elim c.requires.shown (ℕ_set _ _) (λ some. words-shown c.args.self.now (g.D.Pmem.state c.args.device.now) (g.met.D.Pmem.orderly _) (shown-any _ _ some))

pub forget_freed-place-requires-clause-device : goal.forget_freed-place-requires-clause-device
forget_freed-place-requires-clause-device g c = words-kept c.args.self.now.numbers.geometry _ _ _ _ _ c.in-Ok-Slot.ensures.run ∙ ∥∥₁_elim c.requires.shown (ℕ_set _ _) (λ some. words-shown c.args.self.now (g.D.Pmem.state c.args.device.now) (g.met.D.Pmem.orderly _) (shown-any _ _ some))

pub returns-in-Ok-Slot-clause-step : goal.returns-in-Ok-Slot-clause-step
returns-in-Ok-Slot-clause-step g c =
    collects-tidied c.args.self.now _ c.settle.new.self (g.D.Pmem.state c.args.device.now) (g.D.Pmem.state c.tick.new.device) _ c.settle.ensures
    (collects-shown c.args.self.now _ (g.D.Pmem.state c.args.device.now) (g.D.Pmem.state c.tick.new.device) _
    (λ h holds. collects-at c.args.self.now h (g.D.Pmem.state c.args.device.now) (g.D.Pmem.state c.tick.new.device) holds (g.met.D.Pmem.orderly _) (g.met.D.Pmem.orderly _) c.in-Ok-Slot.slot (seen_by c.args.self.now.numbers.record) c.tick.new.self c.is_free-was_free.result c.tick.new.slots c.forget_freed-place.new.index c.leave_free.new.self
    refl (sym c.in-Ok-Slot.field-0-is ∙ c.in-Ok-Slot.ensures.visit) c.in-Ok-Slot.ensures.moved c.in-Ok-Slot.ensures.freed
    (subst (λ (ops : List Operation). Runs ops (g.D.Pmem.state c.args.device.now) (g.D.Pmem.state c.tick.new.device)) (same-operations c.args.self.now.numbers.geometry c.of-gaps.result c.args.self.now.numbers.record.gaps c.args.self.now.collector.swept c.args.self.now.collector.place (value_of (g.D.Pmem.state c.args.device.now)) (λ unswept. c.of-gaps.ensures ∙ c.gaps.ensures)) c.in-Ok-Slot.ensures.run)
    (c.is_free-was_free.ensures ∙ ap (is_free c.args.self.now.slots) c.place.ensures) c.forget_freed-place.ensures.forgets c.forget_freed-place.ensures.room c.leave_free.ensures))

pub returns-in-Ok-SweepEnd-clause-step : goal.returns-in-Ok-SweepEnd-clause-step
returns-in-Ok-SweepEnd-clause-step g c =
    collects-shown c.args.self.now _ (g.D.Pmem.state c.args.device.now) (g.D.Pmem.state c.tick.new.device) _
    (λ h holds. collects-end c.args.self.now h (g.D.Pmem.state c.args.device.now) (g.D.Pmem.state c.tick.new.device) holds (g.met.D.Pmem.orderly _) (g.met.D.Pmem.orderly _) c.tick.new.self c.tick.new.slots
    (sym c.in-Ok-SweepEnd.field-0-is ∙ c.in-Ok-SweepEnd.ensures.visit) c.in-Ok-SweepEnd.ensures.moved (all_cover (seen_by c.args.self.now.numbers.record) c.args.self.now.transactions) c.in-Ok-SweepEnd.ensures.freed
    (subst (λ (ops : List Operation). Runs ops (g.D.Pmem.state c.args.device.now) (g.D.Pmem.state c.tick.new.device)) (same-operations c.args.self.now.numbers.geometry c.of-gaps.result c.args.self.now.numbers.record.gaps c.args.self.now.collector.swept c.args.self.now.collector.place (value_of (g.D.Pmem.state c.args.device.now)) (λ unswept. c.of-gaps.ensures ∙ c.gaps.ensures)) c.in-Ok-SweepEnd.ensures.run))

pub returns-in-Err-clause-step : goal.returns-in-Err-clause-step
returns-in-Err-clause-step g c =
    collects-shown c.args.self.now _ (g.D.Pmem.state c.args.device.now) (g.D.Pmem.state c.tick.new.device) _
    (λ h holds. rw (c.in-Err.ensures.same, c.in-Err.ensures.kept) (collects-stopped c.args.self.now h (g.D.Pmem.state c.args.device.now) (g.D.Pmem.state c.tick.new.device) holds (g.met.D.Pmem.orderly _) (g.met.D.Pmem.orderly _) c.in-Err.fault c.in-Err.ensures.fault
    (subst (λ (ops : List Operation). StopsWithin ops (g.D.Pmem.state c.args.device.now) (g.D.Pmem.state c.tick.new.device)) (same-operations c.args.self.now.numbers.geometry c.of-gaps.result c.args.self.now.numbers.record.gaps c.args.self.now.collector.swept c.args.self.now.collector.place (value_of (g.D.Pmem.state c.args.device.now)) (λ unswept. c.of-gaps.ensures ∙ c.gaps.ensures)) c.in-Err.ensures.stopped)))

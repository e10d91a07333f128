use Rattle.std.proofs.Common.{◌∙◌, refl, sym, ap}
use Rattle.std.proofs.Math.Nat.{ℕ_set}
use Rattle.std.proofs.Math.Logic.{∥∥₁_elim}
use Rattle.snapshot.specs.Snapshots.{seen_by}
use Rattle.slot_alloc.specs.Free.{is_free}
use Rattle.session_steps.specs.Collecting.{all_cover}
use Rattle.session_steps.proofs.reads.Tables.{words-shown}
use Rattle.session_steps.proofs.collector.Visits.{collects-at, collects-end, collects-shown, counted-shown, shown-any, swept-runs}
use Rattle.session_steps.proofs.Settled.{collects-tidied}
use Rattle.session_steps.proofs.sessions.Sessions.visit.Goals as goal

pub visit-requires-clause-slots : goal.visit-requires-clause-slots
visit-requires-clause-slots g c = ∥∥₁_elim c.requires.shown (ℕ_set _ _) (λ some. counted-shown c.args.self.now (g.D.Pmem.state c.args.device.now) some)

pub visit-requires-clause-size : goal.visit-requires-clause-size
visit-requires-clause-size g c = ∥∥₁_elim c.requires.shown (ℕ_set _ _) (λ some. words-shown c.args.self.now (g.D.Pmem.state c.args.device.now) (g.met.D.Pmem.orderly _) (shown-any _ _ some))

pub forget_freed-place-requires-clause-device : goal.forget_freed-place-requires-clause-device
forget_freed-place-requires-clause-device g c = ∥∥₁_elim c.requires.shown (ℕ_set _ _) (λ some. words-shown c.args.self.now (g.D.Pmem.state c.args.device.now) (g.met.D.Pmem.orderly _) (shown-any _ _ some))

pub returns-in-Slot : goal.returns-in-Slot
returns-in-Slot g c =
    collects-tidied c.args.self.now _ c.settle.new.self (g.D.Pmem.state c.args.device.now) (g.D.Pmem.state c.args.device.now) _ c.settle.ensures
    (collects-shown c.args.self.now _ (g.D.Pmem.state c.args.device.now) (g.D.Pmem.state c.args.device.now) _
    (λ h holds. collects-at c.args.self.now h (g.D.Pmem.state c.args.device.now) (g.D.Pmem.state c.args.device.now) holds (g.met.D.Pmem.orderly _) (g.met.D.Pmem.orderly _) c.in-Slot.slot (seen_by c.args.self.now.numbers.record) c.visit.new.self c.is_free-was_free.result c.visit.new.slots c.forget_freed-place.new.index c.leave_free.new.self
    refl (sym c.in-Slot.is ∙ c.visit.ensures.visit) c.visit.ensures.moved c.visit.ensures.freed
    (swept-runs c.args.self.now.numbers.geometry c.args.self.now.numbers.record.gaps c.args.self.now.collector.swept c.args.self.now.collector.place (g.D.Pmem.state c.args.device.now) (g.met.D.Pmem.orderly _) c.requires.swept)
    (c.is_free-was_free.ensures ∙ ap (is_free c.args.self.now.slots) c.place.ensures) c.forget_freed-place.ensures.forgets c.forget_freed-place.ensures.room c.leave_free.ensures))

pub returns-in-SweepEnd : goal.returns-in-SweepEnd
returns-in-SweepEnd g c =
    collects-shown c.args.self.now _ (g.D.Pmem.state c.args.device.now) (g.D.Pmem.state c.args.device.now) _
    (λ h holds. collects-end c.args.self.now h (g.D.Pmem.state c.args.device.now) (g.D.Pmem.state c.args.device.now) holds (g.met.D.Pmem.orderly _) (g.met.D.Pmem.orderly _) c.visit.new.self c.visit.new.slots
    (sym c.in-SweepEnd.is ∙ c.visit.ensures.visit) c.visit.ensures.moved (all_cover (seen_by c.args.self.now.numbers.record) c.args.self.now.transactions) c.visit.ensures.freed
    (swept-runs c.args.self.now.numbers.geometry c.args.self.now.numbers.record.gaps c.args.self.now.collector.swept c.args.self.now.collector.place (g.D.Pmem.state c.args.device.now) (g.met.D.Pmem.orderly _) c.requires.swept))

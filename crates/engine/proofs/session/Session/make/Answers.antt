use Rattle.base.specs.Replies.{note_of}
use Rattle.base.specs.declared.step.Step.{Step}
use Rattle.base.specs.declared.step.Note.{Note}
use Rattle.engine.proofs.Fitting.{fits-last}
use Rattle.std.proofs.Common.{◌≡◌, sym, ap, ◌∙◌, ◌≤◌, arith, length, List, ◌++◌, ◌∷◌, []}
use Rattle.std.specs.Sync.Mutex.{mutex_guard_value}
use Rattle.audited.specs.declared.receipt.Receipt.{Receipt}
use Rattle.engine.specs.Receipts.{floor_of}
use Rattle.engine.specs.Phases.{phase_after_step}
use Rattle.engine.proofs.Phasing.{phase_after-push}
use Rattle.engine.proofs.Halting.{kept-stepped}
use Rattle.engine.proofs.Staying.{from-stepped, made-here}
use Rattle.engine.proofs.Rising.{floor_of-append, rises-append, some_is}
use Rattle.engine.proofs.session.Session.make.Goals as goal

pub invariant_of-self-2 : goal.invariant_of-self-2
invariant_of-self-2 g c =
    let r = c.in-Some-receipt.receipt in
    let kept = some_is _ _ r c.step-reply.ensures.kept c.in-Some-receipt.is in
    let items = c.push_reserved.ensures.items ∙ ap (λ (rs : List Receipt). rs ++ r ∷ []) c.reserve.ensures.items in
    let floor : c.args.self.now.floor ≡ floor_of 0 c.args.self.now.receipts.items = c.args.self.now.floor_is in
    let place : r.place ≡ length c.in-Some.audited.entries.items = kept.place in
    let made : c.args.self.now.floor ≤ length c.in-Some.audited.entries.items =
    made-here c.args.self.now.floor (mutex_guard_value c.room-locked.result).audited c.deref_mut.result.now.audited c.in-Some.audited c.room-locked.ensures (cc) c.in-Some.is in
    let low : floor_of 0 c.args.self.now.receipts.items ≤ r.place = omega (arith, place, made, floor) in
    record {
      rising = rw items (rises-append 0 c.args.self.now.receipts.items r c.args.self.now.rising low);
      floor_is = rw items (sym (floor_of-append 0 c.args.self.now.receipts.items r));
      phase_is = phase_after-push c.args.self.now.phase c.after-self.result c.args.self.now.receipts.items _ r c.args.self.now.phase_is items c.after-self.ensures;
      told_of = c.args.self.now.told_of;
    }

pub returns-clause-fits : goal.returns-clause-fits
returns-clause-fits g c =
    let r = c.in-Some-receipt.receipt in
    let kept = some_is _ _ r c.step-reply.ensures.kept c.in-Some-receipt.is in
    let asked : r.step ≡ c.args.step = kept.asked in
    let note : r.note ≡ note_of c.step-reply.result.0 = kept.note in
    let h = fits-last r (some_is _ _ r c.step-reply.ensures.run c.in-Some-receipt.is) in
    rw (← asked, ← note) h

pub returns-clause-moved : goal.returns-clause-moved
returns-clause-moved g c =
    let r = c.in-Some-receipt.receipt in
    let kept = some_is _ _ r c.step-reply.ensures.kept c.in-Some-receipt.is in
    c.after-self.ensures
    ∙ (ap (λ (s : Step). phase_after_step c.args.self.now.phase s r.note) kept.asked
    ∙ ap (λ (n : Note). phase_after_step c.args.self.now.phase c.args.step n) kept.note)

pub invariant_of-deref_mut-clause-from : goal.invariant_of-deref_mut-clause-from
invariant_of-deref_mut-clause-from g c =
    from-stepped g.D.Pmem.state g.J.Origin.image c.deref_mut.result.now.audited c.in-Some.audited c.step-reply.new.self c.deref_mut.result.now.from c.in-Some.is c.step-reply.ensures.audited

pub invariant_of-deref_mut-clause-kept : goal.invariant_of-deref_mut-clause-kept
invariant_of-deref_mut-clause-kept g c =
    kept-stepped c.deref_mut.result.now.audited c.in-Some.audited c.step-reply.new.self c.args.step c.step-reply.result.0 c.step-reply.result.1 c.deref_mut.result.now.halted _ c.deref_mut.result.now.kept c.in-Some.is
    c.step-reply.ensures.kept c.step-reply.ensures.refused

use Rattle.std.proofs.Common.{◌<◌, ◌∷◌, ◌++◌, [], ◌∙◌, sym, subst, arith}
use Rattle.std.proofs.lemmas.List.{take_all}
use Rattle.pmem.specs.Words.{value_of}
use Rattle.version_slot.specs.declared.words.Slot.{Slot}
use Rattle.version_slot.specs.Words.{IsSlot, slot_at}
use Rattle.recovery.specs.declared.rows.LiveSlot.{LiveSlot}
use Rattle.recovery.proofs.reads.HeldSlots.{row-in, slot-within, is-read, row-read, rows-of}
use Rattle.recovery.proofs.rows.live_rows.Goals as goal

pub read-requires-clause-slot : goal.read-requires-clause-slot
read-requires-clause-slot g c =
    subst (λ (s : LiveSlot). s.slot < c.args.geometry.slots) (sym (c.live-found.ensures ∙ c.kept-item.is))
    (slot-within (g.D.Pmem.state c.args.device.now) c.args.geometry c.requires.size c.args.live.now c.requires.live c.requires.laid_out c.requires.good c.loop-kept.kept-index _ c.loop-kept-test.true)

pub unreachable-requires : goal.unreachable-requires
unreachable-requires g c =
    let device = g.D.Pmem.state c.args.device.now in
    is-read device c.args.geometry c.requires.size c.args.live.now c.requires.live c.requires.laid_out c.requires.good c.loop-kept.kept-index _ c.loop-kept-test.true
    (g.met.D.Pmem.orderly c.args.device.now)
    (subst (λ (s : LiveSlot). (found : Slot) → IsSlot c.args.geometry (slot_at c.args.geometry s.slot (value_of device)) found → ⊥) (c.live-found.ensures ∙ c.kept-item.is) c.in_default.ensures.none)

pub loop-kept-preserved : goal.loop-kept-preserved
loop-kept-preserved g c =
    let device = g.D.Pmem.state c.args.device.now in
    let same = c.live-found.ensures ∙ c.kept-item.is in
    c.in_ok-push.ensures.items
    ∙ (λ i. c.loop-kept.rows.items ++ ((same i).key, c.in-Some.held.version.row) ∷ [])
    ∙ row-read device c.args.geometry c.requires.size c.args.live.now c.requires.live c.requires.laid_out c.requires.good c.loop-kept.kept-index _ c.loop-kept-test.true
    c.loop-kept.rows.items c.in-Some.held (subst (λ (s : LiveSlot). IsSlot c.args.geometry (slot_at c.args.geometry s.slot (value_of device)) c.in-Some.held) same c.in-Some.ensures.some) c.loop-kept.invariant

pub returns : goal.returns
returns g c = grind (arith, row-in, take_all, rows-of)

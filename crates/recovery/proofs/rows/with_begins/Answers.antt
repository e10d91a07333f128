use Rattle.std.proofs.Common.{◌<◌, ◌∙◌, sym, subst}
use Rattle.pmem.specs.Words.{image_of}
use Rattle.recovery.specs.declared.rows.LiveSlot.{LiveSlot}
use Rattle.recovery.proofs.reads.HeldSlots.{live-within}
use Rattle.recovery.proofs.rows.with_begins.Goals as goal

pub with_begin-requires-clause-slot : goal.with_begin-requires-clause-slot
with_begin-requires-clause-slot g c =
    subst (λ (s : LiveSlot). s.slot < c.args.geometry.slots) (sym (c.live.ensures ∙ c.kept-item.is))
    (live-within (image_of (g.D.Pmem.state c.args.device.now)) c.args.geometry.slots c.loop-kept.kept-index _ c.args.live.now c.requires.live c.loop-kept-test.true)

use Rattle.std.proofs.Common.{refl, arith, ◌<◌}
use Rattle.pmem.specs.Words.{image_of}
use Rattle.index.proofs.Slots.{no-slot, holds-as}
use Rattle.index.proofs.Ways.{starts, looks-next}
use Rattle.index.proofs.walking.look.Goals as goal

pub returns-then-slot-slots-clause-looks : goal.returns-then-slot-slots-clause-looks
returns-then-slot-slots-clause-looks g c = grind (arith, starts)

pub returns-then-not-read_into-clause-looks : goal.returns-then-not-read_into-clause-looks
returns-then-not-read_into-clause-looks g c = λ laid target seen leads.
    let first = starts c.args.snapshot.now (image_of (g.D.Pmem.state c.args.device.now)) c.args.key target c.args.bound c.args.slot seen leads in
    let lt : c.args.slot < c.args.geometry.slots = omega (arith, c.if-slot-slots.false, c.slots.ensures.value) in
    no-slot (g.D.Pmem.state c.args.device.now) c.args.geometry c.args.slot c.requires.device lt laid (g.met.D.Pmem.orderly c.args.device.now) (c.if-not-read_into.ensures.none refl) first.0.fits

pub returns-clause-looks : goal.returns-clause-looks
returns-clause-looks g c = λ laid.
    let lt : c.args.slot < c.args.geometry.slots = omega (arith, c.if-slot-slots.false, c.slots.ensures.value) in
    rw c.next_at.ensures (looks-next c.args.snapshot.now (image_of (g.D.Pmem.state c.args.device.now)) c.args.key c.args.bound c.args.slot c.read_into.new.held
    (holds-as (g.D.Pmem.state c.args.device.now) c.args.geometry c.args.slot c.requires.device lt laid c.read_into.new.held (c.if-not-read_into.ensures.some refl)))

use Rattle.std.proofs.Common.{arith}
use Rattle.pmem_file.proofs.Shapes.{blank, blank-zeros}
use Rattle.pmem_file.proofs.shape.is_blank.Goals as goal

pub returns : goal.returns
returns c = (
  λ yes.
      blank c.args.geometry c.args.image.now c.slot_start.result (omega (arith, c.if-image-words.false, c.words.ensures.words)) (omega (arith, c.if-image-ne0.false)) c.slot_start.ensures.value (c.are_zero.ensures.0 yes),
  λ is. c.are_zero.ensures.1 (blank-zeros c.args.geometry c.args.image.now c.slot_start.result is c.slot_start.ensures.value),
)

use Rattle.std.proofs.Common.{◌∙◌, sym, ◌-◌, arith}
use Rattle.log_area.proofs.Codec.{apart_end}
use Rattle.log_area.proofs.order.are_apart.Goals as goal

pub returns : goal.returns
returns c = sym (apart_end c.args.gaps.now (c.loop-i.i - 1) (omega arith)) ∙ c.loop-i.invariant

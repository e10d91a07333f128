use Rattle.std.proofs.Common.{◌∙◌, sym, ◌-◌, arith}
use Rattle.log_area.proofs.Codec.{rising_end}
use Rattle.log_area.proofs.order.are_rising.Goals as goal

pub returns : goal.returns
returns c = sym (rising_end c.args.timestamps.now (c.loop-i.i - 1) (omega arith)) ∙ c.loop-i.invariant

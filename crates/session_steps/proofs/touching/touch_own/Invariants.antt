use Rattle.std.proofs.Common.{◌+◌, map}
use Rattle.std.specs.List.{range_with_len}
use Rattle.dirty_table.specs.Touches.{Touches}
use Rattle.session_steps.proofs.touching.touch_own.Given as goal

abbrev pub invariant-loop-part : goal.invariant-loop-part
invariant-loop-part l = Touches l.session (map (λ part. l.first + part) (range_with_len 0 l.part)) l.fn.dirty l.dirty

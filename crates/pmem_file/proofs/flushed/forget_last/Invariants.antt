use Rattle.std.proofs.Common.{◌≡◌, filter, vec_len}
use Rattle.pmem_file.specs.Flushes.{is_of_another}
use Rattle.pmem_file.proofs.flushed.forget_last.Given as goal

abbrev pub decreases-loop-last : goal.decreases-loop-last
decreases-loop-last l = vec_len l.flushed

abbrev pub invariant-loop-last : goal.invariant-loop-last
invariant-loop-last l = filter (is_of_another l.actor) l.flushed.items ≡ filter (is_of_another l.actor) l.fn.flushed.items

use Rattle.std.proofs.Common.{◌∙◌}
use Rattle.pmem_file.proofs.flushed.forget.Goals as goal

pub returns-then-not-is_empty : goal.returns-then-not-is_empty
returns-then-not-is_empty c = c.forget_each.ensures ∙ c.forget_last.ensures

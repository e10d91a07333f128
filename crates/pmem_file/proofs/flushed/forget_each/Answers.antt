use Rattle.std.proofs.Common.{rules}
use Rattle.std.proofs.lemmas.Fn.{filter_same}
use Rattle.pmem_file.specs.Flushes.{is_of_another}
use Rattle.pmem_file.proofs.flushed.forget_each.Goals as goal

pub returns : goal.returns
returns c = filter_same _ (is_of_another c.args.actor) _ (λ x b f' k. search rules) _ _ c.retain.ensures.filtered

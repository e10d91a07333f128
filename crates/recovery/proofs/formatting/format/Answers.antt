use Rattle.std.proofs.Common.{inr, arith}
use Rattle.base.proofs.Fresh.{fresh-stands}
use Rattle.pmem.proofs.Traces.{words-run}
use Rattle.recovery.proofs.formats.Stages.{image-fresh, format-images, format-images_stopped, format-settled, format-made, format-failure}
use Rattle.recovery.proofs.formatting.format.Goals as goal

pub returns-in-Ok-clause-made : goal.returns-in-Ok-clause-made
returns-in-Ok-clause-made g c = format-made c.args.geometry c.words-2.ensures.limits (omega arith) c.in-Ok.ensures.run

pub returns-in-Ok-clause-settled : goal.returns-in-Ok-clause-settled
returns-in-Ok-clause-settled g c = format-settled c.args.geometry c.words-2.ensures.limits (omega arith) c.in-Ok.ensures.run

pub returns-in-Ok-clause-rest : goal.returns-in-Ok-clause-rest
returns-in-Ok-clause-rest g c word lt = grind (arith, returns-in-Ok-clause-settled, words-run c.in-Ok.ensures.run)

pub returns-in-Ok-clause-image : goal.returns-in-Ok-clause-image
returns-in-Ok-clause-image g c = grind (arith, image-fresh, words-run c.in-Ok.ensures.run, returns-in-Ok-clause-settled g c, c.in-Ok.ensures.run)

pub returns-in-Ok-clause-empty : goal.returns-in-Ok-clause-empty
returns-in-Ok-clause-empty g c = grind (arith, returns-in-Ok-clause-image g c, fresh-stands c.args.geometry c.words-2.ensures.limits, c.words-2.ensures.limits)

pub returns-in-Ok-clause-images : goal.returns-in-Ok-clause-images
returns-in-Ok-clause-images g c = format-images c.args.geometry c.words-2.ensures.limits (omega arith) c.in-Ok.ensures.run

pub returns-in-Err-clause-images : goal.returns-in-Err-clause-images
returns-in-Err-clause-images g c = format-images_stopped c.args.geometry c.words-2.ensures.limits (omega arith) c.in-Err.ensures.stopped

pub returns-in-Err-clause-refusal : goal.returns-in-Err-clause-refusal
returns-in-Err-clause-refusal g c = inr (c.in-Err.ensures.fault, omega arith, format-failure c.args.geometry c.words-2.ensures.limits (omega arith) c.in-Err.ensures.stopped)

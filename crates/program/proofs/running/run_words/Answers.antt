use Rattle.program.proofs.running.run_words.Goals as goal

-- words that give an order don't give none
pub returns-in-Ok-clause-help : goal.returns-in-Ok-clause-help
returns-in-Ok-clause-help g c some nothing zero = absurd (nothing c.in-Ok.order c.in-Ok.ensures.gives)

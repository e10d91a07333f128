use Rattle.std.proofs.Common.{inr, rules}
use Rattle.command_line.proofs.script.take_open_life.Goals as goal

pub returns-then-life-clause-shut : goal.returns-then-life-clause-shut
returns-then-life-clause-shut c = inr (c.pop.new.self.items, c.in_ok-life.life, search rules, c.if-life.true)

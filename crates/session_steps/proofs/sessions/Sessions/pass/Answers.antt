use Rattle.std.proofs.Common.{sym, ◌∙◌}
use Rattle.session_steps.proofs.collector.Passing.{passes-by, passes-none}
use Rattle.session_steps.proofs.sessions.Sessions.pass.Goals as goal

pub returns-then-is_sweeping-clause-passes : goal.returns-then-is_sweeping-clause-passes
returns-then-is_sweeping-clause-passes c = passes-none c.args.self.now

pub returns-clause-passes : goal.returns-clause-passes
returns-clause-passes c = passes-by c.args.self.now c.pass.new.self c.pass.result c.pass.ensures.moved (sym c.is_sweeping.ensures ∙ c.if-is_sweeping.false) c.pass.ensures.passed

use Rattle.std.proofs.Common.{rules}
use Rattle.serving.specs.Served.{Commits}
use Rattle.serving.proofs.Opened.{in-none, in-some}
use Rattle.serving.proofs.session.Session.commit.Goals as goal

pub returns-in-None-clause-made : goal.returns-in-None-clause-made
returns-in-None-clause-made g c = in-none _ Commits c.args.self.now.current (search rules)

pub returns-in-Ok-clause-made : goal.returns-in-Ok-clause-made
returns-in-Ok-clause-made g c = in-some _ Commits c.args.self.now.current c.in-Some.transaction _ (search rules) c.in-Ok.ensures.ok

pub returns-in-Err-clause-made : goal.returns-in-Err-clause-made
returns-in-Err-clause-made g c = in-some _ Commits c.args.self.now.current c.in-Some.transaction _ (search rules) (c.in-Err.error, c.in-Err.ensures.err, c.status_of.ensures)

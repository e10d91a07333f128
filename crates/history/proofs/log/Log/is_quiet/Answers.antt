use Rattle.history.proofs.Marks.{follows-test}
use Rattle.history.proofs.log.Log.is_quiet.Goals as goal

pub returns-then-last-len : goal.returns-then-last-len
returns-then-last-len g c =
    follows-test c.args.session c.from-at.result c.len.result c.self.inside.last c.args.seen.now c.args.self.now c.self.inside.front c.begins.result c.from-at.ensures c.if-at-lt64.true c.len.ensures c.if-last-len.true c.self.invariant c.self.view_is c.begins.ensures.prefix

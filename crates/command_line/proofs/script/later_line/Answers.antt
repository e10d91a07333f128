use Rattle.command_line.proofs.Scripts.{out-of-lives, wrong-by}
use Rattle.command_line.proofs.script.later_line.Goals as goal

pub returns-in-Err-clause-wrong_line : goal.returns-in-Err-clause-wrong_line
returns-in-Err-clause-wrong_line c =
    wrong-by c.in-Err.fault _ _ (λ at is. (is.0, out-of-lives c.args.draft.slots c.args.draft.places c.args.draft.window c.args.draft.lives.items c.args.line is.1)) c.in-Err.ensures.wrong_line

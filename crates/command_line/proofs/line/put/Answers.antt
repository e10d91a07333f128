use Rattle.std.proofs.Common.{rules, tests}
use Rattle.command_line.proofs.Lines.{put-so}
use Rattle.command_line.proofs.line.put.Goals as goal

pub returns-in-Err-clause-memory : goal.returns-in-Err-clause-memory
returns-in-Err-clause-memory c = λ wanted.
    put-so c.args.name.now c.args.session.now c.args.table.now c.args.key.now c.args.bytes.now c.in_ok-session.session c.in_ok-key.key
    (search (rules, tests)) (search rules) (search rules) (c.in-Err.ensures.memory wanted)

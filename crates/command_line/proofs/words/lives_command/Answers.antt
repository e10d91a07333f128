use Rattle.std.proofs.Common.{[], ◌∷◌, codes}
use Rattle.command_line.specs.Help.{name_rule}
use Rattle.command_line.proofs.Help.{one-arg, shape-made}
use Rattle.command_line.proofs.words.lives_command.Goals as goal

pub returns : goal.returns
returns c =
    let rule = name_rule (codes "SCRIPT") in
    shape-made (codes "lives") (rule ∷ []) c.subcommand.result
    (one-arg (codes "lives") [] rule c.name_argument.result c.subcommand.result c.subcommand.ensures c.name_argument.ensures.rule)

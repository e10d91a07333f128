use Rattle.std.proofs.Common.{[], ◌∷◌, codes}
use Rattle.command_line.specs.Help.{name_rule}
use Rattle.command_line.proofs.Help.{one-arg, shape-made}
use Rattle.command_line.proofs.words.check_command.Goals as goal

pub returns : goal.returns
returns c =
    let rule = name_rule (codes "FILE") in
    shape-made (codes "check") (rule ∷ []) c.subcommand.result
    (one-arg (codes "check") [] rule c.file_argument.result c.subcommand.result c.subcommand.ensures c.file_argument.ensures.rule)

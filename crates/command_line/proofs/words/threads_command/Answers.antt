use Rattle.std.proofs.Common.{[], ◌∷◌, ◌∙◌, ap, codes}
use Rattle.clap.specs.Words.{rule_of}
use Rattle.clap.specs.declared.builder.arg.Arg.{Arg}
use Rattle.command_line.specs.Help.{name_rule, number_rule}
use Rattle.command_line.proofs.Help.{one-arg, shape-made, with-arg}
use Rattle.command_line.proofs.words.threads_command.Goals as goal

pub returns : goal.returns
returns c =
    let name = codes "threads" in
    let file = name_rule (codes "FILE") in
    let sessions = number_rule (codes "sessions") (codes "4") 1 32 in
    let commits = number_rule (codes "commits") (codes "8") 1 1000 in
    let one = one-arg name [] file c.file_argument.result c.subcommand-file.result c.subcommand-file.ensures c.file_argument.ensures.rule in
    let two = with-arg name (file ∷ []) sessions c.subcommand-file.result c.help.result c.with_argument-sessions.result c.with_argument-sessions.ensures
    (ap (λ (a : Arg). a.global) c.help.ensures ∙ c.number_option.ensures.global) (ap rule_of c.help.ensures ∙ c.number_option.ensures.rule) one in
    shape-made name _ c.with_argument.result
    (with-arg name (file ∷ sessions ∷ []) commits c.with_argument-sessions.result c.help-2.result c.with_argument.result c.with_argument.ensures
    (ap (λ (a : Arg). a.global) c.help-2.ensures ∙ c.number_option-2.ensures.global) (ap rule_of c.help-2.ensures ∙ c.number_option-2.ensures.rule) two)

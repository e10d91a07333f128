use Rattle.std.proofs.Common.{[], ◌∷◌, ◌∙◌, ap, codes}
use Rattle.clap.specs.Words.{rule_of}
use Rattle.clap.specs.declared.builder.arg.Arg.{Arg}
use Rattle.command_line.specs.Help.{choice_rule, flag_rule, name_rule, number_rule}
use Rattle.command_line.proofs.Help.{one-arg, shape-made, with-arg}
use Rattle.command_line.proofs.words.format_command.Goals as goal

pub returns : goal.returns
returns c =
    let name = codes "format" in
    let file = name_rule (codes "FILE") in
    let slots = number_rule (codes "slots") (codes "1024") 1 16777216 in
    let places = number_rule (codes "places") (codes "4") 2 64 in
    let window = number_rule (codes "window") (codes "64") 4 1024 in
    let one = one-arg name [] file c.file_argument.result c.subcommand-file.result c.subcommand-file.ensures c.file_argument.ensures.rule in
    let two = with-arg name (file ∷ []) slots c.subcommand-file.result c.help.result c.with_argument-slots.result c.with_argument-slots.ensures
    (ap (λ (a : Arg). a.global) c.help.ensures ∙ c.number_option.ensures.global) (ap rule_of c.help.ensures ∙ c.number_option.ensures.rule) one in
    let three = with-arg name (file ∷ slots ∷ []) places c.with_argument-slots.result c.help-2.result c.with_argument-places.result c.with_argument-places.ensures
    (ap (λ (a : Arg). a.global) c.help-2.ensures ∙ c.number_option-2.ensures.global) (ap rule_of c.help-2.ensures ∙ c.number_option-2.ensures.rule) two in
    let four = with-arg name (file ∷ slots ∷ places ∷ []) window c.with_argument-places.result c.help-3.result c.with_argument-window.result
    c.with_argument-window.ensures (ap (λ (a : Arg). a.global) c.help-3.ensures ∙ c.number_option-3.ensures.global)
    (ap rule_of c.help-3.ensures ∙ c.number_option-3.ensures.rule) three in
    let wide = flag_rule (codes "wide") in
    let five = with-arg name (file ∷ slots ∷ places ∷ window ∷ []) wide c.with_argument-window.result c.wide_option.result
    c.with_argument-wide.result c.with_argument-wide.ensures c.wide_option.ensures.global c.wide_option.ensures.rule four in
    shape-made name _ c.with_argument.result
    (with-arg name (file ∷ slots ∷ places ∷ window ∷ wide ∷ []) (choice_rule (codes "lines") 1 8) c.with_argument-wide.result
    c.lines_option.result c.with_argument.result c.with_argument.ensures c.lines_option.ensures.global c.lines_option.ensures.rule five)

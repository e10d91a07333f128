use Rattle.std.proofs.Common.{◌≡◌, [], ◌∙◌, ap, refl}
use Rattle.clap.specs.Simple.{app_of_fields}
use Rattle.clap.specs.Words.{app_of, rule_of}
use Rattle.command_line.specs.Help.{app_with}
use Rattle.command_line.proofs.Help.{first-arg}
use Rattle.command_line.proofs.words.subcommand.Goals as goal

pub returns : goal.returns
returns c =
    let bare : app_of c.after_help.result ≡ app_with c.args.name.now [] =
    ap app_of_fields c.after_help.ensures ∙ (ap app_of_fields c.about.ensures ∙ c.new.ensures.app) in
    first-arg c.args.name.now [] (rule_of c.args.argument) c.after_help.result c.args.argument c.arg.result c.arg.ensures c.requires refl bare

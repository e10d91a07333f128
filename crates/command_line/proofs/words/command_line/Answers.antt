use Rattle.std.proofs.Common.{refl}
use Rattle.clap.specs.Words.{with_subcommand}
use Rattle.command_line.specs.Help.{check_shape, format_shape, lives_shape, run_shape, threads_shape, wbl_alone}
use Rattle.command_line.proofs.Help.{with-sub}
use Rattle.command_line.proofs.words.command_line.Goals as goal

pub returns : goal.returns
returns c =
    let one = with_subcommand wbl_alone format_shape in
    let two = with_subcommand one run_shape in
    let three = with_subcommand two check_shape in
    let format = with-sub wbl_alone format_shape c.program.result c.format_command.result c.with_subcommand-format.result c.with_subcommand-format.ensures
    c.format_command.ensures refl c.program.ensures in
    let run = with-sub one run_shape c.with_subcommand-format.result c.run_command.result c.with_subcommand-run.result c.with_subcommand-run.ensures
    c.run_command.ensures refl format in
    let check = with-sub two check_shape c.with_subcommand-run.result c.check_command.result c.with_subcommand-check.result c.with_subcommand-check.ensures
    c.check_command.ensures refl run in
    let lives = with-sub three lives_shape c.with_subcommand-check.result c.lives_command.result c.with_subcommand-lives.result
    c.with_subcommand-lives.ensures c.lives_command.ensures refl check in
    with-sub (with_subcommand three lives_shape) threads_shape c.with_subcommand-lives.result c.threads_command.result c.with_subcommand.result
    c.with_subcommand.ensures c.threads_command.ensures refl lives

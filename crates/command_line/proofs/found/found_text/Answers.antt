use Rattle.clap.specs.Words.{found_of}
use Rattle.command_line.proofs.Matches.{text-found}
use Rattle.command_line.proofs.found.found_text.Goals as goal

pub returns : goal.returns
returns c = text-found (found_of c.args.found.now) c.args.argument.now c.get_str.result c.get_str.ensures

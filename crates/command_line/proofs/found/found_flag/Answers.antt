use Rattle.std.specs.Str.Parse.{ParsesBool}
use Rattle.clap.specs.Words.{found_of}
use Rattle.command_line.proofs.Matches.{flag-found, no-flag-found}
use Rattle.command_line.proofs.found.found_flag.Goals as goal

pub returns-clause-is : goal.returns-clause-is
returns-clause-is c =
    flag-found ParsesBool (λ text r given. given) (found_of c.args.found.now) c.args.option.now c.get_one.result c.get_one.ensures.none c.get_one.ensures.value

pub returns-clause-none : goal.returns-clause-none
returns-clause-none c =
    no-flag-found ParsesBool (λ text r given. given) (found_of c.args.found.now) c.args.option.now c.get_one.result c.get_one.ensures.none c.get_one.ensures.value

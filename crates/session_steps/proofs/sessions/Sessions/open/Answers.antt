use Rattle.std.proofs.Common.{refl}
use Rattle.session_steps.proofs.openings.States.{shows-opened}
use Rattle.session_steps.proofs.sessions.Sessions.open.Goals as goal

pub returns : goal.returns
returns g = λ device orderly found q begins upholds.
    shows-opened _ device g.args.slots q refl g.requires.replaced g.new-3.ensures begins upholds orderly g.new.ensures g.new-2.ensures g.requires.untouched g.requires.sized g.requires.slots (λ laid. found)

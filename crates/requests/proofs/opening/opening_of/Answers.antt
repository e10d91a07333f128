use Rattle.requests.proofs.Openings.{no-text}
use Rattle.requests.proofs.opening.opening_of.Goals as goal

pub returns-in_default-from_utf8 : goal.returns-in_default-from_utf8
returns-in_default-from_utf8 c =
    no-text c.args.head.now c.args.payload.now c.in-Some.layout c.in-Some.name.now c.in-Some.ensures.0 c.in-Some.ensures.1 c.in_default-from_utf8.ensures.cases.0

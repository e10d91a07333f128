use Rattle.std.proofs.Common.{refl}
use Rattle.database.specs.Committing.{IsBegunWith}
use Rattle.room.proofs.Runs.{ends-run}
use Rattle.database.proofs.locked.Locked.begin_with.Goals as goal

pub returns-then-is_ok-clause-steps : goal.returns-then-is_ok-clause-steps
returns-then-is_ok-clause-steps g c = (c.in-Some.room, c.begin_with-begun.new.room, c.in-Some.is, refl, c.begin_with-begun.ensures.steps)

pub returns-then-is_ok-clause-made : goal.returns-then-is_ok-clause-made
returns-then-is_ok-clause-made g c =
    let a = c.begin_with-begun.ensures.steps in
    ends-run g.D.Pmem.state c.in-Some.room.room c.begin_with-begun.new.room.room a.0 (IsBegunWith c.args.writes.now c.begin_with-begun.result) c.in-Some.room.run a.1 a.2

pub returns-else-is_ok-clause-steps : goal.returns-else-is_ok-clause-steps
returns-else-is_ok-clause-steps g c = (c.in-Some.room, c.begin_with-begun.new.room, c.in-Some.is, refl, c.begin_with-begun.ensures.steps)

pub returns-else-is_ok-clause-made : goal.returns-else-is_ok-clause-made
returns-else-is_ok-clause-made g c =
    let a = c.begin_with-begun.ensures.steps in
    ends-run g.D.Pmem.state c.in-Some.room.room c.begin_with-begun.new.room.room a.0 (IsBegunWith c.args.writes.now c.begin_with-begun.result) c.in-Some.room.run a.1 a.2

use Rattle.base.specs.declared.step.Step.TheVariants.{Begin}
use Rattle.database.specs.Replies.{began_of}
use Rattle.std.specs.Prelude.{is_ok}
use Rattle.database.specs.Histories.{Logs, TookFree, made_if}
use Rattle.database.proofs.Histories.{in-room}
use Rattle.database.proofs.Runs.{answers-step}
use Rattle.database.proofs.locked.Locked.begin.Goals as goal

pub returns-then-is_ok-clause-made : goal.returns-then-is_ok-clause-made
returns-then-is_ok-clause-made g c =
    answers-step g.D.Pmem.state c.in-Some.room.room c.begin-begun.new.room.room Begin began_of c.begin-begun.result c.in-Some.room.run c.begin-begun.ensures.step

pub returns-else-is_ok-clause-made : goal.returns-else-is_ok-clause-made
returns-else-is_ok-clause-made g c =
    answers-step g.D.Pmem.state c.in-Some.room.room c.begin-begun.new.room.room Begin began_of c.begin-begun.result c.in-Some.room.run c.begin-begun.ensures.step

pub returns-then-is_ok-clause-log : goal.returns-then-is_ok-clause-log
returns-then-is_ok-clause-log g c =
    in-room (λ log. Logs (made_if (is_ok c.begin-begun.result) Begin) log c.begin-begun.new.room.log) c.args.self.now.room c.in-Some.room c.in-Some.is c.begin-begun.ensures.log

pub returns-then-is_ok-clause-free : goal.returns-then-is_ok-clause-free
returns-then-is_ok-clause-free g c = in-room (λ log. TookFree g.J.Origin.opened log c.begin-begun.result) c.args.self.now.room c.in-Some.room c.in-Some.is c.begin-begun.ensures.free

pub returns-else-is_ok-clause-log : goal.returns-else-is_ok-clause-log
returns-else-is_ok-clause-log g c =
    in-room (λ log. Logs (made_if (is_ok c.begin-begun.result) Begin) log c.begin-begun.new.room.log) c.args.self.now.room c.in-Some.room c.in-Some.is c.begin-begun.ensures.log

pub returns-else-is_ok-clause-free : goal.returns-else-is_ok-clause-free
returns-else-is_ok-clause-free g c = in-room (λ log. TookFree g.J.Origin.opened log c.begin-begun.result) c.args.self.now.room c.in-Some.room c.in-Some.is c.begin-begun.ensures.free

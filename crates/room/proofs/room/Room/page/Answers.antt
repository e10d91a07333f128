use Rattle.std.proofs.Common.{refl, ◌∙◌}
use Rattle.base.specs.declared.fault.Fault.TheVariants.{Failed}
use Rattle.base.specs.declared.step.Step.TheVariants.{Scan}
use Rattle.machine.specs.Machine.{refused}
use Rattle.machine.proofs.Failures.{failed-refuses}
use Rattle.session_steps.specs.Reads.{ReadsPage}
use Rattle.session_steps.proofs.reads.Pages.{shown-so}
use Rattle.room.proofs.Calls.{held-on}
use Rattle.room.proofs.room.Room.page.Goals as goal

pub returns-then-self : goal.returns-then-self
returns-then-self g c = λ q shows. refused Failed (failed-refuses q (Scan c.args.session c.args.first.table c.args.first.key c.args.last.key) (shows.agrees.failed ∙ c.if-self.true)) refl refl

pub page-requires : goal.page-requires
page-requires g c = record { shown = held-on c.args.self.now.volatile (g.D.Pmem.state c.args.self.now.device) c.args.self.now.failed c.if-self.false c.args.self.now.shown }

pub returns : goal.returns
returns g c = λ q shows.
    shown-so c.args.self.now.volatile.sessions (g.D.Pmem.state c.args.self.now.device) q shows.agrees.shown.shown (shows.agrees.failed ∙ c.if-self.false)
    (λ p. ReadsPage p c.args.session c.args.first c.args.last c.args.limit c.page.result) c.page.ensures

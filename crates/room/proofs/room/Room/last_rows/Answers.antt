use Rattle.std.proofs.Common.{ℕ, List, take, reverse, refl, ◌∙◌}
use Rattle.base.specs.declared.key.Key.{Key}
use Rattle.base.specs.declared.fault.Fault.TheVariants.{Failed}
use Rattle.base.specs.declared.step.Step.TheVariants.{Scan}
use Rattle.machine.specs.Machine.{refused}
use Rattle.machine.proofs.Failures.{failed-refuses}
use Rattle.session_steps.specs.Reads.{WouldReply, last_of}
use Rattle.session_steps.proofs.reads.Pages.{refused-read, shown-so}
use Rattle.room.proofs.Calls.{held-on}
use Rattle.room.proofs.room.Room.last_rows.Goals as goal

pub returns-then-self : goal.returns-then-self
returns-then-self g c = λ q shows.
    refused-read (λ (rows : List (Key × List ℕ)). take c.args.limit (reverse rows)) q c.args.session c.args.table c.args.lo c.args.hi Failed (refused Failed (failed-refuses q (Scan c.args.session c.args.table c.args.lo c.args.hi) (shows.agrees.failed ∙ c.if-self.true)) refl refl)

pub last_rows-requires : goal.last_rows-requires
last_rows-requires g c = record { shown = held-on c.args.self.now.volatile (g.D.Pmem.state c.args.self.now.device) c.args.self.now.failed c.if-self.false c.args.self.now.shown }

pub returns : goal.returns
returns g c = λ q shows.
    shown-so c.args.self.now.volatile.sessions (g.D.Pmem.state c.args.self.now.device) q shows.agrees.shown.shown (shows.agrees.failed ∙ c.if-self.false)
    (λ p. WouldReply p (Scan c.args.session c.args.table c.args.lo c.args.hi) (last_of c.args.limit) c.last_rows.result) c.last_rows.ensures

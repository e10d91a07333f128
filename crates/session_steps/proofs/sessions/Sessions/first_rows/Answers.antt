use Rattle.std.proofs.Math.Nat.{ℕ_set}
use Rattle.std.proofs.Math.Logic.{∥∥₁_elim}
use Rattle.std.proofs.Common.{ℕ, List, take, sym, subst}
use Rattle.std.specs.Prelude.{Ok}
use Rattle.base.specs.declared.key.Key.{Key}
use Rattle.base.specs.declared.fault.Fault.TheVariants.{OutOfMemory}
use Rattle.base.specs.declared.step.Step.TheVariants.{Scan}
use Rattle.session_steps.specs.Shows.{plain_of}
use Rattle.session_steps.specs.Reads.{WouldReply, first_of}
use Rattle.session_steps.proofs.reads.Rows.{words-are}
use Rattle.session_steps.proofs.reads.Pages.{barred, lacks-memory, refused-read, firsts-read}
use Rattle.session_steps.proofs.sessions.Sessions.first_rows.Goals as goal

pub first_seen-requires : goal.first_seen-requires
first_seen-requires g c = record { device = ∥∥₁_elim c.requires.shown (ℕ_set _ _) (λ shown. words-are _ _ (g.D.Pmem.state c.args.device.now) (g.met.D.Pmem.orderly _) shown.1.upholds) }

pub returns-in-Err : goal.returns-in-Err
returns-in-Err g c = λ h holds. refused-read (λ (rows : List (Key × List ℕ)). take c.args.limit rows) (plain_of c.args.self.now h) c.args.session c.args.table c.args.lo c.args.hi c.in-Err.fault (barred c.args.self.now (g.D.Pmem.state c.args.device.now) c.args.session c.args.table c.args.lo c.args.hi c.in-Err.fault h c.in-Err.ensures.fault holds)

pub returns-in-Ok-first_seen : goal.returns-in-Ok-first_seen
returns-in-Ok-first_seen g c = λ h holds.
    subst (λ (rows : List (Key × List ℕ)). WouldReply (plain_of c.args.self.now h) (Scan c.args.session c.args.table c.args.lo c.args.hi) (first_of c.args.limit) (Ok rows)) (sym c.first_of.ensures)
    (firsts-read c.args.self.now (g.D.Pmem.state c.args.device.now) c.args.session _ _ h (g.met.D.Pmem.orderly _) c.in-Ok.ensures.ok holds c.args.table c.args.lo c.args.hi c.args.limit c.in-Ok-first_seen.seen.rows.items c.in-Ok-first_seen.seen.reached c.in-Ok-first_seen.ensures.rows c.in-Ok-first_seen.ensures.reached)

pub returns-in-Err-first_seen : goal.returns-in-Err-first_seen
returns-in-Err-first_seen g c = λ h holds. refused-read (λ (rows : List (Key × List ℕ)). take c.args.limit rows) (plain_of c.args.self.now h) c.args.session c.args.table c.args.lo c.args.hi OutOfMemory (lacks-memory c.args.self.now (g.D.Pmem.state c.args.device.now) c.args.session c.args.table c.args.lo c.args.hi _ _ h c.in-Ok.ensures.ok holds)

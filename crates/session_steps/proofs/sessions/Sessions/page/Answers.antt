use Rattle.std.proofs.Math.Nat.{ℕ_set}
use Rattle.std.proofs.Math.Logic.{∥∥₁_elim}
use Rattle.std.proofs.Common.{ℕ, List, sym, subst}
use Rattle.std.specs.Prelude.{Ok}
use Rattle.base.specs.declared.key.Key.{Key}
use Rattle.session_steps.specs.Shows.{plain_of}
use Rattle.session_steps.specs.Reads.{ReadsPage}
use Rattle.session_steps.proofs.reads.Rows.{words-are}
use Rattle.session_steps.proofs.reads.Pages.{barred, lacks-memory, page-read}
use Rattle.session_steps.proofs.sessions.Sessions.page.Goals as goal

pub first_seen-requires : goal.first_seen-requires
first_seen-requires g c = record { device = ∥∥₁_elim c.requires.shown (ℕ_set _ _) (λ shown. words-are _ _ (g.D.Pmem.state c.args.device.now) (g.met.D.Pmem.orderly _) shown.1.upholds) }

pub returns-in-Err : goal.returns-in-Err
returns-in-Err g c = λ h holds. barred c.args.self.now (g.D.Pmem.state c.args.device.now) c.args.session c.args.first.table c.args.first.key c.args.last.key c.in-Err.fault h c.in-Err.ensures.fault holds

pub returns-in-Ok-first_seen : goal.returns-in-Ok-first_seen
returns-in-Ok-first_seen g c = λ h holds.
    subst (λ (rows : List (Key × List ℕ)). ReadsPage (plain_of c.args.self.now h) c.args.session c.args.first c.args.last c.args.limit (Ok (record { rows = rows; reached = c.in-Ok-first_seen.seen.reached }))) (sym c.new.ensures)
    (page-read c.args.self.now (g.D.Pmem.state c.args.device.now) c.args.session _ _ h (g.met.D.Pmem.orderly _) c.in-Ok.ensures.ok holds c.args.first c.args.last c.args.limit (record { rows = c.in-Ok-first_seen.seen.rows.items; reached = c.in-Ok-first_seen.seen.reached }) c.in-Ok-first_seen.ensures.rows c.in-Ok-first_seen.ensures.reached)

pub returns-in-Err-first_seen : goal.returns-in-Err-first_seen
returns-in-Err-first_seen g c = λ h holds. lacks-memory c.args.self.now (g.D.Pmem.state c.args.device.now) c.args.session c.args.first.table c.args.first.key c.args.last.key _ _ h c.in-Ok.ensures.ok holds

use Rattle.std.proofs.Math.Nat.{ℕ_set}
use Rattle.std.proofs.Math.Logic.{∥∥₁_elim}
use Rattle.std.proofs.Common.{ℕ, List, refl, sym, subst}
use Rattle.base.specs.declared.key.Key.{Key}
use Rattle.base.specs.declared.step.SessionStep.TheVariants.{Scan}
use Rattle.base.specs.declared.step.SessionReply.TheVariants.{Rows}
use Rattle.session_steps.specs.Steps.{Goes}
use Rattle.session_steps.proofs.transactions.Steps.{inactive}
use Rattle.session_steps.proofs.reads.Rows.{words-are}
use Rattle.session_steps.proofs.reads.Scans.{scans-nothing, scans-seen}
use Rattle.session_steps.proofs.Stepping.{held-on}
use Rattle.session_steps.proofs.sessions.Sessions.scan.Goals as goal

pub seen_rows-requires : goal.seen_rows-requires
seen_rows-requires g c = record { device = ∥∥₁_elim c.requires.shown (ℕ_set _ _) (λ shown. words-are _ _ (g.D.Pmem.state c.args.device.now) (g.met.D.Pmem.orderly _) shown.1.upholds) }

pub returns-in-Err : goal.returns-in-Err
returns-in-Err g c = record { step = λ h holds. inactive c.args.self.now (Scan c.args.session c.args.table c.args.lo c.args.hi) c.args.session c.in-Err.fault h refl refl c.in-Err.ensures.fault (held-on c.args.self.now h _ holds) }

pub returns-in-Ok-seen_rows : goal.returns-in-Ok-seen_rows
returns-in-Ok-seen_rows g c = record {
  step = λ h holds.
      subst (λ (rows : List (Key × List ℕ)). Goes c.args.self.now c.args.self.now (Scan c.args.session c.args.table c.args.lo c.args.hi) (Rows rows) h) (sym c.new.ensures)
      (scans-seen c.args.self.now (g.D.Pmem.state c.args.device.now) c.args.session c.args.table c.args.lo c.args.hi _ _ _ h (g.met.D.Pmem.orderly _) c.in-Ok.ensures.ok c.in-Ok-seen_rows.ensures holds);
}

pub returns-in-Err-seen_rows : goal.returns-in-Err-seen_rows
returns-in-Err-seen_rows g c = record { step = λ h holds. scans-nothing c.args.self.now c.args.session c.args.table c.args.lo c.args.hi _ _ h c.in-Ok.ensures.ok (held-on c.args.self.now h _ holds) }

use Rattle.std.proofs.Math.Nat.{ℕ_set}
use Rattle.std.proofs.Math.Logic.{∥∥₁_elim}
use Rattle.std.proofs.Common.{refl, sym}
use Rattle.base.specs.declared.step.SessionStep.TheVariants.{Get}
use Rattle.session_steps.proofs.transactions.Steps.{inactive}
use Rattle.session_steps.proofs.reads.Rows.{gets-own, gets-seen, words-are}
use Rattle.session_steps.proofs.Stepping.{held-on}
use Rattle.session_steps.proofs.sessions.Sessions.get_into.Goals as goal

pub walk_into-requires : goal.walk_into-requires
walk_into-requires g c = record { device = ∥∥₁_elim c.requires.shown (ℕ_set _ _) (λ shown. words-are _ _ (g.D.Pmem.state c.args.device.now) (g.met.D.Pmem.orderly _) shown.1.upholds) }

pub returns-in-Err : goal.returns-in-Err
returns-in-Err g c = record { step = λ h holds. inactive c.args.self.now (Get c.args.session c.args.key) c.args.session c.in-Err.fault h refl refl c.in-Err.ensures.fault (held-on c.args.self.now h _ holds) }

pub returns-in-Some-row : goal.returns-in-Some-row
returns-in-Some-row g c = record { step = λ h holds. gets-own c.args.self.now c.args.session c.args.key _ _ _ c.in-Some.write.now h c.in-Ok.ensures.ok (sym c.in-Some.ensures) (sym c.in-Some-row.is) (held-on c.args.self.now h _ holds) }

pub returns-in-None-row : goal.returns-in-None-row
returns-in-None-row g c = record { step = λ h holds. gets-own c.args.self.now c.args.session c.args.key _ _ _ c.in-Some.write.now h c.in-Ok.ensures.ok (sym c.in-Some.ensures) (sym c.in-None-row.is) (held-on c.args.self.now h _ holds) }

pub returns-in-Some-walk_into : goal.returns-in-Some-walk_into
returns-in-Some-walk_into g c = record { step = λ h holds. gets-seen c.args.self.now (g.D.Pmem.state c.args.device.now) c.args.session c.args.key _ _ _ h (g.met.D.Pmem.orderly _) c.in-Ok.ensures.ok (sym c.in-None.ensures) c.in-Some-walk_into.ensures.tables holds }

pub returns-in-None-walk_into : goal.returns-in-None-walk_into
returns-in-None-walk_into g c = record { step = λ h holds. gets-seen c.args.self.now (g.D.Pmem.state c.args.device.now) c.args.session c.args.key _ _ _ h (g.met.D.Pmem.orderly _) c.in-Ok.ensures.ok (sym c.in-None.ensures) c.in-None-walk_into.ensures.tables holds }

use Rattle.std.proofs.Math.Bool.{Bool-set}
use Rattle.std.proofs.Math.Nat.{ℕ_set}
use Rattle.std.proofs.lemmas.Result.{IfOk-weaker}
use Rattle.std.proofs.Math.Logic.{∥∥₁_elim}
use Rattle.session_steps.proofs.reads.Tables.{gaps-shown, words-shown, tables-read}
use Rattle.session_steps.proofs.sessions.Sessions.tables.Goals as goal

pub snapshot-snapshot-requires : goal.snapshot-snapshot-requires
snapshot-snapshot-requires g c = ∥∥₁_elim c.requires.shown (Bool-set _ _) (gaps-shown c.args.self.now (g.D.Pmem.state c.args.device.now))

pub rows-requires : goal.rows-requires
rows-requires g c = record { device = ∥∥₁_elim c.requires.shown (ℕ_set _ _) (words-shown c.args.self.now (g.D.Pmem.state c.args.device.now) (g.met.D.Pmem.orderly _)) }

pub returns-clause-ok : goal.returns-clause-ok
returns-clause-ok g c = IfOk-weaker c.rows.result _ _ (λ rows read. tables-read c.args.self.now (g.D.Pmem.state c.args.device.now) _ rows.items (g.met.D.Pmem.orderly _) c.snapshot-snapshot.ensures read) c.rows.ensures.ok

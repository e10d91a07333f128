use Rattle.std.proofs.Common.{sym, subst, ℕ, ◌≤◌}
use Rattle.std.proofs.Math.Bridge.{le_prop}
use Rattle.std.proofs.Math.Nat.{ℕ_set}
use Rattle.std.proofs.Math.Logic.{∥∥₁_elim}
use Rattle.std.specs.Prelude.{Option, Some}
use Rattle.txn.specs.declared.transaction.Transaction.TheVariants.{Active}
use Rattle.txn.specs.declared.write.Write.{Write}
use Rattle.txn.specs.Transactions.{Sets}
use Rattle.txn.specs.WriteSets.{with_write_at}
use Rattle.version_slot.specs.Words.{link_number}
use Rattle.session_steps.proofs.puts.Steps.{own-within, link-fits, puts-own, puts-own-stopped}
use Rattle.session_steps.proofs.reads.Rows.{words-are}
use Rattle.session_steps.proofs.Stepping.{held-on}
use Rattle.session_steps.proofs.sessions.Sessions.fill_own.Goals as goal

pub fill-requires-clause-slot : goal.fill-requires-clause-slot
fill-requires-clause-slot g c = ∥∥₁_elim c.requires.shown le_prop (λ shown. own-within c.args.self.now shown.0 c.args.session _ _ c.args.key c.args.slot (held-on c.args.self.now shown.0 _ shown.1) c.requires.ready.active c.requires.ready.slot)

pub fill-requires-clause-previous : goal.fill-requires-clause-previous
fill-requires-clause-previous g c =
    subst (λ (o : Option ℕ). link_number o ≤ c.args.self.now.numbers.geometry.slots) (sym c.known-found.ensures) (∥∥₁_elim c.requires.shown le_prop (λ shown. link-fits c.args.self.now shown.0 c.args.key (held-on c.args.self.now shown.0 _ shown.1)))

pub fill-requires-clause-device : goal.fill-requires-clause-device
fill-requires-clause-device g c = ∥∥₁_elim c.requires.shown (ℕ_set _ _) (λ shown. words-are _ _ (g.D.Pmem.state c.args.device.now) (g.met.D.Pmem.orderly _) shown.1.upholds)

pub returns-in-Ok-clause-step : goal.returns-in-Ok-clause-step
returns-in-Ok-clause-step g c = λ h holds.
    puts-own c.args.self.now h c.args.session c.requires.ready.snapshot c.requires.ready.writes (record { key = c.args.key; row = c.args.row.now; previous = c.known-found.result.link }) c.args.slot c.known-found.result.place (g.D.Pmem.state c.args.device.now) (g.D.Pmem.state c.fill.new.device) holds
    c.requires.ready.active c.requires.ready.fits c.requires.row c.requires.ready.slot c.write.new.self
    (subst (λ (w : Write). Sets c.args.self.now.transactions c.write.new.self c.args.session (Some (Active c.requires.ready.snapshot (with_write_at w c.requires.ready.writes)))) c.row_write.ensures (c.write.ensures _ _ c.requires.ready.active))
    c.in-Ok.ensures.version.fits c.known-found.ensures c.in-Ok.ensures.run

pub returns-in-Err-clause-step : goal.returns-in-Err-clause-step
returns-in-Err-clause-step g c = λ h holds.
    puts-own-stopped c.args.self.now h c.args.session c.requires.ready.snapshot c.requires.ready.writes (record { key = c.args.key; row = c.args.row.now; previous = c.known-found.result.link }) c.args.slot c.known-found.result.place (g.D.Pmem.state c.args.device.now) (g.D.Pmem.state c.fill.new.device) holds
    c.requires.ready.active c.requires.ready.fits c.requires.row c.requires.ready.slot c.in-Err.fault c.in-Err.ensures.fault c.in-Err.ensures.stopped

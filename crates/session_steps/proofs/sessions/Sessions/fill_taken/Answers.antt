use Rattle.std.proofs.Common.{◌≡◌, sym, ◌∙◌, ap, subst, ℕ, Bool, true, List, ◌≤◌, arith}
use Rattle.std.proofs.Math.Bridge.{le_prop}
use Rattle.std.proofs.Math.Nat.{ℕ_set}
use Rattle.std.proofs.Math.Logic.{∥∥₁_elim}
use Rattle.std.specs.Prelude.{Option, Some, Err, slice_set}
use Rattle.pmem.proofs.Traces.{runs-then}
use Rattle.txn.specs.declared.transaction.Transaction.TheVariants.{Active}
use Rattle.txn.specs.declared.write.Write.{Write}
use Rattle.txn.specs.Transactions.{Sets}
use Rattle.txn.specs.WriteSets.{with_write_at}
use Rattle.slot_alloc.specs.Free.{lowest_free}
use Rattle.pmem.specs.Trace.{Runs, StopsWithin}
use Rattle.version_slot.specs.Operations.{clear_operations}
use Rattle.version_slot.specs.Words.{link_number}
use Rattle.session_steps.proofs.puts.Steps.{free-within, link-fits, puts-taken, puts-untaken, puts-returned, taken-within}
use Rattle.session_steps.proofs.reads.Rows.{words-are}
use Rattle.session_steps.proofs.Stepping.{held-on}
use Rattle.session_steps.proofs.sessions.Sessions.fill_taken.Goals as goal

pub take-requires-clause-slots : goal.take-requires-clause-slots
take-requires-clause-slots g c = ∥∥₁_elim c.requires.shown (ℕ_set _ _) (λ shown. shown.1.agrees.counted)

pub take-requires-clause-device : goal.take-requires-clause-device
take-requires-clause-device g c = ∥∥₁_elim c.requires.shown (ℕ_set _ _) (λ shown. words-are _ _ (g.D.Pmem.state c.args.device.now) (g.met.D.Pmem.orderly _) shown.1.upholds)

pub fill-requires-clause-slot : goal.fill-requires-clause-slot
fill-requires-clause-slot g c = ∥∥₁_elim c.requires.shown le_prop (λ shown. free-within c.args.self.now shown.0 c.in-Ok.slot (held-on c.args.self.now shown.0 _ shown.1) c.in-Ok.ensures.lowest)

pub fill-requires-clause-previous : goal.fill-requires-clause-previous
fill-requires-clause-previous g c =
    let le : link_number c.known-found.result.link ≤ c.args.self.now.numbers.geometry.slots = subst (λ (o : Option ℕ). link_number o ≤ c.args.self.now.numbers.geometry.slots) (sym c.known-found.ensures) (∥∥₁_elim c.requires.shown le_prop (λ shown. link-fits c.args.self.now shown.0 c.args.key (held-on c.args.self.now shown.0 _ shown.1))) in
    omega (arith, le)

pub fill-requires-clause-device : goal.fill-requires-clause-device
fill-requires-clause-device g c = c.take.ensures.size ∙ ∥∥₁_elim c.requires.shown (ℕ_set _ _) (λ shown. words-are _ _ (g.D.Pmem.state c.args.device.now) (g.met.D.Pmem.orderly _) shown.1.upholds)

pub returns-in-Err-clause-step : goal.returns-in-Err-clause-step
returns-in-Err-clause-step g c = λ h holds.
    puts-untaken c.args.self.now h c.args.session c.requires.ready.snapshot c.requires.ready.writes (record { key = c.args.key; row = c.args.row.now; previous = c.known-found.result.link }) c.take.new.self (g.D.Pmem.state c.args.device.now) (g.D.Pmem.state c.take.new.device) c.in-Err.fault
    (g.met.D.Pmem.orderly _) holds c.requires.ready.active c.requires.ready.fits c.requires.row c.requires.ready.slot c.in-Err.ensures.err c.in-Err.ensures.fault (λ is. c.take.ensures.out.0 (c.in-Err.is ∙ ap Err is)) (λ is. c.take.ensures.unmoved (c.in-Err.is ∙ ap Err is))
    (λ is. subst (λ (k : ℕ). (slot : ℕ) × (lowest_free c.args.self.now.slots ≡ Some slot) × StopsWithin (clear_operations c.args.self.now.numbers.geometry k slot) (g.D.Pmem.state c.args.device.now) (g.D.Pmem.state c.take.new.device)) c.session.ensures (c.take.ensures.stopped (c.in-Err.is ∙ ap Err is)))

pub returns-in-Ok-fill-clause-step : goal.returns-in-Ok-fill-clause-step
returns-in-Ok-fill-clause-step g c = λ h holds.
    puts-taken c.args.self.now h c.args.session c.requires.ready.snapshot c.requires.ready.writes (record { key = c.args.key; row = c.args.row.now; previous = _ }) c.in-Ok.slot c.known-found.result.place (g.D.Pmem.state c.args.device.now) (g.D.Pmem.state c.fill.new.device) holds
    c.requires.ready.active c.requires.ready.fits c.requires.row c.requires.ready.slot c.in-Ok.ensures.lowest c.write.new.self c.take.new.self
    c.in-Ok.ensures.taken
    (subst (λ (w : Write). Sets c.args.self.now.transactions c.write.new.self c.args.session (Some (Active c.requires.ready.snapshot (with_write_at w c.requires.ready.writes)))) c.row_write.ensures (c.write.ensures _ _ c.requires.ready.active))
    c.in-Ok-fill.ensures.version.fits c.known-found.ensures (runs-then (subst (λ (k : ℕ). Runs (clear_operations c.args.self.now.numbers.geometry k c.in-Ok.slot) (g.D.Pmem.state c.args.device.now) (g.D.Pmem.state c.take.new.device)) c.session.ensures c.in-Ok.ensures.run) c.in-Ok-fill.ensures.run)

pub returns-in-Err-fill-clause-step : goal.returns-in-Err-fill-clause-step
returns-in-Err-fill-clause-step g c = λ h holds.
    puts-returned c.args.self.now h c.args.session c.requires.ready.snapshot c.requires.ready.writes (record { key = c.args.key; row = c.args.row.now; previous = _ }) c.in-Ok.slot c.give.new.self (g.D.Pmem.state c.args.device.now) (g.D.Pmem.state c.take.new.device)
    (g.D.Pmem.state c.fill.new.device) c.in-Err-fill.fault holds c.requires.ready.active c.requires.ready.fits c.requires.row c.requires.ready.slot c.in-Ok.ensures.lowest
    (c.give.ensures ∙ ap (λ (xs : List Bool). slice_set xs c.in-Ok.slot true) c.in-Ok.ensures.taken) c.in-Err-fill.ensures.fault (subst (λ (k : ℕ). Runs (clear_operations c.args.self.now.numbers.geometry k c.in-Ok.slot) (g.D.Pmem.state c.args.device.now) (g.D.Pmem.state c.take.new.device)) c.session.ensures c.in-Ok.ensures.run) c.in-Err-fill.ensures.stopped

pub give-requires : goal.give-requires
give-requires g c = taken-within c.args.self.now.slots c.take.new.self c.in-Ok.slot c.in-Ok.ensures.lowest c.in-Ok.ensures.taken

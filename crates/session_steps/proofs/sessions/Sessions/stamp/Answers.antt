use Rattle.std.proofs.Common.{refl, ◌∙◌, ap, subst, ℕ}
use Rattle.base.specs.declared.fault.Fault.TheVariants.{Device as DeviceFault}
use Rattle.std.proofs.Math.Bool.{Bool-set}
use Rattle.std.proofs.Math.Nat.{ℕ_set}
use Rattle.std.proofs.Math.Logic.{∥∥₁_elim}
use Rattle.std.specs.Prelude.{Option, ◌++◌}
use Rattle.base.specs.declared.step.SessionStep.TheVariants.{Stamp}
use Rattle.pmem.specs.Trace.{Runs, StopsWithin}
use Rattle.version_slot.specs.Operations.{begin_operations, end_operations}
use Rattle.machine.specs.Machine.{ByCommit}
use Rattle.index.specs.Entries.{entry_at, live_of}
use Rattle.state_invariant.specs.Kept.{version_by}
use Rattle.device_invariant.specs.Slots.{newest_of}
use Rattle.session_steps.specs.Giving.{fits_slot}
use Rattle.session_steps.specs.Shows.{plain_of}
use Rattle.session_steps.proofs.draws.Notes.{fits-of}
use Rattle.session_steps.proofs.reads.Rows.{words-are}
use Rattle.session_steps.proofs.stamps.Steps.{own-slot, ended-slot, stamps-refusal, stamps-last, stamps-more, stamps-stopped}
use Rattle.txn.specs.Transactions.{transaction_at}
use Rattle.session_steps.specs.Stamping.{is_unstamped}
use Rattle.session_steps.proofs.CodeTests.{barred}
use Rattle.session_steps.proofs.Stepping.{held-on, refused-on}
use Rattle.session_steps.proofs.sessions.Sessions.stamp.Goals as goal

pub returns-in-Err : goal.returns-in-Err
returns-in-Err g c = record {
  step = λ h holds.
      refused-on c.args.self.now (g.D.Pmem.state c.args.device.now) (Stamp c.args.session) c.bar.result h (g.met.D.Pmem.orderly _) holds (stamps-refusal c.args.self.now c.args.session c.bar.result h (barred (is_unstamped c.args.self.now.drawn.commits) (transaction_at c.args.self.now.transactions c.args.session) c.bar.result c.in-Err.ensures.barred c.bar.ensures) (held-on c.args.self.now h _ holds));
}

pub stamp_write-requires-clause-own : goal.stamp_write-requires-clause-own
stamp_write-requires-clause-own g c =
    ∥∥₁_elim c.requires.shown (Bool-set _ _)
    (λ shown. fits-of (plain_of c.args.self.now shown.0) (version_by c.in-Ok.next.write.now.key (ByCommit c.in-Ok.next.timestamp)) c.in-Ok.next.write.now.slot (own-slot c.args.self.now shown.0 c.args.session c.in-Ok.next (g.D.Pmem.state c.args.device.now) (g.D.Pmem.state c.args.device.now) shown.1 c.in-Ok.ensures.at c.in-Ok.ensures.next))

pub stamp_write-requires-clause-ended : goal.stamp_write-requires-clause-ended
stamp_write-requires-clause-ended g c =
    ∥∥₁_elim c.requires.shown (Bool-set _ _)
    (λ shown. ap (λ (o : Option ℕ). fits_slot c.args.self.now.numbers.geometry.slots o) c.live-ended.ensures
    ∙ fits-of (plain_of c.args.self.now shown.0) (newest_of (plain_of c.args.self.now shown.0) c.in-Ok.next.write.now.key) (live_of (entry_at c.args.self.now.index c.in-Ok.next.write.now.key)) (ended-slot c.args.self.now shown.0 c.args.session c.in-Ok.next (g.D.Pmem.state c.args.device.now) (g.D.Pmem.state c.args.device.now) shown.1 c.in-Ok.ensures.at c.in-Ok.ensures.next))

pub stamp_write-requires-clause-device : goal.stamp_write-requires-clause-device
stamp_write-requires-clause-device g c = ∥∥₁_elim c.requires.shown (ℕ_set _ _) (λ shown. words-are _ _ (g.D.Pmem.state c.args.device.now) (g.met.D.Pmem.orderly _) shown.1.upholds)

pub returns-then-is_last : goal.returns-then-is_last
returns-then-is_last g c = record {
  step = λ h holds.
      stamps-last c.args.self.now h c.args.session c.in-Ok.next (g.D.Pmem.state c.args.device.now) (g.D.Pmem.state c.stamp_write.new.device) holds c.in-Ok.ensures.at c.in-Ok.ensures.next c.stamp.new.self c.if-is_last.true c.stamp.ensures
      (subst (λ (o : Option ℕ). Runs (begin_operations c.args.self.now.numbers.geometry c.in-Ok.next.write.now.slot c.in-Ok.next.timestamp ++ end_operations c.args.self.now.numbers.geometry o c.in-Ok.next.timestamp) (g.D.Pmem.state c.args.device.now) (g.D.Pmem.state c.stamp_write.new.device)) c.live-ended.ensures c.in-Ok-stamp_write.ensures.ok);
}

pub returns-else-is_last : goal.returns-else-is_last
returns-else-is_last g c = record {
  step = λ h holds.
      stamps-more c.args.self.now h c.args.session c.in-Ok.next (g.D.Pmem.state c.args.device.now) (g.D.Pmem.state c.stamp_write.new.device) holds c.in-Ok.ensures.at c.in-Ok.ensures.next c.stamp.new.self c.if-is_last.false c.stamp.ensures
      (subst (λ (o : Option ℕ). Runs (begin_operations c.args.self.now.numbers.geometry c.in-Ok.next.write.now.slot c.in-Ok.next.timestamp ++ end_operations c.args.self.now.numbers.geometry o c.in-Ok.next.timestamp) (g.D.Pmem.state c.args.device.now) (g.D.Pmem.state c.stamp_write.new.device)) c.live-ended.ensures c.in-Ok-stamp_write.ensures.ok);
}

pub returns-in-Err-stamp_write : goal.returns-in-Err-stamp_write
returns-in-Err-stamp_write g c = record {
  step = λ h holds.
      stamps-stopped c.args.self.now h c.args.session c.in-Ok.next (g.D.Pmem.state c.args.device.now) (g.D.Pmem.state c.stamp_write.new.device) holds c.in-Ok.ensures.at c.in-Ok.ensures.next DeviceFault refl
      (subst (λ (o : Option ℕ). StopsWithin (begin_operations c.args.self.now.numbers.geometry c.in-Ok.next.write.now.slot c.in-Ok.next.timestamp ++ end_operations c.args.self.now.numbers.geometry o c.in-Ok.next.timestamp) (g.D.Pmem.state c.args.device.now) (g.D.Pmem.state c.stamp_write.new.device)) c.live-ended.ensures c.in-Err-stamp_write.ensures.err);
}

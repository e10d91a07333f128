use Rattle.std.proofs.Common.{refl}
use Rattle.std.specs.Prelude.{is_ok}
use Rattle.base.specs.declared.step.Step.TheVariants.{Collect}
use Rattle.session_steps.specs.Collecting.{as_reply as visited}
use Rattle.database.specs.Histories.{made_if}
use Rattle.database.proofs.Runs.{run-led}
use Rattle.database.proofs.Histories.{logged-led, made-visited, quiet-if}
use Rattle.database.proofs.opened.OpenedRoom.visit.Goals as goal

pub invariant_of-self : goal.invariant_of-self
invariant_of-self g c = record {
  run = run-led g.D.Pmem.state c.args.self.now.room c.collect-returned.new.self Collect (visited c.collect-returned.result) c.args.self.now.run c.collect-returned.ensures.step;
  logged = logged-led g.D.Pmem.state g.J.Origin.opened c.args.self.now.room c.collect-returned.new.self Collect (visited c.collect-returned.result) (made_if (is_ok c.collect-returned.result) Collect) c.args.self.now.log c.note.new.log c.args.self.now.logged c.collect-returned.ensures.step c.note.ensures (made-visited c.collect-returned.result);
}

pub returns-clause-log : goal.returns-clause-log
returns-clause-log g c = quiet-if (is_ok c.collect-returned.result) Collect c.args.self.now.log c.note.new.log (λ s. refl) c.note.ensures

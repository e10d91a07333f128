use Rattle.std.proofs.Common.{◌≡◌, All}
use Rattle.base.specs.declared.step.Step.TheVariants.{Stamp}
use Rattle.engine.specs.Calls.{Called}
use Rattle.engine.proofs.Refusing.{IsClean}
use Rattle.engine.proofs.session.Session.stamp_all.Given as goal

-- stamps were made so far, and none was refused
abbrev pub invariant-loop : goal.invariant-loop
invariant-loop g l = record {
  steps : Called l.fn.self.receipts.items l.self.receipts.items (λ added. All (λ r. r.step ≡ Stamp l.number) added);
  clean : IsClean l.fn.self.receipts.items l.self.receipts.items;
  phase : l.self.phase ≡ l.fn.self.phase;
  published : l.self.published ≡ l.fn.self.published;
  told : l.self.told ≡ l.fn.self.told;
}

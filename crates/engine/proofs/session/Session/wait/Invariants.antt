use Rattle.std.proofs.Common.{◌≡◌, All}
use Rattle.base.specs.declared.step.Note.TheVariants.{Waiting}
use Rattle.engine.specs.Calls.{Called, ArePolls}
use Rattle.engine.proofs.Refusing.{IsClean}
use Rattle.engine.proofs.session.Session.wait.Given as goal

-- polls were made so far, and each reported that the commit isn't covered
abbrev pub invariant-loop : goal.invariant-loop
invariant-loop g l = record {
  polls : Called l.fn.self.receipts.items l.self.receipts.items (λ added. ArePolls l.number added × All (λ r. r.note ≡ Waiting) added);
  clean : IsClean l.fn.self.receipts.items l.self.receipts.items;
  published : l.self.published ≡ l.fn.self.published;
  told : l.self.told ≡ l.fn.self.told;
}

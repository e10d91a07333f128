-- What a commit returned earns `committed`.
use Rattle.std.proofs.Common.{ℕ, Some, None, sym, subst}
use Rattle.std.specs.Prelude.{Option, Result, Ok, Err, IfOk}
use Rattle.answering.specs.declared.session.Answer.{Answer}
use Rattle.answering.specs.declared.session.Answer.TheVariants.{Committed, Done}
use Rattle.answering.specs.declared.failure.Failure.{Failure}
use Rattle.answering.specs.Earned.{IsEarnedBy, PassesOn}
use Rattle.store.specs.declared.error.StoreError.{StoreError}

-- passed on, it is earned
pub passed-on : (Returned : Option ℕ → Type 0) (committed : Result (Option ℕ) StoreError) (result : Result Answer Failure)
    → IfOk committed Returned → PassesOn committed result → IfOk result (IsEarnedBy Returned)
passed-on Returned (Ok (Some t)) result returned passed = subst (λ (r : Result Answer Failure). IfOk r (IsEarnedBy Returned)) (sym passed) returned
passed-on Returned (Ok None) result returned passed = subst (λ (r : Result Answer Failure). IfOk r (IsEarnedBy Returned)) (sym passed) returned
passed-on Returned (Err error) result returned passed = subst (λ (r : Result Answer Failure). IfOk r (IsEarnedBy Returned)) (sym passed.1) tt

-- what is earned by less is earned
pub earned-weakens : (Said Meant : Option ℕ → Type 0) → ((outcome : Option ℕ) → Said outcome → Meant outcome) → (result : Result Answer Failure)
    → IfOk result (IsEarnedBy Said) → IfOk result (IsEarnedBy Meant)
earned-weakens Said Meant leads (Ok (Committed t)) earned = leads (Some t) earned
earned-weakens Said Meant leads (Ok Done) earned = leads None earned
earned-weakens Said Meant leads (Ok _) earned = tt
earned-weakens Said Meant leads (Err _) earned = tt

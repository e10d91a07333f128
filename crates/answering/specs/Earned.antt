-- What has to be so before `committed` is printed.
use Rattle.std.specs.Prelude.{◌≡◌, ◌∷◌, [], ℕ, ⊤, Option, Some, None, Result, Ok, Err}
use Rattle.database.specs.Committing.{ReportsCommit, ReportsWritten}
use Rattle.base.specs.declared.fault.Fault.{Fault}
use Rattle.commands.specs.declared.command.Request.{Request}
use Rattle.commands.specs.declared.command.Request.TheVariants.{Put, Delete, Commit}
use Rattle.answering.specs.declared.failure.Failure.{Failure}
use Rattle.answering.specs.declared.failure.Failure.TheVariants.{InCommit}
use Rattle.answering.specs.declared.session.Answer.{Answer}
use Rattle.answering.specs.declared.session.Answer.TheVariants.{Committed, Done}
use Rattle.store.specs.declared.error.StoreError.{StoreError}

-- How what a commit returned is passed on: `committed` with its timestamp, `done` if nothing was written, and otherwise a failure, which says
-- that it isn't known whether the commit is kept if the commit said so
abbrev pub PassesOn : Result (Option ℕ) StoreError → Result Answer Failure → Type 0
PassesOn (Ok (Some t)) result = result ≡ Ok (Committed t)
PassesOn (Ok None) result = result ≡ Ok Done
PassesOn (Err error) result = (failure : Failure) × (result ≡ Err failure) × ((fault : Fault) → error ≡ StoreError.Unknown fault → failure ≡ InCommit)

-- `committed` and `done` are only for a commit that returned so
abbrev pub IsEarnedBy : (Option ℕ → Type 0) → Answer → Type 0
IsEarnedBy Returned (Committed t) = Returned (Some t)
IsEarnedBy Returned Done = Returned None
IsEarnedBy Returned _ = ⊤

-- The request was carried out as a commit that returned this: that of a line of its own, which wrote its row and nothing else, or that of the
-- transaction that was open
abbrev pub Commits : Request → Option ℕ → Type 0
Commits (Put key row) outcome = ReportsWritten ((key, Some row) ∷ []) outcome
Commits (Delete key) outcome = ReportsWritten ((key, None) ∷ []) outcome
Commits Commit outcome = (session : ℕ) × ReportsCommit session outcome
Commits _ outcome = ⊥

-- A conflict is reported only if a draw was refused with it.
use Rattle.std.proofs.Common.{◌≡◌, ℕ, Err, ap, subst}
use Rattle.base.specs.declared.fault.Fault.{Fault}
use Rattle.base.specs.declared.fault.Fault.TheVariants.{Conflict}
use Rattle.base.specs.declared.key.Key.{Key}
use Rattle.database.specs.declared.error.CommitError.{CommitError}
use Rattle.database.specs.declared.error.CommitError.TheVariants.{Refused, Open}
use Rattle.database.specs.Committing.{IsPrepared, ReportsRefusal}
use Rattle.store.specs.declared.error.StoreError.{StoreError}
use Rattle.store.specs.Errors.{error_of, commit_error}
use Rattle.store.specs.Answers.{ReportsConflict}

-- no other fault becomes a conflict
conflict-fault : (fault : Fault) (key : Key) → error_of fault ≡ StoreError.Conflict key → fault ≡ Conflict key
conflict-fault (Conflict k) key e = cc e
conflict-fault fault key e = absurd (cc e)

pub conflict-told : (session : ℕ) (refused : CommitError) → ReportsRefusal session refused → ReportsConflict session (commit_error refused)
conflict-told session (Open fault) tells key e = absurd (cc e)
conflict-told session (Refused fault) tells key e =
    let is : fault ≡ Conflict key = conflict-fault fault key e in
    let told = tells key (ap Refused is) in (subst (λ f. IsPrepared session (Err (Refused f))) is told.0, told.1)

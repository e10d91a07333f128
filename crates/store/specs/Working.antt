-- What the work of a transaction does, in a store whose history is kept.
use Rattle.std.specs.Prelude.{◌≡◌, ◌≢◌, ℕ, Bool, List, [], fold, Option, Some, None, Result, ⊤, Ok}
use Rattle.base.specs.declared.key.Key.{Key}
use Rattle.base.specs.declared.step.Step.{Step}
use Rattle.base.specs.Commits.{Writes, with_write}
use Rattle.pmem.specs.Device.{Device}
use Rattle.session_laws.specs.Laws.{IsFirst}
use Rattle.session_laws.specs.Logs.{state_after, AreMade}
use Rattle.session_laws.specs.Sessions.{IsKept}
use Rattle.database.specs.Committing.{ReportsCommit}
use Rattle.database.specs.Histories.{Known, Does, HasBegun, HasCommitted, OfEachStart, write_steps}
use Rattle.database.specs.declared.transaction.Committed.{Committed}
use Rattle.store.specs.declared.error.StoreError.{StoreError}
use Rattle.store.specs.declared.store.Attempt.{Attempt}
use Rattle.store.specs.Files.{StaysInFile}
use Rattle.store.specs.Trying.{CallsOn, MeetsConflict, EndsTries}

-- a transaction that is lent to a work: the number of its session, and what it knows of the history
abbrev pub Lent : Type 0
Lent = ℕ × Option Known

-- what a work says of itself: that it makes these writes, returns this result, and becomes that
abbrev pub Deeds : Type 0 → Type 0 → Type 1
Deeds W V = W → List (Key × Option (List ℕ)) → Result V StoreError → W → Type 0

-- The work was done in this transaction, as it says of itself. It left the same transaction. If that knows the history, its session has made just
-- these writes since, in their order.
-- Excluded: a write that the work doesn't own up to; another transaction that is left in its place.
abbrev pub Works : {W V : Type 0} → Deeds W V → W → Lent → Result V StoreError → Lent → W → Type 0
Works does old lent returned left new =
    (writes : List (Key × Option (List ℕ))) × does old writes returned new × (left.0 ≡ lent.0) × Does lent.0 (write_steps lent.0 writes) lent.1 left.1

-- these writes, one over the other
abbrev pub laid_over : List (Key × Option (List ℕ)) → Writes
laid_over writes = fold (λ done one. with_write one.0 one.1 done) [] writes

-- Whatever the device opened as, this history can be made from there. The state that it leads to has covered the commit of these writes under
-- this timestamp, and has no other commit under it.
-- Excluded: a write that is left out or added; a commit that is drawn and not covered.
abbrev pub CoversCommit : Device → List Step → ℕ → Writes → Type 0
CoversCommit opened log t writes =
    OfEachStart opened (λ history start. IsFirst history start × AreMade start log × IsKept (state_after start log) (record { timestamp = t; writes = writes }))

-- if the history is known, and anything was written, it covers the commit
abbrev pub KeepsWrites : Device → List (Key × Option (List ℕ)) → Option ℕ → Option (List Step) → Type 0
KeepsWrites opened writes (Some t) (Some log) = writes ≢ [] → CoversCommit opened log t (laid_over writes)
KeepsWrites opened writes None log = ⊤
KeepsWrites opened writes t None = ⊤

-- The work returned this value, and the commit of its transaction this timestamp and this history. If the history is kept, the transaction began in
-- it. Then it goes on with just the writes of this try and their commit, which it covers. The file has that from now on, whatever stops.
-- Excluded: a write of an earlier try; a commit of another transaction; one that a later opening doesn't find.
pub record CommitsWork {W V : Type 0} (opened : Device) (kept : Bool) (does : Deeds W V) (old : W) (value : V) (timestamp : Option ℕ) (front : Option (List Step)) (new : W) : Type 0 where
  pub session : ℕ
  pub calls : CallsOn (Works does) (λ lent. lent.0) old (Ok value) session new
  pub begun : HasBegun opened kept calls.lent.0 calls.lent.1
  pub reported : ReportsCommit session timestamp
  pub committed : HasCommitted opened session calls.left.1 timestamp front
  pub keeps : KeepsWrites opened calls.called.0 timestamp front
  pub found : StaysInFile opened front

-- how a try of a work ends, unless it fails with an error other than a conflict
abbrev pub EndsWork : {W V J : Type 0} → Device → Bool → Deeds W V → W → Attempt V (Committed J) → W → Type 0
EndsWork opened kept does old (Attempt.Committed value done) new = CommitsWork opened kept does old value done.timestamp done.front new
EndsWork opened kept does old (Attempt.Conflict key) new = MeetsConflict (Works does) (λ lent. lent.0) old key new

-- All tries but the last met a conflict at their draw, so nothing of them is kept; the last one committed.
-- Excluded: a value or a timestamp of another try.
abbrev pub WorksWithin : {W V : Type 0} → Device → Bool → Deeds W V → ℕ → W → V → Option ℕ → Option (List Step) → Type 0
WorksWithin {W} {V} opened kept does tries work value timestamp front =
    EndsTries (Works does) (λ lent. lent.0) tries work (λ mid. (new : W) × CommitsWork opened kept does mid value timestamp front new)

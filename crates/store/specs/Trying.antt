-- How the tries of `transact` end.
use Rattle.std.specs.Prelude.{◌≡◌, ◌≢◌, ◌⊎◌, ◌≤◌, ◌-◌, ℕ, zero, suc, Option, Result, ⊤, Ok, Err}
use Rattle.base.specs.declared.fault.Fault.TheVariants.{Conflict}
use Rattle.base.specs.declared.key.Key.{Key}
use Rattle.base.specs.declared.step.Step.TheVariants.{Begin, Abort}
use Rattle.database.specs.declared.error.CommitError.TheVariants.{Refused}
use Rattle.database.specs.Replies.{began_of, done_of}
use Rattle.database.specs.Obeys.{AnswersStep}
use Rattle.database.specs.Committing.{IsPrepared, MeetsConflictOn, ReportsCommit}
use Rattle.store.specs.declared.error.StoreError.{StoreError}
use Rattle.store.specs.declared.store.Attempt.{Attempt}
use Rattle.store.specs.Answers.{Answers, IsCommitRefusal}

-- The changes were called on a transaction that was begun for them, returned this, and left the transaction of this session
pub record CallsOn {F X A : Type 0} (step : F → X → A → X → F → Type 0) (session_of : X → ℕ) (old : F) (returned : A) (session : ℕ) (new : F) : Type 0 where
  pub lent : X
  pub left : X
  pub begun : AnswersStep Begin began_of (Ok (session_of lent))
  pub called : step old lent returned left new
  pub leaves : session_of left ≡ session

-- A try in vain: the changes returned Ok, and the draw of their transaction was refused for a conflict on this key. What was drawn by then is
-- covered, or nobody waits for it any longer
pub record MeetsConflict {F X T : Type 0} (step : F → X → Result T StoreError → X → F → Type 0) (session_of : X → ℕ) (old : F) (key : Key) (new : F) : Type 0 where
  pub value : T
  pub session : ℕ
  pub calls : CallsOn step session_of old (Ok value) session new
  pub refused : IsPrepared session (Err (Refused (Conflict key)))
  pub settled : MeetsConflictOn session key

-- This many tries in vain, one after the other.
-- Excluded: changes that are called again after a commit, or after a refusal that isn't a conflict.
abbrev pub TriesInVain : {F X T : Type 0} → (F → X → Result T StoreError → X → F → Type 0) → (X → ℕ) → ℕ → F → F → Type 0
TriesInVain step session_of zero old new = new ≡ old
TriesInVain {F} step session_of (suc n) old new = (mid : F) × (key : Key) × TriesInVain step session_of n old mid × MeetsConflict step session_of mid key new

-- the changes returned this value, and their commit returned this timestamp
pub record Commits {F X T : Type 0} (step : F → X → Result T StoreError → X → F → Type 0) (session_of : X → ℕ) (old : F) (value : T) (timestamp : Option ℕ) (new : F) : Type 0 where
  pub session : ℕ
  pub calls : CallsOn step session_of old (Ok value) session new
  pub reported : ReportsCommit session timestamp

-- how a try ends, unless it fails with an error other than a conflict
abbrev pub EndsTry : {F X T : Type 0} → (F → X → Result T StoreError → X → F → Type 0) → (X → ℕ) → F → Attempt T (Option ℕ) → F → Type 0
EndsTry step session_of old (Attempt.Committed value timestamp) new = Commits step session_of old value timestamp new
EndsTry step session_of old (Attempt.Conflict key) new = MeetsConflict step session_of old key new

-- the session's abort was asked for
abbrev pub IsAborted : ℕ → Type 0
IsAborted session = (aborted : Result ⊤ StoreError) × Answers (Abort session) done_of aborted

-- no transaction was begun; or the changes returned the error, and the abort was asked for; or the commit is refused, but not for a conflict
abbrev pub Fails : {F X T : Type 0} → (F → X → Result T StoreError → X → F → Type 0) → (X → ℕ) → F → StoreError → Type 0
Fails {F} {X} {T} step session_of old error =
    Answers {A = ℕ} Begin began_of (Err error)
    ⊎ (((session : ℕ) × (new : F) × CallsOn step session_of old (Err error) session new × IsAborted session)
    ⊎ ((value : T) × (session : ℕ) × (new : F) × CallsOn step session_of old (Ok value) session new × IsCommitRefusal session error × ((key : Key) → error ≢ StoreError.Conflict key)))

-- ---- at most this many tries, and at least one

-- all tries but the last were in vain, and this holds for the last
abbrev pub EndsTries : {F X T : Type 0} → (F → X → Result T StoreError → X → F → Type 0) → (X → ℕ) → ℕ → F → (F → Type 0) → Type 0
EndsTries {F} step session_of tries changes Last = (n : ℕ) × (n ≤ tries - 1) × (mid : F) × TriesInVain step session_of n changes mid × Last mid

-- The last try committed, with this value and this timestamp.
-- Excluded: a value or a timestamp of another try; a commit of what the changes rolled back.
abbrev pub CommitsWithin : {F X T : Type 0} → (F → X → Result T StoreError → X → F → Type 0) → (X → ℕ) → ℕ → F → T → Option ℕ → Type 0
CommitsWithin {F} step session_of tries changes value timestamp = EndsTries step session_of tries changes (λ mid. (new : F) × Commits step session_of mid value timestamp new)

-- The last try failed with this error; or all were in vain, the last one for a conflict on the key that is reported.
-- Excluded: tries that end early.
abbrev pub FailsWithin : {F X T : Type 0} → (F → X → Result T StoreError → X → F → Type 0) → (X → ℕ) → ℕ → F → StoreError → Type 0
FailsWithin {F} step session_of tries changes error =
    EndsTries step session_of tries changes (λ mid. Fails step session_of mid error)
    ⊎ ((key : Key) × (error ≡ StoreError.GivenUp tries key) × (mid : F) × (new : F) × TriesInVain step session_of (tries - 1) changes mid × MeetsConflict step session_of mid key new)

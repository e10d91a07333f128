-- What a store's calls return for the replies to their steps.
use Rattle.std.specs.Prelude.{◌≡◌, ◌≢◌, ◌⊎◌, ◌≤◌, ◌<◌, ◌-◌, ℕ, List, [], length, ⊤, Option, Some, None, Result, Ok, Err}
use Rattle.std.specs.Int.{w64, from_le_bytes}
use Rattle.base.specs.declared.fault.Fault.{Fault}
use Rattle.base.specs.declared.fault.Fault.TheVariants.{TooLong, Conflict}
use Rattle.base.specs.declared.key.Key.{Key}
use Rattle.base.specs.Layout.{row_limit}
use Rattle.base.specs.declared.step.Step.{Step}
use Rattle.base.specs.declared.step.Step.TheVariants.{Get, Scan}
use Rattle.base.specs.declared.step.Reply.{Reply}
use Rattle.room.specs.Runs.{ComesTo}
use Rattle.database.specs.Replies.{row_of, rows_of}
use Rattle.database.specs.Obeys.{AnswersStep}
use Rattle.database.specs.declared.error.CommitError.{CommitError}
use Rattle.database.specs.declared.error.CommitError.TheVariants.{Refused, Open}
use Rattle.database.specs.Committing.{AnswersPut, AnswersWrites, IsPrepared, MeetsConflictOn, ReportsError, ReportsUnwritten}
use Rattle.database.specs.Histories.{Known, DoesWrites, Replies, Sees}
use Rattle.pmem.specs.Device.{Device}
use Rattle.store.specs.declared.error.StoreError.{StoreError}
use Rattle.store.specs.Errors.{error_of, commit_error}

-- A run from the opening of a device ends in this step, and what is returned is read off its reply: a fault as the error that it becomes.
-- Excluded: a row of another key or session.
abbrev pub Answers : {A : Type 0} → Step → (Reply → Result A Fault) → Result A StoreError → Type 0
Answers step read (Ok value) = AnswersStep step read (Ok value)
Answers step read (Err error) = (fault : Fault) × (error ≡ error_of fault) × AnswersStep step read (Err fault)

-- ---- a range

-- The session scanned the table from the start up to, but not including, the end, and got these rows; or there are no keys in between, and no rows
abbrev pub Scans : ℕ → ℕ → ℕ → ℕ → List (Key × List ℕ) → Type 0
Scans session table start end rows =
    ((start < end) × AnswersStep (Scan session table start (end - 1)) rows_of (Ok rows)) ⊎ ((end ≤ start) × (rows ≡ []))

-- the scan was refused, with a fault that becomes this error
abbrev pub ScanRefused : ℕ → ℕ → ℕ → ℕ → StoreError → Type 0
ScanRefused session table start end error =
    (start < end) × ((fault : Fault) × (error ≡ error_of fault) × AnswersStep (Scan session table start (end - 1)) rows_of (Err fault))

-- If the history is known, the rows are the reply to the scan of this table in the state that it leads to; if the range has no key, there are none
abbrev pub SeesScan : Device → ℕ → Option Known → ℕ → ℕ → ℕ → List (Key × List ℕ) → Type 0
SeesScan opened session trace table start end rows =
    ((start < end) × Sees opened session trace (λ q. Replies q (Scan session table start (end - 1)) rows_of (Ok rows))) ⊎ ((end ≤ start) × (rows ≡ []))

-- the session scanned such rows, and this is true of them
abbrev pub OfScanned : ℕ → ℕ → ℕ → ℕ → (List (Key × List ℕ) → Type 0) → Type 0
OfScanned session table start end Fact = (all : List (Key × List ℕ)) × Scans session table start end all × Fact all

-- ---- a put

-- the error for a refused put, if rows have at most this many bytes
abbrev pub put_error : ℕ → Fault → StoreError
put_error limit TooLong = StoreError.RowTooLong limit
put_error limit fault = error_of fault

-- the session put the row under the key, or the put was refused
abbrev pub Puts : ℕ → Key → List ℕ → ℕ → Result ⊤ StoreError → Type 0
Puts session key row limit (Ok done) = AnswersPut session key row (Ok done)
Puts session key row limit (Err error) = (fault : Fault) × (error ≡ put_error limit fault) × AnswersPut session key row (Err fault)

-- the session made these writes, or one of them was refused
abbrev pub MakesWrites : ℕ → List (Key × Option (List ℕ)) → ℕ → Result ⊤ StoreError → Type 0
MakesWrites session writes limit (Ok done) = AnswersWrites session writes (Ok done)
MakesWrites session writes limit (Err error) = (fault : Fault) × (error ≡ put_error limit fault) × AnswersWrites session writes (Err fault)

-- Of the session the history has these writes, or those before the one that was refused, and no other step
abbrev pub WritesIn : ℕ → List (Key × Option (List ℕ)) → Result ⊤ StoreError → Option Known → Option Known → Type 0
WritesIn session writes (Ok done) old new = DoesWrites session writes (Ok done) old new
WritesIn session writes (Err error) old new = (fault : Fault) × DoesWrites session writes (Err fault) old new

-- the error for writes that aren't kept, or of which only the next opening shows whether they are
abbrev pub write_error : ℕ → CommitError → StoreError
write_error limit (Refused fault) = put_error limit fault
write_error limit (Open fault) = StoreError.Unknown fault

-- Writes in a transaction of their own weren't acknowledged, and this is the error, in a store whose rows have at most this many bytes
pub record IsUnwritten (writes : List (Key × Option (List ℕ))) (error : StoreError) : Type 0 where
  pub limit : ℕ
  pub limited : ComesTo (λ q. limit ≡ row_limit q.layout.version)
  pub refused : CommitError
  pub becomes : error ≡ write_error limit refused
  pub reported : ReportsUnwritten writes refused

-- ---- a number

-- There is no row; or there is one, and it is this number; or there is one that isn't a number; or the read was refused.
-- Excluded: a row of 5 bytes taken for a number.
abbrev pub AnswersNumber : ℕ → Key → Result (Option ℕ) StoreError → Type 0
AnswersNumber session key (Ok None) = AnswersStep (Get session key) row_of (Ok None)
AnswersNumber session key (Ok (Some number)) = (row : List ℕ) × AnswersStep (Get session key) row_of (Ok (Some row)) × (length row ≡ 8) × (number ≡ from_le_bytes w64 row)
AnswersNumber session key (Err error) =
    ((row : List ℕ) × AnswersStep (Get session key) row_of (Ok (Some row)) × (length row ≢ 8) × (error ≡ StoreError.NotANumber key))
    ⊎ Answers (Get session key) row_of (Err error)

-- ---- a commit

-- a conflict is reported only if the session's draw was refused with it, and only once what was drawn by then is covered, or nobody waits for it any longer
abbrev pub ReportsConflict : ℕ → StoreError → Type 0
ReportsConflict session error = (key : Key) → error ≡ StoreError.Conflict key → IsPrepared session (Err (Refused (Conflict key))) × MeetsConflictOn session key

-- what a commit that isn't acknowledged returns
pub record IsCommitRefusal (session : ℕ) (error : StoreError) : Type 0 where
  pub of_commit : (refused : CommitError) × (error ≡ commit_error refused) × ReportsError session refused
  pub conflict : ReportsConflict session error

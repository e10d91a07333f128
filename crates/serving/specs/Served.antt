-- The reply to a request, and which session is open after it.
use Rattle.std.specs.Prelude.{◌≡◌, ◌+◌, ◌-◌, ◌^◌, ℕ, List, [], ◌∷◌, take, reverse, ⊤, Option, Some, None, Result, Ok, Err}
use Rattle.base.specs.Layout.{row_limit}
use Rattle.base.specs.declared.key.Key.{Key}
use Rattle.base.specs.declared.step.Step.TheVariants.{Begin, Get, Delete, Abort}
use Rattle.database.specs.Committing.{ReportsCommit}
use Rattle.room.specs.Runs.{ComesTo}
use Rattle.database.specs.Replies.{began_of, row_of, done_of}
use Rattle.requests.specs.declared.answer.Answer.{Answer}
use Rattle.requests.specs.declared.answer.Answer.TheVariants as answer
use Rattle.requests.specs.declared.request.KeyRange.{KeyRange}
use Rattle.requests.specs.declared.request.Request.{Request}
use Rattle.requests.specs.declared.request.Request.TheVariants as request
use Rattle.requests.specs.declared.status.Status.{Status}
use Rattle.store.specs.declared.error.StoreError.{StoreError}
use Rattle.store.specs.declared.status.Status as usage
use Rattle.store.specs.Answers.{Answers, Puts, IsCommitRefusal}
use Rattle.store.specs.Reads.{ReadsRange, RangeRefused}
use Rattle.store.specs.Status.{ShowsStore}
use Rattle.serving.specs.Refusals.{status_of}

-- the store refused with an error of which this holds, and this is its status
abbrev pub IsRefusedWith : (StoreError → Type 0) → Status → Type 0
IsRefusedWith Fact status = (error : StoreError) × Fact error × (status ≡ status_of error)

-- a transaction was begun, and is open; or its beginning was refused, and none is
abbrev pub Begins : Answer → Option ℕ → Type 0
Begins answer.Done (Some session) = Answers Begin began_of (Ok session)
Begins (answer.Refused status text) None = IsRefusedWith (λ error. Answers {A = ℕ} Begin began_of (Err error)) status
Begins _ _ = ⊥

-- none is open, and the request is misuse; or one is, and the reply is what the store returns there
abbrev pub InOpen : (ℕ → Answer → Type 0) → Option ℕ → Answer → Type 0
InOpen Fact None told = told ≡ answer.Misuse
InOpen Fact (Some session) told = Fact session told

-- the row that was read
abbrev pub Gets : Key → ℕ → Answer → Type 0
Gets key session (answer.Row row) = Answers (Get session key) row_of (Ok row)
Gets key session (answer.Refused status text) = IsRefusedWith (λ error. Answers {A = Option (List ℕ)} (Get session key) row_of (Err error)) status
Gets key session _ = ⊥

-- the row was put, if it has at most the length that rows have
abbrev pub PutsRow : Key → List ℕ → ℕ → Answer → Type 0
PutsRow key row session answer.Done = (limit : ℕ) × Puts session key row limit (Ok tt)
PutsRow key row session (answer.Refused status text) = (limit : ℕ) × IsRefusedWith (λ error. Puts session key row limit (Err error)) status
PutsRow key row session _ = ⊥

-- the row was deleted
abbrev pub Deletes : Key → ℕ → Answer → Type 0
Deletes key session answer.Done = Answers (Delete session key) done_of (Ok tt)
Deletes key session (answer.Refused status text) = IsRefusedWith (λ error. Answers {A = ⊤} (Delete session key) done_of (Err error)) status
Deletes key session _ = ⊥

-- what is reported of a commit is what the store reported
abbrev pub Commits : ℕ → Answer → Type 0
Commits session (answer.Committed timestamp) = ReportsCommit session timestamp
Commits session (answer.Refused status text) = IsRefusedWith (IsCommitRefusal session) status
Commits session _ = ⊥

-- it was rolled back
abbrev pub Aborts : ℕ → Answer → Type 0
Aborts session answer.Done = Answers (Abort session) done_of (Ok tt)
Aborts session (answer.Refused status text) = IsRefusedWith (λ error. Answers {A = ⊤} (Abort session) done_of (Err error)) status
Aborts session _ = ⊥

-- this part of the rows of the range, as the session reads it
abbrev pub ScansPart : (List (Key × List ℕ) → List (Key × List ℕ)) → KeyRange → ℕ → Answer → Type 0
ScansPart part range session (answer.Rows rows) = ReadsRange part session range.table range.least (range.greatest + 1) rows.items
ScansPart part range session (answer.Refused status text) = IsRefusedWith (RangeRefused part session range.table range.least (range.greatest + 1)) status
ScansPart part range session _ = ⊥

-- the first of them, at most this many
abbrev pub ScansFirst : KeyRange → ℕ → ℕ → Answer → Type 0
ScansFirst range limit session answer = ScansPart (λ all. take limit all) range session answer

-- the last of them, at most this many, the last one first
abbrev pub ScansLast : KeyRange → ℕ → ℕ → Answer → Type 0
ScansLast range limit session answer = ScansPart (λ all. take limit (reverse all)) range session answer

-- the numbers of a status that the store showed
abbrev pub ShowsStatus : Answer → Type 0
ShowsStatus (answer.Numbers numbers) =
    (shown : usage.Status) × ComesTo (λ q. ShowsStore q shown)
    × (numbers ≡ shown.row_limit ∷ shown.slots ∷ shown.free ∷ shown.rows ∷ shown.versions ∷ shown.persisted ∷ shown.left ∷ [])
ShowsStatus _ = ⊥

-- ---- each request

-- the reply to a request while this session is open, and which one is open then
abbrev pub Serves : Option ℕ → Request → Answer → Option ℕ → Type 0
Serves prior request.Begin answer after = Begins answer after
Serves prior (request.Get key) answer after = InOpen (Gets key) prior answer × (after ≡ prior)
Serves prior (request.Put key row) answer after = InOpen (PutsRow key row) prior answer × (after ≡ prior)
Serves prior (request.Delete key) answer after = InOpen (Deletes key) prior answer × (after ≡ prior)
Serves prior request.Commit answer after = InOpen Commits prior answer × (after ≡ None)
Serves prior request.Abort answer after = InOpen Aborts prior answer × (after ≡ None)
Serves prior (request.First range limit) answer after = InOpen (ScansFirst range limit) prior answer × (after ≡ prior)
Serves prior (request.Last range limit) answer after = InOpen (ScansLast range limit) prior answer × (after ≡ prior)
Serves prior request.Status answer after = ShowsStatus answer × (after ≡ prior)

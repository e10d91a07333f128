-- What follows from the definitions. Each law is stated here in words that need no proof, and a public function promises it.
use Rattle.std.specs.Prelude.{ℕ, ◌≡◌, ◌≢◌, ◌⊎◌, ◌↔◌, true, false, List, [], ◌∷◌, ◌++◌, fold, map, filter, length, IsTrue, Contains, Option, Some, None}
use Rattle.std.specs.List.{list_all, list_any}
use Rattle.base.specs.declared.key.Key.{Key}
use Rattle.base.specs.declared.step.Step.{Step}
use Rattle.base.specs.declared.step.Step.TheVariants.{Begin, Get, Scan, Draw, Poll, End}
use Rattle.base.specs.declared.step.Reply.{Reply}
use Rattle.base.specs.declared.step.Reply.TheVariants.{Row, Rows, Committed}
use Rattle.base.specs.Commits.{Commit, Writes, Tables, overlaid, after, in_range, Lists}
use Rattle.base.specs.Images.{Image}
use Rattle.base.specs.Stands.{has_timestamp}
use Rattle.machine.specs.Machine.{State, Session, Active, Drew, WroteNothing, IsActive, IsStamped, IsCovered, standing_of, Stepped, Run, final, refusal, next_state, free_session, seen_by, writes_of, drawn_of}
use Rattle.state_invariant.specs.Kept.{IsSessionNumber}
use Rattle.session_laws.specs.Logs.{state_after, AreMade, made, may_change, is_own, own, Follows, IsQuietSince}
use Rattle.session_laws.specs.Sessions.{IsOfLife, Opens, snapshot_of, Stays, reads_or_writes, is_end_of, with_step, written_by, commits_of, IsOnly, IsKept, commit_by, Transacts, transacted, IsDrawnIn}

-- ---- logs

-- What a run has made is a log. It leads to the run's last state, or to that state before its device failed
abbrev pub RunsAreLogs : Type 0
RunsAreLogs = (q : State) (taken : List (Step × Reply)) (states : List State) → Run q (map (λ one. one.0) taken) (map (λ one. one.1) taken) states
    → AreMade q (made taken) × ((final q states ≡ state_after q (made taken)) ⊎ (final q states ≡ record (state_after q (made taken)) { failed = true }))

-- a step adds to a log what was made of it: itself, or nothing if it was refused
abbrev pub StepsAdd : Type 0
StepsAdd = (q : State) (log : List Step) (step : Step) (reply : Reply) (q' : State) → AreMade q log → Stepped (state_after q log) step reply q'
    → AreMade q (log ++ made ((step, reply) ∷ [])) × ((q' ≡ state_after q (log ++ made ((step, reply) ∷ []))) ⊎ (q' ≡ record (state_after q (log ++ made ((step, reply) ∷ []))) { failed = true }))

-- reads and polls may be left out of a log
abbrev pub SilentStepsGo : Type 0
SilentStepsGo = (q : State) (log : List Step) → AreMade q log → AreMade q (filter may_change log) × (state_after q (filter may_change log) ≡ state_after q log)

-- an opened state is one of a life: it has covered the history that the image stands for, has drawn nothing, and has no session
pub record IsFirst (history : List Commit) (start : State) : Type 0 where
  pub of_life : IsOfLife start
  pub covers : start.history ≡ history
  pub draws : start.drawn ≡ []
  pub sessions : (s : ℕ) → start.sessions s ≡ None

-- the state that an image opens as is the first of a life
abbrev pub LivesBegin : Type 0
LivesBegin = (image : Image) (history : List Commit) (start : State) → Opens image history start → IsFirst history start

-- a log leads from a state of a life to another
abbrev pub LivesGoOn : Type 0
LivesGoOn = (q : State) (log : List Step) → IsOfLife q → AreMade q log → IsOfLife (state_after q log)

-- a log goes on with a log from the state that it leads to, and can be split at each of a session's own steps
pub record LogsSplit : Type 0 where
  pub made : (q : State) (log more : List Step) → AreMade q (log ++ more) ↔ (AreMade q log × AreMade (state_after q log) more)
  pub after : (q : State) (log more : List Step) → state_after q (log ++ more) ≡ state_after (state_after q log) more
  pub owned : (s : ℕ) (log more : List Step) → own s (log ++ more) ≡ own s log ++ own s more
  pub at_own : (s : ℕ) (log first : List Step) (step : Step) (rest : List Step) → own s log ≡ first ++ step ∷ rest
      → (before more : List Step) × (log ≡ before ++ step ∷ more) × (own s before ≡ first) × (own s more ≡ rest)

-- A place that is moved to the end at each of a session's own steps tells whether the session has been quiet: if it is where
-- some beginning of the log ends, the log goes on from there without a step of the session
pub record MarksTell : Type 0 where
  pub quiet : (s at : ℕ) (seen more : List Step) → at ≡ length seen → IsQuietSince s at (seen ++ more) → Follows s seen (seen ++ more)
  pub other : (s at : ℕ) (log : List Step) (step : Step) → is_own s step ≡ false → IsQuietSince s at log → IsQuietSince s at (log ++ step ∷ [])
  pub moved : (s : ℕ) (log : List Step) → IsQuietSince s (length log) log

-- ---- quiet sessions

-- While an open session makes no step, it stays as it is.
-- Excluded: a step that changes another session's writes or its timestamp, a begin under its number, and a committer that adds to what it
-- sees.
abbrev pub QuietStays : Type 0
QuietStays = (q : State) (s : ℕ) (session : Session) (log : List Step) → IsOfLife q → AreMade q log → q.sessions s ≡ Some session → own s log ≡ [] → Stays s q (state_after q log)

-- A session that isn't active any more stays as it is until its own end, whatever it does before that.
-- Excluded: an abort, or a write, of a session that has drawn.
abbrev pub DrawnWaits : Type 0
DrawnWaits = (q : State) (s : ℕ) (session : Session) (log : List Step) → AreMade q log → q.sessions s ≡ Some session → standing_of q session ≢ IsActive → list_any (is_end_of s) log ≡ false
    → (state_after q log).sessions s ≡ Some session

-- a commit all of whose keys are stamped stays so until it is covered, and one that is covered stays covered, whichever session steps
pub record GoesOn (q q' : State) (t : ℕ) : Type 0 where
  pub stamped : standing_of q (Drew t) ≡ IsStamped → (standing_of q' (Drew t) ≡ IsStamped) ⊎ (standing_of q' (Drew t) ≡ IsCovered)
  pub covered : standing_of q (Drew t) ≡ IsCovered → standing_of q' (Drew t) ≡ IsCovered

-- a commit that is stamped as a whole stays so until it is covered, and what is covered stays covered
abbrev pub StampedGoesOn : Type 0
StampedGoesOn = (q : State) (t : ℕ) (log : List Step) → AreMade q log → GoesOn q (state_after q log) t

-- ---- the history

-- The history only grows at its end.
-- Excluded: a commit that is taken back, changed or put elsewhere.
abbrev pub HistoryGrows : Type 0
HistoryGrows = (q : State) (log : List Step) → AreMade q log → (more : List Commit) × ((state_after q log).history ≡ q.history ++ more)

-- What is drawn stays drawn, with its writes, until the history has it.
-- Excluded: a drawn commit that is forgotten.
abbrev pub DrawnIsKept : Type 0
DrawnIsKept = (q : State) (log : List Step) (commit : Commit) → IsOfLife q → AreMade q log → Contains (drawn_of q) commit
    → Contains (drawn_of (state_after q log)) commit ⊎ Contains (state_after q log).history commit

-- ---- begins

-- the number that a begin gives is that of no open session
abbrev pub FreeIsClosed : Type 0
FreeIsClosed = (q : State) (s : ℕ) → free_session q ≡ Some s → IsSessionNumber s × (q.sessions s ≡ None)

-- the session has just begun: it sees exactly what is covered, and no other session changed
pub record HasBegun (q : State) (s : ℕ) : Type 0 where
  pub session : (next_state q Begin).sessions s ≡ Some (Active (length q.history) [])
  pub snapshot : snapshot_of (next_state q Begin) s ≡ q.history
  pub sees : (key : Key) → seen_by (next_state q Begin) s key ≡ after q.history key
  pub others : (n : ℕ) → n ≢ s → (next_state q Begin).sessions n ≡ q.sessions n

-- Each begin that is made opens such a session.
-- Excluded: an older or a later snapshot, and a session that is taken over.
abbrev pub BeginsFresh : Type 0
BeginsFresh = (q : State) → refusal q Begin ≡ None → (s : ℕ) × (free_session q ≡ Some s) × HasBegun q s

-- ---- reads

-- An active session that reads and writes stays active, with the same snapshot, and its writes are those that it made.
-- Excluded: a write that is lost, or one by another session.
abbrev pub AccessesAddUp : Type 0
AccessesAddUp = (q : State) (s begun : ℕ) (writes : Writes) (log : List Step) → AreMade q log → q.sessions s ≡ Some (Active begun writes) → IsTrue (list_all reads_or_writes (own s log))
    → (state_after q log).sessions s ≡ Some (Active begun (fold with_step writes (own s log)))

-- the session sees these commits, and reads these tables
pub record Reads (q : State) (s : ℕ) (snapshot : List Commit) (tables : Tables) : Type 0 where
  pub snapshot_is : snapshot_of q s ≡ snapshot
  pub get : (key : Key) (row : Option (List ℕ)) (q' : State) → Stepped q (Get s key) (Row row) q' → row ≡ tables key
  pub scan : (table lo hi : ℕ) (rows : List (Key × List ℕ)) (q' : State) → Stepped q (Scan s table lo hi) (Rows rows) q' → Lists rows (in_range table lo hi tables)

-- Since its begin a session that only reads and writes has these tables: its own writes over what was covered when it began.
-- Excluded: a row that was covered since, and one that another session has written.
abbrev pub ReadsSnapshot : Type 0
ReadsSnapshot = (q : State) (s : ℕ) (log : List Step) → free_session q ≡ Some s → AreMade q (Begin ∷ log) → IsTrue (list_all reads_or_writes (own s log))
    → Reads (state_after q (Begin ∷ log)) s q.history (overlaid (written_by (own s log)) (after q.history))

-- A read is repeatable: as long as its session does nothing but read and poll, it returns the same
pub record ReadsRepeat : Type 0 where
  pub get : (q : State) (s : ℕ) (key : Key) (row again : Option (List ℕ)) (log : List Step) (q' q'' : State) → IsOfLife q → AreMade q log → own s (filter may_change log) ≡ []
      → Stepped q (Get s key) (Row row) q' → Stepped (state_after q log) (Get s key) (Row again) q'' → again ≡ row
  pub scan : (q : State) (s table lo hi : ℕ) (rows again : List (Key × List ℕ)) (log : List Step) (q' q'' : State) → IsOfLife q → AreMade q log → own s (filter may_change log) ≡ []
      → Stepped q (Scan s table lo hi) (Rows rows) q' → Stepped (state_after q log) (Scan s table lo hi) (Rows again) q'' → again ≡ rows

-- ---- commits

-- What a draw does to its session and to the commits: if something was written, that is drawn under the next timestamp, which
-- nothing has had, and else there is nothing new
pub record Draws (q : State) (s : ℕ) : Type 0 where
  pub wrote : writes_of (q.sessions s) ≢ [] → ((next_state q (Draw s)).sessions s ≡ Some (Drew q.next)) × (commits_of (next_state q (Draw s)) ≡ commits_of q ++ commit_by q s ∷ [])
  pub nothing : writes_of (q.sessions s) ≡ [] → ((next_state q (Draw s)).sessions s ≡ Some WroteNothing) × (commits_of (next_state q (Draw s)) ≡ commits_of q)
  pub fresh : has_timestamp (commits_of q) q.next ≡ false

-- a draw that is not refused draws exactly what its session wrote
abbrev pub DrawsWrites : Type 0
DrawsWrites = (q : State) (s : ℕ) → IsOfLife q → refusal q (Draw s) ≡ None → Draws q s

-- From its draw on a commit is the only one under its timestamp, with exactly the writes that its session had; once the timestamp is
-- covered, the history has it.
-- Excluded: a commit whose writes are changed between its draw and its record, and an older one that is taken for it.
abbrev pub DrawnStaysOne : Type 0
DrawnStaysOne = (q : State) (s : ℕ) (log : List Step) → IsOfLife q → AreMade q (Draw s ∷ log) → writes_of (q.sessions s) ≢ []
    → IsOnly (commits_of (state_after q (Draw s ∷ log))) (commit_by q s)
    × (has_timestamp (state_after q (Draw s ∷ log)).history q.next ≡ true → Contains (state_after q (Draw s ∷ log)).history (commit_by q s))

-- A session that has drawn ends only once its timestamp is covered, and a poll reports that of its own session alone
pub record EndsCovered : Type 0 where
  pub ends : (q : State) (s t : ℕ) → q.sessions s ≡ Some (Drew t) → refusal q (End s) ≡ None → has_timestamp q.history t ≡ true
  pub polls : (q : State) (s t : ℕ) (q' : State) → Stepped q (Poll s) (Committed t) q' → (q.sessions s ≡ Some (Drew t)) × (has_timestamp q.history t ≡ true)

-- The history then has exactly what the session wrote since its begin, under the timestamp that it drew, and nothing else has that
-- timestamp.
-- Excluded: a write that is left out or added, one of an earlier session under the number, and a commit that is acknowledged and not
-- covered.
abbrev pub CommitsExactly : Type 0
CommitsExactly = (q : State) (s : ℕ) (before more : List Step) → IsOfLife q → Transacts q s before more
    → IsKept (state_after q (Begin ∷ (before ++ Draw s ∷ more))) (transacted q s before)

-- and so it stays
abbrev pub KeptStays : Type 0
KeptStays = (q : State) (log : List Step) (commit : Commit) → IsOfLife q → AreMade q log → IsKept q commit → IsKept (state_after q log) commit

-- And there is nothing else: each commit that a state has was there, or one of the steps since is the draw that made it.
-- Excluded: a commit that no session drew.
abbrev pub NothingElse : Type 0
NothingElse = (q : State) (log : List Step) (commit : Commit) → IsOfLife q → AreMade q log → Contains (commits_of (state_after q log)) commit → Contains (commits_of q) commit ⊎ IsDrawnIn q log commit

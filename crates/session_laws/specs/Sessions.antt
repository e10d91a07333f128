-- What a session sees, what its own steps write, and which commits a state has.
use Rattle.std.specs.Prelude.{ℕ, ◌≡◌, ◌≢◌, Bool, true, false, nat_eq, List, [], ◌∷◌, ◌++◌, fold, take, IsTrue, Contains, Some, None}
use Rattle.std.specs.List.{list_all}
use Rattle.base.specs.declared.step.Step.{Step}
use Rattle.base.specs.declared.step.Step.TheVariants.{Begin, Get, Scan, Put, Delete, Draw, Stamp, Poll, End}
use Rattle.base.specs.Commits.{Commit, Writes, with_write}
use Rattle.base.specs.Images.{Image, opening_fault}
use Rattle.base.specs.Stands.{Stands}
use Rattle.machine.specs.Machine.{State, begun_of, writes_of, drawn_of, free_session}
use Rattle.machine.specs.Openings.{OpensAs}
use Rattle.state_invariant.specs.Kept.{Origin, Keeps}
use Rattle.session_laws.specs.Logs.{state_after, AreMade, own}

-- the state is one of a life: that of an image that was opened, or the one after a step from such a state
abbrev pub IsOfLife : State → Type 0
IsOfLife q = (o : Origin) × Keeps o q

-- the image can be opened, stands for this history, and opens as this state
pub record Opens (image : Image) (history : List Commit) (start : State) : Type 0 where
  pub may_open : opening_fault image ≡ None
  pub drawn : List Commit
  pub next : ℕ
  pub lost : List ℕ
  pub stands : Stands image history drawn next
  pub opens : OpensAs image history lost start

-- ---- a session

-- the commits that the session sees
abbrev pub snapshot_of : State → ℕ → List Commit
snapshot_of q s = take (begun_of (q.sessions s)) q.history

-- The session is as it was: active with the same writes, drawn with the same timestamp, or at its end. It sees the same commits
pub record Stays (s : ℕ) (q q' : State) : Type 0 where
  pub session : q'.sessions s ≡ q.sessions s
  pub snapshot : snapshot_of q' s ≡ snapshot_of q s

-- the step reads or writes: the steps that an active session can make and stay active
abbrev pub reads_or_writes : Step → Bool
reads_or_writes (Get n key) = true
reads_or_writes (Scan n table lo hi) = true
reads_or_writes (Put n key row) = true
reads_or_writes (Delete n key) = true
reads_or_writes _ = false

-- it stamps or polls: the steps that a session can make between its draw and its end
abbrev pub stamps_or_polls : Step → Bool
stamps_or_polls (Stamp n) = true
stamps_or_polls (Poll n) = true
stamps_or_polls _ = false

-- it ends the session
abbrev pub is_end_of : ℕ → Step → Bool
is_end_of s (End n) = nat_eq s n
is_end_of s _ = false

-- the writes once the step has been made: a put or a deletion replaces what was written under its key
abbrev pub with_step : Writes → Step → Writes
with_step writes (Put n key row) = with_write key (Some row) writes
with_step writes (Delete n key) = with_write key None writes
with_step writes _ = writes

-- what these steps write, in turn
abbrev pub written_by : List Step → Writes
written_by steps = fold with_step [] steps

-- ---- commits

-- the commits that a state has: those that are covered, and those that are drawn
abbrev pub commits_of : State → List Commit
commits_of q = q.history ++ drawn_of q

-- the commit is among these, and no other one of them has its timestamp
pub record IsOnly (commits : List Commit) (commit : Commit) : Type 0 where
  pub among : Contains commits commit
  pub one : (other : Commit) → Contains commits other → other.timestamp ≡ commit.timestamp → other ≡ commit

-- the history has the commit, and no other one that the state has is under its timestamp
pub record IsKept (q : State) (commit : Commit) : Type 0 where
  pub covered : Contains q.history commit
  pub only : IsOnly (commits_of q) commit

-- the commit that the session's draw makes of what it wrote
abbrev pub commit_by : State → ℕ → Commit
commit_by q s = record { timestamp = q.next; writes = writes_of (q.sessions s) }

-- From this state on a session begins, reads and writes, draws, stamps and polls, and ends. The steps of others come between its
-- own: these before its draw, and these after it
pub record Transacts (q : State) (s : ℕ) (before more : List Step) : Type 0 where
  pub made : AreMade q (Begin ∷ (before ++ Draw s ∷ more))
  pub begins : free_session q ≡ Some s
  pub accesses : IsTrue (list_all reads_or_writes (own s before))
  pub wrote : written_by (own s before) ≢ []
  pub stamps : List Step
  pub waits : IsTrue (list_all stamps_or_polls stamps)
  pub ends : own s more ≡ stamps ++ End s ∷ []

-- the commit that it makes: what it wrote since its begin, under the timestamp that is next at its draw
abbrev pub transacted : State → ℕ → List Step → Commit
transacted q s before = record { timestamp = (state_after q (Begin ∷ before)).next; writes = written_by (own s before) }

-- one of the steps is the draw that made the commit: of a session that had written something
pub record IsDrawnIn (q : State) (log : List Step) (commit : Commit) : Type 0 where
  pub session : ℕ
  pub before : List Step
  pub more : List Step
  pub log_is : log ≡ before ++ Draw session ∷ more
  pub wrote : writes_of ((state_after q before).sessions session) ≢ []
  pub commit_is : commit ≡ commit_by (state_after q before) session

-- The machine as a function: what it replies if memory is ample and no device fails.
use Rattle.std.specs.Prelude.{ℕ, List, [], ◌∷◌, take, filter, Option, Some, None, unwrap_or, if◌then◌else◌}
use Rattle.base.specs.declared.key.Key.{Key}
use Rattle.base.specs.declared.fault.Fault.{Fault}
use Rattle.base.specs.declared.step.Step.{Step}
use Rattle.base.specs.declared.step.Step.TheVariants.{Begin, Get, Scan, Put, Delete, Draw, Stamp, Poll, Abort, End, Commit as CommitTick, Collect}
use Rattle.base.specs.declared.step.Reply.{Reply}
use Rattle.base.specs.declared.step.Reply.TheVariants.{Began, Row, Rows, Done, Drawn as DrewAs, More, Stamped, Refused}
use Rattle.base.specs.Keys.{is_in_range}
use Rattle.base.specs.Commits.{Commit, Writes, with_write}
use Rattle.machine.specs.Collecting.{collected}
use Rattle.base.specs.Lists.{is_nil}
use Rattle.machine.specs.Machine.{State, refusal, next_state, free_session, seen_by, writes_of, begun_of, is_last_stamp, polled, ticked}

-- writes with others laid over them; of two others on one key the first counts
abbrev pub merged : Writes → Writes → Writes
merged [] under = under
merged (write ∷ writes) under = with_write write.0 write.1 (merged writes under)

-- writes with those of commits laid over them, of each in turn
abbrev pub written : Writes → List Commit → Writes
written under [] = under
written under (commit ∷ commits) = written (merged commit.writes under) commits

-- the list with a row at its head, if there is one
abbrev pub with_row : Key → Option (List ℕ) → List (Key × List ℕ) → List (Key × List ℕ)
with_row key None rows = rows
with_row key (Some row) rows = (key, row) ∷ rows

-- the rows among writes
abbrev pub rows_among : Writes → List (Key × List ℕ)
rows_among [] = []
rows_among (write ∷ writes) = with_row write.0 write.1 (rows_among writes)

-- all that a session's snapshot and the session itself have written, by rising key
abbrev pub written_for : State → ℕ → Writes
written_for q n = merged (writes_of (q.sessions n)) (written [] (take (begun_of (q.sessions n)) q.history))

-- the rows of a scan
abbrev pub scanned : State → ℕ → ℕ → ℕ → ℕ → List (Key × List ℕ)
scanned q n table lo hi = rows_among (filter (λ write. is_in_range table lo hi write.0) (written_for q n))

-- the reply to a step that isn't refused
abbrev pub answer : State → Step → Reply
answer q Begin = Began (unwrap_or (free_session q) 0)
answer q (Get n key) = Row (seen_by q n key)
answer q (Scan n table lo hi) = Rows (scanned q n table lo hi)
answer q (Put n key row) = Done
answer q (Delete n key) = Done
answer q (Draw n) = if is_nil (writes_of (q.sessions n)) then Done else DrewAs q.next
answer q (Stamp n) = if is_last_stamp q n then Stamped else More
answer q (Poll n) = polled q (q.sessions n)
answer q (Abort n) = Done
answer q (End n) = Done
answer q CommitTick = ticked q q.hand
answer q Collect = collected q

-- the reply, and the state after it, if this refuses the step
abbrev pub reply_on : State → Step → Option Fault → Reply
reply_on q step None = answer q step
reply_on q step (Some fault) = Refused fault

-- the state after a step that this refuses, or that nothing refuses
abbrev pub state_on : State → Step → Option Fault → State
state_on q step None = next_state q step
state_on q step (Some fault) = q

-- the reply to a step
abbrev pub reply_of : State → Step → Reply
reply_of q step = reply_on q step (refusal q step)

-- the state after it
abbrev pub state_of : State → Step → State
state_of q step = state_on q step (refusal q step)

-- the replies to a list of steps, the states after each, and the last of them
abbrev pub replies : State → List Step → List Reply
replies q [] = []
replies q (step ∷ steps) = reply_of q step ∷ replies (state_of q step) steps

-- the states after each of them
abbrev pub states : State → List Step → List State
states q [] = []
states q (step ∷ steps) = state_of q step ∷ states (state_of q step) steps

-- the last of these
abbrev pub end : State → List Step → State
end q [] = q
end q (step ∷ steps) = end (state_of q step) steps

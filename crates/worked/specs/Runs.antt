-- Worked runs of the plain machine, with four slots, two places and a window of eight unless stated otherwise.
use Rattle.std.specs.Prelude.{ℕ, ◌≡◌, true, false, List, [], ◌∷◌, ◌++◌, map, replicate, Option, Some, None}
use Rattle.std.specs.List.{range_with_len}
use Rattle.base.specs.declared.key.Key.{Key}
use Rattle.base.specs.declared.fault.Fault.TheVariants.{Device, Failed, Conflict, WindowFull, SlotsOut, WriteSetFull, NoSession, WrongState, TimestampsOut}
use Rattle.base.specs.declared.step.Step.{Step}
use Rattle.base.specs.declared.step.Step.TheVariants.{Begin, Get, Scan, Put, Delete, Draw, Stamp, Poll, Abort, End, Commit as CommitTick, Collect}
use Rattle.base.specs.declared.step.Stage.TheVariants.{Chosen, LineFlushed, LinesFenced, BodyStored, BodyFlushed, BodyFenced, GateStored, GateFlushed}
use Rattle.base.specs.declared.step.Reply.{Reply}
use Rattle.base.specs.declared.step.Reply.TheVariants.{Began, Row, Rows, Done, Drawn as DrewAs, More, Stamped, Waiting, Committed, Idle, Ticked, Covered, Visited, SweepEnd, Refused}
use Rattle.base.specs.Commits.{Commit, after}
use Rattle.base.specs.Lists.{replaced}
use Rattle.machine.specs.Machine.{State, Session, Active, BySession, ByCommit, Stepped, most_operations, operates, chooses, refusal, closed}
use Rattle.machine.specs.Openings.{opened}
use Rattle.machine.specs.Replay.{replies, end}
use Rattle.worked.specs.Images.{with_words, formatted_image, covered_image, stamped_image, half_written_image, key_7, ab, commit_1, gap, record_of}

-- gate, persisted, dirty and next
abbrev pub numbers : State → List ℕ
numbers q = q.ruling.gate ∷ q.ruling.persisted ∷ q.ruling.dirty ∷ q.next ∷ []

-- another key
abbrev pub key_8 : Key
key_8 = record { table = 1; key = 8 }

-- this many ticks of the committer
abbrev pub ticks : ℕ → List Step
ticks n = replicate n CommitTick

-- the last of these replies
abbrev pub last_reply : List Reply → Reply
last_reply [] = Done
last_reply (reply ∷ []) = reply
last_reply (reply ∷ other ∷ replies) = last_reply (other ∷ replies)

-- the opening of a formatted image
abbrev pub start : State
start = opened formatted_image [] [] []

-- the same with one slot
abbrev pub start_with_one_slot : State
start_with_one_slot = record start { layout = record start.layout { slots = 1 } }

-- a session inserts key 7
abbrev pub insert : List Step
insert = Begin ∷ Put 2 key_7 ab ∷ Draw 2 ∷ Stamp 2 ∷ []

-- after that
abbrev pub inserted : State
inserted = end start insert

-- after it was covered
abbrev pub committed : State
committed = end inserted (ticks 42)

-- the stages of the one cycle
abbrev pub cycle : List Reply
cycle =
    map Ticked ((Chosen ∷ LineFlushed 0 ∷ LinesFenced ∷ map BodyStored (1 ∷ 2 ∷ 3 ∷ 4 ∷ 5 ∷ 6 ∷ 7 ∷ 8 ∷ 9 ∷ 10 ∷ 11 ∷ 12 ∷ 13 ∷ 14 ∷ 15 ∷ 16 ∷ 17 ∷ 18 ∷ 19 ∷ 20 ∷ 21 ∷ 22 ∷ 23 ∷ 24 ∷ 25 ∷ 26 ∷ 27 ∷ 28 ∷ 29 ∷ 30 ∷ 31 ∷ []))
    ++ map BodyFlushed (0 ∷ 1 ∷ 2 ∷ 3 ∷ []) ++ (BodyFenced ∷ GateStored ∷ GateFlushed ∷ []))
    ++ Covered (record { from = 2; stamp = 3; persisted = 1; longs = []; commits = commit_1 ∷ [] }) ∷ []

-- opened again with commit 1 covered, and what it reads
abbrev pub reopened : State
reopened = opened covered_image (commit_1 ∷ []) [] (gap 2 9 ∷ [])

-- a first commit: its replies, its forty-two ticks, and its row after the next opening
pub record FirstCommit : Type 0 where
  pub opens : numbers start ≡ 2 ∷ 0 ∷ 9 ∷ 1 ∷ []
  pub inserts : replies start (Poll 2 ∷ CommitTick ∷ insert) ≡ Refused NoSession ∷ Idle ∷ Began 2 ∷ Done ∷ DrewAs 1 ∷ Stamped ∷ []
  pub takes_slot_0 : inserted.held 0 ≡ Some (record { key = key_7; writer = ByCommit 1 })
  pub ticks_42 : replies inserted (ticks 42) ≡ cycle
  pub idle : replies committed (ticks 1) ≡ Idle ∷ []
  pub polls : replies inserted (Poll 2 ∷ ticks 42 ++ Poll 2 ∷ Poll 2 ∷ End 2 ∷ Poll 2 ∷ []) ≡ Waiting ∷ cycle ++ Committed 1 ∷ Committed 1 ∷ Done ∷ Refused NoSession ∷ []
  pub covers : (numbers committed ≡ 3 ∷ 1 ∷ 10 ∷ 2 ∷ []) × (committed.history ≡ commit_1 ∷ []) × (committed.ruling ≡ record_of 3 1 10 [])
  pub operations : map (most_operations inserted) (Begin ∷ Put 2 key_7 ab ∷ Stamp 2 ∷ CommitTick ∷ []) ≡ 0 ∷ 10 ∷ 2 ∷ 0 ∷ []
  pub reopens : (numbers reopened ≡ 4 ∷ 9 ∷ 18 ∷ 10 ∷ []) × (reopened.ruling.gaps ≡ gap 2 9 ∷ []) × (replies reopened (Begin ∷ Get 2 key_7 ∷ Get 2 key_8 ∷ []) ≡ Began 2 ∷ Row (Some ab) ∷ Row None ∷ [])

-- the fence of the gate fails: nothing was acknowledged, and each later step is refused
pub record FailedFence : Type 0 where
  pub fails : Stepped (end inserted (ticks 41)) CommitTick (Refused Device) (record (end inserted (ticks 41)) { failed = true })
  pub failed : replies (record (end inserted (ticks 41)) { failed = true }) (Poll 2 ∷ CommitTick ∷ Begin ∷ []) ≡ Refused Failed ∷ Refused Failed ∷ Refused Failed ∷ []

-- opened again with commit 1 stamped and not covered
abbrev pub without : State
without = opened stamped_image [] (1 ∷ []) (gap 1 8 ∷ [])

-- a commit that is stamped and not covered is lost for good, and its slot is free
pub record LostCommit : Type 0 where
  pub opens : (numbers without ≡ 3 ∷ 8 ∷ 17 ∷ 9 ∷ []) × (without.ruling.gaps ≡ gap 1 8 ∷ [])
  pub again : replies without (Begin ∷ Get 2 key_7 ∷ Put 2 key_7 ab ∷ Draw 2 ∷ Stamp 2 ∷ []) ≡ Began 2 ∷ Row None ∷ Done ∷ DrewAs 9 ∷ Stamped ∷ []
  pub takes_slot_0 : (end without (Begin ∷ Put 2 key_7 ab ∷ [])).held 0 ≡ Some (record { key = key_7; writer = BySession 2 })
  pub covers : (numbers (end without (insert ++ ticks 42)) ≡ 4 ∷ 9 ∷ 18 ∷ 10 ∷ []) × ((end without (insert ++ ticks 42)).ruling.gaps ≡ gap 1 8 ∷ [])

-- a session that wrote nothing draws nothing
pub record EmptyWriteSet : Type 0 where
  pub draws : replies start (Begin ∷ Draw 2 ∷ Poll 2 ∷ Stamp 2 ∷ Draw 2 ∷ End 2 ∷ []) ≡ Began 2 ∷ Done ∷ Done ∷ Refused WrongState ∷ Refused WrongState ∷ Done ∷ []
  pub numbers_stay : numbers (end start (Begin ∷ Draw 2 ∷ [])) ≡ numbers start

-- record 5 rules, and the next opening skips what record 6 would have covered
pub record HalfWritten : Type 0 where
  pub opens : numbers (opened half_written_image [] (4 ∷ []) (gap 4 11 ∷ [])) ≡ 6 ∷ 11 ∷ 20 ∷ 12 ∷ []

-- closing leaves no timestamp reserved, and the next opening has no gap
pub record CloseThenOpen : Type 0 where
  pub closes : (closed committed).ruled_by ≡ record_of 4 1 2 []
  pub covers_drawn : (closed inserted) ≡ record { ruled_by = record_of 3 1 2 []; commits = commit_1 ∷ [] }
  pub covers_hand : (closed (end inserted (ticks 20))) ≡ record { ruled_by = record_of 4 1 2 []; commits = commit_1 ∷ [] }
  pub opens : numbers (opened (with_words ((8, 4) ∷ (9, 1) ∷ (10, 2) ∷ []) covered_image) (commit_1 ∷ []) [] []) ≡ 5 ∷ 1 ∷ 10 ∷ 2 ∷ []

-- an update of key 7, which is there
abbrev pub updated : State
updated = end committed (End 2 ∷ Begin ∷ Put 2 key_7 [] ∷ Draw 2 ∷ Stamp 2 ∷ [])

-- a commit that deletes key 7 and inserts key 8
abbrev pub two_keys : State
two_keys = end committed (End 2 ∷ Begin ∷ Put 2 key_8 ab ∷ Delete 2 key_7 ∷ Draw 2 ∷ Stamp 2 ∷ Stamp 2 ∷ [])

-- a key of another table
abbrev pub numbered_key : ℕ → Key
numbered_key n = record { table = 2; key = n }

-- a session that has deleted thirty-two keys
abbrev pub with_32_keys : State
with_32_keys = end start (Begin ∷ map (λ n. Delete 2 (numbered_key n)) (range_with_len 0 32))

-- a session has the lowest number that is free, and each step its state
pub record SessionNumbers : Type 0 where
  pub lowest : replies start (Begin ∷ Begin ∷ Get 4 key_7 ∷ Stamp 2 ∷ End 2 ∷ Draw 2 ∷ Begin ∷ End 2 ∷ Begin ∷ [])
      ≡ Began 2 ∷ Began 3 ∷ Refused NoSession ∷ Refused WrongState ∷ Refused WrongState ∷ Done ∷ Began 4 ∷ Done ∷ Began 2 ∷ []

-- a transaction sees what it wrote and what it deleted; a deletion of what never was is a commit, without a slot or a line
pub record OwnWrites : Type 0 where
  pub sees : replies start (Begin ∷ Put 2 key_7 ab ∷ Get 2 key_7 ∷ Delete 2 key_7 ∷ Get 2 key_7 ∷ Draw 2 ∷ Stamp 2 ∷ []) ≡ Began 2 ∷ Done ∷ Row (Some ab) ∷ Done ∷ Row None ∷ DrewAs 1 ∷ Stamped ∷ []
  pub releases : (end start (Begin ∷ Put 2 key_7 ab ∷ Delete 2 key_7 ∷ [])).held 0 ≡ None
  pub operations : operates (end start (Begin ∷ Delete 2 key_7 ∷ Draw 2 ∷ [])) (Stamp 2) ≡ false
  pub covers : last_reply (replies start (Begin ∷ Delete 2 key_7 ∷ Draw 2 ∷ Stamp 2 ∷ ticks 41))
      ≡ Covered (record { from = 2; stamp = 3; persisted = 1; longs = []; commits = record { timestamp = 1; writes = (key_7, None) ∷ [] } ∷ [] })

-- keys on both sides of those two
abbrev pub key_6 : Key
key_6 = record { table = 1; key = 6 }

-- a key above both
abbrev pub key_9 : Key
key_9 = record { table = 1; key = 9 }

-- three commits of table 1
abbrev pub three_commits : List Commit
three_commits =
    record { timestamp = 1; writes = (key_7, Some ab) ∷ (key_8, Some []) ∷ [] } ∷ record { timestamp = 2; writes = (key_8, None) ∷ (key_9, Some ab) ∷ [] }
    ∷ record { timestamp = 3; writes = (key_7, None) ∷ [] } ∷ []

-- a session that sees the first two of them, and has put key 6 and deleted key 9
abbrev pub reading : State
reading = record start {
  history = three_commits;
  sessions = λ n. replaced 2 (Some (Active 2 ((key_6, Some []) ∷ (key_9, None) ∷ []))) (λ m. None) n;
}

-- a scan shows the rows of the session's snapshot with its own writes laid over, by rising key, both ends included
pub record Scans : Type 0 where
  pub whole : replies reading (Scan 2 1 0 9 ∷ []) ≡ Rows ((key_6, []) ∷ (key_7, ab) ∷ []) ∷ []
  pub ends : replies reading (Scan 2 1 6 7 ∷ Scan 2 1 7 7 ∷ []) ≡ Rows ((key_6, []) ∷ (key_7, ab) ∷ []) ∷ Rows ((key_7, ab) ∷ []) ∷ []
  pub empty : replies reading (Scan 2 1 8 9 ∷ Scan 2 1 7 6 ∷ Scan 2 2 0 9 ∷ []) ≡ Rows [] ∷ Rows [] ∷ Rows [] ∷ []
  pub refuses : replies reading (Scan 3 1 0 9 ∷ Draw 2 ∷ Scan 2 1 0 9 ∷ []) ≡ Refused NoSession ∷ DrewAs 1 ∷ Refused WrongState ∷ []

-- an update takes a slot of its own, and the version that it replaces keeps its slot; its cycle has two lines
pub record Update : Type 0 where
  pub puts : replies committed (End 2 ∷ Begin ∷ Put 2 key_7 [] ∷ Get 2 key_7 ∷ Draw 2 ∷ Stamp 2 ∷ []) ≡ Done ∷ Began 2 ∷ Done ∷ Row (Some []) ∷ DrewAs 2 ∷ Stamped ∷ []
  pub takes_slot_1 : updated.held 1 ≡ Some (record { key = key_7; writer = ByCommit 2 })
  pub keeps_slot_0 : (end updated (ticks 43)).held 0 ≡ Some (record { key = key_7; writer = ByCommit 1 })
  pub covers : (numbers (end updated (ticks 43)) ≡ 4 ∷ 2 ∷ 11 ∷ 3 ∷ []) × (after (end updated (ticks 43)).history key_7 ≡ Some [])

-- two keys in one commit, a deletion and an insertion, stamped one by one in order of the keys
pub record TwoKeys : Type 0 where
  pub stamps : replies committed (End 2 ∷ Begin ∷ Put 2 key_8 ab ∷ Delete 2 key_7 ∷ Draw 2 ∷ Stamp 2 ∷ Stamp 2 ∷ Stamp 2 ∷ []) ≡ Done ∷ Began 2 ∷ Done ∷ Done ∷ DrewAs 2 ∷ More ∷ Stamped ∷ Refused WrongState ∷ []
  pub covers : last_reply (replies two_keys (ticks 43)) ≡ Covered (record { from = 3; stamp = 4; persisted = 2; longs = []; commits = record { timestamp = 2; writes = (key_7, None) ∷ (key_8, Some ab) ∷ [] } ∷ [] })
  pub reads : replies (end two_keys (ticks 43)) (End 2 ∷ Begin ∷ Get 2 key_7 ∷ Get 2 key_8 ∷ []) ≡ Done ∷ Began 2 ∷ Row None ∷ Row (Some ab) ∷ []

-- an abort frees the slots and the number
pub record AbortedWrites : Type 0 where
  pub aborts : replies start (Begin ∷ Put 2 key_7 ab ∷ Put 2 key_8 ab ∷ Abort 2 ∷ Get 2 key_7 ∷ Begin ∷ Get 2 key_7 ∷ []) ≡ Began 2 ∷ Done ∷ Done ∷ Done ∷ Refused NoSession ∷ Began 2 ∷ Row None ∷ []
  pub releases : map (end start (Begin ∷ Put 2 key_7 ab ∷ Put 2 key_8 ab ∷ Abort 2 ∷ [])).held (0 ∷ 1 ∷ []) ≡ None ∷ None ∷ []
  pub drawn : replies start (Begin ∷ Put 2 key_7 ab ∷ Draw 2 ∷ Abort 2 ∷ []) ≡ Began 2 ∷ Done ∷ DrewAs 1 ∷ Refused WrongState ∷ []

-- thirty-two keys, and no more; one of them may be written again
pub record FullWriteSet : Type 0 where
  pub refuses : replies with_32_keys (Put 2 key_8 ab ∷ Delete 2 key_8 ∷ Delete 2 (numbered_key 3) ∷ Get 2 (numbered_key 3) ∷ []) ≡ Refused WriteSetFull ∷ Refused WriteSetFull ∷ Done ∷ Row None ∷ []

-- no slot is left
pub record NoSlotLeft : Type 0 where
  pub out : replies (end start_with_one_slot (insert ++ ticks 42)) (End 2 ∷ Begin ∷ Put 2 key_8 [] ∷ Get 2 key_7 ∷ Draw 2 ∷ Poll 2 ∷ End 2 ∷ [])
      ≡ Done ∷ Began 2 ∷ Refused SlotsOut ∷ Row (Some ab) ∷ Done ∷ Done ∷ Done ∷ []

-- two sessions that write key 7
abbrev pub two_writers : State
two_writers = record start {
  sessions = λ n. replaced 2 (Some (Active 0 ((key_7, Some ab) ∷ []))) (replaced 3 (Some (Active 0 ((key_7, Some []) ∷ []))) (λ m. None)) n;
}

-- the first to draw wins, before and after its commit is covered; a later snapshot sees it
pub record FirstCommitterWins : Type 0 where
  pub drawn : replies two_writers (Draw 2 ∷ Draw 3 ∷ Stamp 2 ∷ Draw 3 ∷ []) ≡ DrewAs 1 ∷ Refused (Conflict key_7) ∷ Stamped ∷ Refused (Conflict key_7) ∷ []
  pub covered : replies (end two_writers (Draw 2 ∷ Stamp 2 ∷ ticks 42)) (Draw 3 ∷ Get 3 key_7 ∷ []) ≡ Refused (Conflict key_7) ∷ Row (Some []) ∷ []

-- no timestamp is left: in the window, or at all
abbrev pub full_window : State
full_window = record two_writers { next = 9 }

-- the numbers near their limit
abbrev pub near_limit : State
near_limit = record two_writers { next = 4611686018427387888; ruling = record two_writers.ruling { dirty = 4611686018427387896 } }

-- a draw is refused at the bound, and not below it
pub record NoTimestampLeft : Type 0 where
  pub window : (refusal full_window (Draw 2) ≡ Some WindowFull) × (refusal (record full_window { ruling = record full_window.ruling { dirty = 10 } }) (Draw 2) ≡ None)
  pub limit : (refusal near_limit (Draw 2) ≡ Some TimestampsOut) × (refusal (record near_limit { next = 4611686018427387887 }) (Draw 2) ≡ None)
  pub records : (refusal (record inserted { ruling = record inserted.ruling { gate = 4611686018427387903 } }) CommitTick ≡ Some TimestampsOut) × (refusal (record inserted { ruling = record inserted.ruling { gate = 4611686018427387902 } }) CommitTick ≡ None) × (refusal (record start { ruling = record start.ruling { gate = 4611686018427387903 } }) CommitTick ≡ None)

-- ---- the collector

-- this many visits of the collector
abbrev pub collects : ℕ → List Step
collects n = replicate n Collect

-- key 7 was written and then deleted, and this is session 2
abbrev pub deleted_with : Option Session → State
deleted_with session = record start {
  history = commit_1 ∷ record { timestamp = 2; writes = (key_7, None) ∷ [] } ∷ [];
  ruling = record_of 4 2 11 [];
  next = 3;
  sessions = λ n. replaced 2 session (λ m. None) n;
  held = λ slot. replaced 0 (Some (record { key = key_7; writer = ByCommit 1 })) (λ m. None) slot;
}

-- a slot is free once nobody reads its version: not while a session reads the tables from before the deletion
pub record FreedSlots : Type 0 where
  pub rounds : replies (deleted_with None) (collects 6) ≡ Visited 0 ∷ Visited 1 ∷ Visited 2 ∷ Visited 3 ∷ SweepEnd ∷ Visited 0 ∷ []
  pub frees : (end (deleted_with None) (collects 1)).held 0 ≡ None
  pub keeps : (end (deleted_with (Some (Active 1 []))) (collects 1)).held 0 ≡ Some (record { key = key_7; writer = ByCommit 1 })
  pub reads : replies (end (deleted_with (Some (Active 1 []))) (collects 1)) (Get 2 key_7 ∷ []) ≡ Row (Some ab) ∷ []
  pub later : (end (deleted_with (Some (Active 2 []))) (collects 1)).held 0 ≡ None
  pub operations : most_operations (deleted_with None) Collect ≡ 0

-- a sweep makes at most three operations at a slot and one at the closing place; then the next record drops the gaps
pub record SweptGaps : Type 0 where
  pub before : replies without (ticks 1) ≡ Idle ∷ []
  pub sweeps : replies without (collects 5) ≡ Visited 0 ∷ Visited 1 ∷ Visited 2 ∷ Visited 3 ∷ SweepEnd ∷ []
  pub operations : map (λ n. most_operations (end without (collects n)) Collect) (0 ∷ 3 ∷ 4 ∷ 5 ∷ []) ≡ 3 ∷ 3 ∷ 1 ∷ 0 ∷ []
  pub due : chooses (end without (collects 5)) CommitTick ≡ true
  pub drops : (numbers (end without (collects 5 ++ ticks 41)) ≡ 4 ∷ 8 ∷ 17 ∷ 9 ∷ []) × ((end without (collects 5 ++ ticks 41)).ruling.gaps ≡ [])

-- The plain machine: what each step may reply, and the state after it.
use Rattle.std.specs.Prelude.{ℕ, ◌+◌, ◌*◌, ◌^◌, ◌≡◌, ◌⊎◌, Bool, true, false, ◌&&◌, ◌||◌, not, nat_eq, nat_lt, nat_le, if◌then◌else◌, List, [], ◌∷◌, ◌++◌, length, map, take, drop, filter, find, sum_by, slice_get, IsTrue, Option, Some, None, is_some, is_none, unwrap_or, Contains}
use Rattle.std.specs.List.{list_any, range_with_len, flat_map}
use Rattle.std.specs.Option.{option_map, option_map_or, option_and_then}
use Rattle.base.specs.declared.key.Key.{Key}
use Rattle.base.specs.declared.gap.Gap.{Gap}
use Rattle.base.specs.declared.fault.Fault.{Fault}
use Rattle.base.specs.declared.fault.Fault.TheVariants.{TooLong, Device, SlotsOut, NoSession, WrongState, SessionsFull, WriteSetFull, Conflict, WindowFull, TimestampsOut, OutOfMemory, Failed}
use Rattle.base.specs.declared.step.Step.{Step}
use Rattle.base.specs.declared.step.Step.TheVariants.{Begin, Get, Scan, Put, Delete, Draw, Stamp, Poll, Abort, End, Commit as CommitTick, Collect}
use Rattle.base.specs.declared.step.Stage.{Stage}
use Rattle.base.specs.declared.step.Stage.TheVariants.{Chosen, LineFlushed, LinesFenced, BodyStored, BodyFlushed, BodyFenced, GateStored, GateFlushed}
use Rattle.base.specs.declared.step.Reply.{Reply}
use Rattle.base.specs.declared.step.Reply.TheVariants.{Began, Row, Rows, Done, Drawn as DrewAs, More, Stamped, Waiting, Committed, Idle, Ticked, Covered, Refused}
use Rattle.base.specs.declared.step.Note.{Note}
use Rattle.base.specs.Keys.{key_eq, lookup_key}
use Rattle.base.specs.Commits.{Writes, Commit, Tables, overlaid, after, in_range, Lists, writes_key, with_write}
use Rattle.base.specs.Batches.{Batch}
use Rattle.base.specs.Layout.{row_limit, slot_words, version_lines, most_longs}
use Rattle.base.specs.Search.{first_below, first_of, some_if}
use Rattle.base.specs.Lists.{is_nil, replaced}
use Rattle.base.specs.Records.{Record}
use Rattle.base.specs.Choosing as choosing
pub use Rattle.base.specs.Choosing.{is_stamped}
use Rattle.base.specs.Images.{Image, layout_of, ruling}
use Rattle.base.specs.Stands.{has_timestamp, Stands}
use Rattle.base.specs.Replies.{note_of}
use Rattle.machine.specs.Collecting.{is_sweeping, most_operations_of_visit, collected, visited}
pub use Rattle.machine.specs.State.{State, Session, Active, Drew, WroteNothing, Drawn, Hand, Writer, BySession, ByCommit, Version, held_at, session_numbers}
unfoldable pub use Rattle.machine.specs.State.{most_sessions}

-- Sessions

-- the lowest number that is free
abbrev pub free_session : State → Option ℕ
free_session q = find (λ n. is_none (q.sessions n)) session_numbers

-- the session that a step names
abbrev pub session_of : Step → Option ℕ
session_of Begin = None
session_of (Get n key) = Some n
session_of (Scan n table lo hi) = Some n
session_of (Put n key row) = Some n
session_of (Delete n key) = Some n
session_of (Draw n) = Some n
session_of (Stamp n) = Some n
session_of (Poll n) = Some n
session_of (Abort n) = Some n
session_of (End n) = Some n
session_of CommitTick = None
session_of Collect = None

-- in which state a session is
pub data Standing : Type 0 where
  IsActive : Standing
  IsDrawn : Standing
  IsStamped : Standing
  IsCovered : Standing

-- the drawn commit with this timestamp
abbrev pub drawn_at : State → ℕ → Option Drawn
drawn_at q t = find (λ d. nat_eq d.commit.timestamp t) q.drawn

-- it is Active, or has drawn, or has all keys stamped, or is covered
abbrev pub standing_of : State → Session → Standing
standing_of q (Active begun writes) = IsActive
standing_of q (Drew t) =
    if has_timestamp q.history t then IsCovered
    else (if list_any (λ d. nat_eq d.commit.timestamp t && is_stamped d) q.drawn then IsStamped else IsDrawn)
standing_of q WroteNothing = IsCovered

-- in which state of its session a step is allowed
abbrev pub allows : Step → Standing → Bool
allows (Get n key) IsActive = true
allows (Scan n table lo hi) IsActive = true
allows (Put n key row) IsActive = true
allows (Delete n key) IsActive = true
allows (Draw n) IsActive = true
allows (Stamp n) IsDrawn = true
allows (Poll n) IsDrawn = true
allows (Poll n) IsStamped = true
allows (Poll n) IsCovered = true
allows (Abort n) IsActive = true
allows (End n) IsCovered = true
allows _ _ = false

-- how many commits an active session's snapshot has
abbrev pub begun_of : Option Session → ℕ
begun_of (Some (Active begun writes)) = begun
begun_of _ = 0

-- an active session's writes
abbrev pub writes_of : Option Session → Writes
writes_of (Some (Active begun writes)) = writes
writes_of _ = []

-- the timestamp that a session has drawn
abbrev pub timestamp_of : Option Session → ℕ
timestamp_of (Some (Drew t)) = t
timestamp_of _ = 0

-- the tables that a session sees: those of its snapshot, with its own writes laid over
abbrev pub seen_by : State → ℕ → Tables
seen_by q n = overlaid (writes_of (q.sessions n)) (after (take (begun_of (q.sessions n)) q.history))

-- Slots

-- the session is the writer
abbrev pub is_by : ℕ → Writer → Bool
is_by n (BySession m) = nat_eq m n
is_by n (ByCommit t) = false

-- the slot is taken by the session, for the key
abbrev pub is_own_at : ℕ → Key → Option Version → Bool
is_own_at n key None = false
is_own_at n key (Some v) = is_by n v.writer && key_eq v.key key

-- the slot is taken by the session, for any key
abbrev pub is_held_by : ℕ → Option Version → Bool
is_held_by n None = false
is_held_by n (Some v) = is_by n v.writer

-- the lowest slot that nothing holds
abbrev pub free_slot : State → Option ℕ
free_slot q = first_below q.layout.slots (λ slot. is_none (q.held slot))

-- the slot that the session took for the key
abbrev pub own_slot : State → ℕ → Key → Option ℕ
own_slot q n key = first_below q.layout.slots (λ slot. is_own_at n key (q.held slot))

-- the first free slot is taken for the version, unless its session has one for the key
abbrev pub held_with : State → Version → Option ℕ → ℕ → Option Version
held_with q version (Some own) = q.held
held_with q version None = held_at (free_slot q) version q.held

-- what holds each slot after a put
abbrev pub held_after_put : State → ℕ → Key → ℕ → Option Version
held_after_put q n key = held_with q (record { key = key; writer = BySession n }) (own_slot q n key)

-- what holds each slot once the session has released the one for the key, if it has one
abbrev pub held_after_delete : State → ℕ → Key → ℕ → Option Version
held_after_delete q n key slot = if is_own_at n key (q.held slot) then None else q.held slot

-- what holds each slot once the session has released all that it has
abbrev pub held_after_abort : State → ℕ → ℕ → Option Version
held_after_abort q n slot = if is_held_by n (q.held slot) then None else q.held slot

-- a session's versions become those of its commit
abbrev pub by_commit : ℕ → ℕ → Option Version → Option Version
by_commit n t None = None
by_commit n t (Some v) = Some (record { key = v.key; writer = if is_by n v.writer then ByCommit t else v.writer })

-- Drawing

-- the commits that a session doesn't see
abbrev pub unseen_by : State → ℕ → List Commit
unseen_by q n = drop (begun_of (q.sessions n)) q.history ++ map (λ d. d.commit) q.drawn

-- the session's least key that one of them writes
abbrev pub conflict_of : State → ℕ → Option Key
conflict_of q n = find (λ key. list_any (writes_key key) (unseen_by q n)) (map (λ write. write.0) (writes_of (q.sessions n)))

-- Group commit

-- how many drawn commits below a timestamp aren't stamped
abbrev pub unstamped_below : State → ℕ → ℕ
unstamped_below q = choosing.unstamped_below q.drawn

-- a commit may be covered when it is stamped, and no more commits below it than a record may name aren't
abbrev pub may_be_covered : State → Drawn → Bool
may_be_covered q = choosing.may_be_covered (most_longs q.layout.version) q.drawn

-- The timestamp up to which stamped commits are covered: the greatest of those that may be, or the one persisted now
abbrev pub reach : State → ℕ
reach q = choosing.reach (most_longs q.layout.version) q.ruling.persisted q.drawn

-- it is stamped, and not above there
abbrev pub is_chosen : State → Drawn → Bool
is_chosen q = choosing.is_chosen (reach q)

-- the batch that is chosen now: the stamped commits up to there
abbrev pub chosen : State → List Commit
chosen q = choosing.chosen (reach q) q.drawn

-- it is not stamped, and not above there
abbrev pub is_passed : State → Drawn → Bool
is_passed q = choosing.is_passed (reach q)

-- the long commits that its record names: drawn and not stamped, up to there
abbrev pub passed_over : State → List ℕ
passed_over q = choosing.passed_over (reach q) q.drawn

-- nothing to cover, and no other reason for a record
abbrev pub is_idle : State → Bool
is_idle q = choosing.is_idle q.layout q.ruling q.next q.swept q.drawn

-- the lines that one write of a batch touches: the new version's, and that of the version that it ends
abbrev pub lines_of_write : State → Key × Option (List ℕ) → ℕ
lines_of_write q write =
    (if is_some write.1 then version_lines q.layout else 0) + (if is_some (after q.history write.0) then 1 else 0)

-- the lines that a batch's commits touch
abbrev pub lines_of : State → List Commit → ℕ
lines_of q commits = sum_by (lines_of_write q) (flat_map (λ commit. commit.writes) commits)

-- the stages of a cycle that flushes this many lines; one more tick covers the batch
abbrev pub stages : ℕ → List Stage
stages lines =
    (Chosen ∷ map LineFlushed (range_with_len 0 lines)) ++ (LinesFenced ∷ map BodyStored (range_with_len 1 31))
    ++ map BodyFlushed (range_with_len 0 4) ++ (BodyFenced ∷ GateStored ∷ GateFlushed ∷ [])

-- the stage of the next tick, if it doesn't cover
abbrev pub next_stage : State → Hand → Option Stage
next_stage q hand = slice_get (stages (lines_of q hand.commits)) hand.ticks

-- the gaps that the next record names: none once they are swept
abbrev pub standing_gaps : State → List Gap
standing_gaps q = choosing.standing_gaps q.swept q.ruling

-- the record that covers the batch that is chosen now
abbrev pub target_of : State → Record
target_of q = choosing.target_of q.layout q.ruling q.next q.swept q.drawn

-- the batch that is chosen now, after its first tick
abbrev pub taken_in_hand : State → Hand
taken_in_hand q = record { commits = chosen q; target = target_of q; ticks = 1 }

-- what readers learn of it
abbrev pub batch_of : State → Hand → Batch
batch_of q hand = choosing.batch_of q.ruling hand.target hand.commits

-- the state once it is covered
abbrev pub state_covered : State → Hand → State
state_covered q hand = record q {
  ruling = hand.target;
  history = q.history ++ hand.commits;
  drawn = filter (λ d. not (has_timestamp hand.commits d.commit.timestamp)) q.drawn;
  hand = None;
}

-- Steps

-- how many keys a transaction may write
abbrev pub most_writes : ℕ
most_writes = 32

-- the session's transaction writes as many keys as it may, and none of them is this
abbrev pub is_full_for : State → ℕ → Key → Bool
is_full_for q n key = is_none (lookup_key (writes_of (q.sessions n)) key) && nat_le most_writes (length (writes_of (q.sessions n)))

-- the step writes one key more than a transaction may
abbrev pub overfills : State → Step → Bool
overfills q (Put n key row) = is_full_for q n key
overfills q (Delete n key) = is_full_for q n key
overfills q _ = false

-- a row is longer than the format allows
abbrev pub is_too_long : State → Step → Bool
is_too_long q (Put n key row) = nat_lt (row_limit q.layout.version) (length row)
is_too_long q _ = false

-- a slot is needed, and none is free
abbrev pub lacks_slot : State → Step → Bool
lacks_slot q (Put n key row) = is_none (own_slot q n key) && is_none (free_slot q)
lacks_slot q _ = false

-- the key at which a draw conflicts
abbrev pub conflicts : State → Step → Option Key
conflicts q (Draw n) = conflict_of q n
conflicts q _ = None

-- the step draws a timestamp
abbrev pub draws : State → Step → Bool
draws q (Draw n) = not (is_nil (writes_of (q.sessions n)))
draws q _ = false

-- this tick chooses a batch
abbrev pub chooses : State → Step → Bool
chooses q CommitTick = is_none q.hand && not (is_idle q)
chooses q _ = false

-- the step opens a session
abbrev pub begins : Step → Bool
begins Begin = true
begins _ = false

-- the session that the step names is not open
abbrev pub is_absent : State → Step → Bool
is_absent q step = option_map_or (λ n. is_none (q.sessions n)) (session_of step) false

-- the session is in a state that does not allow the step
abbrev pub is_misplaced_in : State → Step → Option Session → Bool
is_misplaced_in q step None = false
is_misplaced_in q step (Some session) = not (allows step (standing_of q session))

-- the session that the step names is in such a state
abbrev pub is_misplaced : State → Step → Bool
is_misplaced q step = option_map_or (λ n. is_misplaced_in q step (q.sessions n)) (session_of step) false

-- the reasons to refuse a step, in this order, leaving aside a lack of memory and a failing device
abbrev pub refusals : State → Step → List (Option Fault)
refusals q step =
    some_if q.failed Failed
    ∷ some_if (begins step && is_none (free_session q)) SessionsFull
    ∷ some_if (is_absent q step) NoSession
    ∷ some_if (is_misplaced q step) WrongState
    ∷ some_if (is_too_long q step) TooLong
    ∷ some_if (overfills q step) WriteSetFull
    ∷ some_if (lacks_slot q step) SlotsOut
    ∷ option_map Conflict (conflicts q step)
    ∷ some_if (draws q step && nat_eq q.next q.ruling.dirty) WindowFull
    ∷ some_if (draws q step && nat_le (2 ^ 62) (q.next + 2 * q.layout.window) || chooses q step && nat_le (2 ^ 62) (q.ruling.gate + 1)) TimestampsOut
    ∷ []

-- why a step is refused: the first of them
abbrev pub refusal : State → Step → Option Fault
refusal q step = first_of (refusals q step)

-- the steps that may be refused for lack of memory: a draw only if it draws a timestamp
abbrev pub takes_memory : State → Step → Bool
takes_memory q Begin = true
takes_memory q (Scan n table lo hi) = true
takes_memory q (Put n key row) = true
takes_memory q (Delete n key) = true
takes_memory q (Draw n) = draws q (Draw n)
takes_memory q step = chooses q step

-- the write that a stamp deals with
abbrev pub stamped_write : State → ℕ → Option (Key × Option (List ℕ))
stamped_write q n = option_and_then (λ d. slice_get d.commit.writes d.stamped) (drawn_at q (timestamp_of (q.sessions n)))

-- a write touches a line if it has a row, or there is a row to end
abbrev pub operates_for : State → Option (Key × Option (List ℕ)) → Bool
operates_for q None = false
operates_for q (Some write) = is_some write.1 || is_some (after q.history write.0)

-- the steps that make a device operation
abbrev pub operates : State → Step → Bool
operates q (Put n key row) = true
operates q (Stamp n) = operates_for q (stamped_write q n)
operates q CommitTick = is_some q.hand
operates q Collect = is_sweeping q
operates q _ = false

-- The most device operations that a step makes. A put stores each word of its slot, and flushes and
-- fences the first one: 10 with slots of one line, and eight more for each further line
abbrev pub most_operations : State → Step → ℕ
most_operations q (Put n key row) = slot_words q.layout.version + 2
most_operations q (Stamp n) = 2
most_operations q CommitTick = if is_some q.hand then 1 else 0
most_operations q Collect = most_operations_of_visit q
most_operations q _ = 0

-- the same of steps that lead from q through these states
abbrev pub most_operations_along : State → List Step → List State → ℕ
most_operations_along q (step ∷ steps) (q' ∷ states) = most_operations q step + most_operations_along q' steps states
most_operations_along q _ _ = 0

-- this stamp deals with the last key
abbrev pub is_last_stamp : State → ℕ → Bool
is_last_stamp q n = list_any (λ d. nat_eq d.commit.timestamp (timestamp_of (q.sessions n)) && nat_eq (d.stamped + 1) (length d.commit.writes)) q.drawn

-- what a poll replies
abbrev pub polled : State → Option Session → Reply
polled q (Some (Drew t)) = if has_timestamp q.history t then Committed t else Waiting
polled q (Some WroteNothing) = Done
polled q _ = Waiting

-- what a tick of a cycle replies: its stage, or the batch at the end
abbrev pub ticked_on : State → Hand → Option Stage → Reply
ticked_on q hand (Some stage) = Ticked stage
ticked_on q hand None = Covered (batch_of q hand)

-- what a committer's tick replies
abbrev pub ticked : State → Option Hand → Reply
ticked q None = if is_idle q then Idle else Ticked Chosen
ticked q (Some hand) = ticked_on q hand (next_stage q hand)

-- the reply to a step that isn't refused
abbrev pub Answers : State → Step → Reply → Type 0
Answers q Begin reply = reply ≡ Began (unwrap_or (free_session q) 0)
Answers q (Get n key) reply = reply ≡ Row (seen_by q n key)
Answers q (Scan n table lo hi) reply = (rows : List (Key × List ℕ)) × (reply ≡ Rows rows) × Lists rows (in_range table lo hi (seen_by q n))
Answers q (Put n key row) reply = reply ≡ Done
Answers q (Delete n key) reply = reply ≡ Done
Answers q (Draw n) reply = reply ≡ (if is_nil (writes_of (q.sessions n)) then Done else DrewAs q.next)
Answers q (Stamp n) reply = reply ≡ (if is_last_stamp q n then Stamped else More)
Answers q (Poll n) reply = reply ≡ polled q (q.sessions n)
Answers q (Abort n) reply = reply ≡ Done
Answers q (End n) reply = reply ≡ Done
Answers q CommitTick reply = reply ≡ ticked q q.hand
Answers q Collect reply = reply ≡ collected q

-- the state after a step that isn't refused

-- the state with another session at that number
abbrev pub with_session : ℕ → Option Session → State → State
with_session n session q = record q { sessions = replaced n session q.sessions }

-- the state with other writes of that session
abbrev pub with_writes : ℕ → Writes → State → State
with_writes n writes q = with_session n (Some (Active (begun_of (q.sessions n)) writes)) q

-- with one more key stamped, if it has the timestamp
abbrev pub counted : ℕ → Drawn → Drawn
counted t d = if nat_eq d.commit.timestamp t then record { commit = d.commit; stamped = d.stamped + 1 } else d

-- the state after a draw: without writes no timestamp, else a commit more and the slots are its own
abbrev pub state_drawn : State → ℕ → Writes → State
state_drawn q n [] = with_session n (Some WroteNothing) q
state_drawn q n (write ∷ writes) = record (with_session n (Some (Drew q.next)) q) {
  drawn = q.drawn ++ record { commit = record { timestamp = q.next; writes = write ∷ writes }; stamped = 0 } ∷ [];
  next = q.next + 1;
  held = λ slot. by_commit n q.next (q.held slot);
}

-- the state after a tick of a cycle
abbrev pub state_ticked_on : State → Hand → Option Stage → State
state_ticked_on q hand (Some stage) = record q { hand = Some (record hand { ticks = hand.ticks + 1 }) }
state_ticked_on q hand None = state_covered q hand

-- the state after a committer's tick
abbrev pub state_ticked : State → Option Hand → State
state_ticked q None = if is_idle q then q else record q { hand = Some (taken_in_hand q) }
state_ticked q (Some hand) = state_ticked_on q hand (next_stage q hand)

-- one equation for each step
abbrev pub next_state : State → Step → State
next_state q Begin = with_session (unwrap_or (free_session q) 0) (Some (Active (length q.history) [])) q
next_state q (Get n key) = q
next_state q (Scan n table lo hi) = q
next_state q (Put n key row) = record (with_writes n (with_write key (Some row) (writes_of (q.sessions n))) q) { held = held_after_put q n key }
next_state q (Delete n key) = record (with_writes n (with_write key None (writes_of (q.sessions n))) q) { held = held_after_delete q n key }
next_state q (Draw n) = state_drawn q n (writes_of (q.sessions n))
next_state q (Stamp n) = record q { drawn = map (counted (timestamp_of (q.sessions n))) q.drawn }
next_state q (Poll n) = q
next_state q (Abort n) = record (with_session n None q) { held = held_after_abort q n }
next_state q (End n) = with_session n None q
next_state q CommitTick = state_ticked q q.hand
next_state q Collect = visited q

-- One step. A refusal changes nothing, unless the device fails, after which each step is refused
pub data Stepped (q : State) (step : Step) (reply : Reply) (q' : State) : Type 0 where
  refused : (fault : Fault) → refusal q step ≡ Some fault → reply ≡ Refused fault → q' ≡ q → Stepped q step reply q'
  answered : refusal q step ≡ None → Answers q step reply → q' ≡ next_state q step → Stepped q step reply q'
  memory_refused : refusal q step ≡ None → IsTrue (takes_memory q step) → reply ≡ Refused OutOfMemory → q' ≡ q → Stepped q step reply q'
  device_failed : refusal q step ≡ None → IsTrue (operates q step) → reply ≡ Refused Device → q' ≡ record q { failed = true } → Stepped q step reply q'

-- Runs

-- these steps, with these replies, lead through these states
abbrev pub Run : State → List Step → List Reply → List State → Type 0
Run q [] [] [] = Unit {0}
Run q (step ∷ steps) (reply ∷ replies) (q' ∷ states) = Stepped q step reply q' × Run q' steps replies states
Run q _ _ _ = ⊥

-- the state that a run ends in
abbrev pub final : State → List State → State
final q [] = q
final q (q' ∷ states) = final q' states

-- what a history keeps of a run
abbrev pub Noted : State → List (Step × Note) → State → Type 0
Noted q [] q' = q' ≡ q
Noted q (entry ∷ entries) q' =
    (reply : Reply) × (mid : State) × Stepped q entry.0 reply mid × (note_of reply ≡ entry.1) × Noted mid entries q'

-- What images stand for

-- the commits that are drawn and not covered
abbrev pub drawn_of : State → List Commit
drawn_of q = map (λ d. d.commit) q.drawn

-- the commits of the batch being written
abbrev pub in_hand : State → List Commit
in_hand q = option_map_or (λ hand. hand.commits) (q.hand) []

-- in log order the batch being written comes first; after it timestamps decide
abbrev pub uncovered : State → List Commit
uncovered q = in_hand q ++ filter (λ commit. not (has_timestamp (in_hand q) commit.timestamp)) (drawn_of q)

-- a record that may rule, and the commits that are covered when it does
pub record Cover : Type 0 where
  pub ruled_by : Record
  pub commits : List Commit

-- the state's own
abbrev pub present : State → Cover
present q = record { ruled_by = q.ruling; commits = q.history }

-- the cover of a batch being written, laid over what the state has covered
abbrev pub of_hand : State → Option Hand → List Cover
of_hand q None = []
of_hand q (Some hand) = record { ruled_by = hand.target; commits = q.history ++ hand.commits } ∷ []

-- the number of the record that closing writes last
abbrev pub closing_gate : State → ℕ
closing_gate q = q.ruling.gate + (if is_some q.hand then 2 else 1)

-- the cover after closing: all that was drawn is covered, no timestamp stays reserved, and swept gaps are dropped
abbrev pub closed : State → Cover
closed q = record {
  ruled_by = choosing.closing_record (closing_gate q) q.ruling q.next q.swept;
  commits = q.history ++ uncovered q;
}

-- the image has the state's layout, is ruled by exactly this record, and stands for these commits
pub record StandsUnder (q : State) (cover : Cover) (image : Image) : Type 0 where
  pub stands : Stands image cover.commits (drawn_of q) q.next
  pub ruled : ruling image ≡ cover.ruled_by
  pub laid_out : layout_of image ≡ q.layout

-- it does so for one of them
abbrev pub StandsAsOne : State → List Cover → Image → Type 0
StandsAsOne q covers image = (cover : Cover) × Contains covers cover × StandsUnder q cover image

-- what may rule between two steps: the state's record, or that of the batch being written
abbrev pub covers_at : State → List Cover
covers_at q = present q ∷ of_hand q q.hand

-- between two steps the image is ruled by one of these and stands for its commits
abbrev pub StandsAt : State → Image → Type 0
StandsAt q = StandsAsOne q (covers_at q)

-- within a step from q to q': those of q, a batch that is being written after the step, or the record of q'
abbrev pub StandsWithin : State → State → Image → Type 0
StandsWithin q q' = StandsAsOne q (covers_at q ++ (of_hand q q'.hand ++ present q' ∷ []))

-- within one of the steps of a run, or before them
abbrev pub StandsAlong : State → List State → Image → Type 0
StandsAlong q [] image = StandsAt q image
StandsAlong q (q' ∷ states) image = StandsWithin q q' image ⊎ StandsAlong q' states image

-- while closing: those of q, or the record that closing writes last
abbrev pub covers_closing : State → List Cover
covers_closing q = covers_at q ++ closed q ∷ []

-- while closing
abbrev pub StandsClosing : State → Image → Type 0
StandsClosing q = StandsAsOne q (covers_closing q)

-- after closing
abbrev pub StandsClosed : State → Image → Type 0
StandsClosed q = StandsUnder q (closed q)

-- why closing is refused, leaving aside a failing device: it takes no memory
abbrev pub closing_fault : State → Option Fault
closing_fault q = first_of (some_if q.failed Failed ∷ some_if (nat_le (2 ^ 62) (closing_gate q)) TimestampsOut ∷ [])

-- What follows from the definitions of the machine. Each law is stated here in words that need no proof, and a public function promises it.
use Rattle.std.specs.Prelude.{ℕ, ◌≡◌, ◌≢◌, ◌⊎◌, ◌≤◌, ◌<◌, ◌+◌, Bool, false, true, if◌then◌else◌, List, [], ◌∷◌, ◌++◌, length, map, flat_map, replicate, slice_index, IsTrue, All, Contains, Option, Some, None, Result, Ok}
use Rattle.base.specs.declared.key.Key.{Key}
use Rattle.base.specs.declared.gap.Gap.{Gap}
use Rattle.base.specs.declared.fault.Fault.{Fault}
use Rattle.base.specs.declared.fault.Fault.TheVariants.{Device, OutOfMemory, Failed}
use Rattle.base.specs.declared.step.Step.{Step}
use Rattle.base.specs.declared.step.Step.TheVariants.{Poll, Commit as CommitTick}
use Rattle.base.specs.declared.step.Reply.{Reply}
use Rattle.base.specs.declared.step.Reply.TheVariants.{Drawn as DrewAs, Committed, Ticked, Covered, Refused}
use Rattle.base.specs.Commits.{Commit, Writes}
use Rattle.base.specs.Batches.{Batch}
use Rattle.base.specs.Layout.{opened_layout}
use Rattle.base.specs.Records.{Record, is_well_formed, opened_gaps}
use Rattle.base.specs.Images.{Image, layout_of, ruling, ruling_place, opening_fault, begin_of, is_shown, is_misfit, key_of, needs_sweep, row_of}
use Rattle.base.specs.Stands.{Stands, has_timestamp}
use Rattle.machine.specs.Machine.{State, Active, Stepped, Run, final, refusal, begun_of, seen_by, session_of, chooses, chosen, stages, lines_of, batch_of, taken_in_hand, state_covered, uncovered}
use Rattle.machine.specs.Openings.{IsOpenedGaps, IsUpToDate, OpensAs, StandsOpening, opened, is_mark, opened_slots, record_counts, updated, updates}
use Rattle.machine.specs.Replay.{reply_of, state_of, replies as replies_to, states as states_of, end}
use Rattle.machine.specs.Lives.{World, IsWorld, Numbers, Opening, Opens, Fails, Asked, Report, Lives, RunsUp, EndsAs}

-- Openings

-- the joined gaps of a well formed record are the gaps after opening
abbrev pub OpenedGaps : Type 0
OpenedGaps = (version : ℕ) (r : Record) → IsTrue (is_well_formed version r) → IsOpenedGaps r (opened_gaps r)

-- and there is no other such list
abbrev pub OneGapList : Type 0
OneGapList = (r : Record) (gaps gaps' : List Gap) → IsOpenedGaps r gaps → IsOpenedGaps r gaps' → gaps ≡ gaps'

-- so opening an image gives one state
abbrev pub OneOpening : Type 0
OneOpening = (image : Image) (history : List Commit) (lost : List ℕ) (q q' : State) → OpensAs image history lost q → OpensAs image history lost q' → q ≡ q'

-- with the version that opening writes, an image opens as before and stands for the same, and what stands within its
-- opening stands within that of the image
pub record OpensUpdated (image : Image) : Type 0 where
  pub opens : opening_fault (updated image) ≡ None
  pub up_to_date : IsUpToDate (updated image)
  pub laid_out : layout_of (updated image) ≡ opened_layout (layout_of image)
  pub ruled : ruling (updated image) ≡ ruling image
  pub same : updates image ≡ false → updated image ≡ image
  pub size : length (updated image) ≡ length image
  pub words : (word : ℕ) → word ≢ 1 → slice_index (updated image) word ≡ slice_index image word
  pub slots : (word : ℕ) → 2 ≤ word → slice_index (opened_slots (updated image)) word ≡ slice_index (opened_slots image) word
  pub place : ruling_place (updated image) ≡ ruling_place image
  pub begins : (slot : ℕ) → begin_of (updated image) slot ≡ begin_of image slot
  pub shown : (r : Record) (slot : ℕ) → is_shown r (updated image) slot ≡ is_shown r image slot
  pub keys : (slot : ℕ) → key_of (updated image) slot ≡ key_of image slot
  pub rows : (slot : ℕ) → row_of (updated image) slot ≡ row_of image slot
  pub misfits : (slot : ℕ) → is_misfit (updated image) slot ≡ is_misfit image slot
  pub marks : (word : ℕ) → is_mark (layout_of (updated image)) word ≡ is_mark (layout_of image) word
  pub sweeps : needs_sweep (updated image) ≡ needs_sweep image
  pub counts : record_counts (updated image) ≡ record_counts image
  pub stands : (history drawn : List Commit) (next : ℕ) → Stands image history drawn next → Stands (updated image) history drawn next
  pub opened_as : (history : List Commit) (lost : List ℕ) (gaps : List Gap) → opened (updated image) history lost gaps ≡ opened image history lost gaps
  pub within : (history : List Commit) (next : ℕ) (other : Image) → StandsOpening (updated image) history next other → StandsOpening image history next other

-- this holds of each image that opens
abbrev pub UpdatedOpen : Type 0
UpdatedOpen = (image : Image) → opening_fault image ≡ None → OpensUpdated image

-- Steps

-- a step that is refused changes nothing, except that a failing device is remembered
abbrev pub RefusedKeeps : Type 0
RefusedKeeps = (q : State) (step : Step) (fault : Fault) (q' : State) → Stepped q step (Refused fault) q'
    → (q' ≡ q) ⊎ ((fault ≡ Device) × (q' ≡ record q { failed = true }))

-- once a device has failed, each step is refused
abbrev pub FailedStays : Type 0
FailedStays = (q : State) (step : Step) → q.failed ≡ true → refusal q step ≡ Some Failed

-- unless memory runs out or the device fails, a step has one reply and leads to one state
abbrev pub OneReply : Type 0
OneReply = (q : State) (step : Step) (reply : Reply) (q' : State) → Stepped q step reply q'
    → ((reply ≡ reply_of q step) × (q' ≡ state_of q step)) ⊎ (reply ≡ Refused OutOfMemory) ⊎ (reply ≡ Refused Device)

-- these may be had
abbrev pub HasReply : Type 0
HasReply = (q : State) (step : Step) → Stepped q step (reply_of q step) (state_of q step)

-- Runs

-- each list of steps has a run with ample memory and no failing device, and ends in the state that the worked runs show
abbrev pub HasRun : Type 0
HasRun = (q : State) (steps : List Step) → Run q steps (replies_to q steps) (states_of q steps) × (final q (states_of q steps) ≡ end q steps)

-- a run only adds to the history
abbrev pub HistoryGrows : Type 0
HistoryGrows = (q : State) (steps : List Step) (replies : List Reply) (states : List State) → Run q steps replies states
    → (more : List Commit) × ((final q states).history ≡ q.history ++ more)

-- a commit that a poll has acknowledged is in the history, at the end of every run from there too
abbrev pub AcknowledgedStays : Type 0
AcknowledgedStays = (q : State) (session t : ℕ) (q' : State) (steps : List Step) (replies : List Reply) (states : List State)
    → Stepped q (Poll session) (Committed t) q' → Run q' steps replies states → IsTrue (has_timestamp (final q' states).history t)

-- a tick that covers a batch puts its commits at the end of the history, under the record that it names
abbrev pub CoveredIsKept : Type 0
CoveredIsKept = (q : State) (batch : Batch) (q' : State) → Stepped q CommitTick (Covered batch) q'
    → (q'.history ≡ q.history ++ batch.commits) × (batch.from ≡ q.ruling.gate) × (batch.stamp ≡ q'.ruling.gate) × (batch.persisted ≡ q'.ruling.persisted) × (batch.longs ≡ q'.ruling.longs)

-- the timestamp that a reply gives out
abbrev pub drawn_by : Reply → List ℕ
drawn_by (DrewAs t) = t ∷ []
drawn_by _ = []

-- the timestamps that a list of replies gives out
abbrev pub drawn_in : List Reply → List ℕ
drawn_in replies = flat_map drawn_by replies

-- they rise, from one bound and below the other
abbrev pub RiseBetween : ℕ → List ℕ → ℕ → Type 0
RiseBetween from [] to = from ≤ to
RiseBetween from (t ∷ ts) to = (from ≤ t) × RiseBetween (t + 1) ts to

-- a run draws rising timestamps, and none that was drawn before it
abbrev pub DrawnOnce : Type 0
DrawnOnce = (q : State) (steps : List Step) (replies : List Reply) (states : List State) → Run q steps replies states
    → RiseBetween q.next (drawn_in replies) (final q states).next

-- Snapshots

-- no session sees more commits than are covered
abbrev pub SeesCovered : State → Type 0
SeesCovered q = (n : ℕ) → begun_of (q.sessions n) ≤ length q.history

-- the session is Active in both states, and sees the same tables
pub record SeesTheSame (n : ℕ) (q q' : State) : Type 0 where
  pub session : q'.sessions n ≡ q.sessions n
  pub tables : (key : Key) → seen_by q' n key ≡ seen_by q n key

-- an opened state keeps it, and so does each step
pub record SnapshotsStay : Type 0 where
  pub opened : (image : Image) (history : List Commit) (lost : List ℕ) (q : State) → OpensAs image history lost q → SeesCovered q
  pub kept : (q : State) (step : Step) (reply : Reply) (q' : State) → SeesCovered q → Stepped q step reply q' → SeesCovered q'
  -- what an Active session sees stays the same over each step that doesn't name it
  pub stays : (q : State) (step : Step) (reply : Reply) (q' : State) (n begun : ℕ) (writes : Writes) → SeesCovered q → Stepped q step reply q'
      → q.sessions n ≡ Some (Active begun writes) → (session_of step ≡ Some n → ⊥) → SeesTheSame n q q'

-- Cycles

-- the replies to a whole cycle of ticks: its stages, and the batch at the end
abbrev pub cycle_replies : State → List Reply
cycle_replies q =
    map Ticked (stages (lines_of q (chosen q)))
    ++ Covered (batch_of q (taken_in_hand q)) ∷ []

-- a cycle that meets no fault takes as many ticks as its batch touches lines, and 41 more; the last of them covers it
pub record CycleIsWhole (q : State) : Type 0 where
  pub replies : replies_to q (replicate (lines_of q (chosen q) + 41) CommitTick) ≡ cycle_replies q
  pub covers : end q (replicate (lines_of q (chosen q) + 41) CommitTick) ≡ state_covered q (taken_in_hand q)

-- this holds of each cycle that a tick may begin
abbrev pub CyclesAreWhole : Type 0
CyclesAreWhole = (q : State) → q.hand ≡ None → IsTrue (chooses q CommitTick) → refusal q CommitTick ≡ None → CycleIsWhole q

-- the step isn't a tick of the committer
abbrev pub is_no_tick : Step → Bool
is_no_tick CommitTick = false
is_no_tick _ = true

-- and no other step changes the batch being written, nor what its lines are counted by
pub record KeepsHand (q q' : State) : Type 0 where
  pub hand : q'.hand ≡ q.hand
  pub history : q'.history ≡ q.history
  pub layout : q'.layout ≡ q.layout
  pub ruling : q'.ruling ≡ q.ruling

-- this holds of each such step
abbrev pub OthersKeepHand : Type 0
OthersKeepHand = (q : State) (step : Step) (reply : Reply) (q' : State) → Stepped q step reply q' → IsTrue (is_no_tick step) → KeepsHand q q'

-- Lives

-- whatever lives come, what a stop leaves stands for the history that it comes with
abbrev pub WorldsStand : Type 0
WorldsStand = (before : World) (asked : List Asked) (reports : List Report) (after : World) → IsWorld before → Lives before asked reports after → IsWorld after

-- the history and the lost timestamps only grow
pub record LivesGrow (before after : World) : Type 0 where
  pub history : (more : List Commit) × (after.history ≡ before.history ++ more)
  pub lost : (more : List ℕ) × (after.lost ≡ before.lost ++ more)

-- they do so over any number of lives
abbrev pub WorldsGrow : Type 0
WorldsGrow = (before : World) (asked : List Asked) (reports : List Report) (after : World) → IsWorld before → Lives before asked reports after → LivesGrow before after

-- the timestamps that a reply acknowledges: that of a poll's commit, or those of a covered batch
abbrev pub acknowledged_by : Reply → List ℕ
acknowledged_by (Committed t) = t ∷ []
acknowledged_by (Covered batch) = map (λ commit. commit.timestamp) batch.commits
acknowledged_by _ = []

-- closing succeeded
abbrev pub has_closed : Option (Result Numbers Fault) → Bool
has_closed (Some (Ok numbers)) = true
has_closed _ = false

-- what a life acknowledges: by its replies, and all that it drew if it was closed
abbrev pub acknowledged_in : Report → List ℕ
acknowledged_in report = flat_map acknowledged_by report.replies ++ (if has_closed report.closed then drawn_in report.replies else [])

-- what was acknowledged is in the history after all further lives
abbrev pub AcknowledgedStaysOverLives : Type 0
AcknowledgedStaysOverLives = (before : World) (asked : List Asked) (reports : List Report) (after : World) → IsWorld before → Lives before asked reports after
    → All (λ t. IsTrue (has_timestamp after.history t)) (flat_map acknowledged_in reports)

-- the commits of the batches that replies report as covered
abbrev pub covered_by : Reply → List Commit
covered_by (Covered batch) = batch.commits
covered_by _ = []

-- the commits of all batches that these replies report as covered
abbrev pub covered_in : List Reply → List Commit
covered_in replies = flat_map covered_by replies

-- What a life that opened adds to the history. Its steps have their replies from the opened state on. The state that they
-- lead to has covered the batches that the replies report, and of what it has uncovered, in log order, a beginning is added:
-- each commit with the timestamp and the writes that it was drawn with. Both together are what the replies drew
pub record AddsDrawn (before : World) (steps : List Step) (replies : List Reply) (after : World) : Type 0 where
  pub start : State
  pub states : List State
  pub opens : OpensAs before.image before.history before.lost start
  pub runs : RunsUp start steps replies states
  pub covers : (final start states).history ≡ before.history ++ covered_in replies
  pub first : List Commit
  pub rest : List Commit
  pub in_order : uncovered (final start states) ≡ first ++ rest
  pub history : after.history ≡ (final start states).history ++ first
  pub drawn : All (λ commit. Contains (drawn_in replies) commit.timestamp) (covered_in replies ++ uncovered (final start states))
  pub each : All (λ t. IsTrue (has_timestamp (covered_in replies ++ uncovered (final start states)) t)) (drawn_in replies)

-- what a life adds: nothing if it doesn't open
abbrev pub LifeAdds : World → List Step → Opening → List Reply → World → Type 0
LifeAdds before steps (Fails fault) replies after = after.history ≡ before.history
LifeAdds before steps (Opens numbers next gaps rows) replies after = AddsDrawn before steps replies after

-- life by life
abbrev pub LivesAdd : World → List Asked → List Report → World → Type 0
LivesAdd before [] [] after = after.history ≡ before.history
LivesAdd before (asked ∷ more) (report ∷ reports) after =
    (mid : World) × LifeAdds before asked.steps report.opening report.replies mid × LivesAdd mid more reports after
LivesAdd before _ _ after = ⊥

-- this holds of all lives over a world
abbrev pub WorldsAdd : Type 0
WorldsAdd = (before : World) (asked : List Asked) (reports : List Report) (after : World) → IsWorld before → Lives before asked reports after → LivesAdd before asked reports after

-- lost timestamps are below those drawn from now on, and the history has none of them
pub record StayOut (w : World) : Type 0 where
  pub below : All (λ t. t < w.next) w.lost
  pub out : All (λ t. has_timestamp w.history t ≡ false) w.lost

-- what was left out once never returns
abbrev pub NeverReturns : Type 0
NeverReturns = (before : World) (asked : List Asked) (reports : List Report) (after : World) → IsWorld before → StayOut before → Lives before asked reports after → StayOut after

-- the timestamps that all lives draw, one after another
abbrev pub drawn_over : List Report → List ℕ
drawn_over reports = flat_map (λ report. drawn_in report.replies) reports

-- no timestamp is drawn twice, not even across lives
abbrev pub DrawnOnceOverLives : Type 0
DrawnOnceOverLives = (before : World) (asked : List Asked) (reports : List Report) (after : World) → IsWorld before → Lives before asked reports after
    → RiseBetween before.next (drawn_over reports) after.next

-- if closing was requested, its outcome is reported, unless the device had failed
abbrev pub CloseReported : Type 0
CloseReported = (q : State) (lost : List ℕ) (after : World) → q.failed ≡ false → EndsAs q true None lost after → ⊥

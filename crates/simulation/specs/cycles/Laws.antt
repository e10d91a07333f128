-- What follows for every life. Each law is stated here in words that need no proof, and a public function promises it.
use Rattle.std.specs.Prelude.{◌≡◌, ℕ, ◌+◌, ◌^◌, ◌<◌, true, false, List, [], ◌∷◌, length, slice_get, Some, None, IsTrue}
use Rattle.std.specs.List.{list_any}
use Rattle.base.specs.declared.fault.Fault.{Fault}
use Rattle.base.specs.declared.fault.Fault.TheVariants.{OutOfMemory}
use Rattle.base.specs.declared.step.Step.{Step}
use Rattle.base.specs.declared.step.Step.TheVariants.{Stamp, Commit as CommitTick}
use Rattle.base.specs.declared.step.Stage.{Stage}
use Rattle.base.specs.declared.step.Stage.TheVariants.{Chosen, LineFlushed, LinesFenced}
use Rattle.base.specs.declared.step.Reply.{Reply}
use Rattle.base.specs.declared.step.Reply.TheVariants.{Idle, Ticked, Covered, Refused}
use Rattle.base.specs.Commits.{Commit}
use Rattle.base.specs.Images.{Image}
use Rattle.machine.specs.Laws.{is_no_tick}
use Rattle.base.specs.Records.{are_rising}
use Rattle.base.specs.Actors.{committer}
use Rattle.machine.specs.Machine.{State, Hand, Stepped, refusal, drawn_of, is_idle, taken_in_hand, batch_of, lines_of, state_covered, closing_gate, next_state, StandsWithin, StandsClosing, StandsClosed}
use Rattle.pmem.specs.Device.{Device, IsOrderly, MayLeave, flushed, fenced, failed}
use Rattle.pmem.specs.Words.{LeavesOnly, Spares}
use Rattle.pmem.specs.Trace.{applied}
use Rattle.log_area.specs.declared.stage.WritingStage.{WritingStage}
use Rattle.log_area.specs.declared.stage.WritingStage.TheVariants.{FenceGate}
use Rattle.log_area.specs.Stages.{IsStage, reached_by, operations_before}
use Rattle.log_area.specs.Rulings.{HoldsRecord}
use Rattle.log_area.specs.Writings.{begun, operation_of, IsNextRecord, IsRuledByEither, IsOutside}
use Rattle.state_invariant.specs.Kept.{Origin, Keeps, KeepsHand}
use Rattle.device_invariant.specs.Log.{Line, lines_in, line_number, writing_at}
use Rattle.device_invariant.specs.Laws.{one_tick_on}
use Rattle.device_invariant.specs.Upholds.{Upholds}
use Rattle.simulation.specs.cycles.Leads.{Ticks, FailsTick}
use Rattle.simulation.specs.cycles.Batches.{AreDrawn, line_numbers, is_line_of}
use Rattle.simulation.specs.cycles.Closing.{closing_record, IsClosing, AreFlushed, HasPersisted, IsClosingOn, ClosesAs}

-- ---- the batch

-- the batch that is chosen keeps what a pending batch has to keep
abbrev pub BatchesAreChosen : Type 0
BatchesAreChosen = (o : Origin) (q : State) → Keeps o q → KeepsHand q (taken_in_hand q)

-- commits that are drawn touch as many lines as the machine counts
pub record LinesAreCounted : Type 0 where
  pub drawn : (o : Origin) (q : State) (commits : List Commit) → Keeps o q → AreDrawn q commits → length (lines_in q commits) ≡ lines_of q commits
  pub in_hand : (o : Origin) (q : State) (hand : Hand) → Keeps o q → q.hand ≡ Some hand → length (lines_in q hand.commits) ≡ lines_of q hand.commits

-- The numbers of the lines that commits touch rise, and are those of the lines that one of them touches; such a list is one
pub record LinesRise : Type 0 where
  pub rising : (q : State) (commits : List Commit) → IsTrue (are_rising (line_numbers q commits))
  pub each : (q : State) (commits : List Commit) (line : ℕ) → is_line_of line (line_numbers q commits) ≡ list_any (λ commit. is_line_of line (line_numbers q (commit ∷ []))) commits
  pub one : (xs ys : List ℕ) → IsTrue (are_rising xs) → IsTrue (are_rising ys) → ((line : ℕ) → is_line_of line xs ≡ is_line_of line ys) → xs ≡ ys

-- the lines of the pending batch stay over each step of a session
abbrev pub LinesStay : Type 0
LinesStay = (o : Origin) (q : State) (step : Step) (reply : Reply) (q' : State) (hand : Hand) → Keeps o q → q.hand ≡ Some hand → IsTrue (is_no_tick step) → Stepped q step reply q'
    → lines_in q' hand.commits ≡ lines_in q hand.commits

-- ---- ticks without an operation

-- nothing is due
abbrev pub IdleTicks : Type 0
IdleTicks = (o : Origin) (q : State) (device : Device) → IsOrderly device → refusal q CommitTick ≡ None → q.hand ≡ None → is_idle q ≡ true → Upholds o q device → Ticks o q q Idle device device

-- a batch is chosen
abbrev pub ChoosingTicks : Type 0
ChoosingTicks = (o : Origin) (q : State) (device : Device) → IsOrderly device → refusal q CommitTick ≡ None → q.hand ≡ None → is_idle q ≡ false → Upholds o q device
    → Ticks o q (record q { hand = Some (taken_in_hand q) }) (Ticked Chosen) device device

-- the tick is refused, also for lack of memory if it chooses, and nothing changes
pub record RefusedTicks : Type 0 where
  pub refused : (o : Origin) (q : State) (device : Device) (fault : Fault) → IsOrderly device → refusal q CommitTick ≡ Some fault → Upholds o q device → Ticks o q q (Refused fault) device device
  pub memory : (o : Origin) (q : State) (device : Device) → IsOrderly device → refusal q CommitTick ≡ None → q.hand ≡ None → is_idle q ≡ false → Upholds o q device → Ticks o q q (Refused OutOfMemory) device device

-- ---- ticks of a pending batch

-- a device that works has this pending batch, after this many ticks
pub record HasInHand (o : Origin) (q : State) (hand : Hand) (made : ℕ) (device : Device) : Type 0 where
  pub works : q.failed ≡ false
  pub in_hand : q.hand ≡ Some hand
  pub ticks : hand.ticks ≡ made
  pub upholds : Upholds o q device

-- its next line is flushed
abbrev pub LineTicks : Type 0
LineTicks = (o : Origin) (q : State) (hand : Hand) (i : ℕ) (line : Line) (old new : Device) → IsOrderly old → IsOrderly new → HasInHand o q hand (1 + i) old → slice_get (lines_in q hand.commits) i ≡ Some line
    → new ≡ flushed committer (line_number q.layout line) old → Ticks o q (one_tick_on q hand) (Ticked (LineFlushed i)) old new

-- all lines are flushed, and the committer fences
abbrev pub FenceTicks : Type 0
FenceTicks = (o : Origin) (q : State) (hand : Hand) (old new : Device) → IsOrderly old → IsOrderly new → HasInHand o q hand (1 + length (lines_in q hand.commits)) old
    → new ≡ fenced committer old → Ticks o q (one_tick_on q hand) (Ticked LinesFenced) old new

-- the next operation of its record's writing
abbrev pub OperationTicks : Type 0
OperationTicks = (o : Origin) (q : State) (hand : Hand) (stage : WritingStage) (reached : Stage) (old new : Device) → IsOrderly old → IsOrderly new → IsStage stage → reached_by stage ≡ Some reached
    → HasInHand o q hand (2 + length (lines_in q hand.commits) + operations_before stage) old
    → new ≡ applied (operation_of (writing_at q hand stage)) old → Ticks o q (one_tick_on q hand) (Ticked reached) old new

-- and the last tick, which covers the batch
abbrev pub CoveringTicks : Type 0
CoveringTicks = (o : Origin) (q : State) (hand : Hand) (old new : Device) → IsOrderly old → IsOrderly new → HasInHand o q hand (2 + length (lines_in q hand.commits) + operations_before FenceGate) old
    → new ≡ fenced committer old → Ticks o q (state_covered q hand) (Covered (batch_of q hand)) old new

-- an operation of one of these fails
abbrev pub FailingTicks : Type 0
FailingTicks = (o : Origin) (q : State) (hand : Hand) (old new : Device) → IsOrderly old → IsOrderly new → HasInHand o q hand hand.ticks old → new ≡ failed old → FailsTick o q old new

-- ---- closing

-- if no batch is pending and all that is drawn is stamped, its lines may be flushed, one after the other, and fenced
pub record ClosingFlushes : Type 0 where
  pub begins : (q : State) (device : Device) → AreFlushed q device 0
  pub line : (o : Origin) (q : State) (i : ℕ) (line : Line) (old new : Device) → IsOrderly old → IsOrderly new → IsClosing o q old → slice_get (lines_in q (drawn_of q)) i ≡ Some line
      → new ≡ flushed committer (line_number q.layout line) old → AreFlushed q old i → IsClosingOn o q old new × AreFlushed q new (1 + i)
  pub fence : (o : Origin) (q : State) (old new : Device) → IsOrderly old → IsOrderly new → IsClosing o q old → new ≡ fenced committer old
      → AreFlushed q old (length (lines_in q (drawn_of q))) → IsClosingOn o q old new × HasPersisted q new
  pub failing : (o : Origin) (q : State) (old new : Device) → IsOrderly old → IsOrderly new → IsClosing o q old → new ≡ failed old → LeavesOnly old new (StandsClosing q)

-- The last record follows the one that rules. While it is written, one of the two rules, and each image is consistent with
-- closing; once it holds, each image is consistent with the state after closing
pub record ClosingWrites : Type 0 where
  pub follows : (o : Origin) (q : State) (device : Device) → IsClosing o q device → closing_gate q < 2 ^ 62 → IsNextRecord q.layout q.ruling (closing_record q) device
  pub images : (o : Origin) (q : State) (old new : Device) → IsClosing o q old → HasPersisted q old → closing_gate q < 2 ^ 62 → Spares (IsOutside (begun q.layout (closing_record q))) old new
      → LeavesOnly old new (IsRuledByEither q.layout q.ruling (closing_record q)) → LeavesOnly old new (StandsClosing q)
  pub closed : (o : Origin) (q : State) (old new : Device) → IsClosing o q old → HasPersisted q old → closing_gate q < 2 ^ 62 → Spares (IsOutside (begun q.layout (closing_record q))) old new
      → HoldsRecord q.layout (closing_record q) new → (image : Image) → MayLeave new image → StandsClosed q image

-- Closing goes on from the state after a tick of the pending batch, and after a stamp. Each image that is left within one
-- of these, also if it fails, is consistent with closing
pub record ClosesOn : Type 0 where
  pub tick : (o : Origin) (q q' : State) (hand : Hand) (reply : Reply) → Keeps o q → q.hand ≡ Some hand → q.failed ≡ false → Stepped q CommitTick reply q' → q'.failed ≡ false → ClosesAs q q'
  pub ticking : (q q' : State) (hand : Hand) (reply : Reply) (image : Image) → q.hand ≡ Some hand → q.failed ≡ false → Stepped q CommitTick reply q' → StandsWithin q q' image → StandsClosing q image
  pub stamp : (q : State) (n : ℕ) → ClosesAs q (next_state q (Stamp n))
  pub stamping : (q : State) (n : ℕ) (image : Image) → StandsWithin q (next_state q (Stamp n)) image → StandsClosing q image
  pub failing : (q : State) (image : Image) → StandsWithin q (record q { failed = true }) image → StandsClosing q image

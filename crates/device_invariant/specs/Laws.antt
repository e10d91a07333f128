-- What a device that upholds a plain state promises, and which moves keep it.
use Rattle.std.specs.Prelude.{◌≡◌, ◌≢◌, ℕ, ◌+◌, ◌^◌, ◌<◌, ◌≤◌, true, false, length, slice_get, slice_index, List, [], Option, Some, None}
use Rattle.base.specs.declared.key.Key.{Key}
use Rattle.base.specs.Layout.{Layout, slot_words}
use Rattle.base.specs.Records.{Record, is_in, is_committed}
use Rattle.base.specs.Images.{Image, opening_fault}
use Rattle.machine.specs.Openings.{IsUpToDate, OpensAs, opened_slots}
use Rattle.base.specs.Stands.{Stands}
use Rattle.base.specs.Commits.{Commit, writes_key, last_writer}
use Rattle.machine.specs.Machine.{State, Session, Drawn, Hand, Version, BySession, ByCommit, drawn_at, lines_of, state_covered, StandsAt}
use Rattle.pmem.specs.Device.{Device, IsOrderly, MayLeave, stored, flushed, fenced, failed}
use Rattle.pmem.specs.Words.{Survives, value_of, image_of, IsSettledAt}
use Rattle.pmem.specs.Trace.{applied}
use Rattle.log_area.specs.declared.stage.WritingStage.{WritingStage}
use Rattle.log_area.specs.declared.stage.WritingStage.TheVariants.{FenceGate, Done}
use Rattle.log_area.specs.Stages.{IsStage, next_stage, operations_before}
use Rattle.log_area.specs.Rulings.{HoldsRecord}
use Rattle.base.specs.Actors.{committer}
use Rattle.log_area.specs.Writings.{operation_of}
use Rattle.state_invariant.specs.Kept.{Origin, origin_of, IsInUse, Keeps, KeepsHand, version_by}
use Rattle.state_invariant.specs.Links.{Links}
use Rattle.state_invariant.specs.Shown.{word_of, is_key_stamped, SlotsShow, ReadsAs}
use Rattle.device_invariant.specs.Slots.{newest_of, SlotsHold}
use Rattle.device_invariant.specs.Sweeps.{IsSweeping}
use Rattle.device_invariant.specs.Log.{Line, lines_in, line_number, writing_at}
use Rattle.device_invariant.specs.Upholds.{Upholds}

-- ---- images

-- each image that the device may leave is consistent with the state between two steps, also if the state has failed
abbrev pub EveryImageStands : Type 0
EveryImageStands = (o : Origin) (q : State) (device : Device) (image : Image) → Upholds o q device → MayLeave device image → StandsAt q image

-- ---- operations that store nothing

-- whatever an actor flushes
abbrev pub FlushesKeep : Type 0
FlushesKeep = (o : Origin) (q : State) (old new : Device) (actor line : ℕ) → new ≡ flushed actor line old → Upholds o q old → Upholds o q new

-- a fence, by whatever actor
abbrev pub FencesKeep : Type 0
FencesKeep = (o : Origin) (q : State) (old new : Device) (actor : ℕ) → new ≡ fenced actor old → Upholds o q old → Upholds o q new

-- an operation fails, and the state with it
abbrev pub FailuresKeep : Type 0
FailuresKeep = (o : Origin) (q : State) (old new : Device) → new ≡ failed old → Upholds o q old → Upholds o (record q { failed = true }) new

-- the state may fail with no operation
abbrev pub FailingKeeps : Type 0
FailingKeeps = (o : Origin) (q : State) (device : Device) → Upholds o q device → Upholds o (record q { failed = true }) device

-- ---- the ticks of a cycle

-- the state after one more tick for the batch
abbrev pub one_tick_on : State → Hand → State
one_tick_on q hand = record q { hand = Some (record hand { ticks = hand.ticks + 1 }) }

-- a batch is chosen
abbrev pub ChoosingKeeps : Type 0
ChoosingKeeps =
    (o : Origin) (q : State) (hand : Hand) (device : Device) → q.hand ≡ None → hand.ticks ≡ 1 → KeepsHand q hand → hand.target.gate < 2 ^ 62 → Upholds o q device
    → Upholds o (record q { hand = Some hand }) device

-- the committer flushes the next line of its batch
abbrev pub LineKeeps : Type 0
LineKeeps =
    (o : Origin) (q : State) (hand : Hand) (i : ℕ) (line : Line) (old new : Device) → IsOrderly old → q.hand ≡ Some hand → hand.ticks ≡ i + 1 → i < lines_of q hand.commits → slice_get (lines_in q hand.commits) i ≡ Some line
    → new ≡ flushed committer (line_number q.layout line) old → Upholds o q old → Upholds o (one_tick_on q hand) new

-- all are flushed, and the committer fences
abbrev pub LinesKeep : Type 0
LinesKeep =
    (o : Origin) (q : State) (hand : Hand) (old new : Device) → q.hand ≡ Some hand → hand.ticks ≡ lines_of q hand.commits + 1 → length (lines_in q hand.commits) ≡ lines_of q hand.commits
    → new ≡ fenced committer old → Upholds o q old → Upholds o (one_tick_on q hand) new

-- an operation of the writing of its record
abbrev pub OperationKeeps : Type 0
OperationKeeps =
    (o : Origin) (q : State) (hand : Hand) (stage : WritingStage) (old new : Device) → IsOrderly old → IsOrderly new → q.hand ≡ Some hand → IsStage stage → stage ≢ Done → next_stage stage ≢ Done
    → hand.ticks ≡ 2 + lines_of q hand.commits + operations_before stage → new ≡ applied (operation_of (writing_at q hand stage)) old → Upholds o q old → Upholds o (one_tick_on q hand) new

-- the last tick covers the batch, of however many commits
abbrev pub CoveringKeeps : Type 0
CoveringKeeps =
    (o : Origin) (q : State) (hand : Hand) (old new : Device) → IsOrderly old → IsOrderly new → q.failed ≡ false → q.hand ≡ Some hand → hand.ticks ≡ 2 + lines_of q hand.commits + operations_before FenceGate
    → new ≡ fenced committer old → Upholds o q old → Upholds o (state_covered q hand) new

-- ---- gaps

-- if the sweep is over, what may survive in the slots is as under a record without gaps that commits what the old one does
abbrev pub GapsDrop : Type 0
GapsDrop =
    (q : State) (r : Record) (device : Device) → q.swept ≡ true → r.gaps ≡ [] → ((t : ℕ) → is_committed q.ruling t ≡ true → is_committed r t ≡ true) → IsSweeping q device → SlotsHold q device
    → SlotsHold (record q { ruling = r }) device

-- ---- stores

-- a free slot's begin is made 0
abbrev pub ClearingKeeps : Type 0
ClearingKeeps =
    (o : Origin) (q : State) (slot : ℕ) (old new : Device) → slot < q.layout.slots → q.held slot ≡ None → new ≡ stored (word_of q.layout slot 0) 0 old → Upholds o q old → Upholds o q new

-- a further word of a free slot whose begin is 0: as an end only 0
abbrev pub FillingKeeps : Type 0
FillingKeeps =
    (o : Origin) (q : State) (slot w value : ℕ) (old new : Device) → slot < q.layout.slots → q.held slot ≡ None → IsSettledAt old (word_of q.layout slot 0) 0 → 1 ≤ w → w < slot_words q.layout.version → (w ≡ 1 → value ≡ 0)
    → new ≡ stored (word_of q.layout slot w) value old → Upholds o q old → Upholds o q new × IsSettledAt new (word_of q.layout slot 0) 0

-- a further word of a slot that a session holds: until all words are stored, the failed state is upheld
abbrev pub RefillingKeeps : Type 0
RefillingKeeps =
    (o : Origin) (q : State) (slot n w value : ℕ) (key : Key) (old new : Device) → slot < q.layout.slots → q.held slot ≡ Some (version_by key (BySession n)) → 1 ≤ w → w < slot_words q.layout.version → (w ≡ 1 → value ≡ 0)
    → new ≡ stored (word_of q.layout slot w) value old → Upholds o (record q { failed = true }) old → Upholds o (record q { failed = true }) new

-- A drawn commit's timestamp is stored in the begin of one of its versions that isn't stamped: until this write is counted as
-- stamped, the failed state is upheld
abbrev pub StampsBegin : Type 0
StampsBegin =
    (o : Origin) (q : State) (slot t : ℕ) (key : Key) (d : Drawn) (old new : Device) → q.failed ≡ true → slot < q.layout.slots → q.held slot ≡ Some (version_by key (ByCommit t)) → drawn_at q t ≡ Some d → is_key_stamped d key ≡ false
    → new ≡ stored (word_of q.layout slot 0) t old → Upholds o q old → Upholds o q new

-- and in the end of the newest version on the key of one of its writes that isn't stamped
abbrev pub StampsEnd : Type 0
StampsEnd =
    (o : Origin) (q : State) (slot t : ℕ) (key : Key) (d : Drawn) (old new : Device) → slot < q.layout.slots → q.held slot ≡ Some (newest_of q key) → drawn_at q t ≡ Some d → writes_key key d.commit ≡ true → is_key_stamped d key ≡ false
    → new ≡ stored (word_of q.layout slot 1) t old → Upholds o q old → Upholds o q new

-- a begin or an end that is in a gap which isn't swept is made 0
abbrev pub ZeroingKeeps : Type 0
ZeroingKeeps =
    (o : Origin) (q : State) (slot w : ℕ) (old new : Device) → q.failed ≡ false → q.swept ≡ false → slot < q.layout.slots → w < 2
    → Survives old (word_of q.layout slot w) (value_of old (word_of q.layout slot w)) → is_in q.ruling.gaps (value_of old (word_of q.layout slot w)) ≡ true
    → new ≡ stored (word_of q.layout slot w) 0 old → Upholds o q old → Upholds o q new

-- ---- holders

-- A slot's holder stays; or a session releases the slot; or a session takes it, and its begin is 0; or the slot of a version that
-- a covered commit replaced is freed
pub data ChangesHolder (q : State) (held : ℕ → Option Version) (device : Device) (slot : ℕ) : Type 0 where
  stays : held slot ≡ q.held slot → ChangesHolder q held device slot
  released : (n : ℕ) (key : Key) → q.held slot ≡ Some (version_by key (BySession n)) → held slot ≡ None → ChangesHolder q held device slot
  taken : (n : ℕ) (key : Key) → q.held slot ≡ None → held slot ≡ Some (version_by key (BySession n)) → IsSettledAt device (word_of q.layout slot 0) 0 → ChangesHolder q held device slot
  freed : (t : ℕ) (key : Key) → q.held slot ≡ Some (version_by key (ByCommit t)) → drawn_at q t ≡ None → t ≢ last_writer q.history key → held slot ≡ None → ChangesHolder q held device slot

-- sessions come and go, slots are released, taken and freed: what may survive is as the state to which this leads says
abbrev pub HoldersKeep : Type 0
HoldersKeep =
    (o : Origin) (q : State) (sessions : ℕ → Option Session) (held : ℕ → Option Version) (device : Device) → ((slot : ℕ) → slot < q.layout.slots → ChangesHolder q held device slot)
    → Keeps o (record q { sessions = sessions; held = held }) → SlotsShow o (record q { sessions = sessions; held = held }) (value_of device)
    → Links o (record q { sessions = sessions; held = held }) (value_of device) → Upholds o q device
    → Upholds o (record q { sessions = sessions; held = held }) device

-- ---- reading

-- in each state, also a failed one, each snapshot in use reads the rows of its tables in the words that the device has
abbrev pub DevicesRead : Type 0
DevicesRead = (o : Origin) (q : State) (device : Device) (n : ℕ) → IsOrderly device → Upholds o q device → IsInUse q n → ReadsAs o q (image_of device) n

-- ---- openings

-- a crash leaves the words of the slots as in the image
pub record RestsOn (a : Layout) (device : Device) (image : Image) : Type 0 where
  pub each : (slot w : ℕ) → slot < a.slots → w < slot_words a.version → IsSettledAt device (word_of a slot w) (slice_index image (word_of a slot w))

-- if the slots are as opening leaves them, swept or as it found them, and the record that it wrote rules, the
-- device upholds the opened state
abbrev pub OpenedUpholds : Type 0
OpenedUpholds =
    (image : Image) (history drawn : List Commit) (next : ℕ) (lost : List ℕ) (q : State) (device : Device) → opening_fault image ≡ None → IsUpToDate image → Stands image history drawn next → OpensAs image history lost q
    → RestsOn q.layout device (opened_slots image) → HoldsRecord q.layout q.ruling device → Upholds (origin_of q) q device

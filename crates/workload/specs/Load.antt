-- What a load of commits needs, what its threads make, and what it leaves.
use Rattle.std.specs.Prelude.{◌≡◌, ◌⊎◌, ℕ, ◌+◌, ◌*◌, ◌^◌, ◌<◌, ◌≤◌, nat_eq, Bool, true, false, if◌then◌else◌, List, [], ◌∷◌, ◌++◌, length, slice_get, Option, Some, None, All, flat_map, count_by, ⊤}
use Rattle.base.specs.declared.fault.Fault.{Fault}
use Rattle.base.specs.declared.fault.Fault.TheVariants.{Conflict, Device as DeviceFault, NoThread, OutOfMemory, SlotsOut, TimestampsOut, WindowFull, WrongState}
use Rattle.base.specs.declared.key.Key.{Key}
use Rattle.base.specs.declared.step.Note.{Note}
use Rattle.base.specs.declared.step.Note.TheVariants.{Committed, Done, Drawn as DrewAs, Refused}
use Rattle.base.specs.declared.step.Step.{Step}
use Rattle.base.specs.declared.step.Step.TheVariants.{Draw, End, Poll, Put}
use Rattle.base.specs.Commits.{Lists, after}
use Rattle.base.specs.Images.{Image, opening_fault}
use Rattle.machine.specs.Machine.{State}
use Rattle.audited.specs.declared.receipt.Receipt.{Receipt}
use Rattle.engine.specs.Agreement.{Agrees}
use Rattle.engine.specs.declared.phase.Phase.{Phase}
use Rattle.engine.specs.declared.phase.Phase.TheVariants.{Drawn, Idle, Stamped}
use Rattle.engine.specs.Calls.{ReportsLast}
use Rattle.engine.specs.Phases.{phase_after}
use Rattle.room.specs.Runs.{OpensTo, RunOf}

-- that many slots are free in an opened state, or fewer: each row of the tables takes one then
abbrev pub HasFree : ℕ → State → Type 0
HasFree count q = (rows : List (Key × List ℕ)) × Lists rows (after q.history) × (count + length rows ≤ q.layout.slots)

-- fewer slots than that are free in an opened state: each row of the tables takes one then
abbrev pub LacksFree : ℕ → State → Type 0
LacksFree count q = (rows : List (Key × List ℕ)) × Lists rows (after q.history) × (q.layout.slots < count + length rows)

-- Record numbers and timestamps are left for that many commits, or they aren't. A commit takes a timestamp and two records, one that
-- reserves timestamps and one that covers it. A window of timestamps is reserved beyond
abbrev pub HasNumbers : ℕ → State → Type 0
HasNumbers commits q = (2 * commits + q.ruling.gate + 2 < 2 ^ 62) × (commits + q.ruling.dirty + q.layout.window + 2 < 2 ^ 62)

-- record numbers or timestamps are lacking for that many commits
abbrev pub LacksNumbers : ℕ → State → Type 0
LacksNumbers commits q = (2 ^ 62 ≤ 2 * commits + q.ruling.gate + 2) ⊎ (2 ^ 62 ≤ commits + q.ruling.dirty + q.layout.window + 2)

-- ---- what a thread makes

-- a thread that meets this fault tries its commit again
abbrev pub may_pass : Fault → Bool
may_pass SlotsOut = true
may_pass (Conflict key) = true
may_pass WindowFull = true
may_pass OutOfMemory = true
may_pass _ = false

-- the step drew a timestamp, which begins a commit
abbrev pub has_drawn : Step → Note → Bool
has_drawn (Draw session) (DrewAs timestamp) = true
has_drawn _ _ = false

-- the session to whose poll a timestamp was reported
abbrev pub reported_to : Step → Note → Option ℕ
reported_to (Poll session) (Committed timestamp) = Some session
reported_to _ _ = None

-- the session whose end was done
abbrev pub ended_of : Step → Note → Option ℕ
ended_of (End session) Done = Some session
ended_of _ _ = None

-- it is the same one
abbrev pub is_same : Option ℕ → Option ℕ → Bool
is_same (Some one) (Some other) = nat_eq one other
is_same _ _ = false

-- to a poll a timestamp was reported, and the first step after it ended its transaction
abbrev pub is_acknowledged : Receipt → List Receipt → Bool
is_acknowledged poll [] = false
is_acknowledged poll (end ∷ rest) = is_same (reported_to poll.step poll.note) (ended_of end.step end.note)

-- how many timestamps were drawn, and how many commits were acknowledged
abbrev pub draws : List Receipt → ℕ
draws receipts = count_by (λ r. has_drawn r.step r.note) receipts

-- how many commits were acknowledged in these receipts
abbrev pub acknowledged : List Receipt → ℕ
acknowledged [] = 0
acknowledged (r ∷ rest) = (if is_acknowledged r rest then 1 else 0) + acknowledged rest

-- Exactly that many commits were made: that many were acknowledged, no further timestamp was drawn, and no transaction is open
pub record Makes (commits : ℕ) (receipts : List Receipt) : Type 0 where
  pub acknowledges : acknowledged receipts ≡ commits
  pub drawn : draws receipts ≤ commits
  pub closed : phase_after Idle receipts ≡ Idle

-- whether the transaction has drawn a timestamp, as a number
abbrev pub pending : Phase → ℕ
pending (Drawn session timestamp) = 1
pending (Stamped session timestamp) = 1
pending _ = 0

-- no commit was acknowledged between the two, and no timestamp was drawn except one that is still to be acknowledged
pub record MakesNone (phase : Phase) (old : List Receipt) (phase' : Phase) (new : List Receipt) : Type 0 where
  pub acknowledges : acknowledged new ≡ acknowledged old
  pub drawn : draws new + pending phase ≤ draws old + pending phase'

-- one was acknowledged, and no other was drawn
pub record MakesOne (phase : Phase) (old new : List Receipt) : Type 0 where
  pub acknowledges : acknowledged new ≡ acknowledged old + 1
  pub drawn : draws new + pending phase ≤ draws old + 1

-- the last step put this row under this key
abbrev pub EndsInPut : Key → List ℕ → List Receipt → Type 0
EndsInPut key row receipts = (n : ℕ) × (before : List Receipt) × (put : Receipt) × (receipts ≡ before ++ put ∷ []) × (put.step ≡ Put n key row) × (put.note ≡ Done)

-- the last receipt's step was refused with this fault, or it is what ended the committer
abbrev pub IsRefusedWith : (Fault → Type 0) → List Receipt → Fault → Type 0
IsRefusedWith Halted receipts fault = ReportsLast receipts (Refused fault) ⊎ Halted fault

-- the last steps are a poll, which reported that nothing was written, and the end of its transaction, which was done
abbrev pub ReportsNothing : List Receipt → Type 0
ReportsNothing receipts =
    (n : ℕ) × (before : List Receipt) × (poll end : Receipt) × (receipts ≡ (before ++ poll ∷ []) ++ end ∷ []) × (poll.step ≡ Poll n) × (poll.note ≡ Done) × (end.step ≡ End n) × (end.note ≡ Done)

-- That is so, and a thread that meets the fault stops. Or a commit reported that nothing was written, which no step of a run does after a
-- put
pub record GivesUp (Halted : Fault → Type 0) (receipts : List Receipt) (fault : Fault) : Type 0 where
  pub is_final : may_pass fault ≡ false
  pub why : ((fault ≡ WrongState) × ReportsNothing receipts) ⊎ IsRefusedWith Halted receipts fault

-- the thread made its commits, or met such a fault
abbrev pub Works : (Fault → Type 0) → ℕ → List Receipt → Option Fault → Type 0
Works Halted commits receipts None = Makes commits receipts
Works Halted commits receipts (Some fault) = GivesUp Halted receipts fault

-- the sessions' steps among the entries are those of that many threads, each of which made exactly that many commits
pub record AreMade (sessions commits : ℕ) (entries : List (Step × Note)) : Type 0 where
  pub threads : List (List Receipt)
  pub count : length threads ≡ sessions
  pub each : All (Makes commits) threads
  pub agrees : Agrees entries 0 (flat_map (λ receipts. receipts) threads)

-- a run from the image, in which that many threads made that many commits each, comes to a state of which this holds
abbrev pub MakesTo : Image → ℕ → ℕ → (State → Type 0) → Type 0
MakesTo image sessions commits Is = ∥ ((entries : List (Step × Note)) × RunOf image entries Is × AreMade sessions commits entries) ∥₁

-- ---- why it is refused

-- a run from the image has an entry that was refused with this fault
abbrev pub HasRefusal : Image → Fault → Type 0
HasRefusal image fault =
    ∥ ((entries : List (Step × Note)) × RunOf image entries (λ q. ⊤) × (place : ℕ) × (step : Step) × (slice_get entries place ≡ Some (step, Refused fault))) ∥₁

-- Why a load that was begun ended before its commits were made. Memory is lacking. A thread of the engine can't be started. When the
-- engine is closed its room isn't the one that it was lent, or its steps aren't those of the sessions. A commit reported that nothing
-- was written. Or a step, of a session or of the committer, was refused with a fault that doesn't pass
abbrev pub IsEngineFault : Image → Fault → Type 0
IsEngineFault image fault =
    (fault ≡ OutOfMemory) ⊎ ((fault ≡ NoThread) ⊎ ((fault ≡ WrongState) ⊎ ((may_pass fault ≡ false) × HasRefusal image fault)))

-- Why a load ended before its work was done. The image doesn't open. Memory is lacking. The device failed when it was opened, though no
-- clause shows the failed operation, since the device is gone then. Two slots for each session aren't free. They are, but numbers are
-- lacking. Or both are there, and the fault is the engine's
abbrev pub IsLoadFault : Image → ℕ → ℕ → Fault → Type 0
IsLoadFault image sessions commits fault =
    (opening_fault image ≡ Some fault)
    ⊎ ((fault ≡ OutOfMemory) ⊎ (((opening_fault image ≡ None) × (fault ≡ DeviceFault))
    ⊎ ((OpensTo image (LacksFree (2 * sessions)) × (fault ≡ SlotsOut))
    ⊎ ((OpensTo image (HasFree (2 * sessions)) × OpensTo image (LacksNumbers (sessions * commits)) × (fault ≡ TimestampsOut))
    ⊎ (OpensTo image (HasFree (2 * sessions)) × OpensTo image (HasNumbers (sessions * commits)) × IsEngineFault image fault)))))

-- Calls of several steps.
use Rattle.std.specs.Prelude.{◌≡◌, ◌≢◌, ◌⊎◌, ℕ, ◌≤◌, List, [], ◌∷◌, ◌++◌, length, Option, Some, None, IfSome, Result, Ok, Err, All}
use Rattle.std.specs.Option.{option_or}
use Rattle.base.specs.declared.fault.Fault.{Fault}
use Rattle.base.specs.declared.fault.Fault.TheVariants.{NoSession, OutOfMemory}
use Rattle.base.specs.declared.step.Step.TheVariants.{Draw, Stamp, Poll, End}
use Rattle.base.specs.declared.step.Note.{Note}
use Rattle.base.specs.declared.step.Note.TheVariants.{Refused, Done, Drawn as DrewAs, Stamped as AllStamped, Waiting, Committed}
use Rattle.audited.specs.declared.receipt.Receipt.{Receipt}
use Rattle.audited.specs.Audit.{IsLastOfRun}
use Rattle.engine.specs.declared.halt.Halt.{Halt}
use Rattle.engine.specs.declared.phase.Phase.{Phase}
use Rattle.engine.specs.declared.phase.Phase.TheVariants.{Idle, Active, Drawn, Stamped, Covered}
use Rattle.engine.specs.declared.phase.PollReply.{PollReply}
use Rattle.engine.specs.declared.phase.PollReply.TheVariants.{Waiting as PollWaiting, Committed as PollCommitted, Done as PollDone}
use Rattle.engine.specs.Phases.{number_of}

-- these receipts were added, each is the last of a run, and this holds of them
pub record Called (old new : List Receipt) (fact : List Receipt → Type 0) : Type 0 where
  pub added : List Receipt
  pub is : new ≡ old ++ added
  pub runs : All (λ r. ∥ IsLastOfRun r ∥₁) added
  pub holds : fact added

-- the last note is this
abbrev pub ReportsLast : List Receipt → Note → Type 0
ReportsLast added note = (before : List Receipt) × (r : Receipt) × (added ≡ before ++ r ∷ []) × (r.note ≡ note)

-- the last note refuses with this fault, or for lack of memory a step wasn't made
abbrev pub ReportsFault : List Receipt → Fault → Type 0
ReportsFault added fault = (fault ≡ OutOfMemory) ⊎ ReportsLast added (Refused fault)

-- each poll among them reported that the commit isn't covered
abbrev pub AreUncovered : List Receipt → Type 0
AreUncovered added = All (λ r. (n : ℕ) → r.step ≡ Poll n → r.note ≡ Waiting) added

-- The fault is reported like that, or it is what ended the committer, and no poll reported that the commit is covered.
-- Excluded: a fault of the committer that no tick was refused with, or of a commit that a poll reported as committed.
abbrev pub ReportsEnd : (Fault → Type 0) → List Receipt → Fault → Type 0
ReportsEnd Ended added fault = ReportsFault added fault ⊎ (Ended fault × AreUncovered added)

-- no end among them was done
abbrev pub AreUnended : List Receipt → Type 0
AreUnended added = All (λ r. (n : ℕ) → r.step ≡ End n → r.note ≢ Done) added

-- the same if a transaction is open, and it stays open; otherwise the fault is NoSession, and no step was made
abbrev pub DeclinesCall : (Fault → Type 0) → Phase → List Receipt → Fault → Type 0
DeclinesCall Ended Idle added fault = (fault ≡ NoSession) × (added ≡ [])
DeclinesCall Ended _ added fault = ReportsEnd Ended added fault × AreUnended added

-- ---- refusals

-- the fault that a note refuses with
abbrev pub refused_with : Note → Option Fault
refused_with (Refused fault) = Some fault
refused_with _ = None

-- the first refusal among them
abbrev pub first_refusal : List Receipt → Option Fault
first_refusal [] = None
first_refusal (r ∷ rest) = option_or (refused_with r.note) (first_refusal rest)

-- none of them was refused, or the first refusal is with this fault
abbrev pub HasNoOther : List Receipt → Fault → Type 0
HasNoOther added fault = (first_refusal added ≡ None) ⊎ (first_refusal added ≡ Some fault)

-- At Ok no step was refused; if one was, the call fails with its fault.
-- Excluded: a conflict, or a device that failed, that is reported as something else.
abbrev pub ReportsRefusal : {X : Type 0} → List Receipt → Result X Fault → Type 0
ReportsRefusal added (Ok x) = first_refusal added ≡ None
ReportsRefusal added (Err fault) = HasNoOther added fault

-- ---- what is known of the committer's end

-- what the session knows of it stays; or it knew of none, is told of it, and the call fails with its fault
abbrev pub Learns : Option Halt → Option Halt → Fault → Type 0
Learns old new fault = (new ≡ old) ⊎ ((old ≡ None) × IfSome new (λ halt. halt.fault ≡ fault))

-- so at Err; at Ok it stays
abbrev pub Hears : {X : Type 0} → Option Halt → Option Halt → Result X Fault → Type 0
Hears old new (Ok x) = new ≡ old
Hears old new (Err fault) = Learns old new fault

-- ---- a prepare

-- the receipts are those of a draw and of stamps after it, as far as they came
abbrev pub AskPrepare : Phase → List Receipt → Type 0
AskPrepare (Active n) added = (added ≡ []) ⊎ ((r : Receipt) × (rest : List Receipt) × (added ≡ r ∷ rest) × (r.step ≡ Draw n) × All (λ s. s.step ≡ Stamp n) rest)
AskPrepare (Drawn n t) added = All (λ s. s.step ≡ Stamp n) added
AskPrepare _ added = added ≡ []

-- Why it is refused: the last note says it; or, if nothing is drawn yet, the fault is what ended the committer, and no step was made.
-- So it is NoSession if no transaction is open. If all is stamped, or nothing was written, it isn't refused
abbrev pub DeclinesPrepare : (Fault → Type 0) → Phase → List Receipt → Fault → Type 0
DeclinesPrepare Ended Idle added fault = (fault ≡ NoSession) × (added ≡ [])
DeclinesPrepare Ended (Active n) added fault = ReportsFault added fault ⊎ (Ended fault × (added ≡ []))
DeclinesPrepare Ended (Drawn n t) added fault = ReportsFault added fault
DeclinesPrepare Ended _ added fault = ⊥

-- the note of a draw
abbrev pub note_of_draw : Option ℕ → Note
note_of_draw (Some t) = DrewAs t
note_of_draw None = Done

-- the first note is this
abbrev pub ReportsFirst : List Receipt → Note → Type 0
ReportsFirst added note = (r : Receipt) × (rest : List Receipt) × (added ≡ r ∷ rest) × (r.note ≡ note)

-- if there is a timestamp, the last note says that all keys are stamped; otherwise the draw is the only step
abbrev pub ReportsStamped : List Receipt → Option ℕ → Type 0
ReportsStamped added (Some t) = ReportsLast added AllStamped
ReportsStamped added None = (r : Receipt) × (added ≡ r ∷ [])

-- The result is the draw's, by the first note or by an earlier call. All keys are stamped, by the last note or by an earlier call.
-- Excluded: a prepare that draws twice, or returns Ok while a key isn't stamped.
abbrev pub ReportsPrepare : Phase → List Receipt → Option ℕ → Type 0
ReportsPrepare (Active n) added answer = ReportsFirst added (note_of_draw answer) × ReportsStamped added answer
ReportsPrepare (Drawn n t) added answer = (answer ≡ Some t) × ReportsStamped added answer
ReportsPrepare (Stamped n t) added answer = answer ≡ Some t
ReportsPrepare (Covered n) added answer = answer ≡ None
ReportsPrepare Idle added answer = ⊥

-- ---- a commit

-- the note of a poll
abbrev pub note_of_poll : PollReply → Note
note_of_poll PollWaiting = Waiting
note_of_poll (PollCommitted t) = Committed t
note_of_poll PollDone = Done

-- polls, as far as they came
abbrev pub ArePolls : ℕ → List Receipt → Type 0
ArePolls n added = All (λ r. r.step ≡ Poll n) added

-- the note of a commit's last poll
abbrev pub note_of_commit : Option ℕ → Note
note_of_commit (Some t) = Committed t
note_of_commit None = Done

-- the receipts are those of a prepare, of polls after it and of an end, as far as they came
pub record AskCommit (phase : Phase) (added : List Receipt) : Type 0 where
  pub prepare : List Receipt
  pub polls : List Receipt
  pub end : List Receipt
  pub is : added ≡ prepare ++ (polls ++ end)
  pub asks : AskPrepare phase prepare
  pub all_polls : ArePolls (number_of phase) polls
  pub ends : All (λ r. r.step ≡ End (number_of phase)) end
  pub one_end : length end ≤ 1

-- a transaction was open, the note of its last poll is that of the result, and an end that was done follows it.
-- Excluded: a commit that no poll reported as committed; one that returns Ok and leaves its transaction open.
pub record ReportsCommit (phase : Phase) (added : List Receipt) (answer : Option ℕ) : Type 0 where
  pub open_then : phase ≢ Idle
  pub before : List Receipt
  pub poll : Receipt
  pub end : Receipt
  pub is : added ≡ (before ++ poll ∷ []) ++ end ∷ []
  pub polled : poll.step ≡ Poll (number_of phase)
  pub noted : poll.note ≡ note_of_commit answer
  pub ended : end.step ≡ End (number_of phase)
  pub done : end.note ≡ Done

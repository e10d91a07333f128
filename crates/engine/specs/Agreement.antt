-- When the receipts of sessions are the steps of a list.
use Rattle.std.specs.Prelude.{◌≡◌, ℕ, ◌<◌, ◌≤◌, nat_eq, Bool, true, false, List, length, Some, IfSome, All, count_by, flat_map, slice_get, IsTrue}
use Rattle.base.specs.declared.step.Step.{Step}
use Rattle.base.specs.declared.step.Step.TheVariants.{Commit as CommitTick, Collect}
use Rattle.base.specs.declared.step.Note.{Note}
use Rattle.room.specs.declared.status.Status.{Status}
use Rattle.audited.specs.declared.audited.Audited.{Audited}
use Rattle.audited.specs.declared.receipt.Receipt.{Receipt}
use Rattle.pmem.specs.declared.device.Pmem.{Ghosts}
use Rattle.board.specs.declared.history.Naming.{Ghosts as Names}
use Rattle.engine.specs.declared.halt.Halt.{Halt}
use Rattle.engine.specs.declared.origin.Origin.{Ghosts as Origins}
use Rattle.engine.specs.declared.session.Session.{Session}
use Rattle.engine.specs.Origins.{WasHalted}

-- whether a session makes such a step; the workers make the others
abbrev pub is_of_session : Step → Bool
is_of_session CommitTick = false
is_of_session Collect = false
is_of_session _ = true

-- it is the list's entry at its place
pub record IsEntry (entries : List (Step × Note)) (first : ℕ) (r : Receipt) : Type 0 where
  pub from : first ≤ r.place
  pub entry : slice_get entries r.place ≡ Some (r.step, r.note)
  pub of_session : IsTrue (is_of_session r.step)

-- how many of the receipts have this place
abbrev pub count_at : ℕ → List Receipt → ℕ
count_at place receipts = count_by (λ r. nat_eq r.place place) receipts

-- a session step at this place has exactly one receipt
abbrev pub IsOnceAt : List (Step × Note) → List Receipt → ℕ → Type 0
IsOnceAt entries receipts place = (entry : Step × Note) → slice_get entries place ≡ Some entry → IsTrue (is_of_session entry.0) → count_at place receipts ≡ 1

-- each session step of the list at these places has exactly one receipt
abbrev pub AreOnce : List (Step × Note) → ℕ → ℕ → List Receipt → Type 0
AreOnce entries first end receipts = (place : ℕ) → first ≤ place → place < end → IsOnceAt entries receipts place

-- The receipts are the list's session steps from the first place on.
-- Excluded: a step that was reported to a session and that the room didn't make; a step that the room made for nobody; two receipts for one
-- step; a session that is left out when the engine is closed.
pub record Agrees (entries : List (Step × Note)) (first : ℕ) (receipts : List Receipt) : Type 0 where
  pub each : All (IsEntry entries first) receipts
  pub once : AreOnce entries first (length entries) receipts

-- the receipts of all the sessions
abbrev pub receipts_in : {D J B : Type 0} → {G : Ghosts D} → {N : Origins J} → {M : Names J} → List (Session D J B G N M) → List Receipt
receipts_in sessions = flat_map (λ s. s.receipts.items) sessions

-- the list's entry at its place, which is from the first place on, is a tick of the committer that was refused with its fault
pub record IsTold (entries : List (Step × Note)) (first : ℕ) (halt : Halt) : Type 0 where
  pub from : first ≤ halt.place
  pub entry : WasHalted entries halt

-- each tick of the committer that a session was told of is such an entry
abbrev pub AreTold : {D J B : Type 0} → {G : Ghosts D} → {N : Origins J} → {M : Names J} → List (Step × Note) → ℕ → List (Session D J B G N M) → Type 0
AreTold entries first sessions = All (λ s. IfSome s.told (IsTold entries first)) sessions

-- The room was opened with these numbers, the receipts of the sessions are its session steps from the first place on, and its history
-- has what they were told of the committer
pub record IsReturned {D J B : Type 0} {G : Ghosts D} {N : Origins J} {M : Names J} (opening : Status) (first : ℕ) (sessions : List (Session D J B G N M)) (audited : Audited D G) : Type 0 where
  pub opened : audited.opening ≡ opening
  pub agrees : Agrees audited.entries.items first (receipts_in sessions)
  pub told : AreTold audited.entries.items first sessions

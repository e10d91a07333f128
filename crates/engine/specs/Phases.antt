-- How far a session's transaction has come.
use Rattle.std.specs.Prelude.{◌≡◌, ◌≢◌, ℕ, List, [], ◌∷◌, Option, Some, None, length, drop}
use Rattle.base.specs.declared.step.Step.{Step}
use Rattle.base.specs.declared.step.Step.TheVariants.{Begin, Draw, Stamp, Abort, End}
use Rattle.base.specs.declared.step.Note.{Note}
use Rattle.base.specs.declared.step.Note.TheVariants.{Began, Drawn as DrewAs, Done, Stamped as AllStamped}
use Rattle.audited.specs.declared.receipt.Receipt.{Receipt}
use Rattle.engine.specs.declared.phase.Phase.{Phase}
use Rattle.engine.specs.declared.phase.Phase.TheVariants.{Idle, Active, Drawn, Stamped, Covered}

-- the number of the transaction that is open, or 0
abbrev pub number_of : Phase → ℕ
number_of Idle = 0
number_of (Active n) = n
number_of (Drawn n t) = n
number_of (Stamped n t) = n
number_of (Covered n) = n

-- the timestamp that it has drawn, or 0
abbrev pub timestamp_of : Phase → ℕ
timestamp_of (Drawn n t) = t
timestamp_of (Stamped n t) = t
timestamp_of _ = 0

-- a transaction of this number is open
pub record IsOpenAs (n : ℕ) (phase : Phase) : Type 0 where
  pub is_open : phase ≢ Idle
  pub number : n ≡ number_of phase

-- A begin that was made opens a transaction. A draw gives it a timestamp, or covers it if nothing was written. The last stamp stamps it,
-- and an abort or an end closes it. Nothing else moves it, and no refusal does
abbrev pub phase_after_step : Phase → Step → Note → Phase
phase_after_step phase Begin (Began n) = Active n
phase_after_step phase (Draw n) (DrewAs t) = Drawn n t
phase_after_step phase (Draw n) Done = Covered n
phase_after_step phase (Stamp n) AllStamped = Stamped n (timestamp_of phase)
phase_after_step phase (Abort n) Done = Idle
phase_after_step phase (End n) Done = Idle
phase_after_step phase _ _ = phase

-- how far it has come after these receipts
abbrev pub phase_after : Phase → List Receipt → Phase
phase_after phase [] = phase
phase_after phase (r ∷ rs) = phase_after (phase_after_step phase r.step r.note) rs

-- the receipts that were added
abbrev pub added_since : List Receipt → List Receipt → List Receipt
added_since old new = drop (length old) new

-- after a prepare that succeeded: its result is the timestamp, or none if nothing was written
abbrev pub prepared : ℕ → Option ℕ → Phase
prepared n (Some t) = Stamped n t
prepared n None = Covered n

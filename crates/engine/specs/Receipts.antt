-- The receipts of a session.
use Rattle.std.specs.Prelude.{◌≡◌, ◌≢◌, ◌⊎◌, ℕ, ◌+◌, nat_le, Bool, true, ◌&&◌, List, [], ◌∷◌, ◌++◌}
use Rattle.base.specs.declared.fault.Fault.{Fault}
use Rattle.base.specs.declared.fault.Fault.TheVariants.{OutOfMemory, NoSession}
use Rattle.base.specs.declared.step.Step.{Step}
use Rattle.base.specs.declared.step.Note.{Note}
use Rattle.base.specs.declared.step.Note.TheVariants.{Refused}
use Rattle.audited.specs.declared.receipt.Receipt.{Receipt}
use Rattle.audited.specs.Audit.{IsLastOfRun}
use Rattle.engine.specs.declared.phase.Phase.{Phase}
use Rattle.engine.specs.declared.phase.Phase.TheVariants.{Idle}

-- the place after the last
abbrev pub floor_of : ℕ → List Receipt → ℕ
floor_of least [] = least
floor_of least (r ∷ rs) = floor_of (r.place + 1) rs

-- the places rise, from the least on
abbrev pub rises : ℕ → List Receipt → Bool
rises least [] = true
rises least (r ∷ rs) = nat_le least r.place && rises (r.place + 1) rs

-- The step was asked, and its reply has this note: there is one more receipt, which is the last of a run.
-- Excluded: another step than the one that was asked.
pub record Asks (old new : List Receipt) (step : Step) (note : Note) : Type 0 where
  pub receipt : Receipt
  pub added : new ≡ old ++ receipt ∷ []
  pub asked : receipt.step ≡ step
  pub noted : receipt.note ≡ note
  pub run : ∥ IsLastOfRun receipt ∥₁

-- the step was asked and refused with this fault; or for lack of memory no step was made, or none that is kept
abbrev pub Refuses : List Receipt → List Receipt → Step → Fault → Type 0
Refuses old new step fault = ((new ≡ old) × (fault ≡ OutOfMemory)) ⊎ Asks old new step (Refused fault)

-- a transaction is open, and the reply to its step has this note.
-- Excluded: an answer that belongs to another note.
abbrev pub Answers : Phase → List Receipt → List Receipt → Step → Note → Type 0
Answers phase old new step note = (phase ≢ Idle) × Asks old new step note

-- a transaction is open, and its step is refused; or none is open, and so no step was made
abbrev pub Declines : Phase → List Receipt → List Receipt → Step → Fault → Type 0
Declines phase old new step fault = ((phase ≢ Idle) × Refuses old new step fault) ⊎ ((phase ≡ Idle) × (fault ≡ NoSession) × (new ≡ old))

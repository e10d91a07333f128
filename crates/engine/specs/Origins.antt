-- From which image a room's history is a run.
use Rattle.std.specs.Prelude.{◌≡◌, List, [], ◌∷◌, ◌++◌, length, slice_get, Option, Some, MatchOption, ⊤}
use Rattle.base.specs.declared.fault.Fault.{Fault}
use Rattle.base.specs.declared.step.Note.{Note}
use Rattle.base.specs.declared.step.Note.TheVariants.{Refused}
use Rattle.base.specs.declared.step.Step.{Step}
use Rattle.base.specs.declared.step.Step.TheVariants.{Commit as Tick}
use Rattle.base.specs.declared.step.Reply.TheVariants.{Covered}
use Rattle.base.specs.Batches.{Batch}
use Rattle.machine.specs.Machine.{State, Stepped}
use Rattle.base.specs.Images.{Image}
use Rattle.pmem.specs.Device.{Device}
use Rattle.pmem.specs.declared.device.Pmem.{Ghosts}
use Rattle.room.specs.Runs.{RunOf}
use Rattle.audited.specs.Audit.{IsAudited}
use Rattle.audited.specs.declared.audited.Audited.{Audited}
use Rattle.engine.specs.declared.halt.Halt.{Halt}
use Rattle.engine.specs.declared.halt.Why.{Why}
use Rattle.engine.specs.declared.halt.Why.TheVariants.{Halted, Memory}

-- The room's history is a run from this image. An engine's start requires it of the image that its type names, and its close ensures it of
-- the same image.
-- Excluded: a room that wasn't run on from the one that was lent.
abbrev pub IsFrom : {D : Type 0} → {G : Ghosts D} → (D → Device) → Image → Audited D G → Type 0
IsFrom state image audited = ∥ IsAudited state audited.room image audited.opening audited.entries.items ∥₁

-- its entry at the place is a tick of the committer that was refused with the fault
abbrev pub WasHalted : List (Step × Note) → Halt → Type 0
WasHalted entries halt = slice_get entries halt.place ≡ Some (Tick, Refused halt.fault)

-- a run from this image has as many entries as the place says, and then a tick of the committer that was refused with the fault
abbrev pub HasHalted : Image → Halt → Type 0
HasHalted image halt = ∥ ((before : List (Step × Note)) × (length before ≡ halt.place) × RunOf image (before ++ (Tick, Refused halt.fault) ∷ []) (λ q. ⊤)) ∥₁

-- if a wait failed since the committer has ended, such a run did end it
abbrev pub IsWhy : Image → Why → Type 0
IsWhy image (Halted halt) = HasHalted image halt
IsWhy image Memory = ⊤

-- a session was told of such a tick, and this is its fault
abbrev pub Knows : Image → Option Halt → Fault → Type 0
Knows image told fault = MatchOption told ⊥ (λ halt. (halt.fault ≡ fault) × HasHalted image halt)

-- a run from this image comes to a state in which a step covers this batch
abbrev pub HasCovered : Image → Batch → Type 0
HasCovered image batch = ∥ ((entries : List (Step × Note)) × (step : Step) × RunOf image entries (λ q. (q' : State) × Stepped q step (Covered batch) q')) ∥₁

-- What a load that was made, or refused, means to its caller.
use Rattle.std.proofs.Common.{◌≡◌, ℕ, arith}
use Rattle.std.proofs.Math.Logic.{∥∥₁_map}
use Rattle.base.specs.declared.fault.Fault.{Fault}
use Rattle.base.specs.declared.fault.Fault.TheVariants.{SlotsOut}
use Rattle.base.specs.Images.{Image}
use Rattle.machine.specs.Machine.{State}
use Rattle.room.proofs.Runs.{of-weaken}
use Rattle.workload.specs.Load.{IsEngineFault, MakesTo}

pub makes-weaken : (image : Image) (sessions commits : ℕ) (Is Other : State → Type 0) → ((q : State) → Is q → Other q) → MakesTo image sessions commits Is → MakesTo image sessions commits Other
makes-weaken image sessions commits Is Other weaker made = ∥∥₁_map made (λ m. (m.0, of-weaken image m.0 Is Other weaker m.1, m.2))

-- a load that was begun isn't refused for lack of slots
pub engine-not-slots : (image : Image) (fault : Fault) → IsEngineFault image fault → fault ≡ SlotsOut → ⊥
engine-not-slots image fault a slots = grind (arith)

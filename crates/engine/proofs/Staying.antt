-- A step's history is a run from the same image.
use Rattle.std.proofs.Common.{◌≡◌, ◌∙◌, ◌≤◌, ℕ, ap, subst, sym, length}
use Rattle.std.proofs.Math.Logic.{∥∥₁_map}
use Rattle.std.specs.Option.{ForSome}
use Rattle.std.specs.Prelude.{Option, Some, unwrap_or}
use Rattle.base.specs.Images.{Image}
use Rattle.pmem.specs.Device.{Device}
use Rattle.pmem.specs.declared.device.Pmem.{Ghosts}
use Rattle.audited.specs.Audit.{IsAudited}
use Rattle.audited.specs.declared.audited.Audited.{Audited}
use Rattle.engine.specs.Origins.{IsFrom}
use Rattle.engine.specs.Lending.{HasMade}

pub from-stepped : {D : Type 0} {G : Ghosts D} (state : D → Device) (image : Image) (lent : Option (Audited D G)) (old new : Audited D G)
    → ForSome lent (IsFrom state image) → lent ≡ Some old
    → ((from : Image) → IsAudited state old.room from old.opening old.entries.items → IsAudited state new.room from new.opening new.entries.items)
    → ForSome (Some new) (IsFrom state image)
from-stepped {D = D} {G = G} state image lent old new from is steps x same =
    subst (IsFrom state image) (ap (λ (o : Option (Audited D G)). unwrap_or o new) same) (∥∥₁_map (from old is) (steps image))

-- the room that was seen there has made that many steps
pub made-here : {D : Type 0} {G : Ghosts D} (steps : ℕ) (lent seen : Option (Audited D G)) (audited : Audited D G) → HasMade steps lent → seen ≡ lent → seen ≡ Some audited
    → steps ≤ length audited.entries.items
made-here {D = D} {G = G} steps lent seen audited has same is = let P : Option (Audited D G) → Type 0 = λ o. HasMade steps o in subst P (sym same ∙ is) has

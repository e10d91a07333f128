-- An image that closing leaves covers the history.
use Rattle.std.proofs.Common.{Bool, true, false, List, Some, None}
use Rattle.std.specs.Prelude.{Option}
use Rattle.std.proofs.Math.Logic.{∥∥₁_map}
use Rattle.base.specs.Images.{Image}
use Rattle.base.specs.declared.step.Step.{Step}
use Rattle.machine.specs.Machine.{StandsClosed}
use Rattle.pmem.specs.Device.{Device, MayLeave}
use Rattle.pmem.specs.Words.{image_of}
use Rattle.session_laws.specs.Laws.{IsFirst}
use Rattle.session_laws.specs.Logs.{state_after, AreMade}
use Rattle.room_logs.proofs.Logs.{each-follows}
use Rattle.database.specs.Closing.{IsClosed}
use Rattle.database.specs.Histories.{ClosesAt}
use Rattle.store.specs.Closed.{CoversHistory}

pub covers-history : (opened now : Device) (kept : Bool) (image : Image) (front : Option (List Step)) → MayLeave now image → ClosesAt opened kept now front → CoversHistory opened kept image front
covers-history opened now true image (Some log) leaves closes = ∥∥₁_map closes (λ each.
    each-follows (image_of opened) (λ history at start. IsFirst history start × AreMade start log × IsClosed now (state_after start log))
    (λ history at start. IsFirst history start × AreMade start log × StandsClosed (state_after start log) image)
    (λ history at start is. (is.0, is.1, is.2 image leaves))
    each)
covers-history opened now true image None leaves closes = closes
covers-history opened now false image front leaves closes = closes

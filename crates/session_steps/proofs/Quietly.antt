-- A step that makes no operation, as what is shown of it on a device.
use Rattle.std.proofs.Common.{◌≡◌, true}
use Rattle.base.specs.declared.step.SessionStep.{SessionStep}
use Rattle.base.specs.declared.step.SessionReply.{SessionReply}
use Rattle.base.specs.Steps.{as_step}
use Rattle.pmem.specs.Device.{Device, IsOrderly}
use Rattle.simulation.specs.steps.Moves.{is_quiet}
use Rattle.simulation.proofs.steps.StepsWithoutStores.{quiet-steps-lead}
use Rattle.session_steps.specs.declared.sessions.Sessions.{Sessions}
use Rattle.session_steps.specs.Shows.{Hidden}
use Rattle.session_steps.specs.Steps.{HoldsOn, Goes, Takes, Steps}
use Rattle.session_steps.proofs.Stepping.{on-device, quietly, goes-quietly}

-- whatever is hidden
pub steps-quietly : (old new : Sessions) (device : Device) (s : SessionStep) (r : SessionReply) → IsOrderly device → is_quiet (as_step s) ≡ true → Takes old new s r → Steps old new device device s r
steps-quietly old new device s r orderly quiet takes = on-device old new device device s r (quietly quiet-steps-lead old new device s r orderly quiet takes)

-- or if the device is read
pub reads-quietly : (old new : Sessions) (device : Device) (s : SessionStep) (r : SessionReply) → IsOrderly device → is_quiet (as_step s) ≡ true → ((h : Hidden) → HoldsOn old h device → Goes old new s r h) → Steps old new device device s r
reads-quietly old new device s r orderly quiet goes = on-device old new device device s r (λ h holds. goes-quietly quiet-steps-lead old new device s r orderly quiet h holds (goes h holds))

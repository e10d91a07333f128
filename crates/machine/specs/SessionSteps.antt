-- A session's steps and replies are steps and replies of the machine.
use Rattle.base.specs.declared.step.SessionStep.{SessionStep}
use Rattle.base.specs.declared.step.SessionReply.{SessionReply}
use Rattle.base.specs.Steps.{as_step, as_reply}
use Rattle.machine.specs.Machine.{State, Stepped}

-- a session's step is one of the machine
abbrev pub SessionStepped : State → SessionStep → SessionReply → State → Type 0
SessionStepped q s r q' = Stepped q (as_step s) (as_reply r) q'

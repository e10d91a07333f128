-- Reads of a part of what a scan returns. They aren't steps: a run comes to a state, and what is returned is read off the reply that the
-- machine has there.
use Rattle.std.specs.Prelude.{Result}
use Rattle.base.specs.declared.fault.Fault.{Fault}
use Rattle.base.specs.declared.step.Step.{Step}
use Rattle.base.specs.declared.step.Reply.{Reply}
use Rattle.session_steps.specs.Reads.{WouldReply}
use Rattle.room.specs.Runs.{ComesTo}

-- a run comes to a state in which the machine makes this step and stays in it, and what is returned is read off the reply to it.
-- Excluded: an answer that no run gives, or to another session's step.
abbrev pub ReadsReply : {A : Type 0} → Step → (Reply → Result A Fault) → Result A Fault → Type 0
ReadsReply step read result = ComesTo (λ q. WouldReply q step read result)

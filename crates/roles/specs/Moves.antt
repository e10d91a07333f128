-- What a move leaves as it was, and after which turns a thread has none to take.
use Rattle.std.specs.Prelude.{◌≡◌, ◌⊎◌}
use Rattle.roles.specs.declared.roles.Roles.{Roles}
use Rattle.roles.specs.declared.turn.Turn.{Turn}
use Rattle.roles.specs.declared.turn.Turn.TheVariants.{Idle, Busy, Stopped}

-- who leads or watches
abbrev pub LeavesLead : Roles → Roles → Type 0
LeavesLead old new = new.lead ≡ old.lead

-- who has to be woken
abbrev pub LeavesWakes : Roles → Roles → Type 0
LeavesWakes old new = (new.is_wanted ≡ old.is_wanted) × (new.has_replied ≡ old.has_replied)

-- how many workers there are, and whether they have to end
abbrev pub LeavesWorkers : Roles → Roles → Type 0
LeavesWorkers old new = (new.is_closing ≡ old.is_closing) × (new.working ≡ old.working)

-- there was nothing to do, another thread takes the turns, or it was refused for good
abbrev pub HasNoTurn : Turn → Type 0
HasNoTurn turn = (turn ≡ Idle) ⊎ (turn ≡ Busy) ⊎ (turn ≡ Stopped)

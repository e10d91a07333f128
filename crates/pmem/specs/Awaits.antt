-- What an actor's next fence would change.
use Rattle.std.specs.Prelude.{ℕ, Bool, true, false, List, [], ◌∷◌, is_some, if◌then◌else◌}
use Rattle.pmem.specs.Device.{Entry}

-- a fence by the actor would change the history
abbrev pub is_awaited : ℕ → List Entry → Bool
is_awaited actor [] = false
is_awaited actor (entry ∷ older) = if is_some entry.kept then false else (if entry.flushed actor then true else is_awaited actor older)

-- What the threads are given.
use Rattle.std.specs.Prelude.{◌≡◌, ℕ, List, [], map, All}
use Rattle.base.specs.Images.{Image}
use Rattle.pmem.specs.declared.device.Pmem.{Ghosts}
use Rattle.board.specs.declared.history.Naming.{Ghosts as Names}
use Rattle.engine.specs.declared.origin.Origin.{Ghosts as Origins}
use Rattle.engine.specs.declared.session.Session.{Session}
use Rattle.engine.specs.Origins.{Knows}
use Rattle.workload.specs.declared.task.Task.{Task}
use Rattle.workload.specs.Load.{Works}

-- their sessions
abbrev pub sessions_in : {D J B : Type 0} → {G : Ghosts D} → {N : Origins J} → {M : Names J} → List (Task D J B G N M) → List (Session D J B G N M)
sessions_in tasks = map (λ task. task.session) tasks

-- nothing is made yet
abbrev pub AreFresh : {D J B : Type 0} → {G : Ghosts D} → {N : Origins J} → {M : Names J} → List (Task D J B G N M) → Type 0
AreFresh tasks = All (λ task. task.session.receipts.items ≡ []) tasks

-- each made its commits, or met a fault at which it stopped: that of its own last step, or of the committer's end that its session knows
abbrev pub AllWork : {D J B : Type 0} → {G : Ghosts D} → {N : Origins J} → {M : Names J} → Image → ℕ → List (Task D J B G N M) → Type 0
AllWork image commits tasks = All (λ task. Works (Knows image task.session.told) commits task.session.receipts.items task.fault) tasks

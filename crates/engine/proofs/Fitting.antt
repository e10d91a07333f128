-- What a run says about its last note.
use Rattle.std.proofs.Common.{◌≡◌, true, [], ◌∷◌, ◌++◌}
use Rattle.std.proofs.Math.Logic.{∥∥₁_elim}
use Rattle.std.specs.Prelude.{⊤}
use Rattle.std.specs.Coded.{Coded-set, coded_bool}
use Rattle.machine.specs.Notes.{fits}
use Rattle.machine.proofs.Notes.{runs-fit}
use Rattle.room.proofs.Runs.{of-some}
use Rattle.audited.specs.declared.receipt.Receipt.{Receipt}
use Rattle.audited.specs.Audit.{IsLastOfRun}

pub fits-last : (r : Receipt) → ∥ IsLastOfRun r ∥₁ → fits r.step r.note ≡ true
fits-last r last =
    ∥∥₁_elim last (Coded-set coded_bool _ _) (λ l. let s = of-some l.image (l.before ++ (r.step, r.note) ∷ []) (λ q. ⊤) l.run in runs-fit s.0 s.1 l.before r.step r.note s.2)

-- How far a transaction has come after receipts.
use Rattle.std.proofs.Common.{◌≡◌, List, [], ◌∷◌, ◌++◌, refl, arith}
use Rattle.std.proofs.Math.Seq.{drop-append_seam}
use Rattle.audited.specs.declared.receipt.Receipt.{Receipt}
use Rattle.engine.specs.declared.phase.Phase.{Phase}
use Rattle.engine.specs.declared.phase.Phase.TheVariants.{Idle}
use Rattle.engine.specs.Phases.{phase_after, phase_after_step, added_since}
use Rattle.engine.specs.Calls.{Called}

pub phase_after-append : (phase : Phase) (one two : List Receipt) → phase_after phase (one ++ two) ≡ phase_after (phase_after phase one) two
phase_after-append phase [] two = refl
phase_after-append phase (r ∷ one) two = phase_after-append (phase_after_step phase r.step r.note) one two

-- one more receipt
pub phase_after-push : (phase phase' : Phase) (old new : List Receipt) (r : Receipt) → phase ≡ phase_after Idle old → new ≡ old ++ r ∷ []
    → phase' ≡ phase_after_step phase r.step r.note → phase' ≡ phase_after Idle new
phase_after-push phase phase' old new r is more next = grind (arith, phase_after-append)

-- all that a call added
pub phase_after-called : (phase phase' : Phase) (old new : List Receipt) (F : List Receipt → Type 0) → phase ≡ phase_after Idle old → phase' ≡ phase_after Idle new
    → Called old new F → phase' ≡ phase_after phase (added_since old new)
phase_after-called phase phase' old new F is after c = grind (arith, phase_after-append, drop-append_seam)

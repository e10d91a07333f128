-- A step has a note of its kind.
use Rattle.std.proofs.Common.{◌≡◌, ℕ, sym, ap, ◌∙◌, Bool, true, false, List, [], ◌∷◌, arith}
use Rattle.std.specs.Prelude.{Option, if◌then◌else◌}
use Rattle.base.specs.declared.key.Key.{Key}
use Rattle.base.specs.declared.step.Step.{Step}
use Rattle.base.specs.declared.step.Step.TheVariants.{Commit as CommitTick}
use Rattle.base.specs.declared.step.Reply.{Reply}
use Rattle.base.specs.declared.step.Reply.TheVariants.{Rows}
use Rattle.base.specs.Replies.{note_of}
use Rattle.machine.specs.Machine.{State, Hand, Stepped, Answers, next_state, ticked}
use Rattle.machine.specs.Notes.{fits, StepsFit, RunsFit}

either_fits : (step : Step) (b : Bool) (x y : Reply) → fits step (note_of x) ≡ true → fits step (note_of y) ≡ true → fits step (note_of (if b then x else y)) ≡ true
either_fits step a x y p q = grind (arith)

ticked_fits : (q : State) (o : Option Hand) → fits CommitTick (note_of (ticked q o)) ≡ true
ticked_fits q a = grind (arith, either_fits)

along : (step : Step) (reply other : Reply) → reply ≡ other → fits step (note_of other) ≡ true → fits step (note_of reply) ≡ true
along step reply other is fit = ap (λ (r : Reply). fits step (note_of r)) is ∙ fit

-- an answer fits its step
answered_fits : (q : State) (step : Step) (reply : Reply) → Answers q step reply → fits step (note_of reply) ≡ true
answered_fits q b reply a = grind (arith, either_fits, ticked_fits)

-- ---- replies that list rows

abbrev lists : Reply → Bool
lists (Rows rows) = true
lists _ = false

-- only a scan lists rows, and it changes nothing
listed : (q : State) (step : Step) (reply : Reply) → lists reply ≡ true → Answers q step reply → next_state q step ≡ q
listed q b reply has a = grind (arith)

-- a step that lists rows changes nothing
pub rows-unchanged : (q q' : State) (step : Step) (rows : List (Key × List ℕ)) → Stepped q step (Rows rows) q' → q' ≡ q
rows-unchanged q q' step rows b = grind (arith, listed)

pub steps-fit : StepsFit
steps-fit q q' step reply b = grind (arith, answered_fits)

pub runs-fit : RunsFit
runs-fit q q' [] step note (reply, mid, s, is, rest) = ap (fits step) (sym is) ∙ steps-fit q mid step reply s
runs-fit q q' (entry ∷ before) step note (reply, mid, s, is, rest) = runs-fit mid q' before step note rest

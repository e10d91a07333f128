use Rattle.std.proofs.Common.{◌≡◌, ◌∙◌, ◌||◌, Bool, true, false, List, refl, ap, arith}
use Rattle.journal.specs.Kept.{is_put_at}
use Rattle.journal.specs.Unplaced.{is_marked}
use Rattle.journal.proofs.Placings.{none-marked}
use Rattle.journal.proofs.unplaced.Unplaced.new.Goals as goal

alone : (b : Bool) → (b || false) ≡ b
alone true = refl
alone false = refl

pub returns-clause-marks : goal.returns-clause-marks
returns-clause-marks c number lt =
    let lines = c.args.lines.items in
    let none = ap (λ (l : List Bool). is_marked l number) (c.in_ok-marks.ensures.items_if_clones_equal (λ y e. e)) ∙ none-marked c.args.count number in
    (rw c.as_slice.ensures.value at c.mark_each.ensures.marked) number (omega (arith, lt, c.in_ok-marks.ensures.len)) ∙ ap (λ (b : Bool). is_put_at lines number || b) none ∙ alone (is_put_at lines number)

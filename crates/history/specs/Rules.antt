-- The rule of the book, and what its moves report.
use Rattle.std.specs.Prelude.{ℕ, ◌≡◌, ◌==◌, true, List, [], ◌∷◌, ◌++◌, length}
use Rattle.std.specs.Bool.{OnTrue}
use Rattle.logbook.specs.Pages.{Cell, Step as Move, View, Book, Named}
use Rattle.base.specs.declared.step.Step.{Step}

-- the first word counts the steps. A book has two words, of which this one leaves the second at 0
pub record IsKept (cells : List Cell) (log : List Step) : Type 0 where
  pub words : cells ≡ (length log, true) ∷ (0, true) ∷ []

-- the book's first word
abbrev pub head_of : Book → Named
head_of b = record { tracked = true; key = 0; book = b }

-- if the count was as expected, the step was added to all that had been seen
abbrev pub Adds : Move Step → View Step ℕ → ℕ → View Step ℕ → Type 0
Adds s v found w = OnTrue (found == s.old) (w.0 ≡ v.0 ++ s.ask ∷ [])

-- The rule of the book, and what its steps report.
use Rattle.std.specs.Prelude.{ℕ, ◌≡◌, ◌==◌, true, List, [], ◌∷◌, ◌++◌, length, drop, ◌-◌}
use Rattle.std.specs.Bool.{OnTrue}
use Rattle.logbook.specs.Pages.{Cell, Step, View, Book, Named}
use Rattle.board.specs.declared.change.Change.{Change}

-- the first word counts the changes. A book has two words, of which this one leaves the second at 0
pub record IsKept (cells : List Cell) (log : List Change) : Type 0 where
  pub words : cells ≡ (length log, true) ∷ (0, true) ∷ []

-- the book's first word
abbrev pub head_of : Book → Named
head_of b = record { tracked = true; key = 0; book = b }

-- if the count was as expected, the change was added to all that had been seen
abbrev pub Adds : Step Change → View Change ℕ → ℕ → View Change ℕ → Type 0
Adds s v found w = OnTrue (found == s.old) (w.0 ≡ v.0 ++ s.ask ∷ [])

-- the history ends in the change
abbrev pub Ends : List Change → Change → Type 0
Ends log change = drop (length log - 1) log ≡ change ∷ []

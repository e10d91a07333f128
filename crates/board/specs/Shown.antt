-- What clauses see of a board.
use Rattle.std.specs.Prelude.{fold, List, [], ◌∷◌, ◌++◌, Option, None, Some}
use Rattle.base.specs.Published.{Published}
use Rattle.board.specs.declared.change.Change.{Change}
use Rattle.board.specs.Changes.{changed}

-- what it has published, and what waits
pub record Shown : Type 0 where
  pub list : Published
  pub waits : List Change

-- the list once what waits is published
abbrev pub whole : Shown → Published
whole board = fold changed board.list board.waits

-- the board once what waits is published
abbrev pub shown : Shown → Shown
shown board = record { list = whole board; waits = [] }

-- the board with one more change that waits
abbrev pub waiting : Shown → Change → Shown
waiting board change = record board { waits = board.waits ++ change ∷ [] }

-- what an option has
abbrev pub one_or_none : {A : Type 0} → Option A → List A
one_or_none None = []
one_or_none (Some x) = x ∷ []

-- The drawn commits as contracts see them.
use Rattle.std.specs.Prelude.{ℕ, List}
use Rattle.txn.specs.declared.drawn.DrawnCommit.{DrawnCommit}

-- the commits that are drawn and not covered, in the order in which they were drawn, and for how many more there is room
pub record InFlight : Type 0 where
  pub commits : List DrawnCommit
  pub spare : ℕ

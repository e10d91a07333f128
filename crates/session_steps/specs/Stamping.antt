-- The write that a commit stamps next.
use Rattle.std.specs.Prelude.{◌≡◌, ◌+◌, Bool, false, nat_eq, nat_lt, length, slice_get, List, Option, Some, None}
use Rattle.txn.specs.DrawnCommits.{drawn_at}
use Rattle.txn.specs.declared.drawn.DrawnCommit.{DrawnCommit}
use Rattle.txn.specs.declared.transaction.Transaction.{Transaction}
use Rattle.txn.specs.declared.transaction.Transaction.TheVariants.{Active, Drawn, ReadOnly}
use Rattle.txn.specs.declared.write.Write.{Write}
use Rattle.session_steps.specs.declared.stamp.Unstamped.{Unstamped}

-- the write is the commit's next, and its last or not
pub record IsNextIn (d : DrawnCommit) (write : Write) (is_last : Bool) : Type 0 where
  pub write_is : slice_get d.writes d.stamped ≡ Some write
  pub last_is : is_last ≡ nat_eq (d.stamped + 1) (length d.writes)

-- so it is of the drawn commit of its timestamp
pub record IsNextOf (commits : List DrawnCommit) (next : Unstamped) : Type 0 where
  pub commit : DrawnCommit
  pub at : drawn_at next.timestamp commits ≡ Some commit
  pub is_next : IsNextIn commit next.write.now next.is_last

-- a write of the commit is left
abbrev pub has_left : Option DrawnCommit → Bool
has_left None = false
has_left (Some d) = nat_lt d.stamped (length d.writes)

-- it has drawn, and a write is left to be stamped
abbrev pub is_unstamped : List DrawnCommit → Transaction → Bool
is_unstamped commits (Active snapshot writes) = false
is_unstamped commits (Drawn t) = has_left (drawn_at t commits)
is_unstamped commits ReadOnly = false

-- The numbers of the sessions whose commits are drawn stay below 64.
use Rattle.std.proofs.Common.{◌≡◌, ℕ, ◌<◌, true, List, [], ◌∷◌, ◌++◌, map, refl, nat_lt, arith}
use Rattle.std.proofs.lemmas.Bool.{and_from, lt-ltb}
use Rattle.txn.specs.declared.drawn.DrawnCommit.{DrawnCommit}
use Rattle.txn.specs.DrawnCommits.{with_stamp, are_numbered}

-- a stamp changes no session
pub numbered-stamped : (t : ℕ) (ds : List DrawnCommit) → are_numbered ds ≡ true → are_numbered (map (with_stamp t) ds) ≡ true
numbered-stamped t [] all = refl
numbered-stamped t (d ∷ ds) all = grind (arith, numbered-stamped t ds)

-- nor does one more that has such a number
pub numbered-pushed : (new : DrawnCommit) (ds : List DrawnCommit) → are_numbered ds ≡ true → new.session < 64 → are_numbered (ds ++ new ∷ []) ≡ true
numbered-pushed new [] all lt = and_from (nat_lt new.session 64) true (lt-ltb new.session 64 lt) refl
numbered-pushed new (d ∷ ds) all lt = grind (arith, numbered-pushed new ds)

-- What the commits of a batch wrote.
use Rattle.std.proofs.Common.{◌≡◌, ℕ, ◌≤◌, not, List, [], ◌∷◌, length, take, map, find, Some, refl, arith}
use Rattle.std.specs.Prelude.{Option, IsTrue, nat_le}
use Rattle.std.specs.List.{list_any}
use Rattle.std.proofs.lemmas.Bool.{leb-true}
use Rattle.std.proofs.lemmas.List.{length-map, length-take-le}
use Rattle.std.proofs.lemmas.Simd.{map-map}
use Rattle.base.specs.declared.key.Key.{Key}
use Rattle.base.specs.Keys.{is_rising}
use Rattle.base.specs.Choosing.{is_chosen, chosen}
use Rattle.base.specs.Commits.{Writes}
use Rattle.base.specs.Lists.{is_nil}
use Rattle.txn.specs.declared.drawn.DrawnCommit.{DrawnCommit}
use Rattle.txn.specs.declared.write.Write.{Write}
use Rattle.txn.specs.DrawnCommits.{plain_drawn}
use Rattle.txn.specs.WriteSets.{IsRising, plain_writes}
use Rattle.txn.proofs.Passed.{few-filtered}

-- what writes leave is by rising key, as they are
pub rising-plain : (writes : List Write) (rows : Writes) → rows ≡ plain_writes writes → IsRising writes → IsTrue (is_rising (map (λ (w : Key × Option (List ℕ)). w.0) rows))
rising-plain writes rows is rising = grind (arith, map-map)

-- no commit is chosen exactly if none passes
pub none-chosen : (reach : ℕ) (ds : List DrawnCommit) → is_nil (chosen reach (map plain_drawn ds)) ≡ not (list_any (λ d. is_chosen reach (plain_drawn d)) ds)
none-chosen reach [] = refl
none-chosen reach (d ∷ ds) = grind (arith, none-chosen reach ds) steps 800000

-- of the first n at most n are chosen
pub few-chosen : (reach n : ℕ) (ds : List DrawnCommit) → n ≤ length ds → length (chosen reach (map plain_drawn (take n ds))) ≤ n
few-chosen reach n ds within = grind (arith, length-map, few-filtered, length-take-le) steps 800000

-- a line that is found isn't below
pub found-from : (from line : ℕ) (lines : List ℕ) → find (nat_le from) lines ≡ Some line → from ≤ line
found-from from line [] found = grind (arith) steps 800000
found-from from line (x ∷ xs) found = grind (arith, leb-true, found-from from line xs) steps 800000

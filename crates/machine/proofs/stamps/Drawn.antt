-- The commits that are drawn, after a stamp.
use Rattle.std.proofs.Common.{◌≡◌, ℕ, List, [], ◌∷◌, map, refl, arith}
use Rattle.machine.specs.Machine.{Drawn, counted}

pub counted-commit : (t : ℕ) (d : Drawn) → (counted t d).commit ≡ d.commit
counted-commit t d = grind arith

pub counted-commits : (t : ℕ) (ds : List Drawn) → map (λ (d : Drawn). d.commit) (map (counted t) ds) ≡ map (λ (d : Drawn). d.commit) ds
counted-commits t [] = refl
counted-commits t (d ∷ ds) = grind (arith, counted-commits t ds)

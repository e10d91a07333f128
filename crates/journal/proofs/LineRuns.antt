-- Lines, and one more.
use Rattle.std.proofs.Common.{◌≡◌, ◌⊎◌, inl, inr, ℕ, ◌/◌, ◌%◌, true, false, List, [], ◌∷◌, ◌++◌, get_or, ◌==◌, arith}
use Rattle.std.proofs.lemmas.Bool.{or_left, or_right, eq-eqb, false≢true}
use Rattle.journal.specs.declared.line.Line.{Line}
use Rattle.journal.specs.Kept.{IsPut, is_put_at}

pub put-parts : (lines : List Line) (line : Line) (word x : ℕ) → IsPut (lines ++ line ∷ []) word x → IsPut lines word x ⊎ ((line.number ≡ word / 8) × (x ≡ get_or line.words (word % 8) 0))
put-parts [] line word x (inl here) = inr here
put-parts [] line word x (inr none) = absurd none
put-parts (first ∷ lines) line word x (inl here) = inl (inl here)
put-parts (first ∷ lines) line word x (inr there) = grind (arith, put-parts lines line word x there)

pub at-more : (lines : List Line) (line : Line) (number : ℕ) → is_put_at lines number ≡ true → is_put_at (lines ++ line ∷ []) number ≡ true
at-more [] line number is = absurd (false≢true is)
at-more (first ∷ lines) line number is = grind (arith, at-more lines line number)

pub at-last : (lines : List Line) (line : Line) (number : ℕ) → line.number ≡ number → is_put_at (lines ++ line ∷ []) number ≡ true
at-last [] line number is = or_left (line.number == number) false (eq-eqb line.number number is)
at-last (first ∷ lines) line number is = or_right (first.number == number) _ (at-last lines line number is)

-- What a write takes of its bytes.
use Rattle.std.proofs.Common.{◌≡◌, ◌⊎◌, ℕ, suc, zero, ◌+◌, ◌<◌, ◌≤◌, get_or, Bool, true, false, List, [], ◌∷◌, ◌++◌, length, take, drop, refl, ap, arith}
use Rattle.std.specs.Prelude.{if◌then◌else◌}
use Rattle.std.proofs.lemmas.Bool.{false≢true}
use Rattle.std.proofs.lemmas.List.{take-append-drop}
use Rattle.standard_streams.specs.Lines.{IsFirstLine, IsOneLine, TakesLine, ends_work, is_ended, unfinished}

drop-all : (xs : List ℕ) → drop (length xs) xs ≡ []
drop-all [] = refl
drop-all (x ∷ xs) = drop-all xs

-- the front of some bytes is their first line, if it has a line feed at its end, or is all of them
pub first-of : (bytes line : List ℕ) → line ≡ take (length line) bytes → IsOneLine line → (is_ended line ≡ false → line ≡ bytes) → IsFirstLine bytes line
first-of bytes line front one ended = grind (arith, take-append-drop (length line) bytes, drop-all bytes)

pub unfinished-ended : (old : List ℕ) → is_ended old ≡ true → unfinished old ≡ []
unfinished-ended old ended = ap (λ (b : Bool). if b then [] else old) ended

pub unfinished-open : (old : List ℕ) → is_ended old ≡ false → unfinished old ≡ old
unfinished-open old ended = ap (λ (b : Bool). if b then [] else old) ended

-- the line is held, behind what was held of its beginning
pub takes-all : (old held line new bytes : List ℕ) (count : ℕ) → held ≡ unfinished old → IsFirstLine bytes line → count ≡ length line → new ≡ held ++ line
    → (unfinished old ≡ [] → is_ended line ≡ true → ends_work line ≡ false → ⊥) → TakesLine old new bytes count
takes-all old held line new bytes count same first all grown other = grind (arith)

-- the line is passed on
pub takes-some : (old line new bytes : List ℕ) (count : ℕ) → unfinished old ≡ [] → IsFirstLine bytes line → count ≤ length line → is_ended line ≡ true → ends_work line ≡ false → new ≡ []
    → TakesLine old new bytes count
takes-some old line new bytes count empty first few ended plain none = grind (arith, false≢true)

-- ---- one line

ended-at : (xs : List ℕ) (at : ℕ) → at + 1 ≡ length xs → get_or xs at 0 ≡ 10 → drop at xs ≡ 10 ∷ []
ended-at [] at e is = absurd (omega (arith, e))
ended-at (x ∷ []) zero e is = ap (λ (y : ℕ). y ∷ []) is
ended-at (x ∷ y ∷ ys) zero e is = absurd (omega (arith, e))
ended-at (x ∷ xs) (suc at) e is = ended-at xs at (omega (arith, e)) is

-- a line that isn't ended has no line feed
no-feed : (held : List ℕ) → IsOneLine held → is_ended held ≡ false → (at : ℕ) → at < length held → get_or held at 0 ≡ 10 → ⊥
no-feed held one unended at less is = grind (arith, ended-at, false≢true)

pub feeds-none : (held : List ℕ) → (held ≡ []) ⊎ (is_ended held ≡ false) → IsOneLine held → (at : ℕ) → at < length held → get_or held at 0 ≡ 10 → ⊥
feeds-none held a one at less is = grind (arith, no-feed)

one-line-behind : (x : ℕ) (xs : List ℕ) → (x ≡ 10 → ⊥) → IsOneLine xs → IsOneLine (x ∷ xs)
one-line-behind x xs other rest a less is = grind (arith)

one-line-more : (held line : List ℕ) → IsOneLine line → ((at : ℕ) → at < length held → get_or held at 0 ≡ 10 → ⊥) → IsOneLine (held ++ line)
one-line-more [] line one none = one
one-line-more (x ∷ xs) line one none =
    one-line-behind x (xs ++ line) (λ is. none 0 (omega arith) is) (one-line-more xs line one (λ at less is. none (suc at) (omega (arith, less)) is))

-- what is held is one line again, whether there was memory for more of it or not
pub one-line-grown : (held line new : List ℕ) (grows : Bool) → new ≡ (if grows then held ++ line else held) → IsOneLine held → IsOneLine line → (held ≡ []) ⊎ (is_ended held ≡ false) → IsOneLine new
one-line-grown held line new a is one more begun = grind (arith, one-line-more, feeds-none)

-- A list of which eight elements in a row are written.
use Rattle.std.proofs.Common.{◌≡◌, ℕ, ◌+◌, ◌*◌, ◌<◌, ◌≤◌, List, ◌++◌, length, get_or, take, drop, arith, length-append, length-drop}
use Rattle.std.proofs.lemmas.Bool.{cases_lt}
use Rattle.std.proofs.lemmas.List.{get_or-take, get_or_append_left, get_or-append_right, length-take-le}

module _ (xs ys : List ℕ) (k n : ℕ) (eight : n ≡ 8) (size : length ys ≡ 8) (fits : 8 * k + 8 ≤ length xs) where
  abbrev rest : List ℕ
  rest = drop n (drop (8 * k) xs)

  front : length (take (8 * k) xs) ≡ 8 * k
  front = length-take-le (8 * k) xs (omega (arith, fits))

  pub eight-length : length (take (8 * k) xs ++ (ys ++ rest)) ≡ length xs
  eight-length =
      omega (arith, front, eight, size, fits, length-append (take (8 * k) xs) (ys ++ rest), length-append ys rest, length-drop {A = ℕ} n (drop (8 * k) xs), length-drop {A = ℕ} (8 * k) xs)

  -- what holds of the elements before them holds of the eight too
  pub eight-more : (f : ℕ → ℕ) → ((j : ℕ) → j < 8 → get_or ys j 0 ≡ f (8 * k + j)) → ((i : ℕ) → i < 8 * k → get_or xs i 0 ≡ f i) → (i : ℕ) → i < 8 * (k + 1) → get_or (take (8 * k) xs ++ (ys ++ rest)) i 0 ≡ f i
  eight-more f new before i lt = grind (arith, cases_lt, get_or_append_left, front, get_or-take, get_or-append_right)

-- What an actor's list of lines has.
use Rattle.std.proofs.Common.{◌≡◌, ◌≢◌, ◌⊎◌, ℕ, zero, suc, ◌+◌, ◌*◌, ◌/◌, ◌<◌, Bool, true, cond, ◌&&◌, ◌||◌, List, [], ◌∷◌, length, set, get_or, ◌==◌, refl, ◌∙◌, ap, arith}
use Rattle.std.proofs.lemmas.Bool.{eqb-true, and_parts}
use Rattle.std.proofs.lemmas.List.{get_or-set_same, get_or-set_other}
use Rattle.pmem.specs.Device.{Entry, persisted}
use Rattle.pmem.proofs.Awaited.{persisted_twice}
use Rattle.pmem_model.specs.Listing.{line_at, is_listed, is_pending, IsListing}

-- it depends only on the first places
listed-same : (xs ys : List ℕ) (actor line n : ℕ) → ((k : ℕ) → k < n → line_at xs actor k ≡ line_at ys actor k) → is_listed xs actor line n ≡ is_listed ys actor line n
listed-same xs ys actor line zero same = refl
listed-same xs ys actor line (suc n) same = let rest = listed-same xs ys actor line n (λ k lt. same k (omega arith)) in (λ i. (line == same n (omega arith) i) || rest i)

-- one place more was visited
pub visited_more : (listed : List ℕ) (actor moment place : ℕ) (old mid new : ℕ → List Entry)
    → ((word : ℕ) → mid word ≡ cond (is_listed listed actor (word / 8) place) (persisted actor moment (old word)) (old word))
    → ((word : ℕ) → new word ≡ cond ((word / 8) == line_at listed actor place) (persisted actor moment (mid word)) (mid word))
    → (word : ℕ) → new word ≡ cond (is_listed listed actor (word / 8) (place + 1)) (persisted actor moment (old word)) (old word)
visited_more listed actor moment place old mid new so_far step word = grind (arith, persisted_twice)

-- ---- a line more

module _ (lines room : ℕ) (counts listed : List ℕ) (actor line : ℕ) (listing : IsListing lines room counts listed) (long : length listed ≡ 64 * room) (wide : length counts ≡ 64)
    (small : actor < 64) (unfull : get_or counts actor 0 < room) where
  there : (k : ℕ) → k ≡ get_or counts actor 0 → line_at (set listed (64 * get_or counts actor 0 + actor) line) actor k ≡ line
  there k is = ap (line_at (set listed (64 * get_or counts actor 0 + actor) line) actor) is ∙ get_or-set_same listed (64 * get_or counts actor 0 + actor) line 0 (omega (arith, long, unfull, small))

  elsewhere : (other k : ℕ) → other < 64 → (other ≢ actor) ⊎ (k ≢ get_or counts actor 0) → line_at (set listed (64 * get_or counts actor 0 + actor) line) other k ≡ line_at listed other k
  elsewhere other k lt a = grind (arith, get_or-set_other)

  own_count : get_or (set counts actor (get_or counts actor 0 + 1)) actor 0 ≡ get_or counts actor 0 + 1
  own_count = get_or-set_same counts actor (get_or counts actor 0 + 1) 0 (omega (arith, wide, small))

  other_count : (other : ℕ) → other ≢ actor → get_or (set counts actor (get_or counts actor 0 + 1)) other 0 ≡ get_or counts other 0
  other_count other apart = get_or-set_other counts actor other (get_or counts actor 0 + 1) 0 apart

  pub pending-added : is_pending room (set counts actor (get_or counts actor 0 + 1)) (set listed (64 * get_or counts actor 0 + actor) line) actor line ≡ true
  pending-added = grind (arith, own_count, there)

  pub pending-others : (other at : ℕ) → other < 64 → is_pending room counts listed other at ≡ true
      → is_pending room (set counts actor (get_or counts actor 0 + 1)) (set listed (64 * get_or counts actor 0 + actor) line) other at ≡ true
  pending-others other at lt is = grind (arith, listed-same, elsewhere, other_count, own_count)

-- in an empty list there is nothing
abbrev pub all_zero : List ℕ → Bool
all_zero [] = true
all_zero (x ∷ xs) = (x == 0) && all_zero xs

zero_at : (xs : List ℕ) (i : ℕ) → all_zero xs ≡ true → get_or xs i 0 ≡ 0
zero_at [] i all = refl
zero_at (x ∷ xs) zero all = eqb-true x 0 (and_parts (x == 0) (all_zero xs) all).0
zero_at (x ∷ xs) (suc i) all = zero_at xs i (and_parts (x == 0) (all_zero xs) all).1

pub listing_none : (lines room : ℕ) (counts listed : List ℕ) → all_zero counts ≡ true → IsListing lines room counts listed
listing_none lines room counts listed all = grind (arith, zero_at)

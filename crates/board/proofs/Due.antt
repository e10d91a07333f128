-- How far a list of commits covers what is due.
use Rattle.std.proofs.Common.{◌≡◌, ℕ, zero, suc, ◌+◌, ◌-◌, ◌<◌, ◌≤◌, Bool, false, not, cond, List, [], ◌∷◌, ◌++◌, map, filter, take, drop, length, slice_get, slice_index_or, Option, None, Some, refl, sym, ap, ◌∙◌, arith}
use Rattle.std.specs.List.{range_with_len}
use Rattle.std.proofs.lemmas.List.{length-map, length-take-le, append_assoc}
use Rattle.std.proofs.lemmas.List.Elements.{filter-append}
use Rattle.std.proofs.lemmas.Option.{slice_get-map, slice_get_within, get_or_from_slice_get}
use Rattle.std.specs.Option.{option_map}
use Rattle.base.specs.Commits.{Commit}
use Rattle.board.specs.Lists.{is_among}
use Rattle.board.specs.Due.{Meets, stay}

-- one number more
one_more : (a n j : ℕ) → a + n ≡ j → range_with_len a (suc n) ≡ range_with_len a n ++ j ∷ []
one_more a zero j is = let same : a ≡ j = omega (arith, is) in ap (λ (k : ℕ). k ∷ []) same
one_more a (suc n) j is = ap (λ (xs : List ℕ). a ∷ xs) (one_more (a + 1) n j (omega (arith, is)))

range_more : (a n j : ℕ) → a + n ≡ j → range_with_len a (n + 1) ≡ range_with_len a n ++ j ∷ []
range_more a n j is = let next : n + 1 ≡ suc n = omega arith in ap (range_with_len a) next ∙ one_more a n j is

at_end : (xs : List ℕ) (t : ℕ) (rest : List ℕ) → slice_get (xs ++ t ∷ rest) (length xs) ≡ Some t
at_end [] t rest = refl
at_end (x ∷ xs) t rest = at_end xs t rest

filter_stays : (longs rest : List ℕ) (t : ℕ) → is_among longs t ≡ false → filter (stay longs) (t ∷ rest) ≡ t ∷ filter (stay longs) rest
filter_stays longs rest t out = ap (λ (b : Bool). cond (not b) (t ∷ filter (stay longs) rest) (filter (stay longs) rest)) out

next_due : (commits : List Commit) (used : ℕ) (longs met rest : List ℕ) (t : ℕ) → used ≤ length commits → is_among longs t ≡ false → Meets commits used longs met
    → map (λ commit. commit.timestamp) commits ≡ filter (stay longs) (met ++ t ∷ rest) → option_map (λ commit. commit.timestamp) (slice_get commits used) ≡ Some t
next_due commits used longs met rest t le out meets all =
    let time : Commit → ℕ = λ commit. commit.timestamp in
    let count : length (map time (take used commits)) ≡ used = length-map (take used commits) time ∙ length-take-le used commits le in
    let split : map time commits ≡ map time (take used commits) ++ t ∷ filter (stay longs) rest =
    all ∙ (filter-append (stay longs) met (t ∷ rest) ∙ (ap (λ (xs : List ℕ). xs ++ filter (stay longs) (t ∷ rest)) (sym meets) ∙ ap (λ (xs : List ℕ). map time (take used commits) ++ xs) (filter_stays longs rest t out))) in
    sym (slice_get-map time commits used)
    ∙ (ap (λ (xs : List ℕ). slice_get xs used) split
    ∙ (ap (slice_get (map time (take used commits) ++ t ∷ filter (stay longs) rest)) (sym count) ∙ at_end (map time (take used commits)) t (filter (stay longs) rest)))

has_it : (commits : List Commit) (used : ℕ) (t : ℕ) (found : Option Commit) → slice_get commits used ≡ found → option_map (λ (commit : Commit). commit.timestamp) found ≡ Some t
    → (used < length commits) × ((d : Commit) → (slice_index_or commits used d).timestamp ≡ t)
has_it commits used t None at is = absurd (cc is)
has_it commits used t (Some c) at is =
    (slice_get_within commits used c at, λ d. ap (λ (commit : Commit). commit.timestamp) (get_or_from_slice_get commits used c d at) ∙ cc is)

-- if a timestamp that isn't long comes next, the next commit has it
pub next_has : (commits : List Commit) (used : ℕ) (longs met rest : List ℕ) (t : ℕ) → used ≤ length commits → is_among longs t ≡ false → Meets commits used longs met
    → map (λ commit. commit.timestamp) commits ≡ filter (stay longs) (met ++ t ∷ rest) → (used < length commits) × ((d : Commit) → (slice_index_or commits used d).timestamp ≡ t)
next_has commits used longs met rest t le out meets all = has_it commits used t (slice_get commits used) refl (next_due commits used longs met rest t le out meets all)

-- a list is what was met so far, the next of it, and the rest
pub rest_of : (xs rest : List ℕ) (i d : ℕ) → i < length xs → xs ++ rest ≡ take i xs ++ slice_index_or xs i d ∷ (drop (suc i) xs ++ rest)
rest_of [] rest i d less = absurd (omega arith)
rest_of (x ∷ xs) rest zero d less = refl
rest_of (x ∷ xs) rest (suc i) d less = ap (λ (ys : List ℕ). x ∷ ys) (rest_of xs rest i d (omega (arith, less)))

-- and so are rising numbers
range_split : (a k j m n : ℕ) → a + k ≡ j → n ≡ k + 1 + m → range_with_len a n ≡ range_with_len a k ++ j ∷ range_with_len (j + 1) m
range_split a k j m zero at is = absurd (omega (arith, is))
range_split a zero j m (suc n) at is = grind (arith)
range_split a (suc k) j m (suc n) at is = ap (λ (xs : List ℕ). a ∷ xs) (range_split (a + 1) k j m n (omega (arith, at)) (omega (arith, is)))

pub range_rest : (met : List ℕ) (a k j n : ℕ) → a + k ≡ j → k < n → met ++ range_with_len a n ≡ (met ++ range_with_len a k) ++ j ∷ range_with_len (j + 1) (n - k - 1)
range_rest met a k j n at less =
    ap (λ (xs : List ℕ). met ++ xs) (range_split a k j (n - k - 1) n at (omega (arith, less))) ∙ sym (append_assoc met (range_with_len a k) (j ∷ range_with_len (j + 1) (n - k - 1)))

pub range_one : (met : List ℕ) (a k j n : ℕ) → a + k ≡ j → n ≡ k + 1 → (met ++ range_with_len a k) ++ j ∷ [] ≡ met ++ range_with_len a n
range_one met a k j n at is = append_assoc met (range_with_len a k) (j ∷ []) ∙ (ap (λ (xs : List ℕ). met ++ xs) (sym (range_more a k j at)) ∙ ap (λ (m : ℕ). met ++ range_with_len a m) (sym is))

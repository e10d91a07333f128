-- The rows of the live slots.
use Rattle.std.proofs.Common.{◌≡◌, ℕ, ◌+◌, ◌<◌, Bool, true, false, not, List, [], ◌∷◌, ◌++◌, get_or, length, refl, sym, ◌∙◌, ap, arith}
use mathlib.Core.List.{map-id}
use Rattle.std.specs.Prelude.{None, flat_map, if◌then◌else◌}
use Rattle.std.specs.List.{range_with_len}
use Rattle.std.proofs.lemmas.Grind.{flat_map-append}
use Rattle.std.proofs.lemmas.List.FromFn.{map-range_with_len_more, get_or-map-range_with_len, length-map-range_with_len}
use Rattle.base.specs.Images.{Image, ruling, key_of, row_of, is_shown, is_bad_slot}
use Rattle.base.proofs.Search.{first_below-none}
use Rattle.recovery.specs.Slots.{is_free, is_bad, free_below, bad_below}
use Rattle.recovery.specs.Read.{row_at, rows_below}
use Rattle.recovery.specs.Live.{live_at, live_below}

range-more : (n : ℕ) → range_with_len 0 (n + 1) ≡ range_with_len 0 n ++ n ∷ []
range-more n =
    sym (map-id (range_with_len 0 (n + 1)))
    ∙ map-range_with_len_more (λ (k : ℕ). k) 0 n n (omega arith)
    ∙ ap (λ (xs : List ℕ). xs ++ n ∷ []) (map-id (range_with_len 0 n))

pub rows-none : (image : Image) → rows_below image 0 ≡ []
unfolding rows_below
rows-none image = refl

rows-more : (image : Image) (n : ℕ) → rows_below image (n + 1) ≡ rows_below image n ++ (row_at image n ++ [])
unfolding rows_below
rows-more image n = ap (flat_map (row_at image)) (range-more n) ∙ flat_map-append (row_at image) (range_with_len 0 n) (n ∷ [])

pub rows-live : (image : Image) (n : ℕ) → is_free image n ≡ false → rows_below image (n + 1) ≡ rows_below image n ++ (key_of image n, row_of image n) ∷ []
unfolding is_free
rows-live image n live = grind (arith, rows-more) steps 800000

pub rows-free : (image : Image) (n : ℕ) → is_free image n ≡ true → rows_below image (n + 1) ≡ rows_below image n
unfolding is_free
rows-free image n free = rows-more image n ∙ by (is_shown (ruling image) image n) refl free
  where
    by : (b : Bool) → is_shown (ruling image) image n ≡ b → not b ≡ true → rows_below image n ++ (row_at image n ++ []) ≡ rows_below image n
    by true is e = absurd (cc e)
    by false is e = rw is (append-nil (rows_below image n))
      where
        append-nil : {X : Type 0} → (xs : List X) → xs ++ [] ≡ xs
        append-nil [] = refl
        append-nil (x ∷ xs) = ap (λ ys. x ∷ ys) (append-nil xs)

-- ---- the live slots

pub live-none : (image : Image) → live_below image 0 ≡ []
unfolding live_below
live-none image = refl

live-more : (image : Image) (n : ℕ) → live_below image (n + 1) ≡ live_below image n ++ ((if is_shown (ruling image) image n then live_at image n ∷ [] else []) ++ [])
unfolding live_below
live-more image n =
    ap (flat_map (λ slot. if is_shown (ruling image) image slot then live_at image slot ∷ [] else [])) (range-more n)
    ∙ flat_map-append (λ slot. if is_shown (ruling image) image slot then live_at image slot ∷ [] else []) (range_with_len 0 n) (n ∷ [])

pub live-live : (image : Image) (n : ℕ) → is_free image n ≡ false → live_below image (n + 1) ≡ live_below image n ++ live_at image n ∷ []
unfolding is_free
live-live image n live = grind (arith, live-more) steps 800000

pub live-free : (image : Image) (n : ℕ) → is_free image n ≡ true → live_below image (n + 1) ≡ live_below image n
unfolding is_free
live-free image n free = live-more image n ∙ by (is_shown (ruling image) image n) free
  where
    by : (b : Bool) → not b ≡ true → live_below image n ++ ((if b then live_at image n ∷ [] else []) ++ []) ≡ live_below image n
    by true e = absurd (cc e)
    by false e = append-nil (live_below image n)
      where
        append-nil : {X : Type 0} → (xs : List X) → xs ++ [] ≡ xs
        append-nil [] = refl
        append-nil (x ∷ xs) = ap (λ ys. x ∷ ys) (append-nil xs)

-- ---- one slot

-- what the list of free slots says of one slot
pub free-is : (image : Image) (n slot : ℕ) (d : Bool) (free : List Bool) → free ≡ free_below image n → slot < n → get_or free slot d ≡ is_free image slot
unfolding free_below is_free
free-is image n slot d free is h = ap (λ (xs : List Bool). get_or xs slot d) is ∙ get_or-map-range_with_len (λ lower. not (is_shown (ruling image) image lower)) 0 n slot slot d h (omega arith)

pub good-at : (image : Image) (n slot : ℕ) → bad_below image n ≡ None → slot < n → is_bad image slot ≡ false
unfolding bad_below is_bad
good-at image n slot none h = first_below-none n (is_bad_slot (ruling image) image) none slot h

pub free-size : (image : Image) (n : ℕ) → length (free_below image n) ≡ n
unfolding free_below
free-size image n = length-map-range_with_len (λ lower. not (is_shown (ruling image) image lower)) 0 n

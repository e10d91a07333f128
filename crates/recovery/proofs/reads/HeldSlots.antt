-- Live slots, their keys and their places.
use Rattle.std.proofs.Common.{Vec, Global, ◌≡◌, ◌≢◌, ◌⊎◌, inl, inr, ℕ, zero, suc, ◌+◌, ◌<◌, ◌≤◌, Bool, true, false, cond, not, ◌&&◌, ◌||◌, List, [], ◌∷◌, ◌++◌, map, get_or, take, length, refl, sym, ◌∙◌, ap, subst, arith, add-one, true≢false}
use Rattle.std.specs.Prelude.{Option, Some, None, is_some, slice_get, All}
use Rattle.std.specs.Bool.{Decides}
use Rattle.std.specs.Cmp.{IsTotalOrder}
use Rattle.std.specs.List.{IsDistinct, AllByRecursion, AllPairs, cons_option, range_with_len, zip}
use Rattle.std.specs.Ordering.{eq_by_cmp}
use Rattle.std.specs.Map.{keys_of}
use Rattle.std.specs.BTreeMap.{BTreeMap, IsFromIterResult}
use Rattle.std.proofs.lemmas.Bool.{or_parts}
use Rattle.std.proofs.lemmas.Cmp.{nat_cmp_total, on_total, then_total, eq_by_cmp_equiv}
use Rattle.std.proofs.lemmas.List.{take_more, append-nil}
use Rattle.std.proofs.lemmas.List.Elements.{filter_map-append}
use Rattle.std.proofs.lemmas.List.Quantifiers.{all_pairs_push}
use Rattle.std.proofs.lemmas.Option.{same_Some, slice_get-get_or, get_or_from_slice_get}
use Rattle.std.proofs.lemmas.Map.Keys.{IsDistinct-head, IsDistinct-tail}
use Rattle.std.proofs.lemmas.Map.Made.{IsDistinct-from_count, IsDistinct-from_AllPairs, update_all_none}
use Rattle.std.proofs.lemmas.Map.Views.{btree_map_len-from_list}
use Rattle.base.specs.declared.key.Key.{Key}
use Rattle.base.specs.Keys.{key_eq, lookup_key}
use Rattle.base.specs.Search.{first_below}
use Rattle.base.specs.Layout.{Layout, total_words}
use Rattle.base.specs.Images.{Image, layout_of, ruling, key_of, row_of, is_ahead, is_shown, is_misfit, is_bad_slot, is_second}
use Rattle.base.proofs.Keys.{key_eq-true, key_eq-same}
use Rattle.base.proofs.Options.{is_some-none}
use Rattle.base.proofs.KeyOrder.{is_at-key, looked-up}
use Rattle.base.proofs.Search.{first_below-none, first_below-nowhere, cases_below}
use Rattle.pmem.specs.Device.{Device, IsOrderly}
use Rattle.pmem.specs.Words.{value_of, image_of}
use Rattle.version_slot.specs.declared.words.Slot.{Slot}
use Rattle.version_slot.specs.Words.{IsSlot, slot_at}
use Rattle.recovery.specs.declared.slots.SlotContent.{SlotContent}
use Rattle.recovery.specs.declared.slots.SlotContent.TheVariants.{Bad, Live, Free}
use Rattle.recovery.specs.declared.rows.LiveSlot.{LiveSlot}
use Rattle.recovery.specs.Live.{live_at, live_below}
use Rattle.recovery.specs.Read.{rows_below}
use Rattle.recovery.specs.Held.{placed, numbered, held_keys, HavePlaces, HasEach, AreHeld}
use Rattle.recovery.specs.Slots.{IsUnder, AreReadings, found_in, readings_below, free_below, bad_below, is_bad, is_free, is_unfit, is_held, held_key, key_cmp}
use Rattle.recovery.proofs.reads.Visits.{found-free, found-live, found-bad, none-read, row-held}
use Rattle.recovery.proofs.reads.Slots.{found-at, readings-size, are-readings}
use Rattle.recovery.proofs.reads.LiveRows.{rows-none, rows-live, rows-free, live-none, live-live, live-free, good-at}

-- ---- the order of keys

key-total : IsTotalOrder key_cmp
key-total = then_total (on_total (λ (key : Key). key.table) nat_cmp_total) (on_total (λ (key : Key). key.key) nat_cmp_total)

same-key : (a b : Key) → Decides (eq_by_cmp key_cmp a b) (a ≡ b)
same-key a b = ((λ is. key_eq-true a b (sym (is_at-key a b) ∙ is)), (λ is. is_at-key a b ∙ ap (key_eq a) (sym is) ∙ key_eq-same a))

-- ---- lists

get-last : (live : List LiveSlot) (s : LiveSlot) → slice_get (live ++ s ∷ []) (length live) ≡ Some s
get-last [] s = refl
get-last (t ∷ live) s = get-last live s

get-before : (live : List LiveSlot) (s t : LiveSlot) (place : ℕ) → slice_get live place ≡ Some t → slice_get (live ++ s ∷ []) place ≡ Some t
get-before [] s t place at = absurd (cc at)
get-before (x ∷ live) s t zero at = at
get-before (x ∷ live) s t (suc place) at = get-before live s t place at

get-either : (live : List LiveSlot) (s t : LiveSlot) (place : ℕ) → slice_get (live ++ s ∷ []) place ≡ Some t → (slice_get live place ≡ Some t) ⊎ (s ≡ t)
get-either [] s t zero at = let same : s ≡ t = cc at in inr same
get-either [] s t (suc place) at = absurd (cc at)
get-either (x ∷ live) s t zero at = inl at
get-either (x ∷ live) s t (suc place) at = get-either live s t place at

key-at : (live : List LiveSlot) (k : ℕ) (d : Key) → k < length live → (s : LiveSlot) × (slice_get live k ≡ Some s) × (get_or (map (λ (x : LiveSlot). x.key) live) k d ≡ s.key)
key-at [] k d lt = absurd (omega (arith, lt))
key-at (x ∷ live) zero d lt = (x, refl, refl)
key-at (x ∷ live) (suc k) d lt = key-at live k d (omega (arith, lt))

keys-size : (live : List LiveSlot) → length (map (λ (x : LiveSlot). x.key) live) ≡ length live
keys-size [] = refl
keys-size (x ∷ live) = ap suc (keys-size live)

-- ---- pairs of keys and places

pub numbered-of : (n : ℕ) (keys : List Key) (m : ℕ) → length keys ≤ m → zip keys (range_with_len n m) ≡ numbered n keys
numbered-of n [] m le = refl
numbered-of n (key ∷ keys) zero le = absurd (omega (arith, le))
numbered-of n (key ∷ keys) (suc m) le = ap (λ (pairs : List (Key × ℕ)). (key, n) ∷ pairs) (ap (λ (k : ℕ). zip keys (range_with_len k m)) (add-one n) ∙ numbered-of (suc n) keys m (omega (arith, le)))

-- no more keys than slots
one-held : (o : Option Key) (keys : List Key) (n : ℕ) → length keys ≤ n → length (cons_option o keys) ≤ suc n
one-held (Some key) keys n le = omega (arith, le)
one-held None keys n le = omega (arith, le)

pub held-few : (readings : List SlotContent) → length (held_keys readings) ≤ length readings
held-few [] = omega arith
held-few (reading ∷ readings) = one-held (held_key reading) (held_keys readings) (length readings) (held-few readings)

pub placed-numbered : (n : ℕ) (live : List LiveSlot) → numbered n (map (λ (s : LiveSlot). s.key) live) ≡ placed n live
placed-numbered n [] = refl
placed-numbered n (s ∷ live) = ap (λ (pairs : List (Key × ℕ)). (s.key, n) ∷ pairs) (placed-numbered (suc n) live)

placed-keys : (n : ℕ) (live : List LiveSlot) → keys_of (placed n live) ≡ map (λ (s : LiveSlot). s.key) live
placed-keys n [] = refl
placed-keys n (s ∷ live) = ap (λ (keys : List Key). s.key ∷ keys) (placed-keys (suc n) live)

placed-there : (n : ℕ) (live : List LiveSlot) (key : Key) (place : ℕ) → lookup_key (placed n live) key ≡ Some place → (k : ℕ) × (n + k ≡ place) × ((s : LiveSlot) × (slice_get live k ≡ Some s) × (s.key ≡ key))
placed-there n [] key place found = absurd (cc found)
placed-there n (t ∷ live) key place found = by (key_eq t.key key) refl (placed-there (suc n) live key place) found
  where
    by : (b : Bool) → key_eq t.key key ≡ b → (lookup_key (placed (suc n) live) key ≡ Some place → (k : ℕ) × (suc n + k ≡ place) × ((s : LiveSlot) × (slice_get live k ≡ Some s) × (s.key ≡ key))) → cond b (Some n) (lookup_key (placed (suc n) live) key) ≡ Some place → (k : ℕ) × (n + k ≡ place) × ((s : LiveSlot) × (slice_get (t ∷ live) k ≡ Some s) × (s.key ≡ key))
    by true is rest found = let here : n ≡ place = cc found in (0, omega (arith, here), (t, refl, key_eq-true t.key key is))
    by false is rest found = let later = rest found in (suc later.0, omega (arith, later.1), later.2)

all-at : (P : Key → Type 0) (live : List LiveSlot) → AllByRecursion P (map (λ (s : LiveSlot). s.key) live) → (k : ℕ) (s : LiveSlot) → slice_get live k ≡ Some s → P s.key
all-at P [] all k s at = absurd (cc at)
all-at P (t ∷ live) all zero s at = let same : t ≡ s = cc at in subst (λ (x : LiveSlot). P x.key) same all.0
all-at P (t ∷ live) all (suc k) s at = all-at P live all.1 k s at

placed-once : (n : ℕ) (live : List LiveSlot) → IsDistinct (eq_by_cmp key_cmp) (map (λ (s : LiveSlot). s.key) live) → (s : LiveSlot) (k : ℕ) → slice_get live k ≡ Some s → lookup_key (placed n live) s.key ≡ Some (n + k)
placed-once n [] distinct s k at = absurd (cc at)
placed-once n (t ∷ live) distinct s zero at = grind (arith, key_eq-same)
placed-once n (t ∷ live) distinct s (suc k) at =
    let apart : key_eq t.key s.key ≡ false = sym (is_at-key t.key s.key) ∙ all-at (λ (key : Key). eq_by_cmp key_cmp t.key key ≡ false) live (IsDistinct-head (eq_by_cmp key_cmp) t.key (map (λ (x : LiveSlot). x.key) live) distinct) k s at in
    let more : suc n + k ≡ n + suc k = omega arith in
    ap (λ (b : Bool). cond b (Some n) (lookup_key (placed (suc n) live) s.key)) apart ∙ placed-once (suc n) live (IsDistinct-tail (eq_by_cmp key_cmp) t.key (map (λ (x : LiveSlot). x.key) live) distinct) s k at ∙ (λ i. Some (more i))

-- ---- a map of them

module _ (live : List LiveSlot) (places : BTreeMap Key ℕ) (made : IsFromIterResult key_cmp (placed 0 live) places) where
  -- as many keys as live slots differ
  pub counted : length places.entries ≡ length live → IsDistinct (eq_by_cmp key_cmp) (map (λ (s : LiveSlot). s.key) live)
  counted size =
      subst (IsDistinct (eq_by_cmp key_cmp)) (placed-keys 0 live)
      (IsDistinct-from_count (eq_by_cmp_equiv key-total) (keys_of (placed 0 live))
      (sym (btree_map_len-from_list key-total (placed 0 live) places made) ∙ size ∙ sym (keys-size live) ∙ ap (λ (keys : List Key). length keys) (sym (placed-keys 0 live))))

  pub have-places : IsDistinct (eq_by_cmp key_cmp) (map (λ (s : LiveSlot). s.key) live) → HavePlaces live places.entries
  have-places distinct = record { there = there; once = once }
    where
      looks : (key : Key) → lookup_key places.entries key ≡ lookup_key (placed 0 live) key
      looks key =
          looked-up places.entries key ∙ made.0 key
          ∙ update_all_none (eq_by_cmp_equiv key-total) (eq_by_cmp key_cmp) (λ x y. refl) (placed 0 live) key (subst (IsDistinct (eq_by_cmp key_cmp)) (sym (placed-keys 0 live)) distinct)
          ∙ sym (looked-up (placed 0 live) key)

      there : (key : Key) (place : ℕ) → lookup_key places.entries key ≡ Some place → (s : LiveSlot) × (slice_get live place ≡ Some s) × (s.key ≡ key)
      there key place found = grind (arith, placed-there, looks)

      once : (s : LiveSlot) (place : ℕ) → slice_get live place ≡ Some s → lookup_key places.entries s.key ≡ Some place
      once s place at = looks s.key ∙ placed-once 0 live distinct s place at ∙ (let same : 0 + place ≡ place = omega arith in λ i. Some (same i))

-- ---- the live slots of an image

-- what is in the list
pub live-in : (image : Image) (n place : ℕ) (s : LiveSlot) → slice_get (live_below image n) place ≡ Some s → (s.slot < n) × (is_free image s.slot ≡ false) × (key_of image s.slot ≡ s.key)
live-in image zero place s at = absurd (cc (sym (ap (λ (live : List LiveSlot). slice_get live place) (live-none image)) ∙ at))
live-in image (suc n) place s at = by (is_free image n) refl (λ was. let told = live-in image n place s was in (omega (arith, told.0), told.1, told.2)) (subst (λ (k : ℕ). slice_get (live_below image k) place ≡ Some s) (sym (add-one n)) at)
  where
    by : (b : Bool) → is_free image n ≡ b → (slice_get (live_below image n) place ≡ Some s → (s.slot < suc n) × (is_free image s.slot ≡ false) × (key_of image s.slot ≡ s.key)) → slice_get (live_below image (n + 1)) place ≡ Some s
        → (s.slot < suc n) × (is_free image s.slot ≡ false) × (key_of image s.slot ≡ s.key)
    by true free earlier here = earlier (subst (λ (live : List LiveSlot). slice_get live place ≡ Some s) (live-free image n free) here)
    by false free earlier here = grind (arith, get-either (live_below image n) (live_at image n) s place, live-live image n free)

pub shown-here : (image : Image) (slot : ℕ) → is_free image slot ≡ false → is_shown (ruling image) image slot ≡ true
unfolding is_free
shown-here image slot live = grind (arith) steps 800000

fewer-good : (image : Image) (n : ℕ) → bad_below image (suc n) ≡ None → bad_below image n ≡ None
unfolding bad_below
fewer-good image n none = first_below-nowhere n (is_bad_slot (ruling image) image) (λ k lt. first_below-none (suc n) (is_bad_slot (ruling image) image) none k (omega (arith, lt)))

pub hidden-here : (image : Image) (slot : ℕ) → is_free image slot ≡ true → is_shown (ruling image) image slot ≡ false
unfolding is_free
hidden-here image slot free = grind (arith) steps 800000

-- a live slot that isn't bad is the first with its key
not-second : (image : Image) (slot : ℕ) → is_bad image slot ≡ false → is_shown (ruling image) image slot ≡ true → (lower : ℕ) → lower < slot → is_shown (ruling image) image lower ≡ true → key_eq (key_of image lower) (key_of image slot) ≡ false
unfolding is_bad
not-second image slot good shown lower lt below =
    rest (is_shown (ruling image) image lower) (key_eq (key_of image lower) (key_of image slot)) below
    (first_below-none slot (λ k. is_shown (ruling image) image k && key_eq (key_of image k) (key_of image slot)) (is_some-none (first_below slot (λ k. is_shown (ruling image) image k && key_eq (key_of image k) (key_of image slot))) second) lower lt)
  where
    rest : (a b : Bool) → a ≡ true → (a && b) ≡ false → b ≡ false
    rest true b is none = none
    rest false b is none = absurd (cc is)

    second : is_second (ruling image) image slot ≡ false
    second = (or_parts (is_misfit image slot) (is_second (ruling image) image slot) (rest (is_shown (ruling image) image slot) (is_misfit image slot || is_second (ruling image) image slot) shown (or_parts (is_ahead (ruling image) image slot) (is_shown (ruling image) image slot && (is_misfit image slot || is_second (ruling image) image slot)) good).1)).1

pub keys-more : (live : List LiveSlot) (s : LiveSlot) → map (λ (x : LiveSlot). x.key) (live ++ s ∷ []) ≡ map (λ (x : LiveSlot). x.key) live ++ s.key ∷ []
keys-more [] s = refl
keys-more (t ∷ live) s = ap (λ (keys : List Key). t.key ∷ keys) (keys-more live s)

abbrev AreApart : List LiveSlot → Type 0
AreApart live = AllPairs (λ (x y : Key). x ≢ y) (map (λ (s : LiveSlot). s.key) live)

apart-more : (image : Image) (n : ℕ) → bad_below image (suc n) ≡ None → AreApart (live_below image n) → AreApart (live_below image (n + 1))
apart-more image n good rest = by (is_free image n) refl
  where
    by : (b : Bool) → is_free image n ≡ b → AreApart (live_below image (n + 1))
    by true free = subst AreApart (sym (live-free image n free)) rest
    by false free =
        subst AreApart (sym (live-live image n free))
        (subst (AllPairs (λ (x y : Key). x ≢ y)) (sym (keys-more (live_below image n) (live_at image n)))
        (all_pairs_push (λ (x y : Key). x ≢ y) (map (λ (s : LiveSlot). s.key) (live_below image n)) (key_of image n) rest (λ k d lt same.
        let at = key-at (live_below image n) k d (omega (arith, lt, keys-size (live_below image n))) in
        let told = live-in image n k at.0 at.1 in
        let apart = not-second image n (good-at image (suc n) n good (omega arith)) (shown-here image n free) at.0.slot told.0 (shown-here image at.0.slot told.1) in
        let equal : key_of image at.0.slot ≡ key_of image n = told.2 ∙ sym at.2 ∙ same in
        true≢false (sym (ap (key_eq (key_of image at.0.slot)) (sym equal) ∙ key_eq-same (key_of image at.0.slot)) ∙ apart))))

are-apart : (image : Image) (n : ℕ) → bad_below image n ≡ None → AreApart (live_below image n)
are-apart image zero good = subst AreApart (sym (live-none image)) (λ i j d lt within. absurd (omega (arith, within)))
are-apart image (suc n) good = subst (λ (k : ℕ). AreApart (live_below image k)) (add-one n) (apart-more image n good (are-apart image n (fewer-good image n good)))

-- the keys of live slots differ if no slot is bad
pub distinct-good : (image : Image) (n : ℕ) → bad_below image n ≡ None → IsDistinct (eq_by_cmp key_cmp) (map (λ (s : LiveSlot). s.key) (live_below image n))
distinct-good image n good = IsDistinct-from_AllPairs same-key (map (λ (s : LiveSlot). s.key) (live_below image n)) (are-apart image n good)

-- ---- what was found of all slots

module _ (image : Image) (n : ℕ) (readings : List SlotContent) (are : readings ≡ readings_below image n) (fit : All (λ reading. is_unfit reading ≡ false) readings) where
  size : length readings ≡ n
  size = ap (λ (xs : List SlotContent). length xs) are ∙ readings-size image n

  found-so : (slot : ℕ) (d : SlotContent) → slot < n → (P : SlotContent → Type 0) → ((get_or readings slot d) ≡ Free → P Free) → ((key : Key) → (get_or readings slot d) ≡ Live key → P (Live key)) → P (get_or readings slot d)
  found-so slot d lt P free live = grind (arith, size) steps 800000

  -- a live version was found in each slot that is shown
  held-at : (slot : ℕ) (d : SlotContent) → slot < n → is_shown (ruling image) image slot ≡ true → (get_or readings slot d) ≡ Live (key_of image slot)
  held-at slot d lt shown =
      found-so slot d lt (λ f. f ≡ Live (key_of image slot))
      (λ is. absurd (true≢false (sym shown ∙ hidden-here image slot (found-free image slot (sym is ∙ found-at image n slot d readings are lt)).0)))
      (λ key is. ap (λ (k : Key). Live k) (found-live image slot key (sym is ∙ found-at image n slot d readings are lt)).2)

  module _ (live : List LiveSlot) (places : List (Key × ℕ)) (each : HasEach readings n live) (placed-so : HavePlaces live places) where
    none : SlotContent
    none = Free

    read : (slot : ℕ) → slot < n → slice_get readings slot ≡ Some (get_or readings slot none)
    read slot lt = slice_get-get_or readings slot none (omega (arith, lt, size))

    apart : (lower slot : ℕ) → lower < slot → slot < n → is_shown (ruling image) image lower ≡ true → is_shown (ruling image) image slot ≡ true → key_eq (key_of image lower) (key_of image slot) ≡ true → ⊥
    apart lower slot lt within below shown same =
        let a = each lower (get_or readings lower none) (key_of image lower) (omega (arith, lt, within)) (read lower (omega (arith, lt, within))) (held-at lower none (omega (arith, lt, within)) below) in
        let b = each slot (get_or readings slot none) (key_of image slot) within (read slot within) (held-at slot none within shown) in
        let keys : a.1.0.key ≡ b.1.0.key = a.1.3 ∙ key_eq-true (key_of image lower) (key_of image slot) same ∙ sym b.1.3 in
        let place : a.0 ≡ b.0 = same_Some a.0 b.0 (sym (placed-so.once a.1.0 a.0 a.1.1) ∙ ap (lookup_key places) keys ∙ placed-so.once b.1.0 b.0 b.1.1) in
        let one : a.1.0 ≡ b.1.0 = same_Some a.1.0 b.1.0 (sym a.1.1 ∙ ap (slice_get live) place ∙ b.1.1) in
        omega (arith, lt, sym a.1.2 ∙ ap (λ (s : LiveSlot). s.slot) one ∙ b.1.2)

    good-slot : (slot : ℕ) → slot < n → is_bad image slot ≡ false
    good-slot slot lt =
        found-so slot none lt (λ f. is_bad image slot ≡ false)
        (λ is. (found-free image slot (sym is ∙ found-at image n slot none readings are lt)).1)
        (λ key is.
        let found = found-live image slot key (sym is ∙ found-at image n slot none readings are lt) in
        found.3 ∙ ap is_some (first_below-nowhere slot (λ lower. is_shown (ruling image) image lower && key_eq (key_of image lower) (key_of image slot)) (λ lower below.
        both (is_shown (ruling image) image lower) (key_eq (key_of image lower) (key_of image slot)) (λ shown same. apart lower slot below lt shown found.1 same))))
      where
        both : (a b : Bool) → (a ≡ true → b ≡ true → ⊥) → (a && b) ≡ false
        both true true never = absurd (never refl refl)
        both true false never = refl
        both false b never = refl

    -- so each has a key of its own
    pub all-good : bad_below image n ≡ None
    unfolding bad_below is_bad
    all-good = first_below-nowhere n (is_bad_slot (ruling image) image) good-slot

-- ---- one slot after the other

pub keys-none : (readings : List SlotContent) → held_keys (take 0 readings) ≡ []
keys-none [] = refl
keys-none (r ∷ readings) = refl

held-keys-more : (readings : List SlotContent) (n : ℕ) (d : SlotContent) → n < length readings → held_keys (take (n + 1) readings) ≡ held_keys (take n readings) ++ held_keys (get_or readings n d ∷ [])
held-keys-more readings n d lt = ap held_keys (take_more readings n d lt) ∙ filter_map-append (λ (reading : SlotContent). held_key reading) (take n readings) (get_or readings n d ∷ [])

module _ (readings : List SlotContent) (n : ℕ) (d : SlotContent) (lt : n < length readings) (live : List LiveSlot) (keys : map (λ (s : LiveSlot). s.key) live ≡ held_keys (take n readings)) where
  pub keys-live : (s : LiveSlot) (key : Key) → s.key ≡ key → (get_or readings n d) ≡ Live key → map (λ (s : LiveSlot). s.key) (live ++ s ∷ []) ≡ held_keys (take (n + 1) readings)
  keys-live s key is found =
      keys-more live s
      ∙ (λ i. keys i ++ is i ∷ [])
      ∙ ap (λ (f : SlotContent). held_keys (take n readings) ++ cons_option (held_key f) []) (sym found)
      ∙ sym (held-keys-more readings n d lt)

  pub keys-dead : ((key : Key) → (get_or readings n d) ≡ Live key → ⊥) → map (λ (s : LiveSlot). s.key) live ≡ held_keys (take (n + 1) readings)
  keys-dead dead = keys ∙ sym (held-keys-more readings n d lt ∙ by (get_or readings n d) refl)
    where
      by : (f : SlotContent) → (get_or readings n d) ≡ f → held_keys (take n readings) ++ cons_option (held_key (get_or readings n d)) [] ≡ held_keys (take n readings)
      by (Live key) is = absurd (dead key is)
      by Free is = ap (λ (f : SlotContent). held_keys (take n readings) ++ cons_option (held_key f) []) is ∙ append-nil (held_keys (take n readings))
      by Bad is = ap (λ (f : SlotContent). held_keys (take n readings) ++ cons_option (held_key f) []) is ∙ append-nil (held_keys (take n readings))

pub each-none : (readings : List SlotContent) (live : List LiveSlot) → HasEach readings 0 live
each-none readings live slot reading key lt at found = absurd (omega (arith, lt))

module _ (readings : List SlotContent) (n : ℕ) (d reading : SlotContent) (is : reading ≡ get_or readings n d) (live : List LiveSlot) (each : HasEach readings n live) where
  this-found : (slot : ℕ) (r : SlotContent) (key : Key) → slot ≡ n → slice_get readings slot ≡ Some r → r ≡ Live key → reading ≡ Live key
  this-found slot r key this at found =
      (is ∙ get_or_from_slice_get readings n r d (subst (λ (k : ℕ). slice_get readings k ≡ Some r) this at)) ∙ found

  pub each-more : (s : LiveSlot) (key : Key) → s.slot ≡ n → s.key ≡ key → reading ≡ Live key → HasEach readings (n + 1) (live ++ s ∷ [])
  each-more s key here key-is held slot r k lt at found = elim (cases_below slot n (omega (arith, lt))) [
    | inl before ↦ let was = each slot r k before at found in (was.0, (was.1.0, get-before live s was.1.0 was.0 was.1.1, was.1.2, was.1.3))
    | inr this ↦ grind (arith, this-found slot r k this at found, get-last live s)
  ]

  pub each-skip : ((key : Key) → reading ≡ Live key → ⊥) → HasEach readings (n + 1) live
  each-skip dead slot r k lt at found = elim (cases_below slot n (omega (arith, lt))) [
    | inl before ↦ each slot r k before at found
    | inr this ↦ absurd (dead k (this-found slot r k this at found))
  ]

-- ---- rows

abbrev pub row-in : Image → LiveSlot → Key × List ℕ
row-in image s = (s.key, row_of image s.slot)

-- the rows are those of the live slots
pub rows-of : (image : Image) (n : ℕ) → rows_below image n ≡ map (row-in image) (live_below image n)
rows-of image zero = rows-none image ∙ ap (map (row-in image)) (sym (live-none image))
rows-of image (suc n) = subst (λ (k : ℕ). rows_below image k ≡ map (row-in image) (live_below image k)) (add-one n) (by (is_free image n) refl (rows-of image n))
  where
    map-more : (live : List LiveSlot) (s : LiveSlot) → map (row-in image) (live ++ s ∷ []) ≡ map (row-in image) live ++ (s.key, row_of image s.slot) ∷ []
    map-more [] s = refl
    map-more (t ∷ live) s = ap (λ (rows : List (Key × List ℕ)). (t.key, row_of image t.slot) ∷ rows) (map-more live s)

    by : (b : Bool) → is_free image n ≡ b → rows_below image n ≡ map (row-in image) (live_below image n) → rows_below image (n + 1) ≡ map (row-in image) (live_below image (n + 1))
    by true free before = rows-free image n free ∙ before ∙ ap (map (row-in image)) (sym (live-free image n free))
    by false live before = grind (arith, rows-live, map-more, live-live)

pub well-held : (image : Image) (slot : ℕ) → is_bad image slot ≡ false → is_shown (ruling image) image slot ≡ true → is_misfit image slot ≡ false
unfolding is_bad
well-held image slot good shown = grind (arith, or_parts, none) steps 800000

-- what was found of a slot that isn't bad says whether it is free
pub free-found : (image : Image) (slot : ℕ) (found : SlotContent) → found ≡ found_in image slot → is_bad image slot ≡ false → not (is_held found) ≡ is_free image slot
free-found image slot a is good = grind (arith, found-free, found-live, found-bad)

-- ---- all that is held

module _ (image : Image) (n : ℕ) (readings : List SlotContent) (are : readings ≡ readings_below image n) (live : Vec LiveSlot Global) (places : BTreeMap Key ℕ)
    (listed : (i : Image) → AreReadings i readings → live.items ≡ live_below i (length readings)) (made : IsFromIterResult key_cmp (placed 0 live.items) places) where
  count : length readings ≡ n
  count = ap (λ (xs : List SlotContent). length xs) are ∙ readings-size image n

  -- if there are as many keys as live slots, and no slot is bad by itself, no slot is bad
  pub none-bad : length places.entries ≡ length live.items → All (λ reading. is_unfit reading ≡ false) readings → HasEach readings (length readings) live.items → bad_below image n ≡ None
  none-bad size fit each =
      all-good image n readings are fit live.items places.entries (subst (λ (k : ℕ). HasEach readings k live.items) count each) (have-places live.items places made (counted live.items places made size))

  pub are-held : bad_below image n ≡ None → (free : Vec Bool Global) → ((i : Image) → AreReadings i readings → free.items ≡ free_below i (length readings)) → AreHeld image n (record { free = free; live = live; places = places })
  are-held good free freed = grind (arith, count, have-places, distinct-good, are-readings) steps 800000

-- the number of a live slot is below that of the slots
pub live-within : (image : Image) (n i : ℕ) (d : LiveSlot) (live : List LiveSlot) → live ≡ live_below image n → i < length live → (get_or live i d).slot < n
live-within image n i d live are lt = (live-in image n i (get_or live i d) (ap (λ (xs : List LiveSlot). slice_get xs i) (sym are) ∙ slice_get-get_or live i d lt)).0

-- ---- the rows of live slots, read one after the other

module _ (device : Device) (layout : Layout) (size : device.words ≡ total_words layout) (live : List LiveSlot) (live-is : live ≡ live_below (image_of device) layout.slots)
    (laid-out : layout_of (image_of device) ≡ layout) (good : bad_below (image_of device) layout.slots ≡ None) (i : ℕ) (d : LiveSlot) (lt : i < length live) where
  abbrev image : Image
  image = image_of device

  abbrev s : LiveSlot
  s = get_or live i d

  under : IsUnder layout (ruling (image_of device)) (image_of device)
  unfolding IsUnder
  under = (laid-out, refl)

  told : ((get_or live i d).slot < layout.slots) × (is_free (image_of device) (get_or live i d).slot ≡ false) × (key_of (image_of device) (get_or live i d).slot ≡ (get_or live i d).key)
  told = live-in image layout.slots i s (ap (λ (xs : List LiveSlot). slice_get xs i) (sym live-is) ∙ slice_get-get_or live i d lt)

  pub slot-within : (get_or live i d).slot < layout.slots
  slot-within = told.0

  -- a live slot's words hold a version
  pub is-read : IsOrderly device → ((found : Slot) → ¬ IsSlot layout (slot_at layout (get_or live i d).slot (value_of device)) found) → ⊥
  is-read orderly none =
      true≢false (sym (none-read device layout (ruling image) s.slot size under told.0 orderly none) ∙ well-held image s.slot (good-at image layout.slots s.slot good told.0) (shown-here image s.slot told.1))

  pub row-read : (rows : List (Key × List ℕ)) (found : Slot) → IsSlot layout (slot_at layout (get_or live i d).slot (value_of device)) found → rows ≡ map (row-in (image_of device)) (take i live)
      → rows ++ ((get_or live i d).key, found.version.row) ∷ [] ≡ map (row-in (image_of device)) (take (i + 1) live)
  row-read rows found is before =
      (λ j. before j ++ (s.key, sym (row-held device layout (ruling image) s.slot size under told.0 found is) j) ∷ [])
      ∙ sym (map-more (take i live)) ∙ ap (map (row-in (image_of device))) (sym (take_more live i d lt))
    where
      map-more : (xs : List LiveSlot) → map (row-in (image_of device)) (xs ++ (get_or live i d) ∷ []) ≡ map (row-in (image_of device)) xs ++ ((get_or live i d).key, row_of (image_of device) (get_or live i d).slot) ∷ []
      map-more [] = refl
      map-more (x ∷ xs) = ap (λ (rows : List (Key × List ℕ)). (x.key, row_of (image_of device) x.slot) ∷ rows) (map-more xs)

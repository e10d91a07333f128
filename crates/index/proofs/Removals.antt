-- An entry is taken out, and the last one moves to its place.
use Rattle.std.proofs.Common.{◌≡◌, ◌⊎◌, inl, inr, ℕ, zero, suc, ◌-◌, ◌<◌, Bool, true, false, not, ◌&&◌, cond, List, [], ◌∷◌, length, take, refl, sym, ◌∙◌, ap, arith, is_some, set}
use Rattle.std.specs.Prelude.{Option, Some, None, unwrap_or, slice_get}
use Rattle.std.specs.BTreeMap.{is_at}
use Rattle.std.specs.Map.{lookup}
use Rattle.std.proofs.lemmas.Bool.{true≢false}
use Rattle.std.proofs.lemmas.Option.{slice_get_within}
use Rattle.base.specs.declared.key.Key.{Key}
use Rattle.base.specs.Keys.{key_eq, lookup_key}
use Rattle.base.proofs.Keys.{key_eq-true, key_eq-same}
use Rattle.base.proofs.KeyOrder.{is_at-key, looked-up}
use Rattle.index.specs.declared.entry.Entry.{Entry}
use Rattle.index.specs.Entries.{key_cmp, blank, entry_at, IsAt, ArePlaced, Sets, LosesRoom}
use Rattle.index.proofs.Changes.{stands, there-some, get-set_same, get-set_other, same_or_not, is-at, none-at}

abbrev Entries : Type 0
Entries = List (Key × Entry)

abbrev Places : Type 0
Places = List (Key × ℕ)

-- ---- the first entries of a list

get-taken : (entries : Entries) (m p : ℕ) → p < m → slice_get (take m entries) p ≡ slice_get entries p
get-taken entries zero p lt = absurd (omega (arith, lt))
get-taken [] (suc m) p lt = refl
get-taken (x ∷ entries) (suc m) zero lt = refl
get-taken (x ∷ entries) (suc m) (suc p) lt = get-taken entries m p (omega (arith, lt))

within-taken : (entries : Entries) (m p : ℕ) (x : Key × Entry) → slice_get (take m entries) p ≡ Some x → p < m
within-taken entries zero p x at = absurd (cc at)
within-taken [] (suc m) p x at = absurd (cc at)
within-taken (y ∷ entries) (suc m) zero x at = omega arith
within-taken (y ∷ entries) (suc m) (suc p) x at = let less = within-taken entries m p x at in omega (arith, less)

same-key : (k j : Key) (x y : Entry) → ◌≡◌ {A = Option (Key × Entry)} (Some (k, x)) (Some (j, y)) → k ≡ j
same-key k j x y same = ap (λ (o : Option (Key × Entry)). (unwrap_or o (k, x)).0) same

-- what a map of places has once the key isn't one of its own
pub updated-out : (old new : Places) (key : Key) → ((k : Key) → lookup (is_at (key_cmp k)) new ≡ cond (is_at (key_cmp key) k) None (lookup (is_at (key_cmp k)) old)) → (k : Key) → lookup_key new k ≡ cond (key_eq key k) None (lookup_key old k)
updated-out old new key updates k = looked-up new k ∙ updates k ∙ (λ i. cond (is_at-key key k i) None (sym (looked-up old k) i))

-- the place of the key goes to another one
pub given : (old left new : Places) (key moved : Key) (place : ℕ) → lookup_key old key ≡ Some place → key_eq moved key ≡ false
    → ((k : Key) → lookup_key left k ≡ cond (key_eq key k) None (lookup_key old k)) → ((k : Key) → lookup_key new k ≡ cond (key_eq moved k) (Some place) (lookup_key left k))
    → (k : Key) → lookup_key new k ≡ cond (key_eq key k) None (cond (key_eq moved k) (lookup_key old key) (lookup_key old k))
given old left new key moved place found apart out more k = by (key_eq key k) refl (key_eq moved k) refl
  where
    by : (b : Bool) → key_eq key k ≡ b → (c : Bool) → key_eq moved k ≡ c → lookup_key new k ≡ cond b None (cond c (lookup_key old key) (lookup_key old k))
    by true is true same = absurd (true≢false (sym (ap (key_eq moved) (key_eq-true key k is) ∙ same) ∙ apart))
    by true is false other = more k ∙ ap (λ (c : Bool). cond c (Some place) (lookup_key left k)) other ∙ out k ∙ ap (λ (b : Bool). cond b None (lookup_key old k)) is
    by false off true same = more k ∙ ap (λ (c : Bool). cond c (Some place) (lookup_key left k)) same ∙ sym found
    by false off false other = more k ∙ ap (λ (c : Bool). cond c (Some place) (lookup_key left k)) other ∙ out k ∙ ap (λ (b : Bool). cond b None (lookup_key old k)) off

-- to none, if it is the key itself that would move there
pub given-none : (old left : Places) (key moved : Key) → key_eq moved key ≡ true → ((k : Key) → lookup_key left k ≡ cond (key_eq key k) None (lookup_key old k))
    → (k : Key) → lookup_key left k ≡ cond (key_eq key k) None (cond (key_eq moved k) (lookup_key old key) (lookup_key old k))
given-none old left key moved one out k = by (key_eq key k) refl
  where
    by : (b : Bool) → key_eq key k ≡ b → lookup_key left k ≡ cond b None (cond (key_eq moved k) (lookup_key old key) (lookup_key old k))
    by true is = out k ∙ ap (λ (b : Bool). cond b None (lookup_key old k)) is
    by false off =
        let other : key_eq moved k ≡ false = ap (λ (j : Key). key_eq j k) (key_eq-true moved key one) ∙ off in
        out k ∙ ap (λ (b : Bool). cond b None (lookup_key old k)) off ∙ sym (ap (λ (c : Bool). cond c (lookup_key old key) (lookup_key old k)) other)

module _ (places : Places) (entries : Entries) (placed : ArePlaced places entries) where
  pub unique : (k : Key) (p r : ℕ) (x y : Entry) → slice_get entries p ≡ Some (k, x) → slice_get entries r ≡ Some (k, y) → p ≡ r
  unique k p r x y a b = let one : Some p ≡ Some r = sym (placed.once k p x a) ∙ placed.once k r y b in cc one

  -- the entry of the key at this place is taken out; the last one, of the key that is moved, comes there
  module _ (key : Key) (place : ℕ) (at : IsAt entries place key) (moved : Key) (e : Entry) (at_last : slice_get entries (length entries - 1) ≡ Some (moved, e)) (left : Entries) (left_is : left ≡ take (length entries - 1) (set entries place (moved, e)))
      (rest : Places) (updates : (k : Key) → lookup_key rest k ≡ cond (key_eq key k) None (cond (key_eq moved k) (Some place) (lookup_key places k))) where
    abbrev last : ℕ
    last = length entries - 1

    within : place < length entries
    within = slice_get_within entries place (key, entry_at entries key) at

    left-at : (p : ℕ) → p < last → slice_get left p ≡ slice_get (set entries place (moved, e)) p
    left-at p lt = ap (λ (es : Entries). slice_get es p) left_is ∙ get-taken (set entries place (moved, e)) last p lt

    left-below : (p : ℕ) (x : Key × Entry) → slice_get left p ≡ Some x → p < last
    left-below p x is = within-taken (set entries place (moved, e)) last p x (sym (ap (λ (es : Entries). slice_get es p) left_is) ∙ is)

    -- if the last one isn't the one that is taken out, that one comes before it
    before-last : (key ≡ moved → ⊥) → place < last
    before-last apart = by (same_or_not place last)
      where
        by : (place ≡ last) ⊎ (place ≡ last → ⊥) → place < last
        by (inl same) = absurd (apart (same-key key moved (entry_at entries key) e (sym at ∙ ap (slice_get entries) same ∙ at_last)))
        by (inr other) = omega (arith, within, other)

    left-there : place < last → slice_get left place ≡ Some (moved, e)
    left-there lt = left-at place lt ∙ get-set_same entries place (moved, e) within

    -- an entry of another key stays, or is the last
    left-other : (k : Key) (p : ℕ) (x : Entry) → (key ≡ k → ⊥) → slice_get entries p ≡ Some (k, x) → (p ≡ last) ⊎ (slice_get left p ≡ Some (k, x))
    left-other k p x apart is = by (same_or_not p last)
      where
        off : p ≡ place → ⊥
        off same = apart (same-key key k (entry_at entries key) x (sym at ∙ ap (slice_get entries) (sym same) ∙ is))

        by : (p ≡ last) ⊎ (p ≡ last → ⊥) → (p ≡ last) ⊎ (slice_get left p ≡ Some (k, x))
        by (inl same) = inl same
        by (inr other) =
            let below : p < length entries = slice_get_within entries p (k, x) is in
            inr (left-at p (omega (arith, below, other)) ∙ get-set_other entries place p (moved, e) off ∙ is)

    other-key : (k : Key) → key_eq key k ≡ false → key ≡ k → ⊥
    other-key k out same = let is : key_eq key k ≡ true = ap (key_eq key) (sym same) ∙ key_eq-same key in absurd (cc (sym is ∙ out))

    out-of : (k : Key) → key_eq key k ≡ true → lookup_key rest k ≡ None
    out-of k is = updates k ∙ ap (λ (b : Bool). cond b None (cond (key_eq moved k) (Some place) (lookup_key places k))) is

    as-moved : (k : Key) → key_eq key k ≡ false → key_eq moved k ≡ true → lookup_key rest k ≡ Some place
    as-moved k out is = updates k ∙ (λ i. cond (out i) None (cond (is i) (Some place) (lookup_key places k)))

    as-before : (k : Key) → key_eq key k ≡ false → key_eq moved k ≡ false → lookup_key rest k ≡ lookup_key places k
    as-before k out other = updates k ∙ (λ i. cond (out i) None (cond (other i) (Some place) (lookup_key places k)))

    there : (k : Key) (p : ℕ) → lookup_key rest k ≡ Some p → (x : Entry) × (slice_get left p ≡ Some (k, x))
    there k p found = by (key_eq key k) refl (key_eq moved k) refl
      where
        stays : key_eq key k ≡ false → key_eq moved k ≡ false → (was : (x : Entry) × (slice_get entries p ≡ Some (k, x))) → (p ≡ last) ⊎ (slice_get left p ≡ Some (k, was.0)) → (x : Entry) × (slice_get left p ≡ Some (k, x))
        stays out other was (inl same) =
            let one : moved ≡ k = same-key moved k e was.0 (sym at_last ∙ ap (slice_get entries) (sym same) ∙ was.1) in
            let is : key_eq moved k ≡ true = ap (key_eq moved) (sym one) ∙ key_eq-same moved in
            absurd (cc (sym is ∙ other))
        stays out other was (inr is) = (was.0, is)

        by : (b : Bool) → key_eq key k ≡ b → (c : Bool) → key_eq moved k ≡ c → (x : Entry) × (slice_get left p ≡ Some (k, x))
        by true is c c_is = let none : None ≡ Some p = sym (out-of k is) ∙ found in absurd (cc none)
        by false out true is =
            let one : moved ≡ k = key_eq-true moved k is in
            let spot : Some place ≡ Some p = sym (as-moved k out is) ∙ found in
            let same : place ≡ p = cc spot in
            (e, ap (slice_get left) (sym same) ∙ left-there (before-last (λ eq. other-key k out (eq ∙ one))) ∙ (λ i. Some (one i, e)))
        by false out false other =
            let was = placed.there k p (sym (as-before k out other) ∙ found) in
            stays out other was (left-other k p was.0 (other-key k out) was.1)

    once : (k : Key) (p : ℕ) (x : Entry) → slice_get left p ≡ Some (k, x) → lookup_key rest k ≡ Some p
    once k p x is = by (same_or_not p place)
      where
        lt : p < last
        lt = left-below p (k, x) is

        apart-last : p ≡ last → ⊥
        apart-last same = omega (arith, lt, same)

        -- the one that was moved
        here : p ≡ place → moved ≡ k → (b : Bool) → key_eq key k ≡ b → lookup_key rest k ≡ Some p
        here same one true eq =
            let it : key ≡ moved = key_eq-true key k eq ∙ sym one in
            absurd (apart-last (same ∙ unique moved place last (entry_at entries key) e (at ∙ (λ i. Some (it i, entry_at entries key))) at_last))
        here same one false out = as-moved k out (ap (key_eq moved) (sym one) ∙ key_eq-same moved) ∙ (λ i. Some (sym same i))

        -- another
        there-before : (p ≡ place → ⊥) → slice_get entries p ≡ Some (k, x) → (b : Bool) → key_eq key k ≡ b → (c : Bool) → key_eq moved k ≡ c → lookup_key rest k ≡ Some p
        there-before off was true eq c c_is = let it = key_eq-true key k eq in absurd (off (unique k p place x (entry_at entries key) was (at ∙ (λ i. Some (it i, entry_at entries key)))))
        there-before off was false out true eq = let it = key_eq-true moved k eq in absurd (apart-last (unique k p last x e was (at_last ∙ (λ i. Some (it i, e)))))
        there-before off was false out false other = as-before k out other ∙ placed.once k p x was

        by : (p ≡ place) ⊎ (p ≡ place → ⊥) → lookup_key rest k ≡ Some p
        by (inl same) =
            here same (same-key moved k e x (sym (get-set_same entries place (moved, e) within) ∙ ap (slice_get (set entries place (moved, e))) (sym same) ∙ sym (left-at p lt) ∙ is)) (key_eq key k) refl
        by (inr off) = there-before off (sym (get-set_other entries place p (moved, e) off) ∙ sym (left-at p lt) ∙ is) (key_eq key k) refl (key_eq moved k) refl

    pub removed-placed : ArePlaced rest left
    removed-placed = record { there = there; once = once }

    -- ---- what is looked up then

    still : (k : Key) (x : Entry) → key_eq key k ≡ false → (found : (p : ℕ) × (slice_get entries p ≡ Some (k, x))) → (found.0 ≡ last) ⊎ (slice_get left found.0 ≡ Some (k, x)) → lookup_key left k ≡ Some x
    still k x out found (inl same) =
        let pair : Some (moved, e) ≡ Some (k, x) = sym at_last ∙ ap (slice_get entries) (sym same) ∙ found.1 in
        let one : moved ≡ k = same-key moved k e x pair in
        is-at rest left removed-placed k place x (left-there (before-last (λ eq. other-key k out (eq ∙ one))) ∙ pair)
    still k x out found (inr is) = is-at rest left removed-placed k found.0 x is

    -- the place before of what is left at a place
    moved-from : (k : Key) (p : ℕ) (x : Entry) → p < last → p ≡ place → slice_get left p ≡ Some (k, x) → slice_get entries last ≡ Some (k, x)
    moved-from k p x lt same is = at_last ∙ sym (get-set_same entries place (moved, e) within) ∙ ap (slice_get (set entries place (moved, e))) (sym same) ∙ sym (left-at p lt) ∙ is

    kept-from : (k : Key) (p : ℕ) (x : Entry) → p < last → (p ≡ place → ⊥) → slice_get left p ≡ Some (k, x) → slice_get entries p ≡ Some (k, x)
    kept-from k p x lt off is = sym (get-set_other entries place p (moved, e) off) ∙ sym (left-at p lt) ∙ is

    gone : (k : Key) → key_eq key k ≡ false → lookup_key entries k ≡ None → (o : Option ℕ) → lookup_key rest k ≡ o → lookup_key left k ≡ None
    gone k out none None is = none-at rest left removed-placed k is
    gone k out none (Some p) is = from (there k p is)
      where
        absent : is_some (lookup_key entries k) ≡ false
        absent = ap (λ (o : Option Entry). is_some o) none

        from : (x : Entry) × (slice_get left p ≡ Some (k, x)) → lookup_key left k ≡ None
        from found = by (same_or_not p place)
          where
            lt : p < last
            lt = left-below p (k, found.0) found.1

            by : (p ≡ place) ⊎ (p ≡ place → ⊥) → lookup_key left k ≡ None
            by (inl same) = absurd (true≢false (sym (there-some entries k found.0 last (moved-from k p found.0 lt same found.1)) ∙ absent))
            by (inr off) = absurd (true≢false (sym (there-some entries k found.0 p (kept-from k p found.0 lt off found.1)) ∙ absent))

    looked-left : (k : Key) → lookup_key left k ≡ cond (key_eq key k) None (lookup_key entries k)
    looked-left k = by (key_eq key k) refl (lookup_key entries k) refl
      where
        by : (b : Bool) → key_eq key k ≡ b → (o : Option Entry) → lookup_key entries k ≡ o → lookup_key left k ≡ cond b None (lookup_key entries k)
        by true is o o_is = none-at rest left removed-placed k (out-of k is)
        by false out None none = gone k out none (lookup_key rest k) refl ∙ sym none
        by false out (Some x) some = let found = stands entries k x some in still k x out found (left-other k found.0 x (other-key k out) found.1) ∙ sym some

    pub removed-sets : Sets entries left key blank
    removed-sets k = ap (λ (o : Option Entry). unwrap_or o blank) (looked-left k) ∙ by (key_eq key k)
      where
        by : (b : Bool) → unwrap_or (cond b None (lookup_key entries k)) blank ≡ cond b blank (entry_at entries k)
        by true = refl
        by false = refl

    pub removed-loses : LosesRoom entries left key
    removed-loses k = ap (λ (o : Option Entry). is_some o) (looked-left k) ∙ by (key_eq key k)
      where
        by : (b : Bool) → is_some (cond b None (lookup_key entries k)) ≡ (not b && is_some (lookup_key entries k))
        by true = refl
        by false = refl

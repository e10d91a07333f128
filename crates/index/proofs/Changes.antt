-- Changes of one entry, and places of entries.
use Rattle.std.proofs.Common.{◌≡◌, ◌⊎◌, inl, inr, ℕ, zero, suc, ◌<◌, Bool, true, false, cond, List, [], ◌∷◌, ◌++◌, length, refl, sym, ◌∙◌, ap, arith, is_some, set}
use Rattle.std.specs.Prelude.{Option, Some, None, unwrap_or, slice_get}
use Rattle.std.specs.BTreeMap.{is_at}
use Rattle.std.specs.Map.{lookup}
use Rattle.std.proofs.lemmas.Bool.{cases_lt}
use Rattle.std.proofs.lemmas.Option.{slice_get_within}
use Rattle.base.specs.declared.key.Key.{Key}
use Rattle.base.specs.Keys.{key_eq, lookup_key}
use Rattle.base.proofs.Keys.{key_eq-true, key_eq-same}
use Rattle.base.proofs.Options.{is_some-none}
use Rattle.base.proofs.KeyOrder.{is_at-key, looked-up}
use Rattle.index.specs.declared.entry.Entry.{Entry}
use Rattle.index.specs.Entries.{key_cmp, blank, entry_at, has_room, IsAt, ArePlaced, Sets, KeepsRoom, GainsRoom}

abbrev Entries : Type 0
Entries = List (Key × Entry)

abbrev Places : Type 0
Places = List (Key × ℕ)

pub same_or_not : (p q : ℕ) → (p ≡ q) ⊎ (p ≡ q → ⊥)
same_or_not p q = grind (arith, cases_lt) steps 800000

-- ---- lists of pairs

-- what is found by a look-up is at some place
pub stands : (entries : Entries) (key : Key) (entry : Entry) → lookup_key entries key ≡ Some entry → (place : ℕ) × (slice_get entries place ≡ Some (key, entry))
stands [] key entry found = absurd (cc found)
stands (e ∷ entries) key entry found = by (key_eq e.0 key) refl (stands entries key entry) found
  where
    by : (b : Bool) → key_eq e.0 key ≡ b → (lookup_key entries key ≡ Some entry → (place : ℕ) × (slice_get entries place ≡ Some (key, entry))) → cond b (Some e.1) (lookup_key entries key) ≡ Some entry
        → (place : ℕ) × (slice_get (e ∷ entries) place ≡ Some (key, entry))
    by true is rest found =
        let same : e.1 ≡ entry = cc found in
        (0, λ i. Some (key_eq-true e.0 key is i, same i))
    by false is rest found = let at = rest found in (suc at.0, at.1)

-- and what is at some place is found
pub there-some : (entries : Entries) (key : Key) (entry : Entry) (place : ℕ) → slice_get entries place ≡ Some (key, entry) → is_some (lookup_key entries key) ≡ true
there-some [] key entry place at = grind (arith) steps 800000
there-some (e ∷ entries) key entry zero at = grind (arith, key_eq-same) steps 800000
there-some (e ∷ entries) key entry (suc place) at = grind (arith, there-some entries key entry place at) steps 800000

-- a pair of a further key comes last
looked-last : (entries : Entries) (key : Key) (entry : Entry) → lookup_key entries key ≡ None → (k : Key) → lookup_key (entries ++ (key, entry) ∷ []) k ≡ cond (key_eq key k) (Some entry) (lookup_key entries k)
looked-last [] key entry none k = refl
looked-last (e ∷ entries) key entry none k = grind (arith, key_eq-true, key_eq-same, looked-last entries key entry) steps 800000

-- if no other pair is of its key, the pair at a place may be changed
looked-set : (entries : Entries) (key : Key) (old entry : Entry) (place : ℕ) → slice_get entries place ≡ Some (key, old) → ((p : ℕ) (e : Entry) → slice_get entries p ≡ Some (key, e) → p ≡ place)
    → (k : Key) → lookup_key (set entries place (key, entry)) k ≡ cond (key_eq key k) (Some entry) (lookup_key entries k)
looked-set [] key old entry place at once k = absurd (cc at)
looked-set (e ∷ entries) key old entry zero at once k =
    let same : e ≡ (key, old) = cc at in
    by (key_eq key k) refl (ap (λ (x : Key × Entry). key_eq x.0 k) same)
  where
    by : (b : Bool) → key_eq key k ≡ b → key_eq e.0 k ≡ key_eq key k → cond b (Some entry) (lookup_key entries k) ≡ cond b (Some entry) (cond (key_eq e.0 k) (Some e.1) (lookup_key entries k))
    by true is same = refl
    by false is same = sym (ap (λ (b : Bool). cond b (Some e.1) (lookup_key entries k)) (same ∙ is))
looked-set (e ∷ entries) key old entry (suc place) at once k =
    by (key_eq e.0 k) refl (key_eq key k) refl (looked-set entries key old entry place at (λ p x is. let later : suc p ≡ suc place = once (suc p) x is in omega (arith, later)) k)
  where
    by : (b : Bool) → key_eq e.0 k ≡ b → (c : Bool) → key_eq key k ≡ c → lookup_key (set entries place (key, entry)) k ≡ cond (key_eq key k) (Some entry) (lookup_key entries k)
        → cond b (Some e.1) (lookup_key (set entries place (key, entry)) k) ≡ cond c (Some entry) (cond b (Some e.1) (lookup_key entries k))
    by true is true is' rest =
        let same : e.0 ≡ key = key_eq-true e.0 k is ∙ sym (key_eq-true key k is') in
        let first : 0 ≡ suc place = once 0 e.1 (λ i. Some (same i, e.1)) in
        absurd (omega (arith, first))
    by true is false is' rest = refl
    by false is c is' rest = rest ∙ ap (λ (b : Bool). cond b (Some entry) (lookup_key entries k)) is'

pub get-set_same : (entries : Entries) (place : ℕ) (e : Key × Entry) → place < length entries → slice_get (set entries place e) place ≡ Some e
get-set_same [] place e lt = absurd (omega (arith, lt))
get-set_same (x ∷ entries) zero e lt = refl
get-set_same (x ∷ entries) (suc place) e lt = get-set_same entries place e (omega (arith, lt))

pub get-set_other : (entries : Entries) (place p : ℕ) (e : Key × Entry) → (p ≡ place → ⊥) → slice_get (set entries place e) p ≡ slice_get entries p
get-set_other [] place p e apart = refl
get-set_other (x ∷ entries) zero zero e apart = absurd (apart refl)
get-set_other (x ∷ entries) zero (suc p) e apart = refl
get-set_other (x ∷ entries) (suc place) zero e apart = refl
get-set_other (x ∷ entries) (suc place) (suc p) e apart = get-set_other entries place p e (λ same. apart (ap suc same))

get-last : (entries : Entries) (e : Key × Entry) → slice_get (entries ++ e ∷ []) (length entries) ≡ Some e
get-last [] e = refl
get-last (x ∷ entries) e = get-last entries e

get-before : (entries : Entries) (e x : Key × Entry) (p : ℕ) → slice_get entries p ≡ Some x → slice_get (entries ++ e ∷ []) p ≡ Some x
get-before [] e x p at = absurd (cc at)
get-before (y ∷ entries) e x zero at = at
get-before (y ∷ entries) e x (suc p) at = get-before entries e x p at

get-either : (entries : Entries) (e x : Key × Entry) (p : ℕ) → slice_get (entries ++ e ∷ []) p ≡ Some x → (slice_get entries p ≡ Some x) ⊎ ((p ≡ length entries) × (e ≡ x))
get-either [] e x zero at = let same : e ≡ x = cc at in inr (refl, same)
get-either [] e x (suc p) at = absurd (cc at)
get-either (y ∷ entries) e x zero at = inl at
get-either (y ∷ entries) e x (suc p) at = grind (arith, get-either entries e x p at)

-- ---- places

module _ (places : Places) (entries : Entries) (placed : ArePlaced places entries) where
  -- the entry at a place is that of its key
  pub is-at : (key : Key) (place : ℕ) (entry : Entry) → slice_get entries place ≡ Some (key, entry) → lookup_key entries key ≡ Some entry
  is-at key place entry at = grind (arith, there-some, stands) steps 800000

  pub at-place : (key : Key) (place : ℕ) (entry : Entry) → slice_get entries place ≡ Some (key, entry) → IsAt entries place key
  at-place key place entry at = at ∙ (λ i. Some (key, unwrap_or (sym (is-at key place entry at) i) blank))

  -- so is what is found
  pub found-at : (key : Key) (place : ℕ) → lookup_key places key ≡ Some place → IsAt entries place key
  found-at key place found = let at = placed.there key place found in at-place key place at.0 at.1

  pub none-at : (key : Key) → lookup_key places key ≡ None → lookup_key entries key ≡ None
  none-at key none = grind (arith, stands) steps 800000

  room-at : (key : Key) (place : ℕ) → IsAt entries place key → has_room entries key ≡ true
  room-at key place at = there-some entries key (entry_at entries key) place at

  only : (key : Key) (place : ℕ) → IsAt entries place key → (p : ℕ) (e : Entry) → slice_get entries p ≡ Some (key, e) → p ≡ place
  only key place at p e is = let one : Some p ≡ Some place = sym (placed.once key p e is) ∙ placed.once key place (entry_at entries key) at in cc one

  module _ (key : Key) (place : ℕ) (at : IsAt entries place key) (entry : Entry) where
    looked : (k : Key) → lookup_key (set entries place (key, entry)) k ≡ cond (key_eq key k) (Some entry) (lookup_key entries k)
    looked = looked-set entries key (entry_at entries key) entry place at (only key place at)

    pub set-sets : Sets entries (set entries place (key, entry)) key entry
    set-sets k = grind (arith, looked) steps 800000

    pub set-keeps : KeepsRoom entries (set entries place (key, entry))
    set-keeps k = grind (arith, looked, key_eq-true, room-at) steps 800000

    pub set-placed : ArePlaced places (set entries place (key, entry))
    set-placed = record { there = there; once = once }
      where
        within : place < length entries
        within = slice_get_within entries place (key, entry_at entries key) at

        there : (k : Key) (p : ℕ) → lookup_key places k ≡ Some p → (e : Entry) × (slice_get (set entries place (key, entry)) p ≡ Some (k, e))
        there k p found = by (same_or_not p place)
          where
            was : (e : Entry) × (slice_get entries p ≡ Some (k, e))
            was = placed.there k p found

            by : (p ≡ place) ⊎ (p ≡ place → ⊥) → (e : Entry) × (slice_get (set entries place (key, entry)) p ≡ Some (k, e))
            by (inl same) =
                let pair : Some (key, entry_at entries key) ≡ Some (k, was.0) = sym at ∙ ap (slice_get entries) (sym same) ∙ was.1 in
                let one : key ≡ k = ap (λ (o : Option (Key × Entry)). (unwrap_or o (key, entry)).0) pair in
                (entry, ap (slice_get (set entries place (key, entry))) same ∙ get-set_same entries place (key, entry) within ∙ (λ i. Some (one i, entry)))
            by (inr apart) = (was.0, get-set_other entries place p (key, entry) apart ∙ was.1)

        once : (k : Key) (p : ℕ) (e : Entry) → slice_get (set entries place (key, entry)) p ≡ Some (k, e) → lookup_key places k ≡ Some p
        once k p e is = by (same_or_not p place)
          where
            by : (p ≡ place) ⊎ (p ≡ place → ⊥) → lookup_key places k ≡ Some p
            by (inl same) =
                let pair : Some (key, entry) ≡ Some (k, e) = sym (ap (slice_get (set entries place (key, entry))) same ∙ get-set_same entries place (key, entry) within) ∙ is in
                let one : key ≡ k = ap (λ (o : Option (Key × Entry)). (unwrap_or o (key, entry)).0) pair in
                ap (lookup_key places) (sym one) ∙ placed.once key place (entry_at entries key) at ∙ (λ i. Some (sym same i))
            by (inr apart) = placed.once k p e (sym (get-set_other entries place p (key, entry) apart) ∙ is)

  pub add-placed : (key : Key) → has_room entries key ≡ false → (entry : Entry) (more : Places) → ((k : Key) → lookup_key more k ≡ cond (key_eq key k) (Some (length entries)) (lookup_key places k)) → ArePlaced more (entries ++ (key, entry) ∷ [])
  add-placed key none entry more updates = record { there = there; once = once }
    where
      there : (k : Key) (p : ℕ) → lookup_key more k ≡ Some p → (e : Entry) × (slice_get (entries ++ (key, entry) ∷ []) p ≡ Some (k, e))
      there k p found = by (key_eq key k) refl (sym (updates k) ∙ found)
        where
          by : (b : Bool) → key_eq key k ≡ b → cond b (Some (length entries)) (lookup_key places k) ≡ Some p → (e : Entry) × (slice_get (entries ++ (key, entry) ∷ []) p ≡ Some (k, e))
          by true is found =
              let last : length entries ≡ p = cc found in
              (entry, ap (slice_get (entries ++ (key, entry) ∷ [])) (sym last) ∙ get-last entries (key, entry) ∙ (λ i. Some (key_eq-true key k is i, entry)))
          by false is found = let was = placed.there k p found in (was.0, get-before entries (key, entry) (k, was.0) p was.1)

      once : (k : Key) (p : ℕ) (e : Entry) → slice_get (entries ++ (key, entry) ∷ []) p ≡ Some (k, e) → lookup_key more k ≡ Some p
      once k p e at = elim (get-either entries (key, entry) (k, e) p at) [
        | inl before ↦ by (key_eq key k) refl before
        | inr last ↦ new last.0 (ap (λ (x : Key × Entry). x.0) last.1)
      ]
        where
          new : p ≡ length entries → key ≡ k → lookup_key more k ≡ Some p
          new last one = updates k ∙ ap (λ (b : Bool). cond b (Some (length entries)) (lookup_key places k)) (ap (key_eq key) (sym one) ∙ key_eq-same key) ∙ (λ i. Some (sym last i))

          by : (b : Bool) → key_eq key k ≡ b → slice_get entries p ≡ Some (k, e) → lookup_key more k ≡ Some p
          by true is before =
              absurd (cc (sym (there-some entries k e p before) ∙ ap (λ (j : Key). has_room entries j) (sym (key_eq-true key k is)) ∙ none))
          by false is before = updates k ∙ ap (λ (b : Bool). cond b (Some (length entries)) (lookup_key places k)) is ∙ placed.once k p e before

-- the entry that is set is at its place
pub set-at : (places : Places) (entries : Entries) → ArePlaced places entries → (key : Key) (place : ℕ) → IsAt entries place key → (entry : Entry) → IsAt (set entries place (key, entry)) place key
set-at places entries placed key place at entry =
    at-place places (set entries place (key, entry)) (set-placed places entries placed key place at entry) key place entry (get-set_same entries place (key, entry) (slice_get_within entries place (key, entry_at entries key) at))

-- ---- a further key

module _ (entries : Entries) (key : Key) (none : has_room entries key ≡ false) (entry : Entry) where
  absent : lookup_key entries key ≡ None
  absent = is_some-none (lookup_key entries key) none

  looked-more : (k : Key) → lookup_key (entries ++ (key, entry) ∷ []) k ≡ cond (key_eq key k) (Some entry) (lookup_key entries k)
  looked-more = looked-last entries key entry absent

  pub add-sets : Sets entries (entries ++ (key, entry) ∷ []) key entry
  add-sets k = grind (arith, looked-more) steps 800000

  pub add-gains : GainsRoom entries (entries ++ (key, entry) ∷ []) key
  add-gains k = grind (arith, looked-more) steps 800000

-- what a map of places has once a further key was put in
pub updated : (old new : Places) (key : Key) (place : ℕ) → ((k : Key) → lookup (is_at (key_cmp k)) new ≡ cond (is_at (key_cmp key) k) (Some place) (lookup (is_at (key_cmp k)) old))
    → (k : Key) → lookup_key new k ≡ cond (key_eq key k) (Some place) (lookup_key old k)
updated old new key place updates k = looked-up new k ∙ updates k ∙ (λ i. cond (is_at-key key k i) (Some place) (sym (looked-up old k) i))

-- a key that has room gains none
pub kept : (entries : Entries) (key : Key) → has_room entries key ≡ true → GainsRoom entries entries key
kept entries key has k = grind (arith, key_eq-true) steps 800000

-- an entry that is set to what it was
pub same : (old new : Entries) (key : Key) → Sets old new key (entry_at old key) → (k : Key) → entry_at new k ≡ entry_at old k
same old new key sets k = sets k ∙ by (key_eq key k) refl
  where
    by : (b : Bool) → key_eq key k ≡ b → cond b (entry_at old key) (entry_at old k) ≡ entry_at old k
    by true is = ap (entry_at old) (key_eq-true key k is)
    by false is = refl

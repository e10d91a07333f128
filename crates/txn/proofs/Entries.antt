-- A table whose first entry has the number 2.
use Rattle.std.proofs.Common.{◌≡◌, ◌≢◌, ℕ, zero, suc, ◌+◌, ◌-◌, ◌<◌, ◌≤◌, Bool, true, false, cond, List, [], ◌∷◌, length, set, refl, sym, ◌∙◌, ap, subst, arith, nat_eq, nat_lt, Option, Some, None, IsSome, get_or, length-set, rules}
use Rattle.std.specs.Prelude.{is_none, slice_index_or, slice_set}
use Rattle.std.specs.List.{list_all}
use Rattle.std.proofs.lemmas.Bool.Decides.{nat_tests}
use Rattle.std.proofs.Math.ListN.{get_or-map}
use Rattle.std.proofs.lemmas.List.{get_or-set_other, get_or_past}
use Rattle.std.proofs.lemmas.Grind.{get_or-set_at}
use Rattle.slab.specs.Slab.{Slab, get, Updates, with_value}
use Rattle.base.specs.Lists.{replaced}
use Rattle.txn.specs.Tables.{entry_at, found, listed, IsTable, AreTaken}

-- what is listed under a number is what its place finds
pub entry_at-listed : {T : Type 0} (slab : Slab T) (places : List (Option ℕ)) (n : ℕ) → entry_at (listed slab places) n ≡ found slab (entry_at places n)
entry_at-listed slab places n = grind (arith, get_or-map (found slab) places (n - 2) None)

get_or-set_is : {X : Type 0} (xs : List X) (i j : ℕ) (x d : X) → i < length xs → get_or (set xs i x) j d ≡ cond (nat_eq j i) x (get_or xs j d)
get_or-set_is xs i j x d h = grind (arith, nat_tests, get_or-set_at, get_or-set_other) steps 800000

-- one entry is set
pub entry_at-set : {T : Type 0} (entries : List (Option T)) (n : ℕ) (x : Option T) → length entries ≡ 62 → 2 ≤ n → n < 64 → (m : ℕ) → entry_at (slice_set entries (n - 2) x) m ≡ replaced n x (entry_at entries) m
entry_at-set entries n x size lo hi m = grind (arith, nat_tests, get_or-set_is) steps 800000

-- what the table and the slab keep when they change at one number
pub record Changed {T : Type 0} (slab slab' : Slab T) (places places' : List (Option ℕ)) (n : ℕ) (x : Option T) : Type 0 where
  pub table : IsTable slab' places'
  pub sets : (m : ℕ) → entry_at (listed slab' places') m ≡ replaced n x (entry_at (listed slab places)) m

-- the place of the number is none, or one with a value
abbrev pub IsPlace : {T : Type 0} → ℕ → Option ℕ → Option T → Type 0
IsPlace key None x = x ≡ None
IsPlace key (Some k) x = (k ≡ key) × IsSome x

pub changed : {T : Type 0} (slab slab' : Slab T) (places places' : List (Option ℕ)) (n key : ℕ) (p : Option ℕ) (x : Option T) → IsTable slab places → Updates slab slab' key x → IsPlace key p x
    → length places' ≡ 62 → ((m : ℕ) → entry_at places' m ≡ replaced n p (entry_at places) m) → ((m : ℕ) → m ≢ n → entry_at places m ≡ Some key → ⊥)
    → ((k : ℕ) → entry_at places n ≡ Some k → k ≡ key)
    → Changed slab slab' places places' n x
changed {T} slab slab' places places' n key p x table updates is size new apart only = record {
  table = record {
    size = size;
    there = λ m k at. there m k (nat_eq m n) refl (sym (new m) ∙ at);
    apart = λ l m k at at'. one l m k (nat_eq l n) (nat_eq m n) refl refl (sym (new l) ∙ at) (sym (new m) ∙ at');
    placed = λ k some. placed k (nat_eq k key) refl some;
  };
  sets = λ m. entry_at-listed slab' places' m ∙ ap (found slab') (new m) ∙ at_each m (nat_eq m n) refl ∙ ap (λ (o : Option T). cond (nat_eq m n) x o) (sym (entry_at-listed slab places m));
}
  where
    here : (p : Option ℕ) → IsPlace key p x → found slab' p ≡ x
    here None is = sym is
    here (Some k) is = ap (get slab') is.0 ∙ updates.changed

    its : (p : Option ℕ) (k : ℕ) → IsPlace key p x → p ≡ Some k → (k ≡ key) × IsSome x
    its None k is at = absurd (cc at)
    its (Some j) k is at = let e : j ≡ k = cc at in (sym e ∙ is.0, is.1)

    still : (m k : ℕ) → m ≢ n → entry_at places m ≡ Some k → get slab' k ≡ get slab k
    still m k ne at = updates.others k (λ same. apart m ne (at ∙ ap (λ (j : ℕ). Some j) same))

    there : (m k : ℕ) (b : Bool) → nat_eq m n ≡ b → cond b p (entry_at places m) ≡ Some k → IsSome (get slab' k)
    there m k true same at = let its = its p k is at in subst IsSome (sym (ap (get slab') its.0 ∙ updates.changed)) its.1
    there m k false ne at = subst IsSome (sym (still m k (grind (arith, nat_tests)) at)) (table.there m k at)

    one : (l m k : ℕ) (a b : Bool) → nat_eq l n ≡ a → nat_eq m n ≡ b → cond a p (entry_at places l) ≡ Some k → cond b p (entry_at places m) ≡ Some k → l ≡ m
    one l m k true true e f at at' = grind (arith, nat_tests)
    one l m k true false e f at at' = absurd (apart m (grind (arith, nat_tests)) (at' ∙ ap (λ (j : ℕ). Some j) (its p k is at).0))
    one l m k false true e f at at' = absurd (apart l (grind (arith, nat_tests)) (at ∙ ap (λ (j : ℕ). Some j) (its p k is at').0))
    one l m k false false e f at at' = table.apart l m k at at'

    own : (p : Option ℕ) → IsPlace key p x → IsSome x → p ≡ Some key
    own None is some = absurd (cc (is, some))
    own (Some j) is some = ap (λ (k : ℕ). Some k) is.0

    kept : (m k : ℕ) (b : Bool) → nat_eq m n ≡ b → k ≢ key → entry_at places m ≡ Some k → cond b p (entry_at places m) ≡ Some k
    kept m k true same apart at = absurd (apart (only k (let e : m ≡ n = grind (arith, nat_tests) in ap (λ (i : ℕ). entry_at places i) (sym e) ∙ at)))
    kept m k false ne apart at = at

    replaced-same : (i : ℕ) → replaced i p (entry_at places) i ≡ p
    replaced-same i = by (nat_eq i i) refl
      where
        by : (b : Bool) → nat_eq i i ≡ b → cond b p (entry_at places i) ≡ p
        by true same = refl
        by false ne = absurd (grind (arith, nat_tests))

    placed : (k : ℕ) (b : Bool) → nat_eq k key ≡ b → IsSome (get slab' k) → (m : ℕ) × (entry_at places' m ≡ Some k)
    placed k true same some =
        let e : k ≡ key = grind (arith, nat_tests) in
        (n, new n ∙ replaced-same n ∙ own p is (subst IsSome (ap (get slab') e ∙ updates.changed) some) ∙ ap (λ (j : ℕ). Some j) (sym e))
    placed k false ne some =
        let apart : k ≢ key = grind (arith, nat_tests) in
        let was = table.placed k (subst IsSome (updates.others k apart) some) in
        (was.0, new was.0 ∙ kept was.0 k (nat_eq was.0 n) refl apart was.1)

    other : (m : ℕ) (o : Option ℕ) → m ≢ n → entry_at places m ≡ o → found slab' o ≡ found slab o
    other m None ne at = refl
    other m (Some k) ne at = still m k ne at

    at_each : (m : ℕ) (b : Bool) → nat_eq m n ≡ b → found slab' (cond b p (entry_at places m)) ≡ cond b x (found slab (entry_at places m))
    at_each m true same = here p is
    at_each m false ne = other m (entry_at places m) (grind (arith, nat_tests)) refl

-- a number with a place is one that sessions have
pub number-of : {T : Type 0} (entries : List (Option T)) (n : ℕ) (x : T) → length entries ≡ 62 → entry_at entries n ≡ Some x → (2 ≤ n) × (n < 64)
number-of entries n x size at = grind (arith, nat_tests, get_or_past) steps 800000

blank-at : {T : Type 0} (xs : List (Option T)) (i : ℕ) → list_all is_none xs ≡ true → get_or xs i None ≡ None
blank-at [] i h = refl
blank-at (None ∷ xs) zero h = refl
blank-at (None ∷ xs) (suc i) h = blank-at xs i h
blank-at (Some x ∷ xs) i h = absurd (cc h)

-- a table of places without a value
pub blank-entry : {T : Type 0} (xs : List (Option T)) (n : ℕ) → list_all is_none xs ≡ true → entry_at xs n ≡ None
blank-entry xs n h = grind (arith, blank-at) steps 800000

-- ---- what the calls of a table do to it

-- a number whose place has a value is taken
pub taken-at : {T : Type 0} (slab : Slab T) (places : List (Option ℕ)) (n : ℕ) → IsTable slab places → 2 ≤ n → is_none (slice_index_or places (n - 2) None) ≡ false → is_none (entry_at (listed slab places) n) ≡ false
taken-at {T} slab places n table lo taken = grind (arith, entry_at-listed slab places n)

-- a value is put in under a free number
pub inserted : {T : Type 0} (slab slab' : Slab T) (places : List (Option ℕ)) (n key : ℕ) (x : T) → IsTable slab places → 2 ≤ n → n < 64 → entry_at (listed slab places) n ≡ None → get slab key ≡ None → Updates slab slab' key (Some x)
    → Changed slab slab' places (slice_set places (n - 2) (Some key)) n (Some x)
inserted {T} slab slab' places n key x table lo hi free vacant updates =
    changed slab slab' places (slice_set places (n - 2) (Some key)) n key (Some key) (Some x) table updates (refl, some) (length-set places (n - 2) (Some key) ∙ table.size)
    (entry_at-set places n (Some key) table.size lo hi)
    (λ m ne at. none (subst IsSome vacant (table.there m key at)))
    (λ k at. absurd (none (subst IsSome (sym (ap (found slab) at) ∙ sym (entry_at-listed slab places n) ∙ free) (table.there n k at))))
  where
    some : IsSome {T = T} (Some x)
    some = search rules

    none : IsSome {T = T} None → ⊥
    none h = absurd (cc h)

-- a value is taken out
pub removed : {T : Type 0} (slab slab' : Slab T) (places : List (Option ℕ)) (n key : ℕ) → IsTable slab places → entry_at places n ≡ Some key → Updates slab slab' key None
    → Changed slab slab' places (slice_set places (n - 2) None) n None
removed slab slab' places n key table at updates =
    let number = number-of places n key table.size at in
    changed slab slab' places (slice_set places (n - 2) None) n key None None table updates refl (length-set places (n - 2) None ∙ table.size)
    (entry_at-set places n None table.size number.0 number.1)
    (λ m ne there. ne (table.apart m n key there at))
    (λ k there. cc (there, at))

-- a value is replaced
pub put : {T : Type 0} (slab : Slab T) (places : List (Option ℕ)) (n key : ℕ) (x : T) → IsTable slab places → entry_at places n ≡ Some key
    → Changed slab (with_value slab key x) places places n (Some x)
put {T} slab places n key x table at =
    changed slab (with_value slab key x) places places n key (Some key) (Some x) table
    (record { changed = get_or-set_at slab.slots key key (Some x) None refl (within (get slab key) refl (table.there n key at)); others = λ other ne. get_or-set_other slab.slots key other (Some x) None ne })
    (refl, some) table.size same (λ m ne there. ne (table.apart m n key there at)) (λ k there. cc (there, at))
  where
    some : IsSome {T = T} (Some x)
    some = search rules

    within : (o : Option T) → get slab key ≡ o → IsSome o → key < length slab.slots
    within None at some = absurd (cc some)
    within (Some y) at some = lt (nat_lt key (length slab.slots)) refl
      where
        lt : (b : Bool) → nat_lt key (length slab.slots) ≡ b → key < length slab.slots
        lt true is = grind (arith, nat_tests)
        lt false is = absurd (cc (at, get_or_past slab.slots key None (grind (arith, nat_tests))))

    same : (m : ℕ) → entry_at places m ≡ replaced n (Some key) (entry_at places) m
    same m = by (nat_eq m n) refl
      where
        by : (b : Bool) → nat_eq m n ≡ b → entry_at places m ≡ cond b (Some key) (entry_at places m)
        by true is = let e : m ≡ n = grind (arith, nat_tests) in ap (λ (k : ℕ). entry_at places k) e ∙ at
        by false is = refl

-- ---- the number below which each is taken

-- and one with a value a place
has-place : {T : Type 0} (slab : Slab T) (places : List (Option ℕ)) (k : ℕ) → is_none (entry_at (listed slab places) k) ≡ false → is_none (entry_at places k) ≡ false
has-place slab places k taken = grind (arith, entry_at-listed slab places k)

-- once the lowest free number is taken
pub taken-put_in : {T : Type 0} (slab : Slab T) (places : List (Option ℕ)) (n key : ℕ) → length places ≡ 62 → 2 ≤ n → n < 64 → ((k : ℕ) → 2 ≤ k → k < n → is_none (entry_at (listed slab places) k) ≡ false) → AreTaken (n + 1) (slice_set places (n - 2) (Some key))
taken-put_in slab places n key size lo hi before k low lt = ap (λ (o : Option ℕ). is_none o) (entry_at-set places n (Some key) size lo hi k) ∙ by (nat_eq k n) refl
  where
    by : (b : Bool) → nat_eq k n ≡ b → is_none (cond b (Some key) (entry_at places k)) ≡ false
    by true is = refl
    by false is = let below : k < n = grind (arith, nat_tests) in has-place slab places k (before k low below)

-- once one is free
pub taken-taken_out : (places : List (Option ℕ)) (n first lower : ℕ) → length places ≡ 62 → 2 ≤ n → n < 64 → AreTaken first places → lower ≤ first → lower ≤ n → AreTaken lower (slice_set places (n - 2) None)
taken-taken_out places n first lower size lo hi taken le below k low lt = grind (arith, nat_tests, entry_at-set) steps 800000

-- A read of a range that stops at a key: the rows that it has by then.
use Rattle.std.proofs.Common.{◌≡◌, ℕ, Bool, true, false, ◌||◌, not, ◌&&◌, cond, List, [], ◌∷◌, ◌++◌, map, filter, is_some, append_assoc, append-nil, refl, sym, ◌∙◌, ap, subst, arith}
use Rattle.std.specs.Prelude.{Option, Some, None}
use Rattle.std.specs.BTreeMap.Range.{range_contains, entries_between}
use Rattle.std.specs.Map.Iter.{TakesLast}
use Rattle.std.specs.List.Sorted.{IsStrictlySortedBy}
use Rattle.std.specs.declared.ops.Bound.TheVariants.{Included}
use Rattle.std.proofs.lemmas.Bool.{and_parts, not-true, true≢false}
use Rattle.std.proofs.lemmas.Bool.Decides.{nat_tests}
use Rattle.std.proofs.lemmas.List.Kept.{IsStrictlySortedBy-filter}
use Rattle.base.specs.declared.key.Key.{Key}
use Rattle.base.specs.Keys.{key_eq, key_lt, is_rising, lookup_key}
use Rattle.base.specs.Commits.{Tables}
use Rattle.base.proofs.Keys.{key_eq-true, key_eq-same, key_eq-swap, key_lt-trans, key_lt-apart, key_lt-swap, keys-rest}
use Rattle.base.proofs.KeyOrder.{sorted-rising}
use Rattle.index.specs.Entries.{key_cmp}
use Rattle.index.specs.Reading.{ranged, is_between}
use Rattle.index.specs.declared.ranges.KeyRange.TheVariants.{Between}
use Rattle.index.proofs.Bounds.{Places, HasUpTo, looked-between, between-is}

-- ---- keys in order

-- what isn't after a key that isn't after another isn't after that one
pub up_to-trans : (a b c : Key) → key_lt b a ≡ false → key_lt c b ≡ false → key_lt c a ≡ false
up_to-trans a b c ab bc = grind (arith, nat_tests)

not-below-itself : (a : Key) → key_lt a a ≡ false
not-below-itself a = grind (arith, nat_tests)

not-behind : (a b : Key) → key_lt a b ≡ true → key_lt b a ≡ false
not-behind a b less = grind (arith, nat_tests)

module _ {X : Type 0} where
  abbrev pub keys : List (Key × X) → List Key
  keys es = map (λ e. e.0) es

  rest-rises : (e : Key × X) (es : List (Key × X)) → is_rising (keys (e ∷ es)) ≡ true → is_rising (keys es) ≡ true
  rest-rises e es r = keys-rest e.0 (keys es) r

  -- the first is below each that comes later
  head-below : (d : Key × X) (done : List (Key × X)) (e : Key × X) (rest : List (Key × X)) → is_rising (keys (d ∷ (done ++ e ∷ rest))) ≡ true → key_lt d.0 e.0 ≡ true
  head-below d [] e rest r = (and_parts (key_lt d.0 e.0) (is_rising (keys (e ∷ rest))) r).0
  head-below d (f ∷ done) e rest r = key_lt-trans d.0 f.0 e.0 (and_parts (key_lt d.0 f.0) (is_rising (keys (f ∷ (done ++ e ∷ rest)))) r).0 (head-below f done e rest (rest-rises d (f ∷ (done ++ e ∷ rest)) r))

  -- a key below the first isn't there
  pub absent : (key : Key) (e : Key × X) (es : List (Key × X)) → is_rising (keys (e ∷ es)) ≡ true → key_lt key e.0 ≡ true → lookup_key (e ∷ es) key ≡ None
  absent key e [] r less = ap (λ (b : Bool). cond b (Some e.1) None) (key_eq-swap e.0 key ∙ key_lt-apart key e.0 less)
  absent key e (f ∷ es) r less =
      ap (λ (b : Bool). cond b (Some e.1) (lookup_key (f ∷ es) key)) (key_eq-swap e.0 key ∙ key_lt-apart key e.0 less)
      ∙ absent key f es (rest-rises e (f ∷ es) r) (key_lt-trans key e.0 f.0 less (head-below e [] f es r))

  -- those up to an entry are found at the keys up to its own
  up-to : (done : List (Key × X)) (e : Key × X) (rest : List (Key × X)) (key : Key) → is_rising (keys (done ++ e ∷ rest)) ≡ true
      → lookup_key (done ++ e ∷ []) key ≡ cond (key_lt e.0 key) None (lookup_key (done ++ e ∷ rest) key)
  up-to [] e rest key r = by (key_eq e.0 key) refl (key_lt e.0 key) refl
    where
      below : (rest : List (Key × X)) → is_rising (keys (e ∷ rest)) ≡ true → key_lt key e.0 ≡ true → lookup_key rest key ≡ None
      below [] r less = refl
      below (f ∷ rest) r less = absent key f rest (rest-rises e (f ∷ rest) r) (key_lt-trans key e.0 f.0 less (head-below e [] f rest r))

      by : (b : Bool) → key_eq e.0 key ≡ b → (l : Bool) → key_lt e.0 key ≡ l → cond b (Some e.1) None ≡ cond l None (cond b (Some e.1) (lookup_key rest key))
      by true is true less = absurd (true≢false (sym less ∙ subst (λ (k : Key). key_lt e.0 k ≡ false) (key_eq-true e.0 key is) (not-below-itself e.0)))
      by true is false less = refl
      by false is true less = refl
      by false is false less = sym (below rest r (key_lt-swap e.0 key is less))
  up-to (d ∷ done) e rest key r = by (up-to done e rest key (rest-rises d (done ++ e ∷ rest) r)) (key_eq d.0 key) refl
    where
      by : lookup_key (done ++ e ∷ []) key ≡ cond (key_lt e.0 key) None (lookup_key (done ++ e ∷ rest) key)
          → (b : Bool) → key_eq d.0 key ≡ b → cond b (Some d.1) (lookup_key (done ++ e ∷ []) key) ≡ cond (key_lt e.0 key) None (cond b (Some d.1) (lookup_key (done ++ e ∷ rest) key))
      by more false is = more
      by more true is = sym (ap (λ (b : Bool). cond b None (Some d.1)) (not-behind key e.0 (subst (λ (k : Key). key_lt k e.0 ≡ true) (key_eq-true d.0 key is) (head-below d done e rest r))))

  -- those from an entry on are found at the keys from its own on
  down-to : (rest : List (Key × X)) (e : Key × X) (done : List (Key × X)) (key : Key) → is_rising (keys (rest ++ e ∷ done)) ≡ true
      → lookup_key (e ∷ done) key ≡ cond (key_lt key e.0) None (lookup_key (rest ++ e ∷ done) key)
  down-to [] e done key r = by (key_lt key e.0) refl
    where
      by : (l : Bool) → key_lt key e.0 ≡ l → lookup_key (e ∷ done) key ≡ cond l None (lookup_key (e ∷ done) key)
      by true less = absent key e done r less
      by false less = refl
  down-to (x ∷ rest) e done key r = by (down-to rest e done key (rest-rises x (rest ++ e ∷ done) r)) (key_eq x.0 key) refl
    where
      by : lookup_key (e ∷ done) key ≡ cond (key_lt key e.0) None (lookup_key (rest ++ e ∷ done) key)
          → (b : Bool) → key_eq x.0 key ≡ b → lookup_key (e ∷ done) key ≡ cond (key_lt key e.0) None (cond b (Some x.1) (lookup_key (rest ++ e ∷ done) key))
      by more false is = more
      by more true is =
          let low : key_lt key e.0 ≡ true = subst (λ (k : Key). key_lt k e.0 ≡ true) (key_eq-true x.0 key is) (head-below x rest e done r) in
          more ∙ (ap (λ (b : Bool). cond b None (lookup_key (rest ++ e ∷ done) key)) low ∙ sym (ap (λ (b : Bool). cond b None (Some x.1)) low))

-- ---- the keys of a map

abbrev as_rows : Places → List (Key × List ℕ)
as_rows es = map (λ e. (e.0, [])) es

same-keys : (es : Places) → map (λ row. row.0) (as_rows es) ≡ keys es
same-keys [] = refl
same-keys (e ∷ es) = ap (λ (ks : List Key). e.0 ∷ ks) (same-keys es)

-- they rise
places-rising : (es : Places) → IsStrictlySortedBy key_cmp (keys es) → is_rising (keys es) ≡ true
places-rising es sorted = sym (ap is_rising (same-keys es)) ∙ sorted-rising (as_rows es) (subst (IsStrictlySortedBy key_cmp) (sym (same-keys es)) sorted)

-- ---- where it stops

module _ (first last : Key) (index : Places) where
  abbrev reads : Places
  reads = entries_between key_cmp (Included first) (Included last) index

  found : (key : Key) → lookup_key reads key ≡ cond (is_between first last key) (lookup_key index key) None
  found key = looked-between (Included first) (Included last) index key ∙ ap (λ (b : Bool). cond b (lookup_key index key) None) (between-is (Between first last) key)

  found-within : (key : Key) → is_some (lookup_key reads key) ≡ true → is_between first last key ≡ true
  found-within key some = by (is_between first last key) refl
    where
      by : (b : Bool) → is_between first last key ≡ b → b ≡ true
      by true is = refl
      by false is = absurd (true≢false (sym some ∙ ap (λ (o : Option ℕ). is_some o) (found key ∙ ap (λ (b : Bool). cond b (lookup_key index key) None) is)))

  there-is : (before : Places) (e : Key × ℕ) (behind : Places) → is_some (lookup_key (before ++ e ∷ behind) e.0) ≡ true
  there-is [] e behind = ap (λ (b : Bool). is_some (cond b (Some e.1) (lookup_key behind e.0))) (key_eq-same e.0)
  there-is (x ∷ before) e behind = by (there-is before e behind) (key_eq x.0 e.0)
    where
      by : is_some (lookup_key (before ++ e ∷ behind) e.0) ≡ true → (b : Bool) → is_some (cond b (Some x.1) (lookup_key (before ++ e ∷ behind) e.0)) ≡ true
      by more true = refl
      by more false = more

  -- an entry that is read is of a key of the range
  pub entry-within : (all : Places) → all ≡ reads → (before : Places) (e : Key × ℕ) (behind : Places) → all ≡ before ++ e ∷ behind → is_between first last e.0 ≡ true
  entry-within all is before e behind split = found-within e.0 (ap (λ (es : Places). is_some (lookup_key es e.0)) (sym is ∙ split) ∙ there-is before e behind)

  module _ (tables : Tables) (none : (key : Key) → lookup_key index key ≡ None → tables key ≡ None) (all : Places) (is : all ≡ reads) (rising : is_rising (keys all) ≡ true) where
    there : (key : Key) → cond (is_some (lookup_key index key)) (tables key) None ≡ tables key
    there key = by (lookup_key index key) refl
      where
        by : (o : Option ℕ) → lookup_key index key ≡ o → cond (is_some o) (tables key) None ≡ tables key
        by (Some place) is = refl
        by None is = sym (none key is)

    -- the rows up to the entry's key
    pub stops-at : (done : Places) (e : Key × ℕ) (rest : Places) (has : Key → Option (List ℕ)) → all ≡ done ++ e ∷ rest
        → ((key : Key) → has key ≡ cond (is_some (lookup_key (done ++ e ∷ []) key)) (tables key) None) → (key : Key) → has key ≡ ranged (Between first e.0) tables key
    stops-at done e rest has split rows key =
        rows key ∙ (ap (λ (o : Option ℕ). cond (is_some o) (tables key) None) (up-to done e rest key (sym (ap (λ (es : Places). is_rising (keys es)) split) ∙ rising) ∙ ap (λ (o : Option ℕ). cond (key_lt e.0 key) None o) (ap (λ (es : Places). lookup_key es key) (sym split ∙ is) ∙ found key))
        ∙ by (key_lt e.0 key) refl (key_lt key first) refl)
      where
        within : is_between first last e.0 ≡ true
        within = entry-within all is done e rest split

        low : key_lt last e.0 ≡ false
        low = not-true (key_lt last e.0) (and_parts (not (key_lt e.0 first)) (not (key_lt last e.0)) within).1

        by : (a : Bool) → key_lt e.0 key ≡ a → (b : Bool) → key_lt key first ≡ b
            → cond (is_some (cond a None (cond (not b && not (key_lt last key)) (lookup_key index key) None))) (tables key) None ≡ cond (not b && not a) (tables key) None
        by true above true under = refl
        by true above false under = refl
        by false above true under = refl
        by false above false under = ap (λ (b : Bool). cond (is_some (cond (not b) (lookup_key index key) None)) (tables key) None) (up_to-trans key e.0 last above low) ∙ there key

    -- the rows from the entry's key on
    pub stops-down : (rest : Places) (e : Key × ℕ) (done : Places) (has : Key → Option (List ℕ)) → all ≡ rest ++ e ∷ done
        → ((key : Key) → has key ≡ cond (is_some (lookup_key (e ∷ done) key)) (tables key) None) → (key : Key) → has key ≡ ranged (Between e.0 last) tables key
    stops-down rest e done has split rows key =
        rows key ∙ (ap (λ (o : Option ℕ). cond (is_some o) (tables key) None) (down-to rest e done key (sym (ap (λ (es : Places). is_rising (keys es)) split) ∙ rising) ∙ ap (λ (o : Option ℕ). cond (key_lt key e.0) None o) (ap (λ (es : Places). lookup_key es key) (sym split ∙ is) ∙ found key))
        ∙ by (key_lt key e.0) refl (key_lt last key) refl)
      where
        within : is_between first last e.0 ≡ true
        within = entry-within all is rest e done split

        high : key_lt e.0 first ≡ false
        high = not-true (key_lt e.0 first) (and_parts (not (key_lt e.0 first)) (not (key_lt last e.0)) within).0

        nothing : (a : Bool) → cond (is_some (cond (not a && false) (lookup_key index key) None)) (tables key) None ≡ None
        nothing true = refl
        nothing false = refl

        by : (a : Bool) → key_lt key e.0 ≡ a → (b : Bool) → key_lt last key ≡ b
            → cond (is_some (cond a None (cond (not (key_lt key first) && not b) (lookup_key index key) None))) (tables key) None ≡ cond (not a && not b) (tables key) None
        by true below b above = refl
        by false below true above = nothing (key_lt key first)
        by false below false above = ap (λ (b : Bool). cond (is_some (cond (not b && true) (lookup_key index key) None)) (tables key) None) (up_to-trans first e.0 key high below) ∙ there key

-- the keys of a part of a map are a part of its keys
kept : (first last : Key) (es : Places) → filter (λ key. range_contains key_cmp (Included first) (Included last) key) (keys es) ≡ keys (entries_between key_cmp (Included first) (Included last) es)
kept first last [] = refl
kept first last (e ∷ es) = by (range_contains key_cmp (Included first) (Included last) e.0) (kept first last es)
  where
    by : (b : Bool) → filter (λ key. range_contains key_cmp (Included first) (Included last) key) (keys es) ≡ keys (entries_between key_cmp (Included first) (Included last) es)
        → cond b (e.0 ∷ filter (λ key. range_contains key_cmp (Included first) (Included last) key) (keys es)) (filter (λ key. range_contains key_cmp (Included first) (Included last) key) (keys es))
        ≡ keys (cond b (e ∷ entries_between key_cmp (Included first) (Included last) es) (entries_between key_cmp (Included first) (Included last) es))
    by true same = ap (λ (ks : List Key). e.0 ∷ ks) same
    by false same = same

-- and they rise
pub part-rises : (first last : Key) (index : Places) → IsStrictlySortedBy key_cmp (keys index) → is_rising (keys (entries_between key_cmp (Included first) (Included last) index)) ≡ true
part-rises first last index sorted =
    places-rising (entries_between key_cmp (Included first) (Included last) index)
    (subst (IsStrictlySortedBy key_cmp) (kept first last index) (IsStrictlySortedBy-filter key_cmp (λ key. range_contains key_cmp (Included first) (Included last) key) (keys index) sorted))

-- ---- a read from the end of a range

-- of these keys some are left, at the front; the rows are those of the tables at the others
pub record HasDownTo (tables : Tables) (all rest : Places) (has : Key → Option (List ℕ)) : Type 0 where
  pub done : Places
  pub split : all ≡ rest ++ done
  pub rows : (key : Key) → has key ≡ cond (is_some (lookup_key done key)) (tables key) None

pub none-down : (tables : Tables) (all : Places) (has : Key → Option (List ℕ)) → ((key : Key) → has key ≡ None) → HasDownTo tables all all has
none-down tables all has none = record { done = []; split = sym (append-nil all); rows = none }

module _ (tables : Tables) (all rest : Places) (e : Key × ℕ) (has : Key → Option (List ℕ)) (h : HasDownTo tables all (rest ++ e ∷ []) has) where
  more-down : (has' : Key → Option (List ℕ)) → ((key : Key) → has' key ≡ cond (key_eq e.0 key || is_some (lookup_key h.done key)) (tables key) None) → HasDownTo tables all rest has'
  more-down has' rows = record {
    done = e ∷ h.done;
    split = h.split ∙ append_assoc rest (e ∷ []) h.done;
    rows = λ key. rows key ∙ ap (λ (b : Bool). cond b (tables key) None) (by key (key_eq e.0 key));
  }
    where
      by : (key : Key) (b : Bool) → (b || is_some (lookup_key h.done key)) ≡ is_some (cond b (Some e.1) (lookup_key h.done key))
      by key true = refl
      by key false = refl

  -- the tables have no row at its key
  pub passed-down : tables e.0 ≡ None → HasDownTo tables all rest has
  passed-down none = more-down has (λ key. h.rows key ∙ by key (is_some (lookup_key h.done key)) (key_eq e.0 key) refl)
    where
      by : (key : Key) (a b : Bool) → key_eq e.0 key ≡ b → cond a (tables key) None ≡ cond (b || a) (tables key) None
      by key true true is = refl
      by key false true is = sym (ap tables (sym (key_eq-true e.0 key is)) ∙ none)
      by key a false is = refl

  -- its row was put in
  pub rows-down : (has' : Key → Option (List ℕ)) (row : List ℕ) → tables e.0 ≡ Some row → ((key : Key) → has' key ≡ cond (key_eq e.0 key) (Some row) (has key))
      → (key : Key) → has' key ≡ cond (key_eq e.0 key || is_some (lookup_key h.done key)) (tables key) None
  rows-down has' row there more key = more key ∙ ap (λ (x : Option (List ℕ)). cond (key_eq e.0 key) (Some row) x) (h.rows key) ∙ by key (is_some (lookup_key h.done key)) (key_eq e.0 key) refl
    where
      by : (key : Key) (a b : Bool) → key_eq e.0 key ≡ b → cond b (Some row) (cond a (tables key) None) ≡ cond (b || a) (tables key) None
      by key a true is = sym there ∙ ap tables (key_eq-true e.0 key is)
      by key a false is = refl

  pub put-down : (has' : Key → Option (List ℕ)) (row : List ℕ) → tables e.0 ≡ Some row → ((key : Key) → has' key ≡ cond (key_eq e.0 key) (Some row) (has key)) → HasDownTo tables all rest has'
  put-down has' row there more = more-down has' (rows-down has' row there more)

  -- so the rows are those at the keys from it on
  pub rows-from : (has' : Key → Option (List ℕ)) (row : List ℕ) → tables e.0 ≡ Some row → ((key : Key) → has' key ≡ cond (key_eq e.0 key) (Some row) (has key))
      → (key : Key) → has' key ≡ cond (is_some (lookup_key (e ∷ h.done) key)) (tables key) None
  rows-from has' row there more key = rows-down has' row there more key ∙ ap (λ (b : Bool). cond b (tables key) None) (by (key_eq e.0 key))
    where
      by : (b : Bool) → (b || is_some (lookup_key h.done key)) ≡ is_some (cond b (Some e.1) (lookup_key h.done key))
      by true = refl
      by false = refl

-- one call of `next_back`
pub last_more : {A X : Type 0} (shows : A → X) (s t : List X) (r : Option A) (x : A) → r ≡ Some x → TakesLast shows s r t → s ≡ t ++ shows x ∷ []
last_more {A = A} shows s t r x is step = subst (λ (o : Option A). TakesLast shows s o t) is step

pub last_all : {A X : Type 0} (shows : A → X) (s t : List X) (r : Option A) → r ≡ None → TakesLast shows s r t → s ≡ []
last_all {A = A} shows s t r is step = (subst (λ (o : Option A). TakesLast shows s o t) is step).0

-- none are left
pub all-down : (tables : Tables) (all : Places) (has : Key → Option (List ℕ)) → HasDownTo tables all [] has → HasUpTo tables all [] has
all-down tables all has h = record { done = h.done; split = h.split ∙ sym (append-nil h.done); rows = h.rows }

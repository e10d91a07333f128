-- The rows of a scan: there is one list of them, and it lists the tables that the session sees.
use Rattle.std.proofs.Common.{◌≡◌, ℕ, Bool, true, false, cond, List, [], ◌∷◌, map, take, filter, refl, sym, ◌∙◌, ap, arith, true≢false}
use Rattle.std.specs.Prelude.{Option, Some, None, unwrap_or}
use Rattle.std.specs.List.{list_all}
use Rattle.std.proofs.lemmas.Bool.{and_parts, and_from}
use Rattle.std.proofs.lemmas.Bool.Decides.{nat_tests}
use Rattle.std.proofs.lemmas.Option.{none-some}
use Rattle.base.specs.declared.key.Key.{Key}
use Rattle.base.specs.Keys.{key_eq, key_lt, is_rising, lookup_key, is_in_range}
use Rattle.base.specs.Commits.{Commit, Writes, Tables, after, overlaid, laid, in_range, Lists, with_write}
use Rattle.machine.specs.Machine.{State, writes_of, begun_of, seen_by}
use Rattle.machine.specs.Replay.{merged, written, with_row, rows_among, written_for, scanned}
use Rattle.base.proofs.Keys.{key_eq-true, key_eq-same, key_lt-trans, key_lt-swap}

-- ---- lists by rising key

module _ {X : Type 0} where
  abbrev keys : List (Key × X) → List Key
  keys pairs = map (λ pair. pair.0) pairs

  -- each key of the list is above this
  abbrev above : Key → List (Key × X) → Bool
  above key pairs = list_all (λ pair. key_lt key pair.0) pairs

  -- so a key up to it isn't there
  absent : (key : Key) (pairs : List (Key × X)) → above key pairs ≡ true → lookup_key pairs key ≡ None
  absent key [] all = refl
  absent key (pair ∷ pairs) all = grind (arith, absent key pairs)

  above-lower : (low key : Key) (pairs : List (Key × X)) → key_lt low key ≡ true → above key pairs ≡ true → above low pairs ≡ true
  above-lower low key [] less all = refl
  above-lower low key (pair ∷ pairs) less all = grind (arith, key_lt-trans, above-lower low key pairs less)

  abbrev rising : List (Key × X) → Bool
  rising pairs = is_rising (keys pairs)

  rising-rest : (pair : Key × X) (pairs : List (Key × X)) → rising (pair ∷ pairs) ≡ true → rising pairs ≡ true
  rising-rest pair [] r = refl
  rising-rest pair (next ∷ pairs) r = (and_parts (key_lt pair.0 next.0) (is_rising (map (λ (p : Key × X). p.0) (next ∷ pairs))) r).1

  rising-above : (pair : Key × X) (pairs : List (Key × X)) → rising (pair ∷ pairs) ≡ true → above pair.0 pairs ≡ true
  rising-above pair [] r = refl
  rising-above pair (next ∷ pairs) r = grind (arith, above-lower, rising-above next pairs)

  rising-with : (pair : Key × X) (pairs : List (Key × X)) → above pair.0 pairs ≡ true → rising pairs ≡ true → rising (pair ∷ pairs) ≡ true
  rising-with pair [] all r = refl
  rising-with pair (next ∷ pairs) all r =
      and_from _ _ (and_parts (key_lt pair.0 next.0) (list_all (λ (p : Key × X). key_lt pair.0 p.0) pairs) all).0 r

  head-found : (pair : Key × X) (pairs : List (Key × X)) → lookup_key (pair ∷ pairs) pair.0 ≡ Some pair.1
  head-found pair pairs = ap (λ (b : Bool). cond b (Some pair.1) (lookup_key pairs pair.0)) (key_eq-same pair.0)

  -- what the lists have past the head, which they share
  past-head : (pair : Key × X) (xs ys : List (Key × X)) → above pair.0 xs ≡ true → above pair.0 ys ≡ true
      → ((key : Key) → lookup_key (pair ∷ xs) key ≡ lookup_key (pair ∷ ys) key) → (key : Key) → lookup_key xs key ≡ lookup_key ys key
  past-head pair xs ys above_xs above_ys same key = grind (arith, key_eq-true, absent)

  -- lists by rising key that have the same at each key are the same
  pub one-list : (xs ys : List (Key × X)) → rising xs ≡ true → rising ys ≡ true → ((key : Key) → lookup_key xs key ≡ lookup_key ys key) → xs ≡ ys
  one-list [] [] rx ry same = refl
  one-list [] (y ∷ ys) rx ry same = absurd (none-some y.1 (same y.0 ∙ head-found y ys))
  one-list (x ∷ xs) [] rx ry same = absurd (none-some x.1 (sym (same x.0) ∙ head-found x xs))
  one-list (x ∷ xs) (y ∷ ys) rx ry same = by (one-list xs ys (rising-rest x xs rx) (rising-rest y ys ry)) (key_eq x.0 y.0) refl (key_lt x.0 y.0) refl
    where
      lower : (a b : Key × X) (under over : List (Key × X)) → rising (b ∷ over) ≡ true → key_lt a.0 b.0 ≡ true → lookup_key (a ∷ under) a.0 ≡ lookup_key (b ∷ over) a.0 → ⊥
      lower a b under over rb less e =
          none-some a.1 (sym (absent a.0 (b ∷ over) (and_from _ _ less (above-lower a.0 b.0 over less (rising-above b over rb)))) ∙ (sym e ∙ head-found a under))

      heads : key_eq x.0 y.0 ≡ true → x ≡ y
      heads is = grind (arith)

      by : (((key : Key) → lookup_key xs key ≡ lookup_key ys key) → xs ≡ ys) → (b : Bool) → key_eq x.0 y.0 ≡ b → (l : Bool) → key_lt x.0 y.0 ≡ l → x ∷ xs ≡ y ∷ ys
      by more true is l less = grind (arith, heads is, rising-above y ys ry, past-head x xs ys (rising-above x xs rx))
      by more false is true less = absurd (lower x y xs ys ry less (same x.0))
      by more false is false less = absurd (lower y x ys xs rx (key_lt-swap x.0 y.0 is less) (sym (same y.0)))

  -- the pairs whose keys pass a test
  filter-lookup : (test : Key → Bool) (pairs : List (Key × X)) (key : Key) → lookup_key (filter (λ pair. test pair.0) pairs) key ≡ cond (test key) (lookup_key pairs key) None
  filter-lookup test [] key = grind arith
  filter-lookup test (pair ∷ pairs) key = grind (arith, filter-lookup test pairs key, key_eq-true)

  filter-above : (test : Key → Bool) (low : Key) (pairs : List (Key × X)) → above low pairs ≡ true → above low (filter (λ pair. test pair.0) pairs) ≡ true
  filter-above test low [] all = refl
  filter-above test low (pair ∷ pairs) all = grind (arith, filter-above test low pairs)

  filter-rising : (test : Key → Bool) (pairs : List (Key × X)) → rising pairs ≡ true → rising (filter (λ pair. test pair.0) pairs) ≡ true
  filter-rising test [] r = r
  filter-rising test (pair ∷ pairs) r = grind (arith, filter-rising test pairs (rising-rest pair pairs r), filter-above, rising-above, rising-rest, rising-with)

-- ---- writes

abbrev Write : Type 0
Write = Key × Option (List ℕ)

with-lookup : (key : Key) (value : Option (List ℕ)) (writes : Writes) (other : Key)
    → lookup_key (with_write key value writes) other ≡ cond (key_eq key other) (Some value) (lookup_key writes other)
with-lookup key value [] other = refl
with-lookup key value (write ∷ writes) other = grind (arith, with-lookup key value writes other, key_eq-true, true≢false)

with-above : (low key : Key) (value : Option (List ℕ)) (writes : Writes) → key_lt low key ≡ true → above low writes ≡ true → above low (with_write key value writes) ≡ true
with-above low key value [] less all = and_from _ _ less refl
with-above low key value (write ∷ writes) less all = grind (arith, with-above low key value writes less)

with-rising : (key : Key) (value : Option (List ℕ)) (writes : Writes) → rising writes ≡ true → rising (with_write key value writes) ≡ true
with-rising key value [] r = grind (arith, rising-with)
with-rising key value (write ∷ writes) r = grind (arith, rising-above, with-rising key value writes (rising-rest write writes r), rising-with, with-above, nat_tests)

merged-rising : (writes under : Writes) → rising under ≡ true → rising (merged writes under) ≡ true
merged-rising [] under r = r
merged-rising (write ∷ writes) under r = with-rising write.0 write.1 (merged writes under) (merged-rising writes under r)

written-rising : (under : Writes) (commits : List Commit) → rising under ≡ true → rising (written under commits) ≡ true
written-rising under [] r = r
written-rising under (commit ∷ commits) r = written-rising (merged commit.writes under) commits (merged-rising commit.writes under r)

-- the tables that writes make
abbrev tables_in : Writes → Tables
tables_in writes key = unwrap_or (lookup_key writes key) None

merged-tables : (writes under : Writes) (key : Key) → tables_in (merged writes under) key ≡ overlaid writes (tables_in under) key
merged-tables [] under key = refl
merged-tables (write ∷ writes) under key = grind (arith, merged-tables writes under key, with-lookup)

written-tables : (under : Writes) (commits : List Commit) (key : Key) → tables_in (written under commits) key ≡ laid (tables_in under) commits key
written-tables under [] key = refl
written-tables under (commit ∷ commits) key = grind (arith, merged-tables, written-tables (merged commit.writes under) commits key)

-- ---- the rows among writes

rows-lookup : (writes : Writes) (key : Key) → rising writes ≡ true → lookup_key (rows_among writes) key ≡ tables_in writes key
rows-lookup [] key r = refl
rows-lookup (write ∷ writes) key r = grind (arith, rows-lookup writes key (rising-rest write writes r), absent write.0 writes (rising-above write writes r))

rows-above : (low : Key) (writes : Writes) → above low writes ≡ true → above low (rows_among writes) ≡ true
rows-above low [] all = refl
rows-above low (write ∷ writes) all = grind (arith, rows-above low writes)

rows-rising : (writes : Writes) → rising writes ≡ true → rising (rows_among writes) ≡ true
rows-rising [] r = grind arith
rows-rising (write ∷ writes) r = by write.1 (rows-above write.0 writes (rising-above write writes r)) (rows-rising writes (rising-rest write writes r))
  where
    by : (value : Option (List ℕ)) → above write.0 (rows_among writes) ≡ true → rising (rows_among writes) ≡ true → rising (with_row write.0 value (rows_among writes)) ≡ true
    by None low more = more
    by (Some row) low more = rising-with (write.0, row) (rows_among writes) low more

-- ---- a scan

none-written : rising {X = Option (List ℕ)} [] ≡ true
none-written = refl

seen-tables : (q : State) (n : ℕ) (key : Key) → tables_in (written_for q n) key ≡ seen_by q n key
seen-tables q n key = grind (arith, written-tables, merged-tables)

-- the rows are those that the session sees in the range, by rising key
pub scan-lists : (q : State) (n table lo hi : ℕ) → Lists (scanned q n table lo hi) (in_range table lo hi (seen_by q n))
scan-lists q n table lo hi = record {
  rising = rows-rising inside inside-rising;
  same = λ key. rows-lookup inside key inside-rising ∙ (ap (λ (o : Option (Option (List ℕ))). unwrap_or o None) (filter-lookup test (written_for q n) key) ∙ within key (test key));
}
  where
    test : Key → Bool
    test key = is_in_range table lo hi key

    inside : Writes
    inside = filter (λ write. test write.0) (written_for q n)

    inside-rising : rising inside ≡ true
    inside-rising =
        filter-rising test (written_for q n) (merged-rising (writes_of (q.sessions n)) (written [] (take (begun_of (q.sessions n)) q.history)) (written-rising [] (take (begun_of (q.sessions n)) q.history) none-written))

    within : (key : Key) (b : Bool) → unwrap_or (cond b (lookup_key (written_for q n) key) None) None ≡ cond b (seen_by q n key) None
    within key true = seen-tables q n key
    within key false = refl

-- and there is no other such list
pub one-listing : (rows others : List (Key × List ℕ)) (tables : Tables) → Lists rows tables → Lists others tables → rows ≡ others
one-listing rows others tables a b = one-list rows others a.rising b.rising (λ key. a.same key ∙ sym (b.same key))

-- ---- all tables

-- the rows of the tables after a history, by rising key
pub tables-listed : (history : List Commit) → Lists (rows_among (written [] history)) (after history)
tables-listed history = record {
  rising = rows-rising (written [] history) (written-rising [] history none-written);
  same = λ key. rows-lookup (written [] history) key (written-rising [] history none-written) ∙ written-tables [] history key;
}

-- The rows of a range, key by key.
use Rattle.std.proofs.Common.{◌≡◌, ℕ, Bool, true, false, ◌||◌, cond, not, ◌&&◌, nat_lt, List, [], ◌∷◌, ◌++◌, is_some, refl, sym, ◌∙◌, ap, subst, arith, append_assoc, append-nil}
use Rattle.std.specs.Prelude.{Option, Some, None, unwrap_or}
use Rattle.std.specs.BTreeMap.{BTreeMap, IsOrdered, get}
use Rattle.std.specs.BTreeMap.Range.{range_contains, entries_between}
use Rattle.std.specs.declared.ops.Bound.{Bound}
use Rattle.std.specs.declared.cmp.Ordering.{Ordering}
use Rattle.std.specs.Ordering.{nat_cmp, ordering_then, is_eq, is_lt, is_le}
use Rattle.std.proofs.lemmas.Bool.Decides.{nat_tests}
use Rattle.base.specs.declared.key.Key.{Key}
use Rattle.base.specs.Keys.{key_eq, key_lt, lookup_key}
use Rattle.base.specs.Commits.{Tables, Lists}
use Rattle.index.specs.declared.entry.Entry.{Entry}
use Rattle.index.specs.Entries.{key_cmp, blank}
use Rattle.index.specs.Reading.{CountsAs, ShowsTables, contains, ranged, bounds_of}
use Rattle.index.specs.Walking.{AreLinked}
use Rattle.index.specs.declared.ranges.KeyRange.{KeyRange}
use Rattle.index.specs.declared.ranges.KeyRange.TheVariants.{All as AllKeys, Within, Between}
use Rattle.base.specs.Layout.{Layout}
use Rattle.base.specs.Images.{Image}
use Rattle.base.proofs.Keys.{key_eq-true}
use Rattle.base.proofs.KeyOrder.{looked-up, sorted-rising, is_eq-nat}
use Rattle.snapshot.specs.Snapshots.{Seen}
use Rattle.index.proofs.Lookups.{none-seen}
use Rattle.index.proofs.Ways.{seen-at}

abbrev Entries : Type 0
Entries = List (Key × Entry)

abbrev pub Places : Type 0
Places = List (Key × ℕ)

-- of these keys some are left; the rows are those of the tables at the others
pub record HasUpTo (tables : Tables) (all rest : Places) (has : Key → Option (List ℕ)) : Type 0 where
  pub done : Places
  pub split : all ≡ done ++ rest
  pub rows : (key : Key) → has key ≡ cond (is_some (lookup_key done key)) (tables key) None

pub none-yet : (tables : Tables) (all : Places) (has : Key → Option (List ℕ)) → ((key : Key) → has key ≡ None) → HasUpTo tables all all has
none-yet tables all has none = record { done = []; split = refl; rows = none }

looked-more : (es : Places) (e : Key × ℕ) (key : Key) → is_some (lookup_key (es ++ e ∷ []) key) ≡ (is_some (lookup_key es key) || key_eq e.0 key)
looked-more [] e key = grind (arith) steps 800000
looked-more (x ∷ es) e key = grind (arith, looked-more es e key) steps 800000

module _ (tables : Tables) (all : Places) (e : Key × ℕ) (rest : Places) (has : Key → Option (List ℕ)) (h : HasUpTo tables all (e ∷ rest) has) where
  one-more : (has' : Key → Option (List ℕ)) → ((key : Key) → has' key ≡ cond (is_some (lookup_key h.done key) || key_eq e.0 key) (tables key) None) → HasUpTo tables all rest has'
  one-more has' rows = record {
    done = h.done ++ e ∷ [];
    split = h.split ∙ sym (append_assoc h.done (e ∷ []) rest);
    rows = λ key. rows key ∙ ap (λ (b : Bool). cond b (tables key) None) (sym (looked-more h.done e key));
  }

  -- the tables have no row at its key
  pub passed-over : tables e.0 ≡ None → HasUpTo tables all rest has
  passed-over none = grind (arith, one-more, key_eq-true) steps 800000

  -- its row was put in
  pub with-row : (has' : Key → Option (List ℕ)) (row : List ℕ) → tables e.0 ≡ Some row → ((key : Key) → has' key ≡ cond (key_eq e.0 key) (Some row) (has key))
      → (key : Key) → has' key ≡ cond (is_some (lookup_key h.done key) || key_eq e.0 key) (tables key) None
  with-row has' row there more key = more key ∙ ap (λ (x : Option (List ℕ)). cond (key_eq e.0 key) (Some row) x) (h.rows key) ∙ by key (is_some (lookup_key h.done key)) (key_eq e.0 key) refl
    where
      by : (key : Key) (a b : Bool) → key_eq e.0 key ≡ b → cond b (Some row) (cond a (tables key) None) ≡ cond (a || b) (tables key) None
      by key true true is = sym there ∙ ap tables (key_eq-true e.0 key is)
      by key false true is = sym there ∙ ap tables (key_eq-true e.0 key is)
      by key true false is = refl
      by key false false is = refl

  pub put-in : (has' : Key → Option (List ℕ)) (row : List ℕ) → tables e.0 ≡ Some row → ((key : Key) → has' key ≡ cond (key_eq e.0 key) (Some row) (has key)) → HasUpTo tables all rest has'
  put-in has' row there more = one-more has' (with-row has' row there more)

  -- so the rows are those at the keys up to it
  pub rows-to : (has' : Key → Option (List ℕ)) (row : List ℕ) → tables e.0 ≡ Some row → ((key : Key) → has' key ≡ cond (key_eq e.0 key) (Some row) (has key))
      → (key : Key) → has' key ≡ cond (is_some (lookup_key (h.done ++ e ∷ []) key)) (tables key) None
  rows-to has' row there more key = with-row has' row there more key ∙ ap (λ (b : Bool). cond b (tables key) None) (sym (looked-more h.done e key))

-- ---- the places of a range

-- those between two bounds are found by their keys
pub looked-between : (lo hi : Bound Key) (es : Places) (key : Key) → lookup_key (entries_between key_cmp lo hi es) key ≡ cond (range_contains key_cmp lo hi key) (lookup_key es key) None
looked-between lo hi [] key = grind (arith)
looked-between lo hi (e ∷ es) key = by (range_contains key_cmp lo hi e.0) refl (key_eq e.0 key) refl (looked-between lo hi es key)
  where
    in-range : key_eq e.0 key ≡ true → (b : Bool) → range_contains key_cmp lo hi e.0 ≡ b → range_contains key_cmp lo hi key ≡ b
    in-range same b is = ap (range_contains key_cmp lo hi) (sym (key_eq-true e.0 key same)) ∙ is

    by : (a : Bool) → range_contains key_cmp lo hi e.0 ≡ a → (b : Bool) → key_eq e.0 key ≡ b → lookup_key (entries_between key_cmp lo hi es) key ≡ cond (range_contains key_cmp lo hi key) (lookup_key es key) None
        → lookup_key (cond a (e ∷ entries_between key_cmp lo hi es) (entries_between key_cmp lo hi es)) key ≡ cond (range_contains key_cmp lo hi key) (cond b (Some e.1) (lookup_key es key)) None
    by true lies true same rest = ap (λ (b : Bool). cond b (Some e.1) (lookup_key (entries_between key_cmp lo hi es) key)) same ∙ sym (ap (λ (b : Bool). cond b (Some e.1) None) (in-range same true lies))
    by true lies false apart rest = ap (λ (b : Bool). cond b (Some e.1) (lookup_key (entries_between key_cmp lo hi es) key)) apart ∙ rest
    by false out true same rest = rest ∙ ap (λ (b : Bool). cond b (lookup_key es key) None) (in-range same false out) ∙ sym (ap (λ (b : Bool). cond b (Some e.1) None) (in-range same false out))
    by false out false apart rest = rest

-- a key is below another in the order of a map exactly if it comes before it
is_lt-tests : (a b : ℕ) → is_lt (nat_cmp a b) ≡ nat_lt a b
is_lt-tests a b = grind (arith, nat_tests)

is_lt-both : (o p : Ordering) → is_lt (ordering_then o p) ≡ (is_lt o || (is_eq o && is_lt p))
is_lt-both a p = grind (arith)

pub key-below : (a b : Key) → is_lt (key_cmp a b) ≡ key_lt a b
key-below a b = grind (arith, is_lt-both, is_lt-tests, is_eq-nat)

is_le-not : (a b : ℕ) → is_le (nat_cmp a b) ≡ not (nat_lt b a)
is_le-not a b = grind (arith, nat_tests)

is_le-both : (o p : Ordering) → is_le (ordering_then o p) ≡ (is_lt o || (is_eq o && is_le p))
is_le-both a p = grind (arith)

pub key-up_to : (a b : Key) → is_le (key_cmp a b) ≡ not (key_lt b a)
key-up_to a b = grind (arith, is_le-both, is_le-not, is_lt-tests, is_eq-nat, nat_tests)

-- the bounds of a range hold its keys
pub between-is : (range : KeyRange) (key : Key) → range_contains key_cmp (bounds_of range).0 (bounds_of range).1 key ≡ contains range key
between-is AllKeys key = refl
between-is (Within table lo hi) key = grind (arith, nat_tests)
between-is (Between first last) key = grind (arith, key-below, key-up_to)

-- ---- at the end

-- none are left, and at a key that the index doesn't have the tables have none
pub all-there : (tables : Tables) (range : KeyRange) (index all : Places) (has : Key → Option (List ℕ)) → HasUpTo tables all [] has → all ≡ entries_between key_cmp (bounds_of range).0 (bounds_of range).1 index
    → ((key : Key) → lookup_key index key ≡ None → tables key ≡ None) → (key : Key) → has key ≡ ranged range tables key
all-there tables range index all has h between absent key = grind (arith, append-nil, looked-between, between-is) steps 800000

-- at such a key nothing is seen
pub absent-none : (counts : ℕ → Bool) (s : Seen) (a : Layout) (image : Image) (tables : Tables) (index : Entries) → CountsAs counts s a image → ShowsTables counts a image tables → AreLinked s image index
    → (key : Key) → lookup_key index key ≡ None → tables key ≡ None
absent-none counts s a image tables index agree shows linked key absent =
    none-seen counts s a image tables agree shows key (λ slot row seen.
    let head = linked key slot (seen-at s image key counts a agree slot row seen) in
    let none : None ≡ Some head.0 = sym (ap (λ (o : Option Entry). (unwrap_or o blank).newest) absent) ∙ head.1 in
    cc none)

-- the entries of a map that has the rows of the tables list them
pub listed : (m : BTreeMap Key (List ℕ)) (rows : List (Key × List ℕ)) (tables : Tables) → rows ≡ m.entries → IsOrdered key_cmp m → ((key : Key) → get key_cmp m key ≡ tables key) → Lists rows tables
listed m rows tables is ordered has =
    subst (λ (xs : List (Key × List ℕ)). Lists xs tables) (sym is) (record { rising = sorted-rising m.entries ordered; same = λ key. looked-up m.entries key ∙ has key })

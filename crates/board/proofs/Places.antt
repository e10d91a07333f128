-- What a map of versions has under a key at a stamp, and after changes.
use Rattle.std.proofs.Common.{◌≡◌, ℕ, suc, ◌+◌, ◌<◌, ◌≤◌, ◌&&◌, Bool, true, false, cond, List, [], ◌∷◌, drop, take, length, get_or, drop-cons, add-one, Option, Some, None, IsSome, is_some, if◌then◌else◌, refl, sym, ap, ◌∙◌, subst, arith, nat_eq}
use Rattle.std.proofs.lemmas.Bool.Decides.{nat_tests}
use Rattle.std.specs.declared.cmp.Ordering.{Ordering}
use Rattle.std.specs.declared.cmp.Ordering.TheVariants.{Less, Equal, Greater}
use Rattle.std.specs.Ordering.{nat_cmp, ordering_then, is_gt, is_lt}
use Rattle.std.specs.Option.{option_or}
use Rattle.std.specs.Cmp.{nat_cmp_is}
use Rattle.std.specs.BTreeMap.{BTreeMap, is_at, get}
use Rattle.std.specs.BTreeMap.Range.{IsInRange, IsEntryInRange}
use Rattle.std.specs.declared.ops.Bound.{Bound}
use Rattle.std.specs.declared.ops.Bound.TheVariants.{Included}
use Rattle.std.proofs.lemmas.Map.Keys.{le_from_not_gt}
use Rattle.std.specs.Map.{lookup}
use Rattle.base.specs.declared.key.Key.{Key}
use Rattle.base.specs.Keys.{key_eq, lookup_key}
use Rattle.base.specs.Commits.{Commit}
use Rattle.base.proofs.Keys.{key_eq-swap}
use Rattle.base.proofs.KeyOrder.{is_at-key, is_eq-then, is_eq-nat, key_cmp}
use Rattle.board.specs.declared.versions.Place.{Place}
use Rattle.board.specs.Cells.{is_written}
use Rattle.board.specs.Versions.{lookup_version, version_after, IsLatest}
use Rattle.board.proofs.Puts.{unwritten_first}

-- the order of places
abbrev pub place_cmp : Place → Place → Ordering
place_cmp a b = ordering_then (key_cmp a.key b.key) (nat_cmp a.stamp b.stamp)

-- the order distinguishes two places exactly if they differ
pub is_at-place : (p q : Place) → is_at (place_cmp p) q ≡ (key_eq p.key q.key && nat_eq p.stamp q.stamp)
is_at-place p q = is_eq-then (key_cmp p.key q.key) (nat_cmp p.stamp q.stamp) ∙ (λ i. is_at-key p.key q.key i && is_eq-nat p.stamp q.stamp i)

-- a map finds the first entry at the place
pub found_version : (es : List (Place × Option (List ℕ))) (p : Place) → lookup (is_at (place_cmp p)) es ≡ lookup_version es p.key p.stamp
found_version [] p = refl
found_version (e ∷ es) p = grind (arith, is_at-place, key_eq-swap, found_version es p)

-- what is found after a change at one place
pub version_changed : (es fs : List (Place × Option (List ℕ))) (p : Place) (w : Option (Option (List ℕ)))
    → ((q : Place) → lookup (is_at (place_cmp q)) fs ≡ cond (is_at (place_cmp p) q) w (lookup (is_at (place_cmp q)) es))
    → (k : Key) (s : ℕ) → lookup_version fs k s ≡ (if key_eq p.key k && nat_eq p.stamp s then w else lookup_version es k s)
version_changed es fs p w h k s =
    let q : Place = record { key = k; stamp = s } in
    sym (found_version fs q) ∙ (h q ∙ (ap (λ (b : Bool). if b then w else lookup (is_at (place_cmp q)) es) (is_at-place p q)
    ∙ ap (λ (r : Option (Option (List ℕ))). if key_eq p.key k && nat_eq p.stamp s then w else r) (found_version es q)))

drop_at : {A : Type 0} (xs : List A) (i : ℕ) (x : A) → x ≡ get_or xs i x → i < length xs → drop i xs ≡ x ∷ drop (i + 1) xs
drop_at xs i x is lt = drop-cons xs i x lt ∙ (ap (λ y. y ∷ drop (suc i) xs) (sym is) ∙ rw add-one refl)

pub forgotten_write : (ws : List (Key × Option (List ℕ))) (i : ℕ) (x : Key × Option (List ℕ)) (k : Key) (there : Bool) (now next : Option (Option (List ℕ))) → x ≡ get_or ws i x → i < length ws
    → next ≡ (if key_eq x.0 k && there then None else now)
    → (if is_some (lookup_key (drop (i + 1) ws) k) && there then None else next) ≡ (if is_some (lookup_key (drop i ws) k) && there then None else now)
forgotten_write ws i x k there now next is lt after = grind (arith, drop_at)

pub forgotten_commit : (cs : List Commit) (i : ℕ) (c : Commit) (k : Key) (there : Bool) (now next : Option (Option (List ℕ))) → c ≡ get_or cs i c → i < length cs
    → next ≡ (if is_some (lookup_key c.writes k) && there then None else now)
    → (if is_written k (drop (i + 1) cs) && there then None else next) ≡ (if is_written k (drop i cs) && there then None else now)
forgotten_commit cs i c k there now next is lt after = grind (arith, drop_at)

-- at another stamp, or if nothing is written, the version stays
pub unentered : (a s : ℕ) (w old : Option (Option (List ℕ))) → (a ≡ s → w ≡ None) → (if nat_eq a s then option_or w old else old) ≡ old
unentered a s w old none = grind (arith)

-- commits that don't write a key leave its version
pub version_unwritten : (k : Key) (v : Option (Option (List ℕ))) (commits : List Commit) → is_written k commits ≡ false → version_after k v commits ≡ v
version_unwritten k v [] h = refl
version_unwritten k v (c ∷ cs) h = grind (arith, version_unwritten k v cs)

pub unentered_commits : (a s : ℕ) (k : Key) (old : Option (Option (List ℕ))) (commits : List Commit) (i : ℕ) → (a ≡ s → is_written k commits ≡ false)
    → (if nat_eq a s then version_after k old (take i commits) else old) ≡ old
unentered_commits a s k old commits i none = grind (arith, version_unwritten, unwritten_first)

not_gt : (a b : ℕ) → a ≤ b → is_gt (nat_cmp a b) ≡ false
not_gt a b le = grind (arith, nat_tests)

less : (a b : ℕ) → a < b → nat_cmp a b ≡ Less
less a b lt = sym (nat_cmp_is a b Less lt)

equal : (a b : ℕ) → a ≡ b → nat_cmp a b ≡ Equal
equal a b e = sym (nat_cmp_is a b Equal e)

-- what an order by two parts says of the first, and of the second if the first is equal
first_part : (o r : Ordering) → is_gt (ordering_then o r) ≡ false → is_gt o ≡ false
first_part Less r h = refl
first_part Equal r h = refl
first_part Greater r h = h

second_part : (o r : Ordering) → o ≡ Equal → is_gt (ordering_then o r) ≡ false → is_gt r ≡ false
second_part o r e h = subst (λ (o : Ordering). is_gt (ordering_then o r) ≡ false) e h

key_self : (key : Key) → key_cmp key key ≡ Equal
key_self key = ap (λ (o : Ordering). ordering_then o (nat_cmp key.key key.key)) (equal key.table key.table refl) ∙ equal key.key key.key refl

-- keys of which neither comes after the other are the same
one_key : (a b : Key) → is_gt (key_cmp a b) ≡ false → is_gt (key_cmp b a) ≡ false → a ≡ b
one_key a b h g = grind (arith, first_part, le_from_not_gt)

-- places of one key are ordered by their stamps
same_key : (key : Key) (a b : ℕ) → place_cmp (record { key = key; stamp = a }) (record { key = key; stamp = b }) ≡ nat_cmp a b
same_key key a b = ap (λ (o : Ordering). ordering_then o (nat_cmp a b)) (key_self key)

-- the places of one key up to a stamp
pub in_range : (key : Key) (a at stamp : ℕ) → a ≤ at → at ≤ stamp
    → IsInRange place_cmp (Included (record { key = key; stamp = a })) (Included (record { key = key; stamp = stamp })) (record { key = key; stamp = at })
in_range key a at stamp low high = (ap is_gt (same_key key a at) ∙ not_gt a at low, ap is_gt (same_key key at stamp) ∙ not_gt at stamp high)

from_range : (key : Key) (stamp : ℕ) (p : Place) → IsInRange place_cmp (Included (record { key = key; stamp = 0 })) (Included (record { key = key; stamp = stamp })) p → (p.key ≡ key) × (p.stamp ≤ stamp)
from_range key stamp p h =
    let low = first_part (key_cmp key p.key) (nat_cmp 0 p.stamp) h.0 in
    let high = first_part (key_cmp p.key key) (nat_cmp p.stamp stamp) h.1 in
    let is : p.key ≡ key = one_key p.key key high low in
    let same : key_cmp p.key key ≡ Equal = ap (λ (k : Key). key_cmp k key) is ∙ key_self key in
    (is, le_from_not_gt p.stamp stamp (second_part (key_cmp p.key key) (nat_cmp p.stamp stamp) same h.1))

-- the range of one key's places ends in the key's latest version
abbrev from_first : Key → Bound Place
from_first key = Included (record { key = key; stamp = 0 })

abbrev up_to : Key → ℕ → Bound Place
up_to key stamp = Included (record { key = key; stamp = stamp })

pub latest_none : (m : BTreeMap Place (Option (List ℕ))) (key : Key) (stamp : ℕ)
    → ((q : Place) → IsInRange place_cmp (from_first key) (up_to key stamp) q → get place_cmp m q ≡ None)
    → (at : ℕ) → at ≤ stamp → lookup_version m.entries key at ≡ None
latest_none m key stamp none at le =
    let q : Place = record { key = key; stamp = at } in
    sym (found_version m.entries q) ∙ none q (in_range key 0 at stamp (omega arith) le)

some_or_none : {X : Type 0} (o : Option X) → (IsSome o → false ≡ true) → o ≡ None
some_or_none None h = refl
some_or_none (Some x) h = absurd (cc (h refl))

pub latest_some : (m : BTreeMap Place (Option (List ℕ))) (key : Key) (stamp : ℕ) (e : Place × Option (List ℕ))
    → IsEntryInRange place_cmp (from_first key) (up_to key stamp) m e
    → ((q : Place) → IsInRange place_cmp (from_first key) (up_to key stamp) q → IsSome (get place_cmp m q) → is_lt (place_cmp e.0 q) ≡ false)
    → IsLatest m.entries key stamp (Some e.1)
latest_some m key stamp e there last =
    let place = from_range key stamp e.0 there.0 in
    let found : lookup_version m.entries key e.0.stamp ≡ Some e.1 =
    ap (λ (k : Key). lookup_version m.entries k e.0.stamp) (sym place.0) ∙ (sym (found_version m.entries e.0) ∙ there.1) in
    let later : (at : ℕ) → e.0.stamp < at → at ≤ stamp → lookup_version m.entries key at ≡ None = λ at lt le.
    let q : Place = record { key = key; stamp = at } in
    let order : place_cmp e.0 q ≡ Less = ap (λ (k : Key). ordering_then (key_cmp k key) (nat_cmp e.0.stamp at)) place.0 ∙ (same_key key e.0.stamp at ∙ less e.0.stamp at lt) in
    sym (found_version m.entries q) ∙ some_or_none (get place_cmp m q) (λ some. sym (last q (in_range key 0 at stamp (omega arith) le) some) ∙ ap is_lt order) in
    (e.0.stamp, place.1, found, later)

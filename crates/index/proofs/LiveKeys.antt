-- The keys of entries that have a covered row, each once.
use Rattle.std.proofs.Common.{◌≡◌, ℕ, suc, ◌+◌, ◌-◌, ◌<◌, ◌≤◌, Bool, true, false, cond, ◌||◌, List, [], ◌∷◌, ◌++◌, map, length, get_or, set, refl, sym, ◌∙◌, ap, subst, arith, is_some}
use Rattle.std.specs.Prelude.{Some, unwrap_or, slice_get, filter, swap_remove}
use Rattle.std.specs.List.{IsDistinct, AllByRecursion, list_any}
use Rattle.std.specs.Cmp.{IsEquivalence}
use Rattle.std.proofs.lemmas.Option.{slice_get_within, get_or_from_slice_get}
use Rattle.std.proofs.lemmas.List.{length-map}
use Rattle.std.proofs.lemmas.List.Sums.{length-filter, sum_by-set, sum_by_push, sum_by-swap_remove, get_or-le-sum_by}
use Rattle.std.proofs.lemmas.Map.Made.{length-from_same_keys}
use Rattle.base.specs.declared.key.Key.{Key}
use Rattle.base.specs.Keys.{key_eq, lookup_key}
use Rattle.base.proofs.Keys.{key_eq-true, key_eq-same, key_eq-swap}
use Rattle.index.specs.declared.entry.Entry.{Entry}
use Rattle.index.specs.Entries.{blank, entry_at, live_of, ArePlaced}
use Rattle.index.specs.Counting.{AreLive, is_live, live_number}

abbrev Entries : Type 0
Entries = List (Key × Entry)

abbrev keys_of : Entries → List Key
keys_of entries = map (λ (e : Key × Entry). e.0) entries

laws : IsEquivalence key_eq
laws = grind (arith, key_eq-same, key_eq-swap, key_eq-true) steps 800000

-- ---- no two entries are of one key

-- nowhere in the list is the key
abbrev IsNowhere : Key → List Key → Type 0
IsNowhere key keys = AllByRecursion (λ y. key_eq key y ≡ false) keys

abbrev AreOnce : Entries → Type 0
AreOnce entries = (i j : ℕ) (key : Key) (a b : Entry) → slice_get entries i ≡ Some (key, a) → slice_get entries j ≡ Some (key, b) → i ≡ j

nowhere : (key : Key) (entries : Entries) → ((j : ℕ) (e : Key × Entry) → slice_get entries j ≡ Some e → key_eq key e.0 ≡ false) → IsNowhere key (keys_of entries)
nowhere key [] apart = tt
nowhere key (e ∷ entries) apart = (apart 0 e refl, nowhere key entries (λ j x at. apart (suc j) x at))

distinct : (entries : Entries) → AreOnce entries → IsDistinct key_eq (keys_of entries)
unfolding IsDistinct
distinct [] once = tt
distinct (e ∷ entries) once = (nowhere e.0 entries (λ j x at. apart j x at (key_eq e.0 x.0) refl), distinct entries (λ i j key a b p q. let later : suc i ≡ suc j = once (suc i) (suc j) key a b p q in omega (arith, later)))
  where
    apart : (j : ℕ) (x : Key × Entry) → slice_get entries j ≡ Some x → (b : Bool) → key_eq e.0 x.0 ≡ b → key_eq e.0 x.0 ≡ false
    apart j x at false is = is
    apart j x at true is =
        let same : e.0 ≡ x.0 = key_eq-true e.0 x.0 is in
        let first : 0 ≡ suc j = once 0 (suc j) x.0 e.1 x.1 (λ i. Some (same i, e.1)) at in
        absurd (omega (arith, first))

-- entries that are placed
once-placed : (places : List (Key × ℕ)) (entries : Entries) → ArePlaced places entries → AreOnce entries
once-placed places entries placed i j key a b p q = grind (arith)

-- ---- those that are live

still-nowhere : (key : Key) (entries : Entries) → IsNowhere key (keys_of entries) → IsNowhere key (keys_of (filter is_live entries))
still-nowhere key [] apart = tt
still-nowhere key (e ∷ entries) apart = grind (arith, still-nowhere key entries apart.1) steps 800000

live-distinct : (entries : Entries) → IsDistinct key_eq (keys_of entries) → IsDistinct key_eq (keys_of (filter is_live entries))
unfolding IsDistinct
live-distinct [] apart = tt
live-distinct (e ∷ entries) apart = by (is_live e) (live-distinct entries apart.1)
  where
    by : (b : Bool) → IsDistinct key_eq (keys_of (filter is_live entries)) → IsDistinct key_eq (keys_of (cond b (e ∷ filter is_live entries) (filter is_live entries)))
    by true rest = (still-nowhere e.0 entries apart.0, rest)
    by false rest = rest

is-nowhere : (key : Key) (keys : List Key) → IsNowhere key keys → list_any (key_eq key) keys ≡ false
is-nowhere key [] apart = refl
is-nowhere key (k ∷ keys) apart = (λ i. apart.0 i || is-nowhere key keys apart.1 i)

live-members : (entries : Entries) → IsDistinct key_eq (keys_of entries) → (key : Key) → list_any (key_eq key) (keys_of (filter is_live entries)) ≡ is_some (live_of (entry_at entries key))
unfolding IsDistinct
live-members [] apart key = refl
live-members (e ∷ entries) apart key = by (live-members entries apart.1 key) (is_live e) refl (key_eq e.0 key) refl
  where
    by : list_any (key_eq key) (keys_of (filter is_live entries)) ≡ is_some (live_of (entry_at entries key)) → (b : Bool) → is_live e ≡ b → (c : Bool) → key_eq e.0 key ≡ c
        → list_any (key_eq key) (keys_of (cond b (e ∷ filter is_live entries) (filter is_live entries))) ≡ is_some (live_of (unwrap_or (cond c (Some e.1) (lookup_key entries key)) blank))
    by rest true live true same = ap (λ (b : Bool). b || list_any (key_eq key) (keys_of (filter is_live entries))) (key_eq-swap key e.0 ∙ same) ∙ sym live
    by rest true live false same = ap (λ (b : Bool). b || list_any (key_eq key) (keys_of (filter is_live entries))) (key_eq-swap key e.0 ∙ same) ∙ rest
    by rest false live true same =
        ap (λ (k : Key). list_any (key_eq k) (keys_of (filter is_live entries))) (sym (key_eq-true e.0 key same))
        ∙ is-nowhere e.0 (keys_of (filter is_live entries)) (still-nowhere e.0 entries apart.0)
        ∙ sym live
    by rest false live false same = rest

-- their number is the length of any list that has each of their keys once
pub live-counted : (places : List (Key × ℕ)) (entries : Entries) → ArePlaced places entries → (keys : List Key) → AreLive keys entries → live_number entries ≡ length keys
live-counted places entries placed keys live =
    let apart : IsDistinct key_eq (keys_of entries) = distinct entries (once-placed places entries placed) in
    sym (length-filter is_live entries)
    ∙ sym (length-map (filter is_live entries) (λ (e : Key × Entry). e.0))
    ∙ sym (length-from_same_keys laws keys (keys_of (filter is_live entries)) live.once (live-distinct entries apart) (λ key. live.same key ∙ sym (live-members entries apart key)))

-- ---- their number once the entries are changed

abbrev one-if : Bool → ℕ
one-if b = cond b 1 0

-- one entry becomes another
live-set : (entries : Entries) (place : ℕ) (x y : Key × Entry) → slice_get entries place ≡ Some x → live_number (set entries place y) + one-if (is_live x) ≡ live_number entries + one-if (is_live y)
live-set entries place x y at =
    ap (λ (e : Key × Entry). live_number (set entries place y) + one-if (is_live e)) (sym (get_or_from_slice_get entries place x y at))
    ∙ sum_by-set (λ (e : Key × Entry). one-if (is_live e)) entries place y y (slice_get_within entries place x at)

-- each of them counts
live-some : (entries : Entries) (place : ℕ) (x : Key × Entry) → place < length entries → x ≡ get_or entries place x → one-if (is_live x) ≤ live_number entries
live-some entries place x lt read = subst (λ (e : Key × Entry). one-if (is_live e) ≤ live_number entries) (sym read) (get_or-le-sum_by (λ (e : Key × Entry). one-if (is_live e)) entries place x lt)

-- what it is then, if one that is live or not becomes one that is so or not
pub live-changed : (live before after : ℕ) (entries : Entries) (place : ℕ) (x y : Key × Entry) → live ≡ live_number entries → slice_get entries place ≡ Some x → before ≡ one-if (is_live x) → after ≡ one-if (is_live y)
    → (before ≤ live) × (live - before + after ≡ live_number (set entries place y))
live-changed live before after entries place x y is at was will =
    let some = live-some entries place x (slice_get_within entries place x at) (sym (get_or_from_slice_get entries place x x at)) in
    let sets = live-set entries place x y at in
    (omega (arith, is, was, some), omega (arith, is, was, will, some, sets))

pub live-same : (live : ℕ) (entries : Entries) (place : ℕ) (x y : Key × Entry) → live ≡ live_number entries → slice_get entries place ≡ Some x → is_live x ≡ is_live y → live ≡ live_number (set entries place y)
live-same live entries place x y is at same = omega (arith, is, live-set entries place x y at, ap (λ (b : Bool). one-if b) same)

-- if a blank one comes behind them
pub live-blank : (live : ℕ) (entries more : Entries) (key : Key) (entry : Entry) → live ≡ live_number entries → entry ≡ blank → more ≡ entries ++ (key, entry) ∷ [] → live ≡ live_number more
live-blank live entries more key entry is none added =
    let none' : one-if (is_live (key, entry)) ≡ 0 = ap (λ (e : Entry). one-if (is_some (live_of e))) none in
    omega (arith, is, ap live_number added, sum_by_push (λ (e : Key × Entry). one-if (is_live e)) entries (key, entry), none')

-- if one is taken out
pub live-less : (live gone : ℕ) (entries left : Entries) (place : ℕ) (x : Key × Entry) → live ≡ live_number entries → place < length entries → x ≡ get_or entries place x → left ≡ swap_remove entries place x → gone ≡ one-if (is_live x)
    → (gone ≤ live) × (live - gone ≡ live_number left)
live-less live gone entries left place x is lt read out was =
    let some = live-some entries place x lt read in
    let sum = (λ i. live_number (out i) + one-if (is_live (read i))) ∙ sum_by-swap_remove (λ (e : Key × Entry). one-if (is_live e)) entries place x lt in
    (omega (arith, is, was, some), omega (arith, is, was, some, sum))

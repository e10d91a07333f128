-- Drawn commits in the order of their timestamps.
use Rattle.std.proofs.Common.{◌≡◌, ◌≢◌, ℕ, zero, suc, ◌+◌, ◌-◌, ◌<◌, ◌≤◌, Bool, true, false, cond, ◌&&◌, nat_eq, nat_le, nat_lt, List, [], ◌∷◌, ◌++◌, map, filter, length, set, get_or, Option, Some, None, refl, sym, ◌∙◌, ap, subst, arith}
use Rattle.std.specs.List.{list_all, slice_get}
use Rattle.std.specs.List.Sorted.{IsNonDecreasingBy, IsPartitionPoint}
use Rattle.std.proofs.lemmas.Bool.{and_parts, and_from, ltb-true, eq-eqb, ne_eqb}
use Rattle.std.proofs.lemmas.Bool.Decides.{nat_tests}
use Rattle.std.proofs.lemmas.List.Sums.{position_or_len_is}
use Rattle.std.proofs.lemmas.Option.{slice_get_within, get_or_from_slice_get}
use Rattle.base.specs.Records.{are_rising}
use Rattle.base.proofs.Lists.{all-filter, rising-rest}
use Rattle.txn.specs.declared.drawn.DrawnCommit.{DrawnCommit}
use Rattle.txn.specs.DrawnCommits.{are_below, are_in_order, drawn_at, place_of, with_stamp}

-- their timestamps are above this one
abbrev pub are_later : ℕ → List DrawnCommit → Bool
are_later t ds = list_all (λ d. nat_lt t d.timestamp) ds

later_than : (t u : ℕ) (ds : List DrawnCommit) → t ≤ u → are_later u ds ≡ true → are_later t ds ≡ true
later_than t u [] le all = refl
later_than t u (d ∷ ds) le all = grind (arith, later_than t u ds le)

pub later : (d : DrawnCommit) (ds : List DrawnCommit) → are_in_order (d ∷ ds) ≡ true → are_later d.timestamp ds ≡ true
later d [] o = refl
later d (e ∷ ds) o = grind (arith, later_than, later e ds)

pub rest : (d : DrawnCommit) (ds : List DrawnCommit) → are_in_order (d ∷ ds) ≡ true → are_in_order ds ≡ true
rest d ds o = rising-rest d.timestamp (map (λ d. d.timestamp) ds) o

with_first : (d : DrawnCommit) (ds : List DrawnCommit) → are_later d.timestamp ds ≡ true → are_in_order ds ≡ true → are_in_order (d ∷ ds) ≡ true
with_first d [] all o = refl
with_first d (e ∷ ds) all o = and_from (nat_lt d.timestamp e.timestamp) (are_in_order (e ∷ ds)) (and_parts (nat_lt d.timestamp e.timestamp) (are_later d.timestamp ds) all).0 o

-- ---- what keeps the order

-- a commit above all comes last
pub order-pushed : (new : DrawnCommit) (ds : List DrawnCommit) → are_in_order ds ≡ true → are_below new.timestamp ds ≡ true → are_in_order (ds ++ new ∷ []) ≡ true
order-pushed new [] o below = refl
order-pushed new (d ∷ ds) o below =
    let both = and_parts (nat_lt d.timestamp new.timestamp) (are_below new.timestamp ds) below in
    with_first d (ds ++ new ∷ []) (more d.timestamp both.0 ds (later d ds o)) (order-pushed new ds (rest d ds o) both.1)
  where
    more : (t : ℕ) → nat_lt t new.timestamp ≡ true → (es : List DrawnCommit) → are_later t es ≡ true → are_later t (es ++ new ∷ []) ≡ true
    more t above [] all = and_from (nat_lt t new.timestamp) true above refl
    more t above (e ∷ es) all = let both = and_parts (nat_lt t e.timestamp) (are_later t es) all in and_from (nat_lt t e.timestamp) (are_later t (es ++ new ∷ [])) both.0 (more t above es both.1)

pub order-filtered : (p : DrawnCommit → Bool) (ds : List DrawnCommit) → are_in_order ds ≡ true → are_in_order (filter p ds) ≡ true
order-filtered p [] o = refl
order-filtered p (d ∷ ds) o = grind (arith, order-filtered p ds (rest d ds o), with_first, all-filter, later)

same_timestamp : (t : ℕ) (d : DrawnCommit) → (with_stamp t d).timestamp ≡ d.timestamp
same_timestamp t d = grind (arith) steps 800000

same_timestamps : (t : ℕ) (ds : List DrawnCommit) → map (λ (d : DrawnCommit). d.timestamp) (map (with_stamp t) ds) ≡ map (λ (d : DrawnCommit). d.timestamp) ds
same_timestamps t [] = refl
same_timestamps t (d ∷ ds) = λ i. same_timestamp t d i ∷ same_timestamps t ds i

pub order-stamped : (t : ℕ) (ds : List DrawnCommit) → are_in_order ds ≡ true → are_in_order (map (with_stamp t) ds) ≡ true
order-stamped t ds o = ap (λ (ts : List ℕ). are_rising ts) (same_timestamps t ds) ∙ o

-- ---- a commit is at its place

at_step : (t : ℕ) (d : DrawnCommit) (ds : List DrawnCommit) → place_of t (d ∷ ds) ≡ cond (nat_le t d.timestamp) 0 (suc (place_of t ds))
at_step t d ds = grind (arith) steps 800000

none_later : (t : ℕ) (ds : List DrawnCommit) → are_later t ds ≡ true → drawn_at t ds ≡ None
none_later t [] all = refl
none_later t (d ∷ ds) all = grind (arith, none_later t ds)

pub found-at : (t : ℕ) (ds : List DrawnCommit) (d : DrawnCommit) → slice_get ds (place_of t ds) ≡ Some d → d.timestamp ≡ t → drawn_at t ds ≡ Some d
found-at t [] d at is = absurd (cc at)
found-at t (e ∷ ds) d at is =
    subst (λ (n : ℕ). slice_get (e ∷ ds) n ≡ Some d → drawn_at t (e ∷ ds) ≡ Some d) (sym (at_step t e ds)) (by (nat_le t e.timestamp) refl (λ at. found-at t ds d at is)) at
  where
    by : (b : Bool) → nat_le t e.timestamp ≡ b → (slice_get ds (place_of t ds) ≡ Some d → drawn_at t ds ≡ Some d) → slice_get (e ∷ ds) (cond b 0 (suc (place_of t ds))) ≡ Some d → cond (nat_eq e.timestamp t) (Some e) (drawn_at t ds) ≡ Some d
    by true le further at =
        let this : e ≡ d = cc at in
        ap (λ (b : Bool). cond b (Some e) (drawn_at t ds)) (eq-eqb e.timestamp t (ap (λ (x : DrawnCommit). x.timestamp) this ∙ is)) ∙ ap (λ (x : DrawnCommit). Some x) this
    by false le further at =
        let apart : nat_eq e.timestamp t ≡ false = grind (arith, nat_tests) in
        ap (λ (b : Bool). cond b (Some e) (drawn_at t ds)) apart ∙ further at

pub not-found : (t : ℕ) (ds : List DrawnCommit) → are_in_order ds ≡ true → ((d : DrawnCommit) → slice_get ds (place_of t ds) ≡ Some d → nat_eq d.timestamp t ≡ false) → drawn_at t ds ≡ None
not-found t [] o apart = refl
not-found t (e ∷ ds) o apart = grind (arith, not-found t ds (rest e ds o), nat_tests, none_later, later_than, later)

-- the commit at the place has another timestamp
pub apart-there : (t : ℕ) (o : Option DrawnCommit) (e d : DrawnCommit) → o ≡ Some e → e.timestamp ≢ t → o ≡ Some d → nat_eq d.timestamp t ≡ false
apart-there t o e d is apart at = let this : d ≡ e = cc (is, at) in ne_eqb d.timestamp t (λ same. apart (ap (λ (x : DrawnCommit). x.timestamp) (sym this) ∙ same))

-- ---- and stamped there

unstamped : (t : ℕ) (d : DrawnCommit) → nat_eq d.timestamp t ≡ false → with_stamp t d ≡ d
unstamped t d is = ap (λ (b : Bool). cond (b && nat_lt d.stamped (length d.writes)) (record d { stamped = d.stamped + 1 }) d) is

unstamped_later : (t : ℕ) (ds : List DrawnCommit) → are_later t ds ≡ true → map (with_stamp t) ds ≡ ds
unstamped_later t [] all = refl
unstamped_later t (d ∷ ds) all = grind (arith, unstamped_later t ds)

pub stamped-at : (t : ℕ) (ds : List DrawnCommit) (d : DrawnCommit) → are_in_order ds ≡ true → place_of t ds < length ds → map (with_stamp t) ds ≡ set ds (place_of t ds) (with_stamp t (get_or ds (place_of t ds) d))
stamped-at t [] d o lt = absurd (omega (arith, lt))
stamped-at t (e ∷ ds) d o lt = grind (arith, at_step t e ds, stamped-at t ds d (rest e ds o), unstamped_later, later_than, later e ds o)

pub stamped-nowhere : (t : ℕ) (ds : List DrawnCommit) → length ds ≤ place_of t ds → map (with_stamp t) ds ≡ ds
stamped-nowhere t [] le = refl
stamped-nowhere t (e ∷ ds) le = grind (arith, nat_tests, at_step, unstamped, stamped-nowhere t ds) steps 800000

-- ---- where a search ends

later_at : (t : ℕ) (ds : List DrawnCommit) → are_later t ds ≡ true → (j : ℕ) (d : DrawnCommit) → j < length ds → t < (get_or ds j d).timestamp
later_at t [] all j d lt = absurd (omega (arith, lt))
later_at t (e ∷ ds) all zero d lt = ltb-true t e.timestamp (and_parts (nat_lt t e.timestamp) (are_later t ds) all).0
later_at t (e ∷ ds) all (suc j) d lt = later_at t ds (and_parts (nat_lt t e.timestamp) (are_later t ds) all).1 j d (omega (arith, lt))

apart_pair : (ds : List DrawnCommit) → are_in_order ds ≡ true → (i j : ℕ) (d : DrawnCommit) → i < j → j < length ds → (get_or ds i d).timestamp < (get_or ds j d).timestamp
apart_pair [] o i j d below lt = absurd (omega (arith, lt))
apart_pair (e ∷ ds) o i zero d below lt = absurd (omega (arith, below))
apart_pair (e ∷ ds) o zero (suc j) d below lt = later_at e.timestamp ds (later e ds o) j d (omega (arith, lt))
apart_pair (e ∷ ds) o (suc i) (suc j) d below lt = apart_pair ds (rest e ds o) i j d (omega (arith, below)) (omega (arith, lt))

pub rising : (ds : List DrawnCommit) → are_in_order ds ≡ true → IsNonDecreasingBy (λ (d : DrawnCommit). d.timestamp) ds
rising ds o i j d le lt = grind (arith, nat_tests, apart_pair) steps 800000

-- where a search by halving ends
pub halved : (t : ℕ) (ds : List DrawnCommit) (at : ℕ) (none : DrawnCommit) → at ≤ length ds → IsPartitionPoint (λ (d : DrawnCommit). nat_lt d.timestamp t ≡ true) (λ (d : DrawnCommit). nat_lt d.timestamp t ≡ false) ds at → at ≡ place_of t ds
halved t ds at none le point =
    sym (position_or_len_is (λ (d : DrawnCommit). nat_le t d.timestamp) ds at none le
    (λ k lt. below (get_or ds k none).timestamp (point.0 k none (omega arith) lt))
    (λ lt. above (get_or ds at none).timestamp (point.1 at none (omega arith) lt)))
  where
    below : (u : ℕ) → nat_lt u t ≡ true → nat_le t u ≡ false
    below u is = grind (arith, nat_tests)

    above : (u : ℕ) → nat_lt u t ≡ false → nat_le t u ≡ true
    above u is = grind (arith, nat_tests)

-- and that of the last
pub last-place : (t : ℕ) (ds : List DrawnCommit) (last : DrawnCommit) → are_in_order ds ≡ true → slice_get ds (length ds - 1) ≡ Some last → last.timestamp ≡ t → length ds - 1 ≡ place_of t ds
last-place t ds last o at is =
    let within = slice_get_within ds (length ds - 1) last at in
    let there : (get_or ds (length ds - 1) last).timestamp ≡ t = ap (λ (d : DrawnCommit). d.timestamp) (get_or_from_slice_get ds (length ds - 1) last last at) ∙ is in
    sym (position_or_len_is (λ (d : DrawnCommit). nat_le t d.timestamp) ds (length ds - 1) last (omega arith)
    (λ k lt. let less : (get_or ds k last).timestamp < (get_or ds (length ds - 1) last).timestamp = apart_pair ds o k (length ds - 1) last lt within in below (get_or ds k last).timestamp (omega (arith, less, there)))
    (λ lt. reaches (get_or ds (length ds - 1) last).timestamp there))
  where
    below : (u : ℕ) → u < t → nat_le t u ≡ false
    below u lt = grind (arith, nat_tests)

    reaches : (u : ℕ) → u ≡ t → nat_le t u ≡ true
    reaches u is = grind (arith, nat_tests)

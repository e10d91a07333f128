-- Tables of the sessions that touch each line: what a change makes of them, and what a walk over them meets.
use Rattle.std.proofs.Common.{◌≡◌, inl, inr, ℕ, zero, suc, ◌+◌, ◌<◌, ◌≤◌, Bool, true, false, cond, ◌&&◌, not, nat_eq, nat_le, List, ◌∷◌, length, get_or, set, length-set, refl, sym, ◌∙◌, ap, arith}
use Rattle.std.specs.Prelude.{Option, Some, None, IfSome, IfNone}
use Rattle.std.specs.List.{list_any, filter, find, range_with_len}
use Rattle.std.proofs.lemmas.Bool.{cases_eq, cases_lt, and_parts, eqb-true, eqb-false, eq-eqb}
use Rattle.std.proofs.lemmas.Bool.Decides.{nat_tests}
use Rattle.std.proofs.lemmas.List.{get_or_past, get_or_default, get_or-set_other}
use Rattle.std.proofs.lemmas.List.Folds.{list_any_at}
use Rattle.std.proofs.lemmas.List.FromFn.{length-range_with_len, get_or-range_with_len}
use Rattle.std.proofs.lemmas.Map.Views.{any-filter_same}
use Rattle.std.proofs.lemmas.Grind.{get_or-set_at}
use Rattle.std.specs.Int.Bits.{and_zero_r}
use Rattle.base.specs.Records.{are_rising}
use Rattle.dirty_table.specs.declared.sessions.SessionSet.{SessionSet}
use Rattle.number_set.specs.Numbers.{has as is_in, IsFirstFrom, IsNoneFrom}
use Rattle.dirty_table.specs.Touches.{has, meets, sessions_at, is_touched, lines_touched, Forgets, IsUntouchedFrom, IsNextTouched, IsNoted}
use Rattle.dirty_table.proofs.Sets.{meets-apart}

and-true : (x : Bool) → (x && true) ≡ x
and-true a = grind (arith)

-- ---- one line

pub read-at : (table : List SessionSet) (line : ℕ) (sessions : SessionSet) → line < length table → sessions ≡ get_or table line sessions → sessions ≡ sessions_at table line
read-at table line sessions lt is = is ∙ get_or_default table line sessions (record { bits = 0 }) lt

pub at-set : (table : List SessionSet) (line n k : ℕ) (sessions : SessionSet) → line < length table → is_touched (set table line sessions) n k ≡ cond (nat_eq k line) (has sessions n) (is_touched table n k)
at-set table line n k sessions lt = grind (arith, get_or-set_at, eqb-true, get_or-set_other, eqb-false) steps 800000

module _ (table : List SessionSet) (line : ℕ) (gone sessions : SessionSet) (lt : line < length table) (without : (n : ℕ) → has sessions n ≡ (is_touched table n line && not (has gone n))) where
  -- some sessions don't touch the line any more
  forgot-line : (n k : ℕ) → is_touched (set table line sessions) n k ≡ (is_touched table n k && not (nat_eq k line && has gone n))
  forgot-line n k = grind (arith, at-set, eqb-true, and-true) steps 800000

  still : (n k : ℕ) → is_touched (set table line sessions) n k ≡ true → is_touched table n k ≡ true
  still n k there = (and_parts (is_touched table n k) (not (nat_eq k line && has gone n)) (sym (forgot-line n k) ∙ there)).0

  pub noted-still : (noted : List Bool) → IsNoted table noted → IsNoted (set table line sessions) noted
  noted-still noted old = record {
    each = λ n k there. old.each n k (still n k there);
    size = omega (arith, old.size, length-set table line sessions);
    few = omega (arith, old.few, length-set table line sessions);
  }

-- ---- the next line that may be touched

module _ (table : List SessionSet) (noted : List Bool) (is : IsNoted table noted) where
  unnoted : (n line : ℕ) → is_in noted line ≡ false → is_touched table n line ≡ false
  unnoted n line none = grind (arith) steps 800000

  noted-within : (line : ℕ) → is_in noted line ≡ true → line < length table
  noted-within line here = elim (cases_lt line (length table)) [
    | inl below ↦ below
    | inr past ↦ absurd (cc (sym here ∙ get_or_past noted line false (omega (arith, past, is.size))))
  ]

  pub next-some : (from : ℕ) (r : Option ℕ) → IfSome r (IsFirstFrom noted from) → IfSome r (IsNextTouched table from)
  next-some from None first = tt
  next-some from (Some line) first = record {
    low = first.above;
    within = noted-within line first.here;
    small = let below = noted-within line first.here in omega (arith, below, is.few);
    before = λ k ge lt n. unnoted n k (first.before k ge lt);
  }

  pub next-none : (from : ℕ) (r : Option ℕ) → IfNone r (IsNoneFrom noted from) → IfNone r (IsUntouchedFrom table from)
  next-none from a clear = grind (arith)

-- ---- all lines of some sessions are forgotten

-- up to the line
pub record Forgot (sessions : SessionSet) (old now : List SessionSet) (from : ℕ) : Type 0 where
  pub below : (n k : ℕ) → k < from → is_touched now n k ≡ (is_touched old n k && not (has sessions n))
  pub rest : (n k : ℕ) → from ≤ k → is_touched now n k ≡ is_touched old n k
  pub size : length now ≡ length old

pub forgot-none : (sessions : SessionSet) (table : List SessionSet) → Forgot sessions table table 0
forgot-none sessions table = record { below = λ n k lt. absurd (omega (arith, lt)); rest = λ n k ge. refl; size = refl }

module _ (sessions : SessionSet) (old now : List SessionSet) (from : ℕ) (forgot : Forgot sessions old now from) where
  neither : (n k : ℕ) → from ≤ k → is_touched now n k ≡ false → is_touched now n k ≡ (is_touched old n k && not (has sessions n))
  neither n k ge none = none ∙ ap (λ (b : Bool). b && not (has sessions n)) (sym none ∙ forgot.rest n k ge)

  pub forgot-on : (line : ℕ) (after : List SessionSet) → IsNextTouched now from line → ((n k : ℕ) → is_touched after n k ≡ (is_touched now n k && not (nat_eq k line && has sessions n))) → length after ≡ length now → Forgot sessions old after (line + 1)
  forgot-on line after next is size = grind (arith, eqb-true, eqb-false, cases_lt, neither)

  pub forgot-all : IsUntouchedFrom now from → Forgets sessions old now
  forgot-all none = grind (arith)

-- ---- the lines of some sessions

module _ (p : ℕ → Bool) where
  under : (from l : ℕ) → l < from → nat_le from l ≡ false
  under from l lt = grind (arith, nat_tests)

  find-passing : (from line n a : ℕ) → a ≤ line → line < a + n → from ≤ line → p line ≡ true → ((k : ℕ) → from ≤ k → k < line → p k ≡ false) → find (nat_le from) (filter p (range_with_len a n)) ≡ Some line
  find-passing from line zero a le lt low here before = absurd (omega (arith, le, lt))
  find-passing from line (suc n) a le lt low here before = grind (arith, find-passing from line n (a + 1))

  find-none : (from n a : ℕ) → ((k : ℕ) → from ≤ k → p k ≡ false) → find (nat_le from) (filter p (range_with_len a n)) ≡ None
  find-none from zero a none = refl
  find-none from (suc n) a none = grind (arith, cases_lt, under, find-none from n (a + 1) none) steps 800000

  rising-after : (low n a : ℕ) → low < a → are_rising (low ∷ filter p (range_with_len a n)) ≡ true
  rising-after low zero a lt = refl
  rising-after low (suc n) a lt = grind (arith, rising-after a n (a + 1))

  rising-passing : (n a : ℕ) → are_rising (filter p (range_with_len a n)) ≡ true
  rising-passing zero a = refl
  rising-passing (suc n) a = grind (arith, rising-after, rising-passing n (a + 1)) steps 800000

-- the lines that sessions touch rise, and each is there once
pub lines_touched-rising : (which : SessionSet) (table : List SessionSet) → are_rising (lines_touched which table) ≡ true
lines_touched-rising which table = rising-passing (λ line. meets which (sessions_at table line)) (length table) 0

past-table : (which : SessionSet) (table : List SessionSet) (line : ℕ) → length table ≤ line → meets which (sessions_at table line) ≡ false
past-table which table line past = ap (λ (s : SessionSet). meets which s) (get_or_past table line (record { bits = 0 }) past) ∙ ap (λ (w : ℕ). not (nat_eq w 0)) (and_zero_r which.bits)

-- a line is one of them if one of the sessions touches it
pub lines_touched-member : (which : SessionSet) (table : List SessionSet) (line : ℕ) → list_any (λ x. nat_eq x line) (lines_touched which table) ≡ meets which (sessions_at table line)
lines_touched-member which table line =
    any-filter_same (λ (x : ℕ). nat_eq x line) test (test line) (λ k is. ap test (eqb-true k line is)) (range_with_len 0 (length table))
    ∙ elim (cases_lt line (length table)) [
      | inl lt ↦
          let here : nat_eq (get_or (range_with_len 0 (length table)) line 0) line ≡ true = eq-eqb (get_or (range_with_len 0 (length table)) line 0) line (get_or-range_with_len 0 (length table) line 0 lt ∙ nothing-more line) in
          ap (λ (b : Bool). test line && b) (list_any_at (λ (x : ℕ). nat_eq x line) (range_with_len 0 (length table)) line 0 (omega (arith, lt, length-range_with_len 0 (length table))) here) ∙ and-true (test line)
      | inr ge ↦ ap (λ (b : Bool). b && list_any (λ x. nat_eq x line) (range_with_len 0 (length table))) (past-table which table line ge) ∙ sym (past-table which table line ge)
    ]
  where
    test : ℕ → Bool
    test l = meets which (sessions_at table l)

    nothing-more : (x : ℕ) → 0 + x ≡ x
    nothing-more x = omega arith

-- ---- the walk over them

-- none of the lines before is one of the sessions'
pub record Walks (sessions : SessionSet) (table : List SessionSet) (from low : ℕ) : Type 0 where
  pub above : from ≤ low
  pub none : (k : ℕ) → from ≤ k → k < low → meets sessions (sessions_at table k) ≡ false

module _ (sessions : SessionSet) (table : List SessionSet) (from low : ℕ) (walks : Walks sessions table from low) where
  nobody : (line : ℕ) → ((n : ℕ) → is_touched table n line ≡ false) → meets sessions (sessions_at table line) ≡ false
  nobody line none = meets-apart sessions (sessions_at table line) (λ n here. none n)

  before : (line : ℕ) → IsNextTouched table low line → (k : ℕ) → from ≤ k → k < line → meets sessions (sessions_at table k) ≡ false
  before line next k ge lt = elim (cases_lt k low) [ inl earlier ↦ walks.none k ge earlier | inr later ↦ nobody k (next.before k later lt) ]

  pub walks-found : (line : ℕ) → IsNextTouched table low line → meets sessions (sessions_at table line) ≡ true → Some line ≡ find (nat_le from) (lines_touched sessions table)
  walks-found line next here =
      sym (find-passing (λ line. meets sessions (sessions_at table line)) from line (length table) 0 (omega arith) (omega (arith, next.within)) (omega (arith, walks.above, next.low)) here (before line next))

  pub walks-on : (line : ℕ) → IsNextTouched table low line → meets sessions (sessions_at table line) ≡ false → Walks sessions table from (line + 1)
  walks-on line next apart = grind (arith, cases_eq, before) steps 800000

  pub walks-past : IsUntouchedFrom table low → None ≡ find (nat_le from) (lines_touched sessions table)
  walks-past none =
      sym (find-none (λ line. meets sessions (sessions_at table line)) from (length table) 0 (λ k ge. elim (cases_lt k low) [ inl earlier ↦ walks.none k ge earlier | inr later ↦ nobody k (none k later) ]))

-- The lines that commits touch rise, and are those that one of the commits touches.
use Rattle.std.proofs.Common.{◌≡◌, ℕ, zero, suc, ◌+◌, ◌/◌, ◌<◌, ◌≤◌, Bool, true, false, cond, ◌&&◌, ◌||◌, List, [], ◌∷◌, ◌++◌, map, refl, sym, ◌∙◌, ap, subst, arith, true≢false}
use Rattle.std.specs.Prelude.{Option, Some, None, nat_eq, nat_lt, nat_le}
use Rattle.std.specs.List.{list_any, list_all, range_with_len, flat_map}
use Rattle.std.proofs.lemmas.Bool.{and_from, eq-eqb, leb-true, ltb-true, le-leb, lt-ltb, or_left, cases_eq}
use Rattle.std.proofs.lemmas.List.Folds.{list_all-append, list_any-append}
use Rattle.std.proofs.Math.Bool.{or-false}
use Rattle.std.proofs.lemmas.Bool.Decides.{nat_tests}
use Rattle.base.specs.Commits.{Commit, writes_key}
use Rattle.base.specs.Layout.{Layout, slot_start, total_words, version_lines}
use Rattle.machine.specs.Machine.{State, Version}
use Rattle.base.specs.Records.{are_rising}
use Rattle.base.proofs.Layouts.{slot_whole, some_lines}
use Rattle.base.proofs.Lists.{any-same, any-never, any-or, rising-rest}
use Rattle.state_invariant.proofs.Lists.{rising-above, all-weaken}
use Rattle.device_invariant.specs.Log.{Line, line_at, line_number, lines_at, is_last_on, is_own, is_ended}
use Rattle.simulation.specs.cycles.Batches.{line_numbers, is_line_of}
use Rattle.simulation.specs.cycles.Laws.{LinesRise}

-- ---- rising lists

all-above : (x m : ℕ) (ys : List ℕ) → x < m → list_all (nat_le m) ys ≡ true → list_all (nat_lt x) ys ≡ true
all-above x m [] less all = refl
all-above x m (y ∷ ys) less all = grind (arith, all-above x m ys less)

rising-append : (m : ℕ) (xs ys : List ℕ) → are_rising xs ≡ true → are_rising ys ≡ true → list_all (λ x. nat_lt x m) xs ≡ true → list_all (nat_le m) ys ≡ true → are_rising (xs ++ ys) ≡ true
rising-append m [] ys rising_x rising_y below above = rising_y
rising-append m (x ∷ xs) ys rising_x rising_y below above = grind (arith, rising-append m xs ys (rising-rest x xs rising_x) rising_y)

-- the numbers rise from the first bound on, and end below the second
record IsBetween (low high : ℕ) (xs : List ℕ) : Type 0 where
  pub rising : are_rising xs ≡ true
  pub from : list_all (nat_le low) xs ≡ true
  pub to : list_all (λ x. nat_lt x high) xs ≡ true

between-append : (low mid high : ℕ) (xs ys : List ℕ) → low ≤ mid → mid ≤ high → IsBetween low mid xs → IsBetween mid high ys → IsBetween low high (xs ++ ys)
between-append low mid high xs ys le le' a b = grind (arith, rising-append, list_all-append, and_from, all-weaken, le-leb, leb-true, lt-ltb, ltb-true)

between-none : (low high : ℕ) → IsBetween low high []
between-none low high = record { rising = refl; from = refl; to = refl }

between-one : (low high x : ℕ) → low ≤ x → x < high → IsBetween low high (x ∷ [])
between-one low high x le lt = record { rising = refl; from = and_from (nat_le low x) true (le-leb low x le) refl; to = and_from (nat_lt x high) true (lt-ltb x high lt) refl }

-- ---- the lines of slots

map-append : (f : Line → ℕ) (xs ys : List Line) → map f (xs ++ ys) ≡ map f xs ++ map f ys
map-append f [] ys = refl
map-append f (x ∷ xs) ys = ap (λ (zs : List ℕ). f x ∷ zs) (map-append f xs ys)

abbrev start : Layout → ℕ → ℕ
start a slot = slot_start a slot / 8

start-rises : (a : Layout) (s n : ℕ) → start a s ≤ start a (s + n)
start-rises a s n = grind arith

-- the lines of a slot from one on
parts-between : (a : Layout) (slot from n : ℕ) → IsBetween (start a slot + from) (start a slot + from + n) (map (line_number a) (flat_map (λ part. line_at slot part ∷ []) (range_with_len from n)))
parts-between a slot from zero = between-none _ _
parts-between a slot from (suc n) =
    let high : start a slot + (from + 1) + n ≡ start a slot + from + suc n = omega arith in
    let next : start a slot + (from + 1) ≡ start a slot + from + 1 = omega arith in
    between-append (start a slot + from) (start a slot + (from + 1)) (start a slot + from + suc n) ((start a slot + from) ∷ [])
    (map (line_number a) (flat_map (λ part. line_at slot part ∷ []) (range_with_len (from + 1) n))) (omega arith) (omega arith)
    (between-one (start a slot + from) (start a slot + (from + 1)) (start a slot + from) (omega arith) (omega (arith, next)))
    (subst (λ (end : ℕ). IsBetween (start a slot + (from + 1)) end (map (line_number a) (flat_map (λ part. line_at slot part ∷ []) (range_with_len (from + 1) n)))) high (parts-between a slot (from + 1) n))

module _ (q : State) (commits : List Commit) where
  abbrev numbers_at : ℕ → List ℕ
  numbers_at slot = map (line_number q.layout) (lines_at q commits slot)

  slot-between : (slot : ℕ) → IsBetween (start q.layout slot) (start q.layout (slot + 1)) (numbers_at slot)
  slot-between slot = by (is_own commits (q.held slot)) (is_ended q commits (q.held slot))
    where
      next : start q.layout (slot + 1) ≡ start q.layout slot + version_lines q.layout
      next = omega (arith, slot_whole q.layout slot, slot_whole q.layout (slot + 1))

      by : (own ended : Bool)
          → IsBetween (start q.layout slot) (start q.layout (slot + 1)) (map (line_number q.layout) (cond own (flat_map (λ part. line_at slot part ∷ []) (range_with_len 0 (version_lines q.layout))) (cond ended (line_at slot 0 ∷ []) [])))
      by true ended =
          let from : start q.layout slot + 0 ≡ start q.layout slot = omega arith in
          let to : start q.layout slot + 0 + version_lines q.layout ≡ start q.layout (slot + 1) = omega (arith, next) in
          subst (λ (low : ℕ). IsBetween low (start q.layout (slot + 1)) (map (line_number q.layout) (flat_map (λ part. line_at slot part ∷ []) (range_with_len 0 (version_lines q.layout))))) from
          (subst (λ (high : ℕ). IsBetween (start q.layout slot + 0) high (map (line_number q.layout) (flat_map (λ part. line_at slot part ∷ []) (range_with_len 0 (version_lines q.layout))))) to
          (parts-between q.layout slot 0 (version_lines q.layout)))
      by false true = between-one (start q.layout slot) (start q.layout (slot + 1)) (line_number q.layout (line_at slot 0)) (omega arith) (omega (arith, next, (some_lines q.layout.version).0))
      by false false = between-none (start q.layout slot) (start q.layout (slot + 1))

  slots-between : (from n : ℕ) → IsBetween (start q.layout from) (start q.layout (from + n)) (map (line_number q.layout) (flat_map (lines_at q commits) (range_with_len from n)))
  slots-between from zero = between-none _ _
  slots-between from (suc n) =
      let next : from + 1 + n ≡ from + suc n = omega arith in
      subst (λ (end : ℕ). IsBetween (start q.layout from) (start q.layout end) (map (line_number q.layout) (flat_map (lines_at q commits) (range_with_len from (suc n))))) next
      (subst (IsBetween (start q.layout from) (start q.layout (from + 1 + n))) (sym (map-append (line_number q.layout) (lines_at q commits from) (flat_map (lines_at q commits) (range_with_len (from + 1) n))))
      (between-append (start q.layout from) (start q.layout (from + 1)) (start q.layout (from + 1 + n)) (numbers_at from) (map (line_number q.layout) (flat_map (lines_at q commits) (range_with_len (from + 1) n)))
      (start-rises q.layout from 1) (start-rises q.layout (from + 1) n) (slot-between from) (slots-between (from + 1) n)))

  lines-rise : are_rising (line_numbers q commits) ≡ true
  lines-rise = (slots-between 0 q.layout.slots).rising

  -- and each is a line of the device
  pub lines-within : list_all (λ x. nat_lt x (total_words q.layout / 8)) (line_numbers q commits) ≡ true
  lines-within =
      let all : 0 + q.layout.slots ≡ q.layout.slots = omega arith in
      subst (λ (n : ℕ). list_all (λ x. nat_lt x (start q.layout n)) (line_numbers q commits) ≡ true) all (slots-between 0 q.layout.slots).to

-- ---- whose they are

any-and : {X : Type 0} (f : X → Bool) (b : Bool) (xs : List X) → list_any (λ x. f x && b) xs ≡ (list_any f xs && b)
any-and f b [] = refl
any-and f b (x ∷ xs) = grind (arith, any-and f b xs)

any-swap : {X Y : Type 0} (r : X → Y → Bool) (xs : List X) (ys : List Y) → list_any (λ x. list_any (r x) ys) xs ≡ list_any (λ y. list_any (λ x. r x y) xs) ys
any-swap r xs [] = any-never xs
any-swap r xs (y ∷ ys) = any-or (λ x. r x y) (λ x. list_any (r x) ys) xs ∙ ap (λ (b : Bool). list_any (λ x. r x y) xs || b) (any-swap r xs ys)

any-numbers : (q : State) (commits : List Commit) (line : ℕ) (slots : List ℕ) → is_line_of line (map (line_number q.layout) (flat_map (lines_at q commits) slots)) ≡ list_any (λ slot. is_line_of line (map (line_number q.layout) (lines_at q commits slot))) slots
any-numbers q commits line [] = refl
any-numbers q commits line (slot ∷ slots) = grind (arith, any-numbers q commits line slots, map-append, list_any-append)

module _ (q : State) (line : ℕ) where
  abbrev among : List Line → Bool
  among lines = is_line_of line (map (line_number q.layout) lines)

  abbrev all_of : ℕ → List Line
  all_of slot = flat_map (λ part. line_at slot part ∷ []) (range_with_len 0 (version_lines q.layout))

  abbrev first_of : ℕ → List Line
  first_of slot = line_at slot 0 ∷ []

  -- the first is one of all
  first-among : (slot n : ℕ) → 1 ≤ n → among (first_of slot) ≡ true → among (flat_map (λ part. line_at slot part ∷ []) (range_with_len 0 n)) ≡ true
  first-among slot zero some is = absurd (omega (arith, some))
  first-among slot (suc n) some is = or_left (nat_eq (line_number q.layout (line_at slot 0)) line) _ (sym (or-false (nat_eq (line_number q.layout (line_at slot 0)) line)) ∙ is)

  absorb : (a b : Bool) → (b ≡ true → a ≡ true) → a ≡ (a || b)
  absorb true b within = refl
  absorb false true within = within refl
  absorb false false within = refl

  -- either all its lines are touched, or the first alone
  by-kind : (slot : ℕ) (own ended : Bool) → among (cond own (all_of slot) (cond ended (first_of slot) [])) ≡ ((own && among (all_of slot)) || (ended && among (first_of slot)))
  by-kind slot true true = absorb (among (all_of slot)) (among (first_of slot)) (first-among slot (version_lines q.layout) (some_lines q.layout.version).0)
  by-kind slot true false = sym (or-false (among (all_of slot)))
  by-kind slot false true = refl
  by-kind slot false false = refl

  own-any : (commits : List Commit) (v : Option Version) → is_own commits v ≡ list_any (λ c. is_own (c ∷ []) v) commits
  own-any commits a = grind (arith, any-never commits)

  and-swap : (a b : Bool) → (a && b) ≡ (b && a)
  and-swap a b = grind (arith)

  ended-any : (commits : List Commit) (v : Option Version) → is_ended q commits v ≡ list_any (λ c. is_ended q (c ∷ []) v) commits
  ended-any commits None = sym (any-never commits)
  ended-any commits (Some v) =
      let last : Bool = is_last_on q v.key v.writer in
      and-swap last (list_any (writes_key v.key) commits)
      ∙ sym (any-and (writes_key v.key) last commits)
      ∙ any-same (λ c. writes_key v.key c && last) (λ c. last && (writes_key v.key c || false)) commits (λ c. and-swap (writes_key v.key c) last ∙ ap (λ (b : Bool). last && b) (sym (or-false (writes_key v.key c))))

  slot-each : (commits : List Commit) (slot : ℕ) → among (lines_at q commits slot) ≡ list_any (λ c. among (lines_at q (c ∷ []) slot)) commits
  slot-each commits slot =
      let v : Option Version = q.held slot in
      let x : Bool = among (all_of slot) in
      let y : Bool = among (first_of slot) in
      by-kind slot (is_own commits v) (is_ended q commits v)
      ∙ ap (λ (b : Bool). (b && x) || (is_ended q commits v && y)) (own-any commits v)
      ∙ ap (λ (b : Bool). (list_any (λ c. is_own (c ∷ []) v) commits && x) || (b && y)) (ended-any commits v)
      ∙ ap (λ (b : Bool). b || (list_any (λ c. is_ended q (c ∷ []) v) commits && y)) (sym (any-and (λ c. is_own (c ∷ []) v) x commits))
      ∙ ap (λ (b : Bool). list_any (λ c. is_own (c ∷ []) v && x) commits || b) (sym (any-and (λ c. is_ended q (c ∷ []) v) y commits))
      ∙ sym (any-or (λ c. is_own (c ∷ []) v && x) (λ c. is_ended q (c ∷ []) v && y) commits)
      ∙ any-same (λ c. (is_own (c ∷ []) v && x) || (is_ended q (c ∷ []) v && y)) (λ c. among (lines_at q (c ∷ []) slot)) commits (λ c. sym (by-kind slot (is_own (c ∷ []) v) (is_ended q (c ∷ []) v)))

  lines-each : (commits : List Commit) → is_line_of line (line_numbers q commits) ≡ list_any (λ c. is_line_of line (line_numbers q (c ∷ []))) commits
  lines-each commits =
      let slots : List ℕ = range_with_len 0 q.layout.slots in
      any-numbers q commits line slots
      ∙ any-same (λ slot. among (lines_at q commits slot)) (λ slot. list_any (λ c. among (lines_at q (c ∷ []) slot)) commits) slots (slot-each commits)
      ∙ any-swap (λ (slot : ℕ) (c : Commit). among (lines_at q (c ∷ []) slot)) slots commits
      ∙ any-same (λ (c : Commit). list_any (λ slot. among (lines_at q (c ∷ []) slot)) slots) (λ (c : Commit). is_line_of line (line_numbers q (c ∷ []))) commits (λ c. sym (any-numbers q (c ∷ []) line slots))

-- ---- rising lists with the same members

none-below : (x : ℕ) (ys : List ℕ) → list_all (nat_lt x) ys ≡ true → is_line_of x ys ≡ false
none-below x [] all = refl
none-below x (y ∷ ys) all = grind (arith, none-below x ys)

least : (x y : ℕ) (xs ys : List ℕ) → are_rising (y ∷ ys) ≡ true → is_line_of x (y ∷ ys) ≡ true → y ≤ x
least x y xs ys rising is = grind (arith, none-below, rising-above, nat_tests)

first-in : (x : ℕ) (xs : List ℕ) → is_line_of x (x ∷ xs) ≡ true
first-in x xs = or_left (nat_eq x x) (is_line_of x xs) (eq-eqb x x refl)

same-lists : (xs ys : List ℕ) → are_rising xs ≡ true → are_rising ys ≡ true → ((line : ℕ) → is_line_of line xs ≡ is_line_of line ys) → xs ≡ ys
same-lists [] [] rising_x rising_y same = refl
same-lists [] (y ∷ ys) rising_x rising_y same = absurd (true≢false (sym (first-in y ys) ∙ sym (same y)))
same-lists (x ∷ xs) [] rising_x rising_y same = absurd (true≢false (sym (first-in x xs) ∙ same x))
same-lists (x ∷ xs) (y ∷ ys) rising_x rising_y same =
    let high : y ≤ x = least x y xs ys rising_y (sym (same x) ∙ first-in x xs) in
    let low : x ≤ y = least y x ys xs rising_x (same y ∙ first-in y ys) in
    let one : x ≡ y = omega (arith, high, low) in
    ap (λ (n : ℕ). n ∷ xs) one ∙ ap (λ (zs : List ℕ). y ∷ zs) (same-lists xs ys (rising-rest x xs rising_x) (rising-rest y ys rising_y) (rest one))
  where
    rest : x ≡ y → (line : ℕ) → is_line_of line xs ≡ is_line_of line ys
    rest one line = grind (arith, cases_eq x line, none-below x xs (rising-above x xs rising_x), none-below y ys (rising-above y ys rising_y))

pub lines-are_in_order : LinesRise
lines-are_in_order = record { rising = lines-rise; each = λ q commits line. lines-each q line commits; one = same-lists }

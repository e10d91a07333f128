-- The lines that the dirty table has for the sessions of a batch are those that the batch touches.
use Rattle.std.proofs.Common.{◌≡◌, ℕ, suc, Bool, true, false, ◌&&◌, ◌||◌, List, [], ◌∷◌, map, filter, get_or, refl, sym, ◌∙◌, ap, subst, arith}
use Rattle.std.specs.Prelude.{nat_eq, All}
use Rattle.std.specs.List.{list_any}
use Rattle.std.proofs.lemmas.Bool.{or_left, or_right, eqb-true, eq-eqb}
use Rattle.std.proofs.lemmas.List.Elements.{All-filter, All-head, All-tail}
use Rattle.std.proofs.lemmas.List.Folds.{list_any_at}
use Rattle.base.specs.Commits.{Commit}
use Rattle.machine.specs.Machine.{State, drawn_of}
use Rattle.base.specs.Records.{are_rising}
use Rattle.base.proofs.Lists.{any-map}
use Rattle.dirty_table.specs.declared.sessions.SessionSet.{SessionSet}
use Rattle.dirty_table.specs.Touches.{has, is_touched, lines_touched, meets, sessions_at}
use Rattle.dirty_table.proofs.Tables.{lines_touched-member}
use Rattle.dirty_table.proofs.Sets.{meets-at, meets-apart}
use Rattle.simulation.specs.cycles.Batches.{line_numbers, is_line_of}
use Rattle.txn.specs.declared.drawn.DrawnCommit.{DrawnCommit}
use Rattle.txn.proofs.Passed.{filter-map}
use Rattle.session_steps.specs.Shows.{plain_drawn, HoldsLines}
use Rattle.simulation.proofs.cycles.covers.LineOrder.{lines-are_in_order}
use Rattle.session_steps.proofs.Filters.{any-filter}

map-map : {X Y Z : Type 0} (f : X → Y) (g : Y → Z) (xs : List X) → map g (map f xs) ≡ map (λ x. g (f x)) xs
map-map f g [] = refl
map-map f g (x ∷ xs) = ap (λ ys. g (f x) ∷ ys) (map-map f g xs)

-- the commits whose timestamps pass, of the drawn ones
pub passing-commits : (test : ℕ → Bool) (drawn : List DrawnCommit) (q : State) → q.drawn ≡ map plain_drawn drawn
    → filter (λ (c : Commit). test c.timestamp) (drawn_of q) ≡ map (λ (d : DrawnCommit). (plain_drawn d).commit) (filter (λ (d : DrawnCommit). test d.timestamp) drawn)
passing-commits test drawn q is = grind (arith, map-map, filter-map)

any-agree : {X : Type 0} (p r : X → Bool) (xs : List X) → All (λ x. p x ≡ r x) xs → list_any p xs ≡ list_any r xs
any-agree p r [] all = refl
any-agree p r (x ∷ xs) all =
    ap (λ b. b || list_any p xs) (all 0 x (omega arith))
    ∙ ap (λ b. r x || b) (any-agree p r xs (λ k d lt. all (suc k) d (omega (arith, lt))))

-- what passes one test passes the other
some-of : {X : Type 0} (p r : X → Bool) (xs : List X) → list_any p xs ≡ true → ((x : X) → p x ≡ true → r x ≡ true) → list_any r xs ≡ true
some-of p r [] some on = absurd (cc some)
some-of p r (x ∷ xs) some on = grind (arith, some-of p r xs, or_left, or_right)

module _ (q : State) (drawn : List DrawnCommit) (dirty : List SessionSet) (sessions : SessionSet) (test : ℕ → Bool) (is : q.drawn ≡ map plain_drawn drawn) (holds : HoldsLines q drawn dirty)
    (of : (n : ℕ) → has sessions n ≡ list_any (λ d. nat_eq d.session n && test d.timestamp) drawn) where
  abbrev passing : List DrawnCommit
  passing = filter (λ (d : DrawnCommit). test d.timestamp) drawn

  abbrev commits : List Commit
  commits = map (λ (d : DrawnCommit). (plain_drawn d).commit) passing

  own : (n : ℕ) → has sessions n ≡ list_any (λ (d : DrawnCommit). nat_eq d.session n) passing
  own n = of n ∙ any-filter (λ (d : DrawnCommit). nat_eq d.session n) (λ (d : DrawnCommit). test d.timestamp) drawn

  mine : All (λ (d : DrawnCommit). has sessions d.session ≡ true) passing
  mine = λ k d lt. own (get_or passing k d).session ∙ list_any_at (λ (e : DrawnCommit). nat_eq e.session (get_or passing k d).session) passing k d lt (eq-eqb (get_or passing k d).session (get_or passing k d).session refl)

  -- one of the sessions touches the line exactly if one of the commits that pass does
  of-passing : (l : ℕ) → meets sessions (sessions_at dirty l) ≡ list_any (λ (d : DrawnCommit). is_touched dirty d.session l) passing
  of-passing l = by (list_any (λ (d : DrawnCommit). is_touched dirty d.session l) passing) refl
    where
      touching : (ds : List DrawnCommit) → All (λ (d : DrawnCommit). has sessions d.session ≡ true) ds → list_any (λ (d : DrawnCommit). is_touched dirty d.session l) ds ≡ true → meets sessions (sessions_at dirty l) ≡ true
      touching [] all some = absurd (cc some)
      touching (d ∷ ds) all some = which (is_touched dirty d.session l) refl some (touching ds (All-tail (λ (d : DrawnCommit). has sessions d.session ≡ true) d ds all))
        where
          which : (b : Bool) → is_touched dirty d.session l ≡ b → (b || list_any (λ (d : DrawnCommit). is_touched dirty d.session l) ds) ≡ true → (list_any (λ (d : DrawnCommit). is_touched dirty d.session l) ds ≡ true → meets sessions (sessions_at dirty l) ≡ true)
              → meets sessions (sessions_at dirty l) ≡ true
          which true here some rest = meets-at sessions (sessions_at dirty l) d.session (All-head (λ (d : DrawnCommit). has sessions d.session ≡ true) d ds all) here
          which false here some rest = rest some

      nobody : list_any (λ (d : DrawnCommit). is_touched dirty d.session l) passing ≡ false → (n : ℕ) (b : Bool) → is_touched dirty n l ≡ b → has sessions n ≡ true → b ≡ false
      nobody never n false is here = refl
      nobody never n true is here =
          absurd (cc (sym never ∙ some-of (λ (d : DrawnCommit). nat_eq d.session n) (λ (d : DrawnCommit). is_touched dirty d.session l) passing (sym (own n) ∙ here) (λ d same. subst (λ (m : ℕ). is_touched dirty m l ≡ true) (sym (eqb-true d.session n same)) is)))

      by : (b : Bool) → list_any (λ (d : DrawnCommit). is_touched dirty d.session l) passing ≡ b → meets sessions (sessions_at dirty l) ≡ b
      by true some = touching passing mine some
      by false never = meets-apart sessions (sessions_at dirty l) (λ n here. nobody never n (is_touched dirty n l) refl here)

  pub member : (l : ℕ) → list_any (λ x. nat_eq x l) (lines_touched sessions dirty) ≡ list_any (λ x. nat_eq x l) (line_numbers q commits)
  member l =
      lines_touched-member sessions dirty l
      ∙ of-passing l
      ∙ any-agree (λ (d : DrawnCommit). is_touched dirty d.session l) (λ (d : DrawnCommit). is_line_of l (line_numbers q ((plain_drawn d).commit ∷ []))) passing
      (λ k d lt. All-filter (λ (d : DrawnCommit). test d.timestamp) (λ (d : DrawnCommit). (line : ℕ) → is_touched dirty d.session line ≡ list_any (λ l. nat_eq l line) (line_numbers q ((plain_drawn d).commit ∷ []))) drawn holds.own k d lt l)
      ∙ sym (any-map (λ (c : Commit). is_line_of l (line_numbers q (c ∷ []))) (λ (d : DrawnCommit). (plain_drawn d).commit) passing)
      ∙ sym (lines-are_in_order.each q commits l)

  pub table-lines : are_rising (lines_touched sessions dirty) ≡ true → lines_touched sessions dirty ≡ line_numbers q (filter (λ (c : Commit). test c.timestamp) (drawn_of q))
  table-lines rising =
      lines-are_in_order.one (lines_touched sessions dirty) (line_numbers q commits) rising (lines-are_in_order.rising q commits) member
      ∙ ap (line_numbers q) (sym (passing-commits test drawn q is))

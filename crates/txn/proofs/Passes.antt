-- One pass over drawn commits in their order finds how far a record reaches.
use Rattle.std.proofs.Common.{◌≡◌, ℕ, ◌+◌, ◌≤◌, Bool, true, false, cond, not, ◌&&◌, List, [], ◌∷◌, map, filter, fold, refl, ◌∙◌, ap, subst, arith}
use Rattle.std.specs.Prelude.{nat_lt, nat_le, max}
use Rattle.std.proofs.lemmas.Bool.{le-ltb, lt-ltb}
use Rattle.base.specs.Choosing.{Drawn, is_stamped, may_be_covered, reach}
use Rattle.txn.specs.declared.drawn.DrawnCommit.{DrawnCommit}
use Rattle.txn.specs.DrawnCommits.{are_in_order, plain_drawn}
use Rattle.txn.proofs.InOrder.{are_later, later, rest}

-- how far a walk over commits has got: the last timestamp that a record may reach, and how many it would pass over
pub record Walk : Type 0 where
  pub reached : ℕ
  pub unstamped : ℕ

-- one more commit: a record may reach it if it is stamped, and no more before it aren't than may be passed over
abbrev pub walk_on : ℕ → Walk → DrawnCommit → Walk
walk_on most w d =
    cond (is_stamped (plain_drawn d)) (cond (nat_le w.unstamped most) (record w { reached = max w.reached d.timestamp }) w) (record w { unstamped = w.unstamped + 1 })

abbrev pub walk_over : ℕ → ℕ → List DrawnCommit → Walk
walk_over most persisted commits = fold (walk_on most) (record { reached = persisted; unstamped = 0 }) commits

-- how many have timestamps below this one and aren't stamped, plus n
abbrev below : ℕ → ℕ → List DrawnCommit → ℕ
below t n ds = fold (λ (n : ℕ) (d : Drawn). n + cond (nat_lt d.commit.timestamp t && not (is_stamped d)) 1 0) n (map plain_drawn ds)

not-below : (t n : ℕ) (d : DrawnCommit) (ds : List DrawnCommit) → t ≤ d.timestamp → below t n (d ∷ ds) ≡ below t n ds
not-below t n d ds le = ap (λ (b : Bool). below t (n + cond (b && not (is_stamped (plain_drawn d))) 1 0) ds) (le-ltb d.timestamp t le) ∙ ap (λ (m : ℕ). below t m ds) (omega arith)

none-below : (t n : ℕ) (ds : List DrawnCommit) → are_later t ds ≡ true → below t n ds ≡ n
none-below t n [] all = refl
none-below t n (d ∷ ds) all = grind (arith, none-below t n ds)

-- of all commits, n that aren't stamped come before these
abbrev IsLeft : List DrawnCommit → ℕ → List DrawnCommit → Type 0
IsLeft all n [] = Unit {0}
IsLeft all n (d ∷ ds) = (t : ℕ) → d.timestamp ≤ t → below t 0 all ≡ below t n (d ∷ ds)

left-next : (all : List DrawnCommit) (n : ℕ) (d : DrawnCommit) (ds : List DrawnCommit) → are_in_order (d ∷ ds) ≡ true → IsLeft all n (d ∷ ds) → IsLeft all (n + cond (not (is_stamped (plain_drawn d))) 1 0) ds
left-next all n d [] o left = tt
left-next all n d (e ∷ es) o left = grind (arith, lt-ltb)

walk : (most : ℕ) (all : List DrawnCommit) (r n : ℕ) (ds : List DrawnCommit) → are_in_order ds ≡ true → IsLeft all n ds
    → fold max r (map (λ (d : Drawn). d.commit.timestamp) (filter (may_be_covered most (map plain_drawn all)) (map plain_drawn ds))) ≡ (fold (walk_on most) (record { reached = r; unstamped = n }) ds).reached
walk most all r n [] o left = refl
walk most all r n (d ∷ ds) o left =
    ap (λ (m : ℕ). over (is_stamped (plain_drawn d) && nat_le m most)) (left d.timestamp (omega arith) ∙ not-below d.timestamp n d ds (omega arith) ∙ none-below d.timestamp n ds (later d ds o))
    ∙ by (is_stamped (plain_drawn d)) (nat_le n most) (λ r m is. walk most all r m ds (rest d ds o) is) (left-next all n d ds o left)
  where
    over : Bool → ℕ
    over b = fold max r (map (λ (d : Drawn). d.commit.timestamp) (cond b (plain_drawn d ∷ filter (may_be_covered most (map plain_drawn all)) (map plain_drawn ds)) (filter (may_be_covered most (map plain_drawn all)) (map plain_drawn ds))))

    by : (s l : Bool)
        → ((r m : ℕ) → IsLeft all m ds → fold max r (map (λ (d : Drawn). d.commit.timestamp) (filter (may_be_covered most (map plain_drawn all)) (map plain_drawn ds))) ≡ (fold (walk_on most) (record { reached = r; unstamped = m }) ds).reached)
        → IsLeft all (n + cond (not s) 1 0) ds
        → over (s && l) ≡ (fold (walk_on most) (cond s (cond l (record { reached = max r d.timestamp; unstamped = n }) (record { reached = r; unstamped = n })) (record { reached = r; unstamped = n + 1 })) ds).reached
    by true true on left = on (max r d.timestamp) n (subst (λ (m : ℕ). IsLeft all m ds) (omega arith) left)
    by true false on left = on r n (subst (λ (m : ℕ). IsLeft all m ds) (omega arith) left)
    by false l on left = on r (n + 1) left

pub walk-reaches : (most persisted : ℕ) (ds : List DrawnCommit) → are_in_order ds ≡ true → reach most persisted (map plain_drawn ds) ≡ (walk_over most persisted ds).reached
walk-reaches most persisted ds o = grind (arith, walk) steps 800000

-- The rows of a range up to a key, as a beginning of all of them; and those from a key on, as their end.
use Rattle.std.proofs.Common.{◌≡◌, ◌⊎◌, inl, inr, ℕ, ◌+◌, ◌-◌, ◌^◌, ◌<◌, ◌≤◌, Bool, true, false, not, ◌&&◌, cond, List, [], ◌∷◌, ◌++◌, map, take, reverse, length, refl, sym, ◌∙◌, ap, subst, arith}
use Rattle.std.specs.Prelude.{Option, Some, None, min}
use Rattle.std.proofs.lemmas.Bool.{and_parts, not-true, true≢false}
use Rattle.std.proofs.lemmas.Bool.Decides.{nat_tests}
use Rattle.std.proofs.lemmas.List.{take-append-le, reverse-append, length-reverse}
use Rattle.std.proofs.lemmas.Option.{none-some, same_Some}
use Rattle.base.specs.declared.key.Key.{Key}
use Rattle.base.specs.Keys.{key_eq, key_lt, is_rising, is_in_range, lookup_key}
use Rattle.base.specs.Commits.{Tables, Lists, in_range}
use Rattle.base.proofs.Keys.{key_eq-true, key_eq-same, key_lt-trans, key_lt-swap, keys-rest}
use Rattle.machine.proofs.reads.Scans.{one-list, one-listing}
use Rattle.index.specs.Reading.{is_between, ranged}
use Rattle.index.specs.declared.ranges.KeyRange.TheVariants.{Between}
use Rattle.index.proofs.Reaching.{up_to-trans, absent}

abbrev Row : Type 0
Row = Key × List ℕ

abbrev keys : List Row → List Key
keys rows = map (λ row. row.0) rows

rest-rises : (row : Row) (rows : List Row) → is_rising (keys (row ∷ rows)) ≡ true → is_rising (keys rows) ≡ true
rest-rises row rows r = keys-rest row.0 (keys rows) r

-- no row of the same key follows
not-again : (row : Row) (rows : List Row) → is_rising (keys (row ∷ rows)) ≡ true → lookup_key rows row.0 ≡ None
not-again row [] r = refl
not-again row (next ∷ rows) r = absent row.0 next rows (rest-rises row (next ∷ rows) r) (and_parts (key_lt row.0 next.0) (is_rising (keys (next ∷ rows))) r).0

head-found : (row : Row) (rows : List Row) → lookup_key (row ∷ rows) row.0 ≡ Some row.1
head-found row rows = ap (λ (b : Bool). cond b (Some row.1) (lookup_key rows row.0)) (key_eq-same row.0)

abbrev nowhere : Option (List ℕ)
nowhere = None

none-either : (b : Bool) → cond b nowhere nowhere ≡ nowhere
none-either true = refl
none-either false = refl

-- ---- up to a key

-- the page has at each key up to m what the list has
abbrev HasBelow : Key → List Row → List Row → Type 0
HasBelow m page all = (key : Key) → lookup_key page key ≡ cond (key_lt m key) None (lookup_key all key)

module _ (m : Key) (p : Row) (ps : List Row) (a : Row) (bs : List Row) (rp : is_rising (keys (p ∷ ps)) ≡ true) (ra : is_rising (keys (a ∷ bs)) ≡ true) (same : HasBelow m (p ∷ ps) (a ∷ bs)) where
  not-under : key_lt p.0 a.0 ≡ true → ⊥
  not-under less = none-some p.1 (sym (none-either (key_lt m p.0)) ∙ (ap (λ (o : Option (List ℕ)). cond (key_lt m p.0) None o) (sym (absent p.0 a bs ra less)) ∙ (sym (same p.0) ∙ head-found p ps)))

  not-over : key_lt a.0 p.0 ≡ true → ⊥
  not-over less = by (key_lt m a.0) refl
    where
      gone : None ≡ cond (key_lt m a.0) None (Some a.1)
      gone = sym (absent a.0 p ps rp less) ∙ (same a.0 ∙ ap (λ (o : Option (List ℕ)). cond (key_lt m a.0) None o) (head-found a bs))

      by : (b : Bool) → key_lt m a.0 ≡ b → ⊥
      by false is = none-some a.1 (gone ∙ ap (λ (b : Bool). cond b None (Some a.1)) is)
      by true is = none-some p.1 (sym (sym (head-found p ps) ∙ (same p.0 ∙ ap (λ (b : Bool). cond b None (lookup_key (a ∷ bs) p.0)) (key_lt-trans m a.0 p.0 is less))))

  same-key : key_eq p.0 a.0 ≡ true
  same-key = by (key_eq p.0 a.0) refl (key_lt p.0 a.0) refl
    where
      by : (b : Bool) → key_eq p.0 a.0 ≡ b → (l : Bool) → key_lt p.0 a.0 ≡ l → b ≡ true
      by true is l less = refl
      by false is true less = absurd (not-under less)
      by false is false less = absurd (not-over (key_lt-swap p.0 a.0 is less))

  one-key : p.0 ≡ a.0
  one-key = key_eq-true p.0 a.0 same-key

  same-head : p ≡ a
  same-head = by (key_lt m p.0) refl
    where
      told : Some p.1 ≡ cond (key_lt m p.0) None (Some a.1)
      told = sym (head-found p ps) ∙ (same p.0 ∙ ap (λ (o : Option (List ℕ)). cond (key_lt m p.0) None o) (subst (λ (k : Key). lookup_key (a ∷ bs) k ≡ Some a.1) (sym one-key) (head-found a bs)))

      by : (b : Bool) → key_lt m p.0 ≡ b → p ≡ a
      by true is = absurd (none-some p.1 (sym (told ∙ ap (λ (b : Bool). cond b None (Some a.1)) is)))
      by false is = let value : p.1 ≡ a.1 = same_Some p.1 a.1 (told ∙ ap (λ (b : Bool). cond b None (Some a.1)) is) in λ i. (one-key i, value i)

  same-rest : HasBelow m ps bs
  same-rest key = by (key_eq p.0 key) refl
    where
      by : (b : Bool) → key_eq p.0 key ≡ b → lookup_key ps key ≡ cond (key_lt m key) None (lookup_key bs key)
      by true is =
          let at : p.0 ≡ key = key_eq-true p.0 key is in
          subst (λ (k : Key). lookup_key ps k ≡ cond (key_lt m k) None (lookup_key bs k)) at
          (not-again p ps rp ∙ sym (ap (λ (o : Option (List ℕ)). cond (key_lt m p.0) None o) (subst (λ (k : Key). lookup_key bs k ≡ None) (sym one-key) (not-again a bs ra)) ∙ none-either (key_lt m p.0)))
      by false is =
          let other : key_eq a.0 key ≡ false = subst (λ (k : Key). key_eq k key ≡ false) one-key is in
          ap (λ (b : Bool). cond b (Some p.1) (lookup_key ps key)) (sym is) ∙ (same key ∙ ap (λ (b : Bool). cond (key_lt m key) None (cond b (Some a.1) (lookup_key bs key))) other)

-- so the list begins with the page
begins : (m : Key) (page all : List Row) → is_rising (keys page) ≡ true → is_rising (keys all) ≡ true → HasBelow m page all → (rest : List Row) × (all ≡ page ++ rest)
begins m [] all rp ra same = (all, refl)
begins m (p ∷ ps) [] rp ra same = absurd (none-some p.1 (sym (sym (head-found p ps) ∙ (same p.0 ∙ none-either (key_lt m p.0)))))
begins m (p ∷ ps) (a ∷ bs) rp ra same =
    let more = begins m ps bs (rest-rises p ps rp) (rest-rises a bs ra) (same-rest m p ps a bs rp ra same) in
    (more.0, λ i. sym (same-head m p ps a bs rp ra same) i ∷ more.1 i)

-- ---- from a key on

abbrev HasAbove : Key → List Row → List Row → Type 0
HasAbove m page all = (key : Key) → lookup_key page key ≡ cond (key_lt key m) None (lookup_key all key)

module _ (m : Key) (page : List Row) (a : Row) (bs : List Row) where
  -- a row below the key isn't among them
  past : HasAbove m page (a ∷ bs) → key_lt a.0 m ≡ true → HasAbove m page bs
  past same under key = same key ∙ step (key_eq a.0 key) refl
    where
      step : (b : Bool) → key_eq a.0 key ≡ b → cond (key_lt key m) None (cond b (Some a.1) (lookup_key bs key)) ≡ cond (key_lt key m) None (lookup_key bs key)
      step false is = refl
      step true is =
          let low : key_lt key m ≡ true = subst (λ (k : Key). key_lt k m ≡ true) (key_eq-true a.0 key is) under in
          ap (λ (b : Bool). cond b None (Some a.1)) low ∙ sym (ap (λ (b : Bool). cond b None (lookup_key bs key)) low)

  -- if the first isn't below it, all are
  whole-list : is_rising (keys page) ≡ true → is_rising (keys (a ∷ bs)) ≡ true → HasAbove m page (a ∷ bs) → key_lt a.0 m ≡ false → page ≡ a ∷ bs
  whole-list rp ra same over = one-list page (a ∷ bs) rp ra (λ key. same key ∙ at key (key_lt key m) refl (key_lt key a.0) refl)
    where
      at : (key : Key) (b : Bool) → key_lt key m ≡ b → (l : Bool) → key_lt key a.0 ≡ l → cond b None (lookup_key (a ∷ bs) key) ≡ lookup_key (a ∷ bs) key
      at key false under l less = refl
      at key true under true less = sym (absent key a bs ra less)
      at key true under false less = absurd (true≢false (sym under ∙ up_to-trans m a.0 key over less))

-- the list ends with the page
ends : (m : Key) (page all : List Row) → is_rising (keys page) ≡ true → is_rising (keys all) ≡ true → HasAbove m page all → (rest : List Row) × (all ≡ rest ++ page)
ends m page [] rp ra same = ([], sym (one-list page [] rp refl (λ key. same key ∙ none-either (key_lt key m))))
ends m page (a ∷ bs) rp ra same = by (λ more. ends m page bs rp (rest-rises a bs ra) more) (key_lt a.0 m) refl
  where
    by : (HasAbove m page bs → (rest : List Row) × (bs ≡ rest ++ page)) → (b : Bool) → key_lt a.0 m ≡ b → (rest : List Row) × (a ∷ bs ≡ rest ++ page)
    by ended true under = let more = ended (past m page a bs same under) in (a ∷ more.0, ap (λ (rows : List Row). a ∷ rows) more.1)
    by ended false over = ([], sym (whole-list m page a bs rp ra same over))

-- ---- the rows that are returned

-- a range of one table
pub one-table : (table lo hi : ℕ) (key : Key) → is_between (record { table = table; key = lo }) (record { table = table; key = hi }) key ≡ is_in_range table lo hi key
one-table table lo hi key = grind (arith, nat_tests)

module _ (table lo hi limit : ℕ) (reached : Key) (tables : Tables) (page all : List Row) (whole : Lists all (in_range table lo hi tables)) where
  abbrev first : Key
  first = record { table = table; key = lo }

  abbrev last : Key
  last = record { table = table; key = hi }

  all-at : (key : Key) → lookup_key all key ≡ cond (is_between first last key) (tables key) None
  all-at key = whole.same key ∙ ap (λ (b : Bool). cond b (tables key) None) (sym (one-table table lo hi key))

  same-range : Lists page (ranged (Between first last) tables) → page ≡ all
  same-range lists = one-listing page all (in_range table lo hi tables) (record { rising = lists.rising; same = λ key. lists.same key ∙ ap (λ (b : Bool). cond b (tables key) None) (one-table table lo hi key) }) whole

  -- the first of them are those of the page
  pub first-taken : Lists page (ranged (Between first reached) tables) → ((reached ≡ last) ⊎ ((is_between first last reached ≡ true) × (limit ≤ length page))) → take limit page ≡ take limit all
  first-taken lists (inl is) = ap (λ (rows : List Row). take limit rows) (same-range (subst (λ (k : Key). Lists page (ranged (Between first k) tables)) is lists))
  first-taken lists (inr enough) =
      let more = begins reached page all lists.rising whole.rising below in
      sym (ap (λ (rows : List Row). take limit rows) more.1 ∙ take-append-le limit page more.0 enough.1)
    where
      low : key_lt last reached ≡ false
      low = not-true (key_lt last reached) (and_parts (not (key_lt reached first)) (not (key_lt last reached)) enough.0).1

      by : (key : Key) (a : Bool) → key_lt key first ≡ a → (b : Bool) → key_lt reached key ≡ b
          → cond (not a && not b) (tables key) None ≡ cond b None (cond (not a && not (key_lt last key)) (tables key) None)
      by key true under true above = refl
      by key true under false above = refl
      by key false under true above = refl
      by key false under false above = ap (λ (b : Bool). cond (not b) (tables key) None) (sym (up_to-trans key reached last above low))

      below : HasBelow reached page all
      below key = lists.same key ∙ (by key (key_lt key first) refl (key_lt reached key) refl ∙ sym (ap (λ (o : Option (List ℕ)). cond (key_lt reached key) None o) (all-at key)))

  -- and so are the last
  pub last-taken : Lists page (ranged (Between reached last) tables) → ((reached ≡ first) ⊎ ((is_between first last reached ≡ true) × (limit ≤ length page))) → take limit (reverse page) ≡ take limit (reverse all)
  last-taken lists (inl is) = ap (λ (rows : List Row). take limit (reverse rows)) (same-range (subst (λ (k : Key). Lists page (ranged (Between k last) tables)) is lists))
  last-taken lists (inr enough) =
      let more = ends reached page all lists.rising whole.rising above in
      sym (ap (λ (rows : List Row). take limit (reverse rows)) more.1 ∙ (ap (λ (rows : List Row). take limit rows) (reverse-append more.0 page) ∙ take-append-le limit (reverse page) (reverse more.0) (subst (λ (n : ℕ). limit ≤ n) (sym (length-reverse page)) enough.1)))
    where
      high : key_lt reached first ≡ false
      high = not-true (key_lt reached first) (and_parts (not (key_lt reached first)) (not (key_lt last reached)) enough.0).0

      nothing : (a : Bool) (key : Key) → None ≡ cond (not a && false) (tables key) None
      nothing true key = refl
      nothing false key = refl

      by : (key : Key) (a : Bool) → key_lt key reached ≡ a → (b : Bool) → key_lt last key ≡ b
          → cond (not a && not b) (tables key) None ≡ cond a None (cond (not (key_lt key first) && not b) (tables key) None)
      by key true under b over = refl
      by key false under true over = nothing (key_lt key first) key
      by key false under false over = ap (λ (b : Bool). cond (not b && true) (tables key) None) (sym (up_to-trans first reached key high under))

      above : HasAbove reached page all
      above key = lists.same key ∙ (by key (key_lt key reached) refl (key_lt last key) refl ∙ sym (ap (λ (o : Option (List ℕ)). cond (key_lt key reached) None o) (all-at key)))

-- own deletions take no more rows away than were read for them
pub enough-left : (limit own enough read left : ℕ) → enough ≡ min (limit + own) (2 ^ 64 - 1) → read < 2 ^ 63 → enough ≤ read → read ≤ left + own → limit ≤ left
enough-left limit own enough read left is small most kept = omega (arith, is, small, most, kept)

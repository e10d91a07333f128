-- The record of the pending batch says which drawn commits are covered.
use Rattle.std.proofs.Common.{◌≡◌, ◌≢◌, ◌⊎◌, inl, inr, ℕ, ◌<◌, Bool, true, false, cond, not, ◌||◌, zero, suc, List, [], ◌∷◌, ◌++◌, map, filter, refl, sym, ◌∙◌, ap, arith, Option, Some, None, find, true≢false}
use Rattle.std.specs.Prelude.{nat_eq, nat_lt, Contains}
use Rattle.std.specs.List.{list_any, list_all}
use Rattle.std.specs.Option.{option_map, option_or}
use Rattle.std.specs.Cmp.{both_ways}
use Rattle.std.proofs.lemmas.Bool.{cases_eq, eq-eqb, eqb-true, ne_eqb, and_parts, ltb-true, false_from_ne_true, or_right, false≢true}
use Rattle.base.specs.declared.key.Key.{Key}
use Rattle.base.specs.Commits.{Commit, writes_key, last_writer}
use Rattle.base.specs.Records.{is_committed, are_rising}
use Rattle.base.specs.Stands.{has_timestamp}
use Rattle.machine.specs.Machine.{State, Drawn, Hand, ByCommit, drawn_at, drawn_of, state_covered}
use Rattle.base.proofs.Lists.{rising-rest}
use Rattle.state_invariant.specs.Kept.{Origin, Keeps, KeepsHand, commit_at, commits_of_life, covered_since, version_by}
use Rattle.state_invariant.proofs.Lists.{find-filter, find-dropped, rising-above, rising-filter}
use Rattle.state_invariant.proofs.Commits.{commit_at-none, commit_at-drawn, timestamp-all, writer_from, writer-append, writer-none}
use Rattle.state_invariant.proofs.covers.Chosen.{bounds, found-later, above-each, all-by_found}
use Rattle.state_invariant.proofs.covers.Kept.{no_gap-above, batch-drawn, since-now}
use Rattle.simulation.specs.sessions.Sees.{last_on}
use Rattle.simulation.specs.sessions.Laws.{is_covered_by, CoversByRecord, BatchesCover}
use Rattle.simulation.proofs.sessions.Conflicts.{last_on-append, option_or-assoc}

abbrev time_of : Drawn → ℕ
time_of d = d.commit.timestamp

-- ---- lists

-- two tests that agree on each that is found filter alike
filter-agree : (p r : Drawn → Bool) (ds : List Drawn) → are_rising (map time_of ds) ≡ true → ((d : Drawn) → find (λ (e : Drawn). nat_eq e.commit.timestamp (time_of d)) ds ≡ Some d → p d ≡ r d) → filter p ds ≡ filter r ds
filter-agree p r [] rising each = refl
filter-agree p r (x ∷ ds) rising each =
    ap (λ (b : Bool). cond b (x ∷ filter p ds) (filter p ds)) (each x (ap (λ (b : Bool). cond b (Some x) (find (λ (e : Drawn). nat_eq e.commit.timestamp (time_of x)) ds)) (eq-eqb (time_of x) (time_of x) refl)))
    ∙ ap (λ (es : List Drawn). cond (r x) (x ∷ es) es) (filter-agree p r ds (rising-rest (time_of x) (map time_of ds) rising) (λ d found. each d (found-later x ds (time_of d) d rising found)))

map-filter : (p : Commit → Bool) (ds : List Drawn) → filter p (map (λ (d : Drawn). d.commit) ds) ≡ map (λ (d : Drawn). d.commit) (filter (λ d. p d.commit) ds)
map-filter p [] = refl
map-filter p (d ∷ ds) = grind (arith, map-filter p ds)

times-of : (ds : List Drawn) → map (λ (c : Commit). c.timestamp) (map (λ (d : Drawn). d.commit) ds) ≡ map time_of ds
times-of [] = refl
times-of (d ∷ ds) = ap (λ (ts : List ℕ). time_of d ∷ ts) (times-of ds)

abbrev times : List Commit → List ℕ
times cs = map (λ (c : Commit). c.timestamp) cs

-- nothing is found below what all are above
none-below : (t : ℕ) (cs : List Commit) → list_all (nat_lt t) (times cs) ≡ true → commit_at cs t ≡ None
none-below t [] above = refl
none-below t (c ∷ cs) above = grind (arith, none-below t cs)

lower : (t u : ℕ) (ts : List ℕ) → t < u → list_all (nat_lt u) ts ≡ true → list_all (nat_lt t) ts ≡ true
lower t u [] less all = refl
lower t u (x ∷ ts) less all = grind (arith, lower t u ts less)

-- two rising lists in which the same is found are the same
same-rising : (xs ys : List Commit) → are_rising (times xs) ≡ true → are_rising (times ys) ≡ true → ((t : ℕ) → commit_at xs t ≡ commit_at ys t) → xs ≡ ys
same-rising [] [] up high same = refl
same-rising [] (y ∷ ys) up high same = grind (arith, eq-eqb y.timestamp y.timestamp refl)
same-rising (x ∷ xs) [] up high same = let clash : Some x ≡ None = sym (here x xs) ∙ same x.timestamp in absurd (cc clash)
  where
    here : (y : Commit) (ys : List Commit) → commit_at (y ∷ ys) y.timestamp ≡ Some y
    here y ys = ap (λ (b : Bool). cond b (Some y) (commit_at ys y.timestamp)) (eq-eqb y.timestamp y.timestamp refl)
same-rising (x ∷ xs) (y ∷ ys) up high same = by (λ rest. same-rising xs ys (rising-rest x.timestamp (times xs) up) (rising-rest y.timestamp (times ys) high) rest) (cases_eq x.timestamp y.timestamp)
  where
    here : (y : Commit) (ys : List Commit) → commit_at (y ∷ ys) y.timestamp ≡ Some y
    here y ys = ap (λ (b : Bool). cond b (Some y) (commit_at ys y.timestamp)) (eq-eqb y.timestamp y.timestamp refl)

    clash : (a : Commit) (more : List Commit) (b : Commit) (bs : List Commit) → are_rising (times (b ∷ bs)) ≡ true → a.timestamp < b.timestamp → commit_at (a ∷ more) a.timestamp ≡ commit_at (b ∷ bs) a.timestamp → ⊥
    clash a more b bs rising less found =
        let none : commit_at (b ∷ bs) a.timestamp ≡ None =
        ap (λ (x : Bool). cond x (Some b) (commit_at bs a.timestamp)) (ne_eqb b.timestamp a.timestamp (λ e. omega (arith, e, less))) ∙ none-below a.timestamp bs (lower a.timestamp b.timestamp (times bs) less (rising-above b.timestamp (times bs) rising)) in
        let e : Some a ≡ None = sym (here a more) ∙ found ∙ none in
        cc e

    by : (((t : ℕ) → commit_at xs t ≡ commit_at ys t) → xs ≡ ys) → (x.timestamp ≡ y.timestamp) ⊎ (x.timestamp ≢ y.timestamp) → x ∷ xs ≡ y ∷ ys
    by rest (inl is) = grind (arith, here x xs, none-below, rising-above, ne_eqb)
    by rest (inr other) = grind (arith, clash x xs y ys high, clash y ys x xs up)

-- ---- the last on a key

abbrev commits : List Drawn → List Commit
commits ds = map (λ (d : Drawn). d.commit) ds

none-on : (key : Key) (p : Drawn → Bool) (ds : List Drawn) → list_all (λ (d : Drawn). not (writes_key key d.commit)) ds ≡ true → last_on key (commits (filter p ds)) ≡ None
none-on key p [] all = refl
none-on key p (d ∷ ds) all = by (p d) both.0 (none-on key p ds both.1)
  where
    both : (not (writes_key key d.commit) ≡ true) × (list_all (λ (d : Drawn). not (writes_key key d.commit)) ds ≡ true)
    both = and_parts (not (writes_key key d.commit)) (list_all (λ (d : Drawn). not (writes_key key d.commit)) ds) all

    unwritten : (b : Bool) → not b ≡ true → cond b (Some d.commit.timestamp) None ≡ None
    unwritten true e = cc e
    unwritten false e = refl

    by : (b : Bool) → not (writes_key key d.commit) ≡ true → last_on key (commits (filter p ds)) ≡ None → last_on key (commits (cond b (d ∷ filter p ds) (filter p ds))) ≡ None
    by true un rest = ap (λ (o : Option ℕ). option_or o (cond (writes_key key d.commit) (Some d.commit.timestamp) None)) rest ∙ unwritten (writes_key key d.commit) un
    by false un rest = rest

-- if no two of them write one key, those that pass may come before the others
last-split : (key : Key) (p : Drawn → Bool) (ds : List Drawn) → are_rising (map time_of ds) ≡ true
    → ((t u : ℕ) (d e : Drawn) → find (λ (x : Drawn). nat_eq x.commit.timestamp t) ds ≡ Some d → find (λ (x : Drawn). nat_eq x.commit.timestamp u) ds ≡ Some e → writes_key key d.commit ≡ true → writes_key key e.commit ≡ true → t ≡ u)
    → option_or (last_on key (commits (filter (λ d. not (p d)) ds))) (last_on key (commits (filter p ds))) ≡ last_on key (commits ds)
last-split key p [] rising apart = refl
last-split key p (d ∷ ds) rising apart =
    by (last-split key p ds (rising-rest (time_of d) (map time_of ds) rising) (λ t u a b at_t at_u wa wb. apart t u a b (found-later d ds t a rising at_t) (found-later d ds u b rising at_u) wa wb)) (p d) (writes_key key d.commit) refl
  where
    others : writes_key key d.commit ≡ true → list_all (λ (e : Drawn). not (writes_key key e.commit)) ds ≡ true
    others writes = all-by_found (λ (e : Drawn). not (writes_key key e.commit)) ds (rising-rest (time_of d) (map time_of ds) rising) (λ e found. ap not (false_from_ne_true (writes_key key e.commit) (λ also.
        let same : time_of d ≡ time_of e = apart (time_of d) (time_of e) d e (ap (λ (b : Bool). cond b (Some d) (find (λ (x : Drawn). nat_eq x.commit.timestamp (time_of d)) ds)) (eq-eqb (time_of d) (time_of d) refl)) (found-later d ds (time_of e) e rising found) writes also in
        let above = above-each d ds (time_of e) e rising found in
        omega (arith, same, above.0))))

    by : option_or (last_on key (commits (filter (λ d. not (p d)) ds))) (last_on key (commits (filter p ds))) ≡ last_on key (commits ds) → (b w : Bool) → writes_key key d.commit ≡ w
        → option_or (last_on key (commits (cond (not b) (d ∷ filter (λ d. not (p d)) ds) (filter (λ d. not (p d)) ds)))) (last_on key (commits (cond b (d ∷ filter p ds) (filter p ds))))
        ≡ option_or (last_on key (commits ds)) (cond (writes_key key d.commit) (Some (time_of d)) None)
    by rest true true is = grind (arith)
    by rest false true is = grind (arith, none-on, others)
    by rest true false is = grind (arith)
    by rest false false is = grind (arith)

-- ---- members

all-above : (t : ℕ) (ds : List Drawn) → list_all (nat_lt t) (map (λ (d : Drawn). d.commit.timestamp) ds) ≡ true → list_all (λ (d : Drawn). nat_lt t d.commit.timestamp) ds ≡ true
all-above t [] all = refl
all-above t (d ∷ ds) all = grind (arith, all-above t ds)

all-member : {X : Type 0} (p : X → Bool) (xs : List X) (x : X) → list_all p xs ≡ true → Contains xs x → p x ≡ true
all-member p [] x all (k, lt, is) = absurd (omega (arith, lt))
all-member p (y ∷ xs) x all (zero, lt, is) = ap p (sym is) ∙ (and_parts (p y) (list_all p xs) all).0
all-member p (y ∷ xs) x all (suc k, lt, is) = all-member p xs x (and_parts (p y) (list_all p xs) all).1 (k, omega (arith, lt), is)

member-map : {X Y : Type 0} (f : X → Y) (xs : List X) (y : Y) → Contains (map f xs) y → (x : X) × Contains xs x × (f x ≡ y)
member-map f [] y (k, lt, is) = absurd (omega (arith, lt))
member-map f (x ∷ xs) y (zero, lt, is) = (x, (0, omega arith, refl), is)
member-map f (x ∷ xs) y (suc k, lt, is) = let (z, (j, low, at), same) = member-map f xs y (k, omega (arith, lt), is) in (z, (suc j, omega (arith, low), at), same)

-- a drawn commit is found by its timestamp
found : (ds : List Drawn) (d : Drawn) → are_rising (map (λ (d : Drawn). d.commit.timestamp) ds) ≡ true → Contains ds d → find (λ (e : Drawn). nat_eq e.commit.timestamp d.commit.timestamp) ds ≡ Some d
found [] d rising (k, lt, is) = absurd (omega (arith, lt))
found (e ∷ ds) d rising (zero, lt, is) =
    ap (λ b. cond b (Some e) (find (λ (e : Drawn). nat_eq e.commit.timestamp d.commit.timestamp) ds)) (eq-eqb e.commit.timestamp d.commit.timestamp (ap (λ (d : Drawn). d.commit.timestamp) is)) ∙ ap (λ (d : Drawn). Some d) is
found (e ∷ ds) d rising (suc k, lt, is) =
    let below : e.commit.timestamp < d.commit.timestamp = ltb-true e.commit.timestamp d.commit.timestamp (all-member (λ (x : Drawn). nat_lt e.commit.timestamp x.commit.timestamp) ds d (all-above e.commit.timestamp ds (rising-above e.commit.timestamp (map (λ (d : Drawn). d.commit.timestamp) ds) rising)) (k, omega (arith, lt), is)) in
    ap (λ b. cond b (Some e) (find (λ (e : Drawn). nat_eq e.commit.timestamp d.commit.timestamp) ds)) (ne_eqb e.commit.timestamp d.commit.timestamp (λ same. omega (arith, same, below)))
    ∙ found ds d (rising-rest e.commit.timestamp (map (λ (d : Drawn). d.commit.timestamp) ds) rising) (k, omega (arith, lt), is)

-- ---- the newest versions

not-here : (b rest : Bool) → b ≡ false → (b || rest) ≡ rest
not-here a rest is = grind (arith)

-- if each commit that writes the key has this timestamp, and there is one, it is the last
writer-one : (key : Key) (u : ℕ) (cs : List Commit) (t : ℕ) → ((c : Commit) → Contains cs c → writes_key key c ≡ true → c.timestamp ≡ u) → (list_any (writes_key key) cs ≡ true) ⊎ (t ≡ u) → writer_from key t cs ≡ u
writer-one key u [] t each some = elim some [ inl any ↦ absurd (false≢true any) | inr is ↦ is ]
writer-one key u (c ∷ cs) t each some =
    by (λ v else. writer-one key u cs v (λ d in_cs writes. let (k, lt, is) = in_cs in each d (suc k, omega (arith, lt), is) writes) else) (writes_key key c) refl some
  where
    by : ((v : ℕ) → (list_any (writes_key key) cs ≡ true) ⊎ (v ≡ u) → writer_from key v cs ≡ u) → (b : Bool) → writes_key key c ≡ b → (list_any (writes_key key) (c ∷ cs) ≡ true) ⊎ (t ≡ u) → writer_from key t (c ∷ cs) ≡ u
    by rest true is some = ap (λ b. writer_from key (cond b c.timestamp t) cs) is ∙ rest c.timestamp (inr (each c (0, omega arith, refl) is))
    by rest false is some = ap (λ b. writer_from key (cond b c.timestamp t) cs) is ∙ rest t (elim some [ inl any ↦ inl (sym (not-here (writes_key key c) (list_any (writes_key key) cs) is) ∙ any) | inr same ↦ inr same ])

member-filter : (p : Drawn → Bool) (ds : List Drawn) (d : Drawn) → Contains (filter p ds) d → Contains ds d
member-filter p [] d (k, lt, is) = absurd (omega (arith, lt))
member-filter p (x ∷ ds) d member = by (p x) (member-filter p ds d) member
  where
    by : (b : Bool) → (Contains (filter p ds) d → Contains ds d) → Contains (cond b (x ∷ filter p ds) (filter p ds)) d → Contains (x ∷ ds) d
    by true rest (zero, lt, is) = (0, omega arith, is)
    by true rest (suc k, lt, is) = let (j, low, at) = rest (k, omega (arith, lt), is) in (suc j, omega (arith, low), at)
    by false rest member = let (j, low, at) = rest member in (suc j, omega (arith, low), at)

-- one of those that pass writes the key
writes-one : (key : Key) (p : Drawn → Bool) (ds : List Drawn) (d : Drawn) → Contains ds d → p d ≡ true → writes_key key d.commit ≡ true → list_any (writes_key key) (commits (filter p ds)) ≡ true
writes-one key p [] d (k, lt, is) passes writes = absurd (omega (arith, lt))
writes-one key p (e ∷ ds) d (zero, lt, is) passes writes = grind (arith)
writes-one key p (e ∷ ds) d (suc k, lt, is) passes writes = by (p e) (writes-one key p ds d (k, omega (arith, lt), is) passes writes)
  where
    by : (b : Bool) → list_any (writes_key key) (commits (filter p ds)) ≡ true → list_any (writes_key key) (commits (cond b (e ∷ filter p ds) (filter p ds))) ≡ true
    by true rest = or_right (writes_key key e.commit) (list_any (writes_key key) (commits (filter p ds))) rest
    by false rest = rest

-- ---- the batch

module _ (o : Origin) (q : State) (hand : Hand) (kept : Keeps o q) (k : KeepsHand q hand) where
  -- a drawn commit is in the batch exactly if the record commits it
  by-record : (t : ℕ) (d : Drawn) → drawn_at q t ≡ Some d → has_timestamp hand.commits t ≡ is_committed hand.target t
  by-record t d found = both_ways (has_timestamp hand.commits t) (is_committed hand.target t) (timestamp-all (is_committed hand.target) hand.commits t k.batch) back
    where
      back : is_committed hand.target t ≡ true → has_timestamp hand.commits t ≡ true
      back counts =
          let b = bounds o q kept t d found in
          grind (arith, no_gap-above)

  pub rest : (state_covered q hand).drawn ≡ filter (λ d. not (is_covered_by hand.target d)) q.drawn
  rest = filter-agree (λ d. not (has_timestamp hand.commits (time_of d))) (λ d. not (is_covered_by hand.target d)) q.drawn kept.draws.rising (λ d found. ap not (by-record (time_of d) d found))

  abbrev covered : List Commit
  covered = filter (λ (c : Commit). is_committed hand.target c.timestamp) (drawn_of q)

  found-same : (t : ℕ) → commit_at hand.commits t ≡ commit_at covered t
  found-same t = by (is_committed hand.target t) refl
    where
      left : (x : Option Drawn) → drawn_at q t ≡ x → is_committed hand.target t ≡ true → commit_at hand.commits t ≡ option_map (λ (d : Drawn). d.commit) x
      left None is counts = commit_at-none hand.commits t (false_from_ne_true (has_timestamp hand.commits t) (λ has. let b = batch-drawn o q hand kept k t has in let clash : None ≡ Some b.0 = sym is ∙ b.1 in cc clash))
      left (Some d) is counts = grind (arith, batch-drawn, by-record t d is)

      by : (b : Bool) → is_committed hand.target t ≡ b → commit_at hand.commits t ≡ commit_at covered t
      by true counts = grind (arith, left, commit_at-drawn, find-filter, eqb-true)
      by false out =
          commit_at-none hand.commits t (false_from_ne_true (has_timestamp hand.commits t) (λ has. true≢false (sym (timestamp-all (is_committed hand.target) hand.commits t k.batch has) ∙ out)))
          ∙ sym (find-dropped (λ (c : Commit). nat_eq c.timestamp t) (λ (c : Commit). is_committed hand.target c.timestamp) (drawn_of q) (λ c is. ap (is_committed hand.target) (eqb-true c.timestamp t is) ∙ out))

  pub batch : hand.commits ≡ map (λ (d : Drawn). d.commit) (filter (is_covered_by hand.target) q.drawn)
  batch = same-rising hand.commits covered k.rising (ap (λ (cs : List Commit). are_rising (times cs)) (map-filter (λ (c : Commit). is_committed hand.target c.timestamp) q.drawn) ∙ ap are_rising (times-of (filter (is_covered_by hand.target) q.drawn)) ∙ rising-filter time_of (is_covered_by hand.target) q.drawn kept.draws.rising) found-same
      ∙ map-filter (λ (c : Commit). is_committed hand.target c.timestamp) q.drawn

  pub last-same : (key : Key) → last_on key (commits_of_life o (state_covered q hand)) ≡ last_on key (commits_of_life o q)
  last-same key =
      last_on-append key (covered_since o (state_covered q hand)) (drawn_of (state_covered q hand))
      ∙ ap (λ (ds : List Drawn). option_or (last_on key (commits ds)) (last_on key (covered_since o (state_covered q hand)))) rest
      ∙ ap (option_or (last_on key (commits (filter (λ d. not (is_covered_by hand.target d)) q.drawn)))) (ap (last_on key) (since-now o q hand kept k ∙ ap (λ (cs : List Commit). covered_since o q ++ cs) batch) ∙ last_on-append key (covered_since o q) (commits (filter (is_covered_by hand.target) q.drawn)))
      ∙ option_or-assoc (last_on key (commits (filter (λ d. not (is_covered_by hand.target d)) q.drawn))) (last_on key (commits (filter (is_covered_by hand.target) q.drawn))) (last_on key (covered_since o q))
      ∙ ap (λ (x : Option ℕ). option_or x (last_on key (covered_since o q))) (last-split key (is_covered_by hand.target) q.drawn kept.draws.rising (λ t u d e at_t at_u wd we. kept.draws.apart t u d e key at_t at_u wd we))
      ∙ sym (last_on-append key (covered_since o q) (drawn_of q))

  last-is : (key : Key) → last_writer (q.history ++ hand.commits) key ≡ writer_from key (last_writer q.history key) hand.commits
  last-is key = writer-append key 0 q.history hand.commits

  by-batch : (key : Key) (d : Drawn) → Contains q.drawn d → is_covered_by hand.target d ≡ true → writes_key key d.commit ≡ true → last_writer (q.history ++ hand.commits) key ≡ d.commit.timestamp
  by-batch key d member covers writes =
      last-is key ∙ ap (writer_from key (last_writer q.history key)) batch
      ∙ writer-one key d.commit.timestamp (commits (filter (is_covered_by hand.target) q.drawn)) (last_writer q.history key)
      (λ c in_batch c_writes. let (e, in_drawn, is) = member-map (λ (d : Drawn). d.commit) (filter (is_covered_by hand.target) q.drawn) c in_batch in
      ap (λ (c : Commit). c.timestamp) (sym is)
      ∙ kept.draws.apart e.commit.timestamp d.commit.timestamp e d key (found q.drawn e kept.draws.rising (member-filter (is_covered_by hand.target) q.drawn e in_drawn)) (found q.drawn d kept.draws.rising member) (ap (writes_key key) is ∙ c_writes) writes)
      (inl (writes-one key (is_covered_by hand.target) q.drawn d member covers writes))

  pub covered-by : CoversByRecord o q hand
  covered-by = record {
    batch = batch;
    rest = rest;
    last = last-same;
    written = λ key d member covers writes. ap (λ t. version_by key (ByCommit t)) (by-batch key d member covers writes);
    unwritten = λ key none. ap (λ t. version_by key (ByCommit t)) (last-is key ∙ writer-none key (last_writer q.history key) hand.commits none);
  }

pub covers-batch : BatchesCover
covers-batch o q hand kept k = covered-by o q hand kept k

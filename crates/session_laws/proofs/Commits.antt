-- Commits over a log: none is lost, a draw adds one, and nothing else adds any.
use Rattle.std.proofs.Common.{◌≡◌, ◌≢◌, ◌⊎◌, inl, inr, ℕ, zero, suc, ◌<◌, Bool, true, false, cond, not, ◌&&◌, ◌||◌, List, [], ◌∷◌, ◌++◌, map, length, refl, sym, ◌∙◌, ap, subst, arith, Option, Some, None, nat_eq, append_assoc}
use Rattle.std.specs.Prelude.{filter, find, Contains, IsTrue, slice_get, nat_lt}
use Rattle.std.specs.List.{list_all, list_any}
use Rattle.std.specs.Option.{option_map}
use Rattle.std.proofs.lemmas.List.{map-append}
use Rattle.std.proofs.lemmas.List.Elements.{Contains-append_left}
use Rattle.std.proofs.lemmas.Bool.{and_parts, eqb-true, eq-eqb, ltb-true, false_from_ne_true, or_right}
use Rattle.base.specs.declared.step.Step.{Step}
use Rattle.base.specs.declared.step.Step.TheVariants.{Begin, Get, Scan, Put, Delete, Draw, Stamp, Poll, Abort, End, Commit as CommitTick, Collect}
use Rattle.base.specs.declared.step.Stage.{Stage}
use Rattle.base.specs.Commits.{Commit, Writes}
use Rattle.base.specs.Images.{Image}
use Rattle.base.specs.Records.{Record, is_committed, are_rising}
use Rattle.base.specs.Stands.{has_timestamp}
use Rattle.machine.specs.Machine.{State, Active, Drew, WroteNothing, Drawn, Hand, IsActive, IsDrawn, IsStamped, IsCovered, standing_of, is_stamped, refusal, next_state, state_ticked, state_ticked_on, state_drawn, state_covered, next_stage, is_idle, taken_in_hand, writes_of, timestamp_of, drawn_of}
use Rattle.machine.specs.Openings.{IsOpenedGaps, updated}
use Rattle.machine.proofs.Growth.{stays-in}
use Rattle.machine.proofs.collector.Visits.{visit-changes}
use Rattle.machine.proofs.openings.Updates.{updated-open}
use Rattle.state_invariant.specs.Kept.{Origin, Keeps, KeepsHand, commit_at, origin_of}
use Rattle.state_invariant.proofs.Commits.{commit_at-place, commit_at-drawn, distinct-rising, committed-bounds}
use Rattle.state_invariant.proofs.covers.Kept.{batch-drawn, drawn-of}
use Rattle.state_invariant.proofs.stamps.Kept.{commits-counted}
use Rattle.state_invariant.proofs.steps.Kept.{keeps-next}
use Rattle.state_invariant.proofs.openings.Kept.{keeps-opened}
use Rattle.session_laws.specs.Logs.{state_after, AreMade, own, is_own}
use Rattle.session_laws.specs.Sessions.{IsOfLife, Opens, commits_of, IsOnly, IsKept, commit_by, Transacts, transacted, IsDrawnIn, stamps_or_polls, is_end_of, written_by}
use Rattle.session_laws.specs.Laws.{IsFirst, Draws}
use Rattle.session_laws.proofs.Logs.{after-append, made-parts, own-split}
use Rattle.session_laws.proofs.Sessions.{keeps-log, grows, accesses-add_up, begun-session, drawn-waits, ends-covered}

-- ---- members of lists

module _ {X : Type 0} where
  -- the list has it, by recursion
  abbrev Among : List X → X → Type 0
  Among [] x = ⊥
  Among (y ∷ ys) x = (y ≡ x) ⊎ Among ys x

  among : (xs : List X) (x : X) → Contains xs x → Among xs x
  among [] x (k, lt, is) = absurd (omega (arith, lt))
  among (y ∷ ys) x (zero, lt, is) = inl is
  among (y ∷ ys) x (suc k, lt, is) = inr (among ys x (k, omega (arith, lt), is))

  contains : (xs : List X) (x : X) → Among xs x → Contains xs x
  contains [] x is = absurd is
  contains (y ∷ ys) x (inl is) = (0, omega arith, is)
  contains (y ∷ ys) x (inr is) = let rest = contains ys x is in (suc rest.0, omega (arith, rest.1), rest.2)

  among-left : (xs ys : List X) (x : X) → Among xs x → Among (xs ++ ys) x
  among-left [] ys x is = absurd is
  among-left (y ∷ xs) ys x (inl is) = inl is
  among-left (y ∷ xs) ys x (inr is) = inr (among-left xs ys x is)

  among-right : (xs ys : List X) (x : X) → Among ys x → Among (xs ++ ys) x
  among-right [] ys x is = is
  among-right (y ∷ xs) ys x is = inr (among-right xs ys x is)

  among-cases : (xs ys : List X) (x : X) → Among (xs ++ ys) x → Among xs x ⊎ Among ys x
  among-cases [] ys x is = inr is
  among-cases (y ∷ xs) ys x (inl is) = inl (inl is)
  among-cases (y ∷ xs) ys x (inr is) = by (among-cases xs ys x is)
    where
      by : Among xs x ⊎ Among ys x → Among (y ∷ xs) x ⊎ Among ys x
      by (inl one) = inl (inr one)
      by (inr two) = inr two

  among-place : (xs : List X) (x : X) → Among xs x → (i : ℕ) × (slice_get xs i ≡ Some x)
  among-place [] x is = absurd is
  among-place (y ∷ ys) x (inl is) = (0, ap (λ (z : X). Some z) is)
  among-place (y ∷ ys) x (inr is) = let rest = among-place ys x is in (suc rest.0, rest.1)

  among-found : (p : X → Bool) (xs : List X) (x : X) → find p xs ≡ Some x → Among xs x
  among-found p [] x found = absurd (cc found)
  among-found p (y ∷ ys) x found = by (among-found p ys x) (p y) found
    where
      by : (find p ys ≡ Some x → Among ys x) → (b : Bool) → cond b (Some y) (find p ys) ≡ Some x → Among (y ∷ ys) x
      by more true e = inl (cc e)
      by more false e = inr (more e)

  among-all : (p : X → Bool) (xs : List X) (x : X) → list_all p xs ≡ true → Among xs x → p x ≡ true
  among-all p [] x all is = absurd is
  among-all p (y ∷ ys) x all (inl is) = ap p (sym is) ∙ (and_parts (p y) (list_all p ys) all).0
  among-all p (y ∷ ys) x all (inr is) = among-all p ys x (and_parts (p y) (list_all p ys) all).1 is

  among-filter : (p : X → Bool) (xs : List X) (x : X) → Among xs x → p x ≡ true → Among (filter p xs) x
  among-filter p [] x is passes = absurd is
  among-filter p (y ∷ ys) x (inl is) passes = subst (λ (b : Bool). Among (cond b (y ∷ filter p ys) (filter p ys)) x) (sym (ap p is ∙ passes)) (inl is)
  among-filter p (y ∷ ys) x (inr is) passes = by (among-filter p ys x is passes) (p y)
    where
      by : Among (filter p ys) x → (b : Bool) → Among (cond b (y ∷ filter p ys) (filter p ys)) x
      by rest true = inr rest
      by rest false = rest

  among-filtered : (p : X → Bool) (xs : List X) (x : X) → Among (filter p xs) x → Among xs x
  among-filtered p [] x is = is
  among-filtered p (y ∷ ys) x is = by (among-filtered p ys x) (p y) is
    where
      by : (Among (filter p ys) x → Among ys x) → (b : Bool) → Among (cond b (y ∷ filter p ys) (filter p ys)) x → Among (y ∷ ys) x
      by more true (inl e) = inl e
      by more true (inr rest) = inr (more rest)
      by more false rest = inr (more rest)

module _ {X Y : Type 0} (f : X → Y) where
  among-map : (xs : List X) (x : X) → Among xs x → Among (map f xs) (f x)
  among-map [] x is = absurd is
  among-map (z ∷ xs) x (inl is) = inl (ap f is)
  among-map (z ∷ xs) x (inr is) = inr (among-map xs x is)

  among-mapped : (xs : List X) (y : Y) → Among (map f xs) y → (x : X) × Among xs x × (f x ≡ y)
  among-mapped [] y is = absurd is
  among-mapped (z ∷ xs) y (inl is) = (z, inl refl, is)
  among-mapped (z ∷ xs) y (inr is) = let rest = among-mapped xs y is in (rest.0, inr rest.1, rest.2)

among-timestamp : (cs : List Commit) (c : Commit) → Among cs c → has_timestamp cs c.timestamp ≡ true
among-timestamp [] c is = absurd is
among-timestamp (x ∷ cs) c (inl is) = ap (λ (b : Bool). b || has_timestamp cs c.timestamp) (eq-eqb x.timestamp c.timestamp (ap (λ (y : Commit). y.timestamp) is))
among-timestamp (x ∷ cs) c (inr is) = or_right (nat_eq x.timestamp c.timestamp) (has_timestamp cs c.timestamp) (among-timestamp cs c is)

-- one of the commits has the timestamp
among-with : (cs : List Commit) (t : ℕ) → has_timestamp cs t ≡ true → (c : Commit) × Among cs c × (c.timestamp ≡ t)
among-with [] t has = absurd (cc has)
among-with (x ∷ cs) t has = by (among-with cs t) (nat_eq x.timestamp t) refl has
  where
    by : (has_timestamp cs t ≡ true → (c : Commit) × Among cs c × (c.timestamp ≡ t)) → (b : Bool) → nat_eq x.timestamp t ≡ b → (b || has_timestamp cs t) ≡ true → (c : Commit) × Among (x ∷ cs) c × (c.timestamp ≡ t)
    by more true is has = (x, inl refl, eqb-true x.timestamp t is)
    by more false is has = let rest = more has in (rest.0, inr rest.1, rest.2)

abbrev commit_in : Drawn → Commit
commit_in d = d.commit

-- ---- what a state of a life says of its commits

-- each has a timestamp below the next
below : (o : Origin) (q : State) (c : Commit) → Keeps o q → Among (commits_of q) c → c.timestamp < q.next
below o q c kept is = by (among-cases q.history (drawn_of q) c is)
  where
    by : Among q.history c ⊎ Among (drawn_of q) c → c.timestamp < q.next
    by (inl covered) =
        let bounds = committed-bounds q.ruling c.timestamp (among-all (λ (c : Commit). is_committed q.ruling c.timestamp) q.history c kept.numbers.covered covered) in
        omega (arith, bounds.1, kept.numbers.persisted)
    by (inr drawn) =
        let d = among-mapped commit_in q.drawn c drawn in
        let passes = and_parts (not (is_committed q.ruling d.0.commit.timestamp)) (nat_lt d.0.commit.timestamp q.next)
        (among-all (λ (d : Drawn). not (is_committed q.ruling d.commit.timestamp) && nat_lt d.commit.timestamp q.next) q.drawn d.0 kept.numbers.drawn d.1) in
        subst (λ (x : Commit). x.timestamp < q.next) d.2 (ltb-true d.0.commit.timestamp q.next passes.1)

fresh : (o : Origin) (q : State) → Keeps o q → has_timestamp (commits_of q) q.next ≡ false
fresh o q kept = false_from_ne_true (has_timestamp (commits_of q) q.next) (λ has.
    let found = among-with (commits_of q) q.next has in
    omega (arith, below o q found.0 kept found.1, found.2))

map-fused : (ds : List Drawn) → map (λ (c : Commit). c.timestamp) (map commit_in ds) ≡ map (λ (d : Drawn). d.commit.timestamp) ds
map-fused [] = refl
map-fused (d ∷ ds) = ap (λ (l : List ℕ). d.commit.timestamp ∷ l) (map-fused ds)

-- a drawn commit is found by its timestamp
found-drawn : (o : Origin) (q : State) (c : Commit) → Keeps o q → Among (drawn_of q) c → commit_at (drawn_of q) c.timestamp ≡ Some c
found-drawn o q c kept is =
    let place = among-place (drawn_of q) c is in
    commit_at-place (drawn_of q) place.0 c (distinct-rising (drawn_of q) (ap are_rising (map-fused q.drawn) ∙ kept.draws.rising)) place.1

-- ---- a batch that is covered

module _ (o : Origin) (q : State) (hand : Hand) (kept : Keeps o q) (k : KeepsHand q hand) where
  batch-among : (c : Commit) → Among hand.commits c → Among (drawn_of q) c
  batch-among c is =
      let place = among-place hand.commits c is in
      let (d, at, same) = drawn-of o q hand kept k place.0 c place.1 in
      subst (Among (drawn_of q)) same (among-map commit_in q.drawn d (among-found (λ (d : Drawn). nat_eq d.commit.timestamp c.timestamp) q.drawn d at))

  drawn-among : (c : Commit) → Among (drawn_of q) c → has_timestamp hand.commits c.timestamp ≡ true → Among hand.commits c
  drawn-among c is has =
      let (d, at, in_batch, stamped) = batch-drawn o q hand kept k c.timestamp has in
      let same : Some c ≡ Some d.commit = sym (found-drawn o q c kept is) ∙ commit_at-drawn q c.timestamp ∙ ap (λ (x : Option Drawn). option_map (λ (d : Drawn). d.commit) x) at in
      among-found (λ (x : Commit). nat_eq x.timestamp c.timestamp) hand.commits c (in_batch ∙ sym same)

  abbrev is_left : Drawn → Bool
  is_left d = not (has_timestamp hand.commits d.commit.timestamp)

  covered-keeps : (c : Commit) → Among (commits_of q) c → Among (commits_of (state_covered q hand)) c
  covered-keeps c is = by (among-cases q.history (drawn_of q) c is)
    where
      left : Among (drawn_of q) c → (b : Bool) → has_timestamp hand.commits c.timestamp ≡ b → Among ((q.history ++ hand.commits) ++ map commit_in (filter is_left q.drawn)) c
      left drawn true has = among-left (q.history ++ hand.commits) (map commit_in (filter is_left q.drawn)) c (among-right q.history hand.commits c (drawn-among c drawn has))
      left drawn false out =
          let d = among-mapped commit_in q.drawn c drawn in
          let passes : is_left d.0 ≡ true = ap (λ (x : Commit). not (has_timestamp hand.commits x.timestamp)) d.2 ∙ ap not out in
          among-right (q.history ++ hand.commits) (map commit_in (filter is_left q.drawn)) c (subst (Among (map commit_in (filter is_left q.drawn))) d.2 (among-map commit_in (filter is_left q.drawn) d.0 (among-filter is_left q.drawn d.0 d.1 passes)))

      by : Among q.history c ⊎ Among (drawn_of q) c → Among ((q.history ++ hand.commits) ++ map commit_in (filter is_left q.drawn)) c
      by (inl covered) = among-left (q.history ++ hand.commits) (map commit_in (filter is_left q.drawn)) c (among-left q.history hand.commits c covered)
      by (inr drawn) = left drawn (has_timestamp hand.commits c.timestamp) refl

  covered-only : (c : Commit) → Among (commits_of (state_covered q hand)) c → Among (commits_of q) c
  covered-only c is = by (among-cases (q.history ++ hand.commits) (map commit_in (filter is_left q.drawn)) c is)
    where
      front : Among q.history c ⊎ Among hand.commits c → Among (q.history ++ drawn_of q) c
      front (inl old) = among-left q.history (drawn_of q) c old
      front (inr new) = among-right q.history (drawn_of q) c (batch-among c new)

      by : Among (q.history ++ hand.commits) c ⊎ Among (map commit_in (filter is_left q.drawn)) c → Among (q.history ++ drawn_of q) c
      by (inl first) = front (among-cases q.history hand.commits c first)
      by (inr rest) =
          let d = among-mapped commit_in (filter is_left q.drawn) c rest in
          among-right q.history (drawn_of q) c (subst (Among (drawn_of q)) d.2 (among-map commit_in q.drawn d.0 (among-filtered is_left q.drawn d.0 d.1)))

-- ---- a draw

draw-new : (q : State) (n : ℕ) (writes : Writes) → writes ≢ []
    → ((state_drawn q n writes).sessions n ≡ Some (Drew q.next)) × (commits_of (state_drawn q n writes) ≡ commits_of q ++ record { timestamp = q.next; writes = writes } ∷ [])
draw-new q n [] wrote = absurd (wrote refl)
draw-new q n (write ∷ writes) wrote = (
  ap (λ (b : Bool). cond b (Some (Drew q.next)) (q.sessions n)) (eq-eqb n n refl),
  ap (λ (l : List Commit). q.history ++ l) (map-append commit_in q.drawn _) ∙ sym (append_assoc q.history (drawn_of q) _),
)

draw-none : (q : State) (n : ℕ) (writes : Writes) → writes ≡ [] → ((state_drawn q n writes).sessions n ≡ Some WroteNothing) × (commits_of (state_drawn q n writes) ≡ commits_of q)
draw-none q n [] none = (ap (λ (b : Bool). cond b (Some WroteNothing) (q.sessions n)) (eq-eqb n n refl), refl)
draw-none q n (write ∷ writes) none = absurd (cc none)

pub draws-writes : (q : State) (s : ℕ) → IsOfLife q → refusal q (Draw s) ≡ None → Draws q s
draws-writes q s life none = record {
  wrote = draw-new q s (writes_of (q.sessions s));
  nothing = draw-none q s (writes_of (q.sessions s));
  fresh = fresh life.0 q life.1;
}

-- ---- a step

-- the step is the draw that makes the commit
abbrev IsNew : State → Step → Commit → Type 0
IsNew q step c = (n : ℕ) × (step ≡ Draw n) × (writes_of (q.sessions n) ≢ []) × (c ≡ commit_by q n)

-- the two states have the same commits, maybe in another order
record SameCommits (q q' : State) : Type 0 where
  keeps : (c : Commit) → Among (commits_of q) c → Among (commits_of q') c
  only : (c : Commit) → Among (commits_of q') c → Among (commits_of q) c

same-commits : (q q' : State) → commits_of q' ≡ commits_of q → SameCommits q q'
same-commits q q' same = record {
  keeps = λ c is. subst (λ (l : List Commit). Among l c) (sym same) is;
  only = λ c is. subst (λ (l : List Commit). Among l c) same is;
}

ticked-on-commits : (o : Origin) (q : State) (hand : Hand) (stage : Option Stage) → Keeps o q → q.hand ≡ Some hand → SameCommits q (state_ticked_on q hand stage)
ticked-on-commits o q hand (Some stage) kept is = same-commits q _ refl
ticked-on-commits o q hand None kept is = record { keeps = covered-keeps o q hand kept (kept.numbers.hand hand is); only = covered-only o q hand kept (kept.numbers.hand hand is) }

ticked-commits : (o : Origin) (q : State) (hand : Option Hand) → Keeps o q → q.hand ≡ hand → SameCommits q (state_ticked q hand)
ticked-commits o q None kept is = by (is_idle q)
  where
    by : (b : Bool) → SameCommits q (cond b q (record q { hand = Some (taken_in_hand q) }))
    by true = same-commits q q refl
    by false = same-commits q _ refl
ticked-commits o q (Some hand) kept is = ticked-on-commits o q hand (next_stage q hand) kept is

-- what a step does to the commits: a draw may add one
data Does (q : State) (step : Step) (q' : State) : Type 0 where
  leaves : SameCommits q q' → Does q step q'
  adds : (n : ℕ) → step ≡ Draw n → writes_of (q.sessions n) ≢ [] → commits_of q' ≡ commits_of q ++ commit_by q n ∷ [] → Does q step q'

does-draw : (q : State) (n : ℕ) (writes : Writes) → writes_of (q.sessions n) ≡ writes → Does q (Draw n) (state_drawn q n (writes_of (q.sessions n)))
does-draw q n [] is = leaves (same-commits q _ (draw-none q n (writes_of (q.sessions n)) is).1)
does-draw q n (write ∷ writes) is =
    let wrote : writes_of (q.sessions n) ≢ [] = λ none. cc (is, none) in
    adds n refl wrote (draw-new q n (writes_of (q.sessions n)) wrote).1

does : (o : Origin) (q : State) (step : Step) → Keeps o q → Does q step (next_state q step)
does o q Begin kept = leaves (same-commits q _ refl)
does o q (Get n key) kept = leaves (same-commits q _ refl)
does o q (Scan n table lo hi) kept = leaves (same-commits q _ refl)
does o q (Put n key row) kept = leaves (same-commits q _ refl)
does o q (Delete n key) kept = leaves (same-commits q _ refl)
does o q (Draw n) kept = does-draw q n (writes_of (q.sessions n)) refl
does o q (Stamp n) kept = leaves (same-commits q _ (ap (λ (l : List Commit). q.history ++ l) (commits-counted (timestamp_of (q.sessions n)) q.drawn)))
does o q (Poll n) kept = leaves (same-commits q _ refl)
does o q (Abort n) kept = leaves (same-commits q _ refl)
does o q (End n) kept = leaves (same-commits q _ refl)
does o q CommitTick kept = leaves (ticked-commits o q q.hand kept refl)
does o q Collect kept =
    let left = visit-changes q in
    leaves (same-commits q _ (ap (λ (l : List Commit). l ++ drawn_of (next_state q Collect)) left.history ∙ ap (λ (ds : List Drawn). q.history ++ map commit_in ds) left.drawn))

step-keeps : (q : State) (step : Step) (q' : State) (c : Commit) → Does q step q' → Among (commits_of q) c → Among (commits_of q') c
step-keeps q step q' c (leaves s) is = s.keeps c is
step-keeps q step q' c (adds n e wrote more) is = subst (λ (l : List Commit). Among l c) (sym more) (among-left (commits_of q) (commit_by q n ∷ []) c is)

step-only : (q : State) (step : Step) (q' : State) (c : Commit) → Does q step q' → Among (commits_of q') c → Among (commits_of q) c ⊎ IsNew q step c
step-only q step q' c (leaves s) is = inl (s.only c is)
step-only q step q' c (adds n e wrote more) is = by (among-cases (commits_of q) (commit_by q n ∷ []) c (subst (λ (l : List Commit). Among l c) more is))
  where
    by : Among (commits_of q) c ⊎ Among (commit_by q n ∷ []) c → Among (commits_of q) c ⊎ IsNew q step c
    by (inl old) = inl old
    by (inr (inl new)) = inr (n, e, wrote, sym new)
    by (inr (inr none)) = absurd none

-- ---- a log

log-keeps : (o : Origin) (q : State) (log : List Step) (c : Commit) → Keeps o q → AreMade q log → Among (commits_of q) c → Among (commits_of (state_after q log)) c
log-keeps o q [] c kept m is = is
log-keeps o q (step ∷ log) c kept m is = log-keeps o (next_state q step) log c (keeps-next o q step kept m.0) m.1 (step-keeps q step (next_state q step) c (does o q step kept) is)

pub drawn-is_kept : (q : State) (log : List Step) (commit : Commit) → IsOfLife q → AreMade q log → Contains (drawn_of q) commit
    → Contains (drawn_of (state_after q log)) commit ⊎ Contains (state_after q log).history commit
drawn-is_kept q log commit life m drawn = by (among-cases (state_after q log).history (drawn_of (state_after q log)) commit (log-keeps life.0 q log commit life.1 m (among-right q.history (drawn_of q) commit (among (drawn_of q) commit drawn))))
  where
    by : Among (state_after q log).history commit ⊎ Among (drawn_of (state_after q log)) commit → Contains (drawn_of (state_after q log)) commit ⊎ Contains (state_after q log).history commit
    by (inl covered) = inr (contains (state_after q log).history commit covered)
    by (inr still) = inl (contains (drawn_of (state_after q log)) commit still)

nothing-among : (o : Origin) (q : State) (log : List Step) (c : Commit) → Keeps o q → AreMade q log → Among (commits_of (state_after q log)) c → Among (commits_of q) c ⊎ IsDrawnIn q log c
nothing-among o q [] c kept m is = inl is
nothing-among o q (step ∷ log) c kept m is = by (nothing-among o (next_state q step) log c (keeps-next o q step kept m.0) m.1 is)
  where
    at_once : Among (commits_of q) c ⊎ IsNew q step c → Among (commits_of q) c ⊎ IsDrawnIn q (step ∷ log) c
    at_once (inl old) = inl old
    at_once (inr new) = inr record { session = new.0; before = []; more = log; log_is = ap (λ (x : Step). x ∷ log) new.1; wrote = new.2; commit_is = new.3 }

    by : Among (commits_of (next_state q step)) c ⊎ IsDrawnIn (next_state q step) log c → Among (commits_of q) c ⊎ IsDrawnIn q (step ∷ log) c
    by (inl old) = at_once (step-only q step (next_state q step) c (does o q step kept) old)
    by (inr later) = inr record { session = later.session; before = step ∷ later.before; more = later.more; log_is = ap (λ (l : List Step). step ∷ l) later.log_is; wrote = later.wrote; commit_is = later.commit_is }

pub nothing-else : (q : State) (log : List Step) (commit : Commit) → IsOfLife q → AreMade q log → Contains (commits_of (state_after q log)) commit → Contains (commits_of q) commit ⊎ IsDrawnIn q log commit
nothing-else q log commit life m has = by (nothing-among life.0 q log commit life.1 m (among (commits_of (state_after q log)) commit has))
  where
    by : Among (commits_of q) commit ⊎ IsDrawnIn q log commit → Contains (commits_of q) commit ⊎ IsDrawnIn q log commit
    by (inl old) = inl (contains (commits_of q) commit old)
    by (inr new) = inr new

-- ---- the only commit with its timestamp

only-step : (o : Origin) (q : State) (step : Step) (c : Commit) → Keeps o q → IsOnly (commits_of q) c → IsOnly (commits_of (next_state q step)) c
only-step o q step c kept only = record {
  among = contains (commits_of (next_state q step)) c (step-keeps q step (next_state q step) c (does o q step kept) (among (commits_of q) c only.among));
  one = λ other has same. by other same (step-only q step (next_state q step) other (does o q step kept) (among (commits_of (next_state q step)) other has));
}
  where
    by : (other : Commit) → other.timestamp ≡ c.timestamp → Among (commits_of q) other ⊎ IsNew q step other → other ≡ c
    by other same (inl old) = only.one other (contains (commits_of q) other old) same
    by other same (inr new) = absurd (omega (arith, below o q c kept (among (commits_of q) c only.among), same, ap (λ (x : Commit). x.timestamp) new.3))

only-log : (o : Origin) (q : State) (log : List Step) (c : Commit) → Keeps o q → AreMade q log → IsOnly (commits_of q) c → IsOnly (commits_of (state_after q log)) c
only-log o q [] c kept m only = only
only-log o q (step ∷ log) c kept m only = only-log o (next_state q step) log c (keeps-next o q step kept m.0) m.1 (only-step o q step c kept only)

only-drawn : (o : Origin) (q : State) (s : ℕ) → Keeps o q → writes_of (q.sessions s) ≢ [] → IsOnly (commits_of (next_state q (Draw s))) (commit_by q s)
only-drawn o q s kept wrote =
    let more = (draw-new q s (writes_of (q.sessions s)) wrote).1 in
    subst (λ (l : List Commit). IsOnly l (commit_by q s)) (sym more) (record {
      among = contains (commits_of q ++ commit_by q s ∷ []) (commit_by q s) (among-right (commits_of q) (commit_by q s ∷ []) (commit_by q s) (inl refl));
      one = λ other has same. by other same (among-cases (commits_of q) (commit_by q s ∷ []) other (among (commits_of q ++ commit_by q s ∷ []) other has));
    })
  where
    by : (other : Commit) → other.timestamp ≡ q.next → Among (commits_of q) other ⊎ Among (commit_by q s ∷ []) other → other ≡ commit_by q s
    by other same (inl old) = absurd (omega (arith, below o q other kept old, same))
    by other same (inr (inl new)) = sym new
    by other same (inr (inr none)) = absurd none

-- the only commit with a timestamp that the history has is in the history
only-covered : (q : State) (c : Commit) (t : ℕ) → t ≡ c.timestamp → IsOnly (commits_of q) c → has_timestamp q.history t ≡ true → Contains q.history c
only-covered q c t is only has =
    let found = among-with q.history t has in
    let same : found.0 ≡ c = only.one found.0 (contains (commits_of q) found.0 (among-left q.history (drawn_of q) found.0 found.1)) (found.2 ∙ is) in
    contains q.history c (subst (Among q.history) same found.1)

pub drawn-stays_one : (q : State) (s : ℕ) (log : List Step) → IsOfLife q → AreMade q (Draw s ∷ log) → writes_of (q.sessions s) ≢ []
    → IsOnly (commits_of (state_after q (Draw s ∷ log))) (commit_by q s)
    × (has_timestamp (state_after q (Draw s ∷ log)).history q.next ≡ true → Contains (state_after q (Draw s ∷ log)).history (commit_by q s))
drawn-stays_one q s log life m wrote =
    let only : IsOnly (commits_of (state_after q (Draw s ∷ log))) (commit_by q s) =
    only-log life.0 (next_state q (Draw s)) log (commit_by q s) (keeps-next life.0 q (Draw s) life.1 m.0) m.1 (only-drawn life.0 q s life.1 wrote) in
    (only, only-covered (state_after q (Draw s ∷ log)) (commit_by q s) q.next refl only)

-- ---- a whole transaction

-- stamps and polls have no end among them
no-end : (s : ℕ) (log : List Step) → IsTrue (list_all stamps_or_polls (own s log)) → list_any (is_end_of s) log ≡ false
no-end s [] all = refl
no-end s (step ∷ log) all = by (no-end s log) (is_own s step) refl all
  where
    ends-own : (x : Step) → is_own s x ≡ false → is_end_of s x ≡ false
    ends-own a other = grind (arith)

    stamps-go_on : (x : Step) → stamps_or_polls x ≡ true → is_end_of s x ≡ false
    stamps-go_on a all = grind (arith)

    by : (IsTrue (list_all stamps_or_polls (own s log)) → list_any (is_end_of s) log ≡ false) → (b : Bool) → is_own s step ≡ b → IsTrue (list_all stamps_or_polls (cond b (step ∷ own s log) (own s log))) → (is_end_of s step || list_any (is_end_of s) log) ≡ false
    by more true own_step all =
        let parts = and_parts (stamps_or_polls step) (list_all stamps_or_polls (own s log)) all in
        ap (λ (b : Bool). b || list_any (is_end_of s) log) (stamps-go_on step parts.0) ∙ more parts.1
    by more false other all = ap (λ (b : Bool). b || list_any (is_end_of s) log) (ends-own step other) ∙ more all

-- a session that has drawn isn't active
drew-waits : (q : State) (t : ℕ) → standing_of q (Drew t) ≢ IsActive
drew-waits q t = by (has_timestamp q.history t) (list_any (λ d. nat_eq d.commit.timestamp t && is_stamped d) q.drawn)
  where
    by : (covered stamped : Bool) → cond covered IsCovered (cond stamped IsStamped IsDrawn) ≢ IsActive
    by true stamped e = absurd (cc e)
    by false true e = absurd (cc e)
    by false false e = absurd (cc e)

-- from a draw to the end of the session: the timestamp is covered
ended-covered : (q : State) (s t : ℕ) (more stamps : List Step) → q.sessions s ≡ Some (Drew t) → AreMade q more → IsTrue (list_all stamps_or_polls stamps) → own s more ≡ stamps ++ End s ∷ []
    → has_timestamp (state_after q more).history t ≡ true
ended-covered q s t more stamps drew m all own_is =
    let (first, rest, log_is, one, two) = own-split s more stamps (End s) [] own_is in
    let parts = made-parts q first (End s ∷ rest) (subst (AreMade q) log_is m) in
    let waits = drawn-waits q s (Drew t) first parts.0 drew (drew-waits q t) (no-end s first (subst (λ (l : List Step). IsTrue (list_all stamps_or_polls l)) (sym one) all)) in
    let covered = ends-covered (state_after q first) s t waits parts.1.0 in
    let stays = stays-in (state_after q first).history (state_after (state_after q first) (End s ∷ rest)) t (grows (state_after q first) (End s ∷ rest) parts.1) covered in
    subst (λ (p : State). has_timestamp p.history t ≡ true) (sym (ap (state_after q) log_is ∙ after-append q first (End s ∷ rest))) stays

-- the state in which a session draws that began in this one
abbrev at_draw : State → List Step → State
at_draw q before = state_after (next_state q Begin) before

pub commits-exactly : (q : State) (s : ℕ) (before more : List Step) → IsOfLife q → Transacts q s before more
    → IsKept (state_after q (Begin ∷ (before ++ Draw s ∷ more))) (transacted q s before)
commits-exactly q s before more life t =
    subst (λ (p : State). IsKept p (transacted q s before)) (sym (after-append (next_state q Begin) before (Draw s ∷ more)))
    (subst (λ (c : Commit). IsKept (state_after (at_draw q before) (Draw s ∷ more)) c) (sym same) (record { covered = both.1 covered; only = both.0 }))
  where
    parts : AreMade (next_state q Begin) before × AreMade (at_draw q before) (Draw s ∷ more)
    parts = made-parts (next_state q Begin) before (Draw s ∷ more) t.made.1

    kept : Keeps life.0 (at_draw q before)
    kept = keeps-log life.0 (next_state q Begin) before (keeps-next life.0 q Begin life.1 t.made.0) parts.0

    session : (at_draw q before).sessions s ≡ Some (Active (length q.history) (written_by (own s before)))
    session = accesses-add_up (next_state q Begin) s (length q.history) [] before parts.0 (begun-session q s t.begins) t.accesses

    has_written : writes_of ((at_draw q before).sessions s) ≢ []
    has_written none = t.wrote (sym (ap writes_of session) ∙ none)

    same : transacted q s before ≡ commit_by (at_draw q before) s
    same = ap (λ (w : Writes). record { timestamp = (at_draw q before).next; writes = w }) (sym (ap writes_of session))

    both : IsOnly (commits_of (state_after (at_draw q before) (Draw s ∷ more))) (commit_by (at_draw q before) s)
        × (has_timestamp (state_after (at_draw q before) (Draw s ∷ more)).history (at_draw q before).next ≡ true
        → Contains (state_after (at_draw q before) (Draw s ∷ more)).history (commit_by (at_draw q before) s))
    both = drawn-stays_one (at_draw q before) s more (life.0, kept) parts.1 has_written

    covered : has_timestamp (state_after (at_draw q before) (Draw s ∷ more)).history (at_draw q before).next ≡ true
    covered =
        ended-covered (next_state (at_draw q before) (Draw s)) s (at_draw q before).next more t.stamps
        (draw-new (at_draw q before) s (writes_of ((at_draw q before).sessions s)) has_written).0 parts.1.1 t.waits t.ends

pub kept-stays : (q : State) (log : List Step) (commit : Commit) → IsOfLife q → AreMade q log → IsKept q commit → IsKept (state_after q log) commit
kept-stays q log commit life m kept =
    let more = grows q log m in
    record {
      covered = subst (λ (l : List Commit). Contains l commit) (sym more.1) (Contains-append_left q.history more.0 commit kept.covered);
      only = only-log life.0 q log commit life.1 m kept.only;
    }

-- ---- openings

pub lives-begin : (image : Image) (history : List Commit) (start : State) → Opens image history start → IsFirst history start
lives-begin image history start opens =
    let u = updated-open image opens.may_open in
    record {
      of_life = (
        origin_of start,
        keeps-opened (updated image) history opens.drawn opens.next opens.lost start u.opens u.up_to_date (u.stands history opens.drawn opens.next opens.stands)
            (opens.opens.0, subst (λ (r : Record). IsOpenedGaps r opens.opens.0) (sym u.ruled) opens.opens.1, opens.opens.2 ∙ sym (u.opened_as history opens.lost opens.opens.0)),
      );
      covers = ap (λ (p : State). p.history) opens.opens.2;
      draws = ap (λ (p : State). p.drawn) opens.opens.2;
      sessions = λ s. ap (λ (p : State). p.sessions s) opens.opens.2;
    }

pub lives-go_on : (q : State) (log : List Step) → IsOfLife q → AreMade q log → IsOfLife (state_after q log)
lives-go_on q log life m = (life.0, keeps-log life.0 q log life.1 m)

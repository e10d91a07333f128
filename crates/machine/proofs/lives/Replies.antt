-- What the replies of a run say about the commits that it draws and covers.
use Rattle.std.proofs.Common.{◌≡◌, ◌⊎◌, inl, inr, ℕ, Bool, true, false, cond, not, ◌||◌, nat_eq, List, [], ◌∷◌, ◌++◌, refl, sym, ◌∙◌, ap, subst, append-nil, append_assoc, map, arith}
use Rattle.std.specs.Prelude.{Option, Some, None, All, Contains, IsTrue, Result, Ok, Err, filter, flat_map, if◌then◌else◌}
use Rattle.std.specs.Option.{option_map_or}
use Rattle.std.proofs.lemmas.Bool.{eq-eqb}
use Rattle.std.proofs.lemmas.List.{map-append}
use Rattle.std.proofs.lemmas.List.Elements.{All-nil, All-cons, All-append, All-map, All-filter, All-weaker, All-contains, All-same, All-head, All-tail, Contains-append_left, Contains-push}
use Rattle.base.specs.declared.fault.Fault.{Fault}
use Rattle.base.specs.declared.step.Step.{Step}
use Rattle.base.specs.declared.step.Step.TheVariants.{Begin, Get, Scan, Put, Delete, Draw, Stamp, Poll, Abort, End, Commit as CommitTick, Collect}
use Rattle.base.specs.declared.step.Stage.{Stage}
use Rattle.base.specs.declared.step.Stage.TheVariants.{Chosen}
use Rattle.base.specs.declared.step.Reply.{Reply}
use Rattle.base.specs.declared.step.Reply.TheVariants.{Rows, Done, Drawn as DrewAs, More, Stamped, Idle, Ticked, Covered}
use Rattle.base.specs.Commits.{Commit, Writes}
use Rattle.base.specs.Stands.{has_timestamp}
use Rattle.base.specs.Lists.{is_nil}
use Rattle.machine.specs.Machine.{State, Session, Drawn, Hand, Stepped, refused, answered, memory_refused, device_failed, Answers, Run, final, next_state, state_ticked, state_ticked_on, state_drawn, state_covered, next_stage, is_idle, is_last_stamp, is_chosen, writes_of, timestamp_of, polled, ticked, ticked_on, chosen, taken_in_hand, batch_of, drawn_of, in_hand, uncovered, Cover, present, of_hand, covers_at, covers_closing, closed}
use Rattle.machine.specs.Lives.{World, IsWorld, Opening, Opens, Fails, Numbers, Asked, Report, StopsAt, EndsAs, LifeAs, Lives, RunsUp}
use Rattle.machine.specs.Openings.{OpensAs}
use Rattle.machine.specs.Laws.{drawn_by, drawn_in, covered_by, covered_in, acknowledged_by, acknowledged_in, has_closed, AddsDrawn, LifeAdds, LivesAdd}
use Rattle.machine.specs.Collecting.{visited}
use Rattle.machine.proofs.Growth.{any-append, extends-run}
use Rattle.machine.proofs.collector.Visits.{visit-changes}
use Rattle.machine.proofs.lives.Lost.{runs-up}
use Rattle.machine.proofs.lives.Laws.{life-stands}
use Rattle.machine.proofs.stamps.Drawn.{counted-commits}

-- ---- lists of commits

has-right : (xs ys : List Commit) (t : ℕ) → has_timestamp ys t ≡ true → has_timestamp (xs ++ ys) t ≡ true
has-right [] ys t e = e
has-right (x ∷ xs) ys t e = grind (arith, has-right xs ys t e)

-- a commit of two lists is in one of them
has-if : (a : Bool) (xs ys : List Commit) (t : ℕ) → (has_timestamp (xs ++ ys) t ≡ true → (has_timestamp xs t ≡ true) ⊎ (has_timestamp ys t ≡ true)) → a || has_timestamp (xs ++ ys) t ≡ true
    → (a || has_timestamp xs t ≡ true) ⊎ (has_timestamp ys t ≡ true)
has-if a xs ys t rest e = grind (arith)

has-cases : (xs ys : List Commit) (t : ℕ) → has_timestamp (xs ++ ys) t ≡ true → (has_timestamp xs t ≡ true) ⊎ (has_timestamp ys t ≡ true)
has-cases [] ys t e = inr e
has-cases (x ∷ xs) ys t e = has-if (nat_eq x.timestamp t) xs ys t (has-cases xs ys t) e

-- a commit is in the batch, or among those that are left: of a list, by its first
module _ (batch : List Commit) (x : Commit) (rest : List Commit) (t : ℕ) where
  part-later : has_timestamp (batch ++ rest) t ≡ true → (b : Bool) → has_timestamp (batch ++ cond (not b) (x ∷ rest) rest) t ≡ true
  part-later h a = grind (arith, has-cases, any-append, has-right)

  part-here : (b : Bool) → has_timestamp batch x.timestamp ≡ b → nat_eq x.timestamp t ≡ true → has_timestamp (batch ++ cond (not b) (x ∷ rest) rest) t ≡ true
  part-here a in_batch is = grind (arith, any-append, has-right)

  part : (xs : List Commit) → (has_timestamp xs t ≡ true → has_timestamp (batch ++ rest) t ≡ true) → (a : Bool) → nat_eq x.timestamp t ≡ a → a || has_timestamp xs t ≡ true
      → has_timestamp (batch ++ cond (not (has_timestamp batch x.timestamp)) (x ∷ rest) rest) t ≡ true
  part xs more a is e = grind (arith, part-here, part-later)

has-parts : (batch xs : List Commit) (t : ℕ) → has_timestamp xs t ≡ true → has_timestamp (batch ++ filter (λ c. not (has_timestamp batch c.timestamp)) xs) t ≡ true
has-parts batch [] t e = cc
has-parts batch (x ∷ xs) t e = part batch x (filter (λ c. not (has_timestamp batch c.timestamp)) xs) t xs (has-parts batch xs t) (nat_eq x.timestamp t) refl e

-- the commits of what is drawn, without those of a batch
kept-if : (b : Bool) (d : Drawn) (ds : List Drawn) (cs : List Commit) → map (λ (e : Drawn). e.commit) ds ≡ cs → map (λ (e : Drawn). e.commit) (cond b (d ∷ ds) ds) ≡ cond b (d.commit ∷ cs) cs
kept-if a d ds cs e = grind (arith)

kept-drawn : (batch : List Commit) (ds : List Drawn)
    → map (λ (d : Drawn). d.commit) (filter (λ d. not (has_timestamp batch d.commit.timestamp)) ds) ≡ filter (λ c. not (has_timestamp batch c.timestamp)) (map (λ (d : Drawn). d.commit) ds)
kept-drawn batch [] = refl
kept-drawn batch (d ∷ ds) = kept-if (not (has_timestamp batch d.commit.timestamp)) d _ _ (kept-drawn batch ds)

-- ---- what the replies so far say

-- its timestamp was given out
abbrev Among : List ℕ → Commit → Type 0
Among ts commit = Contains ts commit.timestamp

-- The history is what was covered before and by these batches; and the commits that are covered or drawn are those
-- whose timestamps were given out
record Reported (before covered : List Commit) (ts : List ℕ) (q : State) : Type 0 where
  history : q.history ≡ before ++ covered
  covered_among : All (Among ts) covered
  drawn_among : All (Among ts) (drawn_of q)
  hand_among : All (Among ts) (in_hand q)
  each : All (λ t. has_timestamp (covered ++ drawn_of q) t ≡ true) ts

widen : (ts us : List ℕ) (commits : List Commit) → All (Among ts) commits → All (Among (ts ++ us)) commits
widen ts us commits all = All-weaker (Among ts) (Among (ts ++ us)) (λ c h. Contains-append_left ts us c.timestamp h) commits all

-- a reply that draws nothing and covers nothing
abbrev IsQuiet : Reply → Type 0
IsQuiet reply = (covered_by reply ≡ []) × (drawn_by reply ≡ [])

abbrev ReportedAfter : List Commit → List Commit → List ℕ → Reply → State → Type 0
ReportedAfter before covered ts reply q = Reported before (covered ++ covered_by reply) (ts ++ drawn_by reply) q

told-quiet : (before covered : List Commit) (ts : List ℕ) (reply : Reply) (q q' : State) → IsQuiet reply → Reported before covered ts q' → ReportedAfter before covered ts reply q'
told-quiet before covered ts reply q q' quiet told = grind (arith, append-nil)

-- the state has the same commits
record SameCommits (q q' : State) : Type 0 where
  history : q'.history ≡ q.history
  drawn : drawn_of q' ≡ drawn_of q
  hand : in_hand q' ≡ in_hand q

told-same : (before covered : List Commit) (ts : List ℕ) (q q' : State) → SameCommits q q' → Reported before covered ts q → Reported before covered ts q'
told-same before covered ts q q' same told = record {
  history = same.history ∙ told.history;
  covered_among = told.covered_among;
  drawn_among = All-same (Among ts) (drawn_of q') (drawn_of q) same.drawn told.drawn_among;
  hand_among = All-same (Among ts) (in_hand q') (in_hand q) same.hand told.hand_among;
  each = subst (λ (l : List Commit). All (λ t. has_timestamp (covered ++ l) t ≡ true) ts) (sym same.drawn) told.each;
}

told-drawn : (before covered : List Commit) (ts : List ℕ) (q : State) (n : ℕ) (writes : Writes) → Reported before covered ts q
    → ReportedAfter before covered ts (if is_nil writes then Done else DrewAs q.next) (state_drawn q n writes)
told-drawn before covered ts q n [] told = told-quiet before covered ts Done q (state_drawn q n []) (refl, refl) (told-same before covered ts q (state_drawn q n []) (record { history = refl; drawn = refl; hand = refl }) told)
told-drawn before covered ts q n (write ∷ writes) told =
    let made : Commit = record { timestamp = q.next; writes = write ∷ writes } in
    let new : List ℕ = ts ++ q.next ∷ [] in
    let none : covered ++ [] ≡ covered = append-nil covered in
    let now : drawn_of (state_drawn q n (write ∷ writes)) ≡ drawn_of q ++ made ∷ [] = map-append (λ (d : Drawn). d.commit) q.drawn (record { commit = made; stamped = 0 } ∷ []) in
    let all : covered ++ (drawn_of q ++ made ∷ []) ≡ (covered ++ drawn_of q) ++ made ∷ [] = sym (append_assoc covered (drawn_of q) (made ∷ [])) in
    let Has : ℕ → Type 0 = λ t. has_timestamp ((covered ++ drawn_of q) ++ made ∷ []) t ≡ true in
    let old : All Has ts = All-weaker (λ t. has_timestamp (covered ++ drawn_of q) t ≡ true) Has (λ t h. any-append (covered ++ drawn_of q) (made ∷ []) t h) ts told.each in
    let this : Has q.next = has-right (covered ++ drawn_of q) (made ∷ []) q.next (ap (λ (b : Bool). b || false) (eq-eqb q.next q.next refl)) in
    let each : All Has new = All-append Has ts (q.next ∷ []) old (All-cons Has q.next [] this (All-nil Has)) in
    subst (λ (l : List Commit). Reported before l new (state_drawn q n (write ∷ writes))) (sym none) (record {
      history = told.history;
      covered_among = widen ts (q.next ∷ []) covered told.covered_among;
      drawn_among = All-same (Among new) (drawn_of (state_drawn q n (write ∷ writes))) (drawn_of q ++ made ∷ []) now
          (All-append (Among new) (drawn_of q) (made ∷ []) (widen ts (q.next ∷ []) (drawn_of q) told.drawn_among) (All-cons (Among new) made [] (Contains-push ts q.next) (All-nil (Among new))));
      hand_among = widen ts (q.next ∷ []) (in_hand q) told.hand_among;
      each = subst (λ (l : List Commit). All (λ t. has_timestamp (covered ++ l) t ≡ true) new) (sym now) (subst (λ (l : List Commit). All (λ t. has_timestamp l t ≡ true) new) (sym all) each);
    })

-- a batch that is covered
told-covered : (before covered : List Commit) (ts : List ℕ) (q : State) (hand : Hand) → All (Among ts) hand.commits → Reported before covered ts q
    → ReportedAfter before covered ts (Covered (batch_of q hand)) (state_covered q hand)
told-covered before covered ts q hand among told =
    let none : ts ++ [] ≡ ts = append-nil ts in
    let stays : Commit → Bool = λ c. not (has_timestamp hand.commits c.timestamp) in
    let left : List Commit = filter stays (drawn_of q) in
    let now : drawn_of (state_covered q hand) ≡ left = kept-drawn hand.commits q.drawn in
    let each : (t : ℕ) → has_timestamp (covered ++ drawn_of q) t ≡ true → has_timestamp ((covered ++ hand.commits) ++ left) t ≡ true =
    λ t h. elim (has-cases covered (drawn_of q) t h) [
      | inl old ↦ any-append (covered ++ hand.commits) left t (any-append covered hand.commits t old)
      | inr new ↦ subst (λ (l : List Commit). has_timestamp l t ≡ true) (sym (append_assoc covered hand.commits left)) (has-right covered (hand.commits ++ left) t (has-parts hand.commits (drawn_of q) t new))
    ] in
    subst (λ (l : List ℕ). Reported before (covered ++ hand.commits) l (state_covered q hand)) (sym none) (record {
      history = ap (λ (l : List Commit). l ++ hand.commits) told.history ∙ append_assoc before covered hand.commits;
      covered_among = All-append (Among ts) covered hand.commits told.covered_among among;
      drawn_among = All-same (Among ts) (drawn_of (state_covered q hand)) left now (All-filter stays (Among ts) (drawn_of q) told.drawn_among);
      hand_among = All-nil (Among ts);
      each = subst (λ (l : List Commit). All (λ t. has_timestamp ((covered ++ hand.commits) ++ l) t ≡ true) ts) (sym now)
          (All-weaker (λ t. has_timestamp (covered ++ drawn_of q) t ≡ true) (λ t. has_timestamp ((covered ++ hand.commits) ++ left) t ≡ true) each ts told.each);
    })

told-on : (before covered : List Commit) (ts : List ℕ) (q : State) (hand : Hand) (o : Option Stage) → All (Among ts) hand.commits → Reported before covered ts q
    → ReportedAfter before covered ts (ticked_on q hand o) (state_ticked_on q hand o)
told-on before covered ts q hand None among told = told-covered before covered ts q hand among told
told-on before covered ts q hand (Some stage) among told =
    told-quiet before covered ts (Ticked stage) q (state_ticked_on q hand (Some stage)) (refl, refl) (record {
      history = told.history;
      covered_among = told.covered_among;
      drawn_among = told.drawn_among;
      hand_among = among;
      each = told.each;
    })

chosen-among : (ts : List ℕ) (q : State) → All (Among ts) (drawn_of q) → All (Among ts) (chosen q)
chosen-among ts q all =
    let test : Drawn → Bool = is_chosen q in
    All-map (Among ts) (λ d. d.commit) (filter test q.drawn) (All-filter test (λ d. Among ts d.commit) q.drawn (unmap q.drawn all))
  where
    unmap : (ds : List Drawn) → All (Among ts) (map (λ (d : Drawn). d.commit) ds) → All (λ (d : Drawn). Among ts d.commit) ds
    unmap [] all = All-nil (λ (d : Drawn). Among ts d.commit)
    unmap (d ∷ ds) all =
        All-cons (λ (d : Drawn). Among ts d.commit) d ds (All-head (Among ts) d.commit (map (λ (d : Drawn). d.commit) ds) all) (unmap ds (All-tail (Among ts) d.commit (map (λ (d : Drawn). d.commit) ds) all))

told-idle : (before covered : List Commit) (ts : List ℕ) (q : State) (b : Bool) → Reported before covered ts q
    → ReportedAfter before covered ts (cond b Idle (Ticked Chosen)) (cond b q (record q { hand = Some (taken_in_hand q) }))
told-idle before covered ts q true told = told-quiet before covered ts Idle q q (refl, refl) told
told-idle before covered ts q false told =
    told-quiet before covered ts (Ticked Chosen) q (record q { hand = Some (taken_in_hand q) }) (refl, refl) (record {
      history = told.history;
      covered_among = told.covered_among;
      drawn_among = told.drawn_among;
      hand_among = chosen-among ts q told.drawn_among;
      each = told.each;
    })

told-ticked : (before covered : List Commit) (ts : List ℕ) (q : State) (o : Option Hand) → All (Among ts) (option_map_or (λ hand. hand.commits) o []) → Reported before covered ts q
    → ReportedAfter before covered ts (ticked q o) (state_ticked q o)
told-ticked before covered ts q None among told = told-idle before covered ts q (is_idle q) told
told-ticked before covered ts q (Some hand) among told = told-on before covered ts q hand (next_stage q hand) among told

quiet-if : (b : Bool) (x y : Reply) → IsQuiet x → IsQuiet y → IsQuiet (if b then x else y)
quiet-if a x y p r = grind (arith)

quiet-polled : (q : State) (o : Option Session) → IsQuiet (polled q o)
quiet-polled q a = grind (arith)

-- a step with this reply, after which the commits are the same
told-still : (before covered : List Commit) (ts : List ℕ) (q : State) (reply other : Reply) (q' : State) → Reported before covered ts q → reply ≡ other → IsQuiet other → SameCommits q q' → ReportedAfter before covered ts reply q'
told-still before covered ts q reply other q' told e quiet same =
    subst (λ (r : Reply). ReportedAfter before covered ts r q') (sym e) (told-quiet before covered ts other q q' quiet (told-same before covered ts q q' same told))

told-next : (before covered : List Commit) (ts : List ℕ) (q : State) (step : Step) (reply : Reply) → Reported before covered ts q → Answers q step reply → ReportedAfter before covered ts reply (next_state q step)
told-next before covered ts q Begin reply told a = told-still before covered ts q reply _ (next_state q Begin) told a (refl, refl) (record { history = refl; drawn = refl; hand = refl })
told-next before covered ts q (Get n key) reply told a = told-still before covered ts q reply _ q told a (refl, refl) (record { history = refl; drawn = refl; hand = refl })
told-next before covered ts q (Scan n table lo hi) reply told a = told-still before covered ts q reply (Rows a.0) q told a.1 (refl, refl) (record { history = refl; drawn = refl; hand = refl })
told-next before covered ts q (Put n key row) reply told a = told-still before covered ts q reply _ (next_state q (Put n key row)) told a (refl, refl) (record { history = refl; drawn = refl; hand = refl })
told-next before covered ts q (Delete n key) reply told a = told-still before covered ts q reply _ (next_state q (Delete n key)) told a (refl, refl) (record { history = refl; drawn = refl; hand = refl })
told-next before covered ts q (Draw n) reply told a =
    subst (λ (r : Reply). ReportedAfter before covered ts r (next_state q (Draw n))) (sym a) (told-drawn before covered ts q n (writes_of (q.sessions n)) told)
told-next before covered ts q (Stamp n) reply told a =
    told-still before covered ts q reply _ (next_state q (Stamp n)) told a (quiet-if (is_last_stamp q n) Stamped More (refl, refl) (refl, refl))
    (record { history = refl; drawn = counted-commits (timestamp_of (q.sessions n)) q.drawn; hand = refl })
told-next before covered ts q (Poll n) reply told a = told-still before covered ts q reply _ q told a (quiet-polled q (q.sessions n)) (record { history = refl; drawn = refl; hand = refl })
told-next before covered ts q (Abort n) reply told a = told-still before covered ts q reply _ (next_state q (Abort n)) told a (refl, refl) (record { history = refl; drawn = refl; hand = refl })
told-next before covered ts q (End n) reply told a = told-still before covered ts q reply _ (next_state q (End n)) told a (refl, refl) (record { history = refl; drawn = refl; hand = refl })
told-next before covered ts q CommitTick reply told a =
    subst (λ (r : Reply). ReportedAfter before covered ts r (next_state q CommitTick)) (sym a) (told-ticked before covered ts q q.hand told.hand_among told)
told-next before covered ts q Collect reply told a =
    let changes = visit-changes q in
    grind (arith, told-still before covered ts q reply _ (visited q) told a)

told-stepped : (before covered : List Commit) (ts : List ℕ) (q : State) (step : Step) (reply : Reply) (q' : State) → Reported before covered ts q → Stepped q step reply q' → ReportedAfter before covered ts reply q'
told-stepped before covered ts q step reply q' told (refused fault e r s) =
    subst (λ (p : State). ReportedAfter before covered ts reply p) (sym s) (told-still before covered ts q reply _ q told r (refl, refl) (record { history = refl; drawn = refl; hand = refl }))
told-stepped before covered ts q step reply q' told (answered e a s) = subst (λ (p : State). ReportedAfter before covered ts reply p) (sym s) (told-next before covered ts q step reply told a)
told-stepped before covered ts q step reply q' told (memory_refused e m r s) =
    subst (λ (p : State). ReportedAfter before covered ts reply p) (sym s) (told-still before covered ts q reply _ q told r (refl, refl) (record { history = refl; drawn = refl; hand = refl }))
told-stepped before covered ts q step reply q' told (device_failed e m r s) =
    subst (λ (p : State). ReportedAfter before covered ts reply p) (sym s) (told-still before covered ts q reply _ (record q { failed = true }) told r (refl, refl) (record { history = refl; drawn = refl; hand = refl }))

told-run : (before covered : List Commit) (ts : List ℕ) (q : State) (steps : List Step) (replies : List Reply) (states : List State) → Reported before covered ts q → Run q steps replies states
    → Reported before (covered ++ covered_in replies) (ts ++ drawn_in replies) (final q states)
told-run before covered ts q [] [] [] told run =
    subst (λ (l : List Commit). Reported before l (ts ++ []) q) (sym (append-nil covered)) (subst (λ (l : List ℕ). Reported before covered l q) (sym (append-nil ts)) told)
told-run before covered ts q (step ∷ steps) (reply ∷ replies) (q1 ∷ states) told run =
    let first = told-stepped before covered ts q step reply q1 told run.0 in
    let rest = told-run before (covered ++ covered_by reply) (ts ++ drawn_by reply) q1 steps replies states first run.1 in
    subst (λ (l : List Commit). Reported before l (ts ++ (drawn_by reply ++ drawn_in replies)) (final q1 states)) (append_assoc covered (covered_by reply) (covered_in replies))
    (subst (λ (l : List ℕ). Reported before ((covered ++ covered_by reply) ++ covered_in replies) l (final q1 states)) (append_assoc ts (drawn_by reply) (drawn_in replies)) rest)
told-run before covered ts q [] [] (q1 ∷ states) told run = absurd run
told-run before covered ts q [] (r1 ∷ replies) states told run = absurd run
told-run before covered ts q (s1 ∷ steps) [] states told run = absurd run
told-run before covered ts q (s1 ∷ steps) (r1 ∷ replies) [] told run = absurd run

told-opened : (start : State) (history : List Commit) → start.history ≡ history → start.drawn ≡ [] → start.hand ≡ None → Reported history [] [] start
told-opened start history same drawn hand = grind (arith, append-nil)

-- ---- what a stop adds

-- what the cover of a pending batch adds
abbrev BeginsAs : State → List Commit → Cover → Type 0
BeginsAs q all cover = (first : List Commit) × (rest : List Commit) × (all ≡ first ++ rest) × (cover.commits ≡ q.history ++ first)

begins-hand : (q : State) (rest : List Commit) (o : Option Hand) → All (BeginsAs q (option_map_or (λ (h : Hand). h.commits) o [] ++ rest)) (of_hand q o)
begins-hand q rest a = grind (arith)

-- the cover holds the history and a beginning of what is uncovered
abbrev Begins : State → Cover → Type 0
Begins q cover = BeginsAs q (uncovered q) cover

begins-present : (q : State) → Begins q (present q)
begins-present q = ([], uncovered q, refl, sym (append-nil q.history))

begins-at : (q : State) → All (Begins q) (covers_at q)
begins-at q = All-cons (Begins q) (present q) (of_hand q q.hand) (begins-present q) (begins-hand q (filter (λ commit. not (has_timestamp (in_hand q) commit.timestamp)) (drawn_of q)) q.hand)

begins-closed : (q : State) → All (Begins q) (closed q ∷ [])
begins-closed q = All-cons (Begins q) (closed q) [] (uncovered q, [], sym (append-nil (uncovered q)), refl) (All-nil (Begins q))

begins-closing : (q : State) → All (Begins q) (covers_closing q)
begins-closing q = All-append (Begins q) (covers_at q) (closed q ∷ []) (begins-at q) (begins-closed q)

-- what a stop in the state leaves
abbrev Leaves : State → World → Type 0
Leaves q after = (first : List Commit) × (rest : List Commit) × (uncovered q ≡ first ++ rest) × (after.history ≡ q.history ++ first)

leaves : (q : State) (covers : List Cover) (lost : List ℕ) (after : World) → All (Begins q) covers → StopsAt q covers lost after → Leaves q after
leaves q covers lost after begins s =
    let b = All-contains (Begins q) covers s.cover begins s.one in
    (b.0, b.1, b.2, s.history ∙ b.3)

end-leaves : (q : State) (closes : Bool) (c : Option (Result Numbers Fault)) (lost : List ℕ) (after : World) → EndsAs q closes c lost after → Leaves q after
end-leaves q closes None lost after (asked, s) = leaves q (covers_at q) lost after (begins-at q) s
end-leaves q closes (Some (Err fault)) lost after (asked, works, inl (g, s)) = leaves q (covers_at q) lost after (begins-at q) s
end-leaves q closes (Some (Err fault)) lost after (asked, works, inr (g, d, s)) = leaves q (covers_closing q) lost after (begins-closing q) s
end-leaves q closes (Some (Ok numbers)) lost after (asked, works, g, n, s) = leaves q (closed q ∷ []) lost after (begins-closed q) s

-- closing with success leaves everything
closed-leaves : (q : State) (lost : List ℕ) (after : World) → StopsAt q (closed q ∷ []) lost after → after.history ≡ q.history ++ uncovered q
closed-leaves q lost after s = grind arith

-- what is uncovered was drawn, and all that is drawn is in it
uncovered-among : (ts : List ℕ) (q : State) → All (Among ts) (in_hand q) → All (Among ts) (drawn_of q) → All (Among ts) (uncovered q)
uncovered-among ts q hand drawn =
    let test : Commit → Bool = λ commit. not (has_timestamp (in_hand q) commit.timestamp) in
    All-append (Among ts) (in_hand q) (filter test (drawn_of q)) hand (All-filter test (Among ts) (drawn_of q) drawn)

uncovered-has : (covered : List Commit) (q : State) (t : ℕ) → has_timestamp (covered ++ drawn_of q) t ≡ true → has_timestamp (covered ++ uncovered q) t ≡ true
uncovered-has covered q t h =
    elim (has-cases covered (drawn_of q) t h) [
      | inl old ↦ any-append covered (uncovered q) t old
      | inr new ↦ has-right covered (uncovered q) t (has-parts (in_hand q) (drawn_of q) t new)
    ]

-- ---- what replies acknowledge

-- what the reply acknowledges is in the history
abbrev Acknowledges : Reply → State → Type 0
Acknowledges reply q = All (λ t. has_timestamp q.history t ≡ true) (acknowledged_by reply)

ack-none : (q : State) → All (λ t. has_timestamp q.history t ≡ true) []
ack-none q = All-nil (λ t. has_timestamp q.history t ≡ true)

has-each : (before commits : List Commit) → All (λ t. has_timestamp (before ++ commits) t ≡ true) (map (λ (c : Commit). c.timestamp) commits)
has-each before [] = All-nil (λ t. has_timestamp (before ++ []) t ≡ true)
has-each before (c ∷ commits) =
    let Has : ℕ → Type 0 = λ t. has_timestamp (before ++ c ∷ commits) t ≡ true in
    let here : Has c.timestamp = has-right before (c ∷ commits) c.timestamp (any-append (c ∷ []) commits c.timestamp (ap (λ (b : Bool). b || false) (eq-eqb c.timestamp c.timestamp refl))) in
    let rest : All Has (map (λ (c : Commit). c.timestamp) commits) =
    subst (λ (l : List Commit). All (λ t. has_timestamp l t ≡ true) (map (λ (c : Commit). c.timestamp) commits)) (append_assoc before (c ∷ []) commits) (has-each (before ++ c ∷ []) commits) in
    All-cons Has c.timestamp (map (λ (c : Commit). c.timestamp) commits) here rest

ack-on : (q : State) (hand : Hand) (o : Option Stage) → Acknowledges (ticked_on q hand o) (state_ticked_on q hand o)
ack-on q hand None = has-each q.history hand.commits
ack-on q hand (Some stage) = ack-none q

ack-ticked : (q : State) (o : Option Hand) → Acknowledges (ticked q o) (state_ticked q o)
ack-ticked q a = grind (arith, ack-on)

ack-next : (q : State) (step : Step) (reply : Reply) → Answers q step reply → Acknowledges reply (next_state q step)
ack-next q b reply a = grind (arith, ack-ticked)

ack-stepped : (q : State) (step : Step) (reply : Reply) (q' : State) → Stepped q step reply q' → Acknowledges reply q'
ack-stepped q step reply q' b = grind (arith, ack-next)

-- a timestamp stays in a history that grows
stay-all : (history : List Commit) (more : List Commit) (ts : List ℕ) → All (λ t. has_timestamp history t ≡ true) ts → All (λ t. has_timestamp (history ++ more) t ≡ true) ts
stay-all history more ts all = All-weaker (λ t. has_timestamp history t ≡ true) (λ t. has_timestamp (history ++ more) t ≡ true) (λ t h. any-append history more t h) ts all

stay-grown : (history later : List Commit) (more : List Commit) (ts : List ℕ) → later ≡ history ++ more → All (λ t. has_timestamp history t ≡ true) ts → All (λ t. has_timestamp later t ≡ true) ts
stay-grown history later more ts e all = subst (λ (l : List Commit). All (λ t. has_timestamp l t ≡ true) ts) (sym e) (stay-all history more ts all)

ack-run : (q : State) (steps : List Step) (replies : List Reply) (states : List State) → Run q steps replies states → All (λ t. has_timestamp (final q states).history t ≡ true) (flat_map acknowledged_by replies)
ack-run q [] [] [] run = ack-none q
ack-run q (step ∷ steps) (reply ∷ replies) (q1 ∷ states) run =
    let grown = extends-run q1 steps replies states run.1 in
    All-append (λ t. has_timestamp (final q1 states).history t ≡ true) (acknowledged_by reply) (flat_map acknowledged_by replies)
    (stay-grown q1.history (final q1 states).history grown.0 (acknowledged_by reply) grown.1 (ack-stepped q step reply q1 run.0)) (ack-run q1 steps replies states run.1)
ack-run q [] [] (q1 ∷ states) run = absurd run
ack-run q [] (r1 ∷ replies) states run = absurd run
ack-run q (s1 ∷ steps) [] states run = absurd run
ack-run q (s1 ∷ steps) (r1 ∷ replies) [] run = absurd run

-- ---- lives

-- the timestamps of what was closed
close-ack : (q : State) (closes : Bool) (c : Option (Result Numbers Fault)) (lost : List ℕ) (after : World) (covered : List Commit) (before : List Commit) (ts : List ℕ) → q.history ≡ before ++ covered
    → All (λ t. has_timestamp (covered ++ uncovered q) t ≡ true) ts → EndsAs q closes c lost after → All (λ t. has_timestamp after.history t ≡ true) (if has_closed c then ts else [])
close-ack q closes None lost after covered before ts e each ends = All-nil (λ t. has_timestamp after.history t ≡ true)
close-ack q closes (Some (Err fault)) lost after covered before ts e each ends = All-nil (λ t. has_timestamp after.history t ≡ true)
close-ack q closes (Some (Ok numbers)) lost after covered before ts e each (asked, works, g, n, s) =
    let is : after.history ≡ before ++ (covered ++ uncovered q) = closed-leaves q lost after s ∙ ap (λ (l : List Commit). l ++ uncovered q) e ∙ append_assoc before covered (uncovered q) in
    subst (λ (l : List Commit). All (λ t. has_timestamp l t ≡ true) ts) (sym is)
    (All-weaker (λ t. has_timestamp (covered ++ uncovered q) t ≡ true) (λ t. has_timestamp (before ++ (covered ++ uncovered q)) t ≡ true) (λ t h. has-right before (covered ++ uncovered q) t h) ts each)

told-life-opened : (before : World) (start : State) (steps done : List Step) (replies : List Reply) (states : List State) (closes : Bool) (opening : Opening) (c : Option (Result Numbers Fault)) (after : World)
    → OpensAs before.image before.history before.lost start → RunsUp start steps replies states
    → start.history ≡ before.history → start.drawn ≡ [] → start.hand ≡ None → Run start done replies states → EndsAs (final start states) closes c before.lost after
    → AddsDrawn before steps replies after × All (λ t. has_timestamp after.history t ≡ true) (flat_map acknowledged_by replies ++ (if has_closed c then drawn_in replies else []))
told-life-opened before start steps done replies states closes opening c after opens runs same drawn hand run ends =
    let q : State = final start states in
    let told : Reported before.history (covered_in replies) (drawn_in replies) q = told-run before.history [] [] start done replies states (told-opened start before.history same drawn hand) run in
    let left = end-leaves q closes c before.lost after ends in
    let each : All (λ t. has_timestamp (covered_in replies ++ uncovered q) t ≡ true) (drawn_in replies) =
    All-weaker (λ t. has_timestamp (covered_in replies ++ drawn_of q) t ≡ true) (λ t. has_timestamp (covered_in replies ++ uncovered q) t ≡ true) (λ t h. uncovered-has (covered_in replies) q t h) (drawn_in replies) told.each in (
      record {
        start = start;
        states = states;
        opens = opens;
        runs = runs;
        covers = told.history;
        first = left.0;
        rest = left.1;
        in_order = left.2;
        history = left.3;
        drawn = All-append (Among (drawn_in replies)) (covered_in replies) (uncovered q) told.covered_among (uncovered-among (drawn_in replies) q told.hand_among told.drawn_among);
        each = each;
      },
      All-append (λ t. has_timestamp after.history t ≡ true) (flat_map acknowledged_by replies) (if has_closed c then drawn_in replies else [])
          (stay-grown q.history after.history left.0 (flat_map acknowledged_by replies) left.3 (ack-run start done replies states run))
          (close-ack q closes c before.lost after (covered_in replies) before.history (drawn_in replies) told.history each ends),
    )

still : (before after : World) (replies : List Reply) (c : Option (Result Numbers Fault)) → replies ≡ [] → c ≡ None
    → All (λ t. has_timestamp after.history t ≡ true) (flat_map acknowledged_by replies ++ (if has_closed c then drawn_in replies else []))
still before after replies c none unclosed =
    All-same (λ t. has_timestamp after.history t ≡ true) _ [] ((λ i. flat_map acknowledged_by (none i) ++ (if has_closed (unclosed i) then drawn_in (none i) else []))) (All-nil (λ t. has_timestamp after.history t ≡ true))

-- a life, by its opening
life-told : (before : World) (asked : Asked) (opening : Opening) (replies : List Reply) (c : Option (Result Numbers Fault)) (after : World) → LifeAs before asked opening replies c after
    → LifeAdds before asked.steps opening replies after × ((more : List Commit) × (after.history ≡ before.history ++ more))
    × All (λ t. has_timestamp after.history t ≡ true) (flat_map acknowledged_by replies ++ (if has_closed c then drawn_in replies else []))
life-told before asked (Fails fault) replies c after (inl f, r, n) =
    let same : after.history ≡ before.history = ap (λ (w : World). w.history) f.1 in (same, ([], same ∙ sym (append-nil before.history)), still before after replies c r n)
life-told before asked (Fails fault) replies c after (inr (inl f), r, n) =
    let same : after.history ≡ before.history = ap (λ (w : World). w.history) f.2 in (same, ([], same ∙ sym (append-nil before.history)), still before after replies c r n)
life-told before asked (Fails fault) replies c after (inr (inr f), r, n) =
    (f.1.history, ([], f.1.history ∙ sym (append-nil before.history)), still before after replies c r n)
life-told before asked (Opens numbers next gaps rows) replies c after (may, start, states, opens, told, at, gaps_told, rows_told, runs, ends) =
    let run = runs-up start asked.steps replies states runs in
    let is = opens.2 in
    let both = told-life-opened before start asked.steps run.0 replies states asked.closes (Opens numbers next gaps rows) c after opens runs
    (ap (λ (q : State). q.history) is) (ap (λ (q : State). q.drawn) is) (ap (λ (q : State). q.hand) is) run.1 ends in
    let a = both.0 in
    (a, (covered_in replies ++ a.first, a.history ∙ ap (λ (l : List Commit). l ++ a.first) a.covers ∙ append_assoc before.history (covered_in replies) a.first), both.1)

lives-grow : (before : World) (asked : List Asked) (reports : List Report) (after : World) → Lives before asked reports after → (more : List Commit) × (after.history ≡ before.history ++ more)
lives-grow before [] [] after e = ([], ap (λ (w : World). w.history) e ∙ sym (append-nil before.history))
lives-grow before (a ∷ asked) (r ∷ reports) after (mid, life, lives) =
    let first = (life-told before a r.opening r.replies r.closed mid life).1 in
    let rest = lives-grow mid asked reports after lives in
    (first.0 ++ rest.0, rest.1 ∙ (ap (λ (l : List Commit). l ++ rest.0) first.1 ∙ append_assoc before.history first.0 rest.0))
lives-grow before [] (r ∷ reports) after none = absurd none
lives-grow before (a ∷ asked) [] after none = absurd none

pub lives-add : (before : World) (asked : List Asked) (reports : List Report) (after : World) → IsWorld before → Lives before asked reports after → LivesAdd before asked reports after
lives-add before [] [] after w e = ap (λ (w : World). w.history) e
lives-add before (a ∷ asked) (r ∷ reports) after w (mid, life, lives) =
    (mid, (life-told before a r.opening r.replies r.closed mid life).0, lives-add mid asked reports after (life-stands before a r.opening r.replies r.closed mid w life) lives)
lives-add before [] (r ∷ reports) after w none = absurd none
lives-add before (a ∷ asked) [] after w none = absurd none

pub lives-acknowledge : (before : World) (asked : List Asked) (reports : List Report) (after : World) → IsWorld before → Lives before asked reports after
    → All (λ t. IsTrue (has_timestamp after.history t)) (flat_map acknowledged_in reports)
lives-acknowledge before [] [] after w e = All-nil (λ t. has_timestamp after.history t ≡ true)
lives-acknowledge before (a ∷ asked) (r ∷ reports) after w (mid, life, lives) =
    let first = (life-told before a r.opening r.replies r.closed mid life).2 in
    let grown = lives-grow mid asked reports after lives in
    All-append (λ t. has_timestamp after.history t ≡ true) (acknowledged_in r) (flat_map acknowledged_in reports)
    (stay-grown mid.history after.history grown.0 (acknowledged_in r) grown.1 first)
    (lives-acknowledge mid asked reports after (life-stands before a r.opening r.replies r.closed mid w life) lives)
lives-acknowledge before [] (r ∷ reports) after w none = absurd none
lives-acknowledge before (a ∷ asked) [] after w none = absurd none

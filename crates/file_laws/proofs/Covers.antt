-- Of all that may rule along a run, two with one gate are one.
use Rattle.std.proofs.Common.{◌≡◌, ◌⊎◌, inl, inr, ℕ, ◌+◌, ◌<◌, ◌≤◌, Bool, true, false, cond, List, [], ◌∷◌, ◌++◌, refl, sym, ◌∙◌, ap, subst, arith}
use Rattle.std.specs.Prelude.{Option, Some, None, Contains, is_some}
use Rattle.std.proofs.lemmas.List.Elements.{Contains-append_left, Contains-append_right, Contains-append_cases, Contains-push}
use Rattle.base.specs.declared.step.Step.{Step}
use Rattle.base.specs.declared.step.Step.TheVariants.{Begin, Get, Scan, Put, Delete, Draw, Stamp, Poll, Abort, End, Commit as CommitTick, Collect}
use Rattle.base.specs.declared.step.Stage.{Stage}
use Rattle.base.specs.declared.step.Reply.{Reply}
use Rattle.base.specs.Commits.{Writes}
use Rattle.base.specs.Records.{Record}
use Rattle.machine.specs.Machine.{State, Hand, Stepped, refused, answered, memory_refused, device_failed, Run, final, next_state, state_drawn, state_ticked, state_ticked_on, next_stage, is_idle, taken_in_hand, writes_of, Cover, present, of_hand, covers_at, closing_gate, closed}
use Rattle.machine.proofs.collector.Visits.{visit-changes}
use Rattle.file_laws.specs.Found.{IsNumbered, covers_within, MayRule}

-- ---- what a step does to what may rule

data Moves (q q' : State) : Type 0 where
  stays : q'.ruling ≡ q.ruling → q'.history ≡ q.history → q'.hand ≡ q.hand → Moves q q'
  takes : q'.ruling ≡ q.ruling → q'.history ≡ q.history → q.hand ≡ None → (hand : Hand) → q'.hand ≡ Some hand → hand.target.gate ≡ q.ruling.gate + 1 → Moves q q'
  ticks : q'.ruling ≡ q.ruling → q'.history ≡ q.history → (hand : Hand) (count : ℕ) → q.hand ≡ Some hand → q'.hand ≡ Some (record hand { ticks = count }) → Moves q q'
  covers : (hand : Hand) → q.hand ≡ Some hand → q'.ruling ≡ hand.target → q'.history ≡ q.history ++ hand.commits → q'.hand ≡ None → Moves q q'

moves-drawn : (q : State) (n : ℕ) (writes : Writes) → Moves q (state_drawn q n writes)
moves-drawn q n [] = stays refl refl refl
moves-drawn q n (write ∷ writes) = stays refl refl refl

moves-first : (q : State) (b : Bool) → q.hand ≡ None → Moves q (cond b q (record q { hand = Some (taken_in_hand q) }))
moves-first q true none = stays refl refl refl
moves-first q false none = takes refl refl none (taken_in_hand q) refl refl

moves-on : (q : State) (hand : Hand) (stage : Option Stage) → q.hand ≡ Some hand → Moves q (state_ticked_on q hand stage)
moves-on q hand (Some stage) is = ticks refl refl hand (hand.ticks + 1) is refl
moves-on q hand None is = covers hand is refl refl refl

moves-ticked : (q : State) (hand : Option Hand) → q.hand ≡ hand → Moves q (state_ticked q hand)
moves-ticked q None is = moves-first q (is_idle q) is
moves-ticked q (Some hand) is = moves-on q hand (next_stage q hand) is

moves-next : (q : State) (step : Step) → Moves q (next_state q step)
moves-next q Begin = stays refl refl refl
moves-next q (Get n key) = stays refl refl refl
moves-next q (Scan n table lo hi) = stays refl refl refl
moves-next q (Put n key row) = stays refl refl refl
moves-next q (Delete n key) = stays refl refl refl
moves-next q (Draw n) = moves-drawn q n (writes_of (q.sessions n))
moves-next q (Stamp n) = stays refl refl refl
moves-next q (Poll n) = stays refl refl refl
moves-next q (Abort n) = stays refl refl refl
moves-next q (End n) = stays refl refl refl
moves-next q CommitTick = moves-ticked q q.hand refl
moves-next q Collect = let same = visit-changes q in stays same.ruling same.history same.hand

moves-same : (q q' : State) (failed : Bool) → q' ≡ record q { failed = failed } → Moves q q'
moves-same q q' failed same = stays (ap (λ (p : State). p.ruling) same) (ap (λ (p : State). p.history) same) (ap (λ (p : State). p.hand) same)

moves : (q : State) (step : Step) (reply : Reply) (q' : State) → Stepped q step reply q' → Moves q q'
moves q step reply q' (refused fault e r s) = moves-same q q' q.failed s
moves q step reply q' (answered e a s) = subst (λ (p : State). Moves q p) (sym s) (moves-next q step)
moves q step reply q' (memory_refused e m r s) = moves-same q q' q.failed s
moves q step reply q' (device_failed e m r s) = moves-same q q' true s

-- ---- hands

same_hand : (hand other : Hand) → Some hand ≡ Some other → hand ≡ other
same_hand hand other e = cc

no_hand : (hand : Hand) → None ≡ Some hand → ⊥
no_hand hand e = cc

numbered-after : (q q' : State) → IsNumbered q → Moves q q' → IsNumbered q'
numbered-after q q' numbered a hand is = grind (arith, same_hand, no_hand)

-- ---- a cover and a state

-- that of a batch that is being written
abbrev over : State → Hand → Cover
over q hand = record { ruled_by = hand.target; commits = q.history ++ hand.commits }

-- it may rule in the state
abbrev IsAt : State → Cover → Type 0
IsAt q cover = (cover ≡ present q) ⊎ ((hand : Hand) × (q.hand ≡ Some hand) × (cover ≡ over q hand))

-- It may rule from the state on: no gate is below the state's, and with the gate of what may rule in the state it is that
record Follows (q : State) (cover : Cover) : Type 0 where
  least : q.ruling.gate ≤ cover.ruled_by.gate
  own : cover.ruled_by.gate ≡ q.ruling.gate → cover ≡ present q
  batch : (hand : Hand) → q.hand ≡ Some hand → cover.ruled_by.gate ≡ hand.target.gate → cover ≡ over q hand

follows-own : (q : State) → IsNumbered q → Follows q (present q)
follows-own q numbered = record { least = omega arith; own = λ same. refl; batch = λ hand is same. absurd (omega (arith, same, numbered hand is)) }

follows-over : (q : State) → IsNumbered q → (hand : Hand) → q.hand ≡ Some hand → Follows q (over q hand)
follows-over q numbered hand is = grind (arith, same_hand)

follows-at : (q : State) (cover : Cover) → IsNumbered q → IsAt q cover → Follows q cover
follows-at q cover numbered a = grind (arith, follows-own, follows-over)

-- with one gate they are one
meets : (q : State) (cover other : Cover) → IsAt q cover → Follows q other → cover.ruled_by.gate ≡ other.ruled_by.gate → cover ≡ other
meets q cover other a follows same = grind (arith)

present-same : (q q' : State) → q'.ruling ≡ q.ruling → q'.history ≡ q.history → present q' ≡ present q
present-same q q' r h = λ i. record { ruled_by = r i; commits = h i }

over-same : (q q' : State) (hand : Hand) → q'.history ≡ q.history → over q' hand ≡ over q hand
over-same q q' hand h = λ i. record { ruled_by = hand.target; commits = h i ++ hand.commits }

-- what follows a state follows the one before
follows-before : (q q' : State) (cover : Cover) → IsNumbered q → Moves q q' → Follows q' cover → Follows q cover
follows-before q q' cover numbered (stays r h same) follows = grind (arith, present-same, over-same)
follows-before q q' cover numbered (takes r h none taken now above) follows = grind (arith, present-same, no_hand)
follows-before q q' cover numbered (ticks r h held count was now) follows = record {
  least = omega (arith, follows.least, ap (λ (x : Record). x.gate) r);
  own = λ gate. follows.own (gate ∙ sym (ap (λ (x : Record). x.gate) r)) ∙ present-same q q' r h;
  batch = λ hand is gate.
      let same : held ≡ hand = same_hand held hand (sym was ∙ is) in
      follows.batch (record held { ticks = count }) now (gate ∙ sym (ap (λ (x : Hand). x.target.gate) same)) ∙ over-same q q' held h ∙ ap (over q) same;
}
follows-before q q' cover numbered (covers held was r h none) follows = grind (arith, same_hand)

-- ---- what lists of covers have

none-of : (cover : Cover) → Contains [] cover → ⊥
none-of cover (k, within, is) = omega (arith, within)

pub one-of : (only cover : Cover) → Contains (only ∷ []) cover → cover ≡ only
one-of only cover a = grind (arith)

of-hand : (q : State) (hand : Option Hand) (cover : Cover) → Contains (of_hand q hand) cover → (held : Hand) × (hand ≡ Some held) × (cover ≡ over q held)
of-hand q a cover has = grind (arith, none-of, one-of)

is-at : (q : State) (cover : Cover) → Contains (covers_at q) cover → IsAt q cover
is-at q cover has = grind (arith, one-of, of-hand)

pub has-own : (q : State) → Contains (covers_at q) (present q)
has-own q = Contains-append_left (present q ∷ []) (of_hand q q.hand) (present q) (Contains-push [] (present q))

has-over : (q : State) (hand : Hand) → q.hand ≡ Some hand → Contains (covers_at q) (over q hand)
has-over q hand is = subst (λ (o : Option Hand). Contains (present q ∷ of_hand q o) (over q hand)) (sym is)
    (Contains-append_right (present q ∷ []) (over q hand ∷ []) (over q hand) (Contains-push [] (over q hand)))

has-at : (q : State) (cover : Cover) → IsAt q cover → Contains (covers_at q) cover
has-at q cover a = grind (arith, has-own, has-over)

-- what is being written after a step goes over what the step leaves
kept-history : (q q' : State) (hand : Hand) → Moves q q' → q'.hand ≡ Some hand → q'.history ≡ q.history
kept-history q q' hand a is = grind (arith, no_hand)

-- within a step rules what may rule before it or after it
within-cases : (q q' : State) (cover : Cover) → Moves q q' → Contains (covers_within q q') cover → IsAt q cover ⊎ IsAt q' cover
within-cases q q' cover moved has = elim (Contains-append_cases (covers_at q) (of_hand q q'.hand ++ present q' ∷ []) cover has) [
  | inl before ↦ inl (is-at q cover before)
  | inr later ↦ elim (Contains-append_cases (of_hand q q'.hand) (present q' ∷ []) cover later) [
    | inl batch ↦ inr (inr (held batch))
    | inr own ↦ inr (inl (one-of (present q') cover own))
  ]
]
  where
    held : Contains (of_hand q q'.hand) cover → (hand : Hand) × (q'.hand ≡ Some hand) × (cover ≡ over q' hand)
    held batch =
        let one = of-hand q q'.hand cover batch in
        (one.0, one.1, one.2 ∙ sym (over-same q q' one.0 (kept-history q q' one.0 moved one.1)))

-- ---- along a run

pub rules-first : (q : State) (states : List State) (cover : Cover) → Contains (covers_at q) cover → MayRule q states cover
rules-first q [] cover has = has
rules-first q (q' ∷ states) cover has = inl (Contains-append_left (covers_at q) (of_hand q q'.hand ++ present q' ∷ []) cover has)

pub rules-final : (q : State) (states : List State) (cover : Cover) → Contains (covers_at (final q states)) cover → MayRule q states cover
rules-final q [] cover has = has
rules-final q (q' ∷ states) cover has = inr (rules-final q' states cover has)

pub rules-last : (q : State) (states : List State) (q' : State) (cover : Cover) → Contains (covers_within (final q states) q') cover → MayRule q (states ++ q' ∷ []) cover
rules-last q [] q' cover has = inl has
rules-last q (q1 ∷ states) q' cover has = inr (rules-last q1 states q' cover has)

-- at the first state, or along the rest
split : (q q' : State) (states : List State) (cover : Cover) → Moves q q' → MayRule q (q' ∷ states) cover → IsAt q cover ⊎ MayRule q' states cover
split q q' states cover moved (inl within) = grind (arith, within-cases q q' cover moved within, rules-first, has-at)
split q q' states cover moved (inr later) = inr later

follows-along : (q : State) (steps : List Step) (replies : List Reply) (states : List State) (cover : Cover) → IsNumbered q → Run q steps replies states → MayRule q states cover → Follows q cover
follows-along q [] [] [] cover numbered run rules = follows-at q cover numbered (is-at q cover rules)
follows-along q (step ∷ steps) (reply ∷ replies) (q' ∷ states) cover numbered run rules =
    let moved = moves q step reply q' run.0 in
    elim (split q q' states cover moved rules) [
      | inl here ↦ follows-at q cover numbered here
      | inr later ↦ follows-before q q' cover numbered moved (follows-along q' steps replies states cover (numbered-after q q' numbered moved) run.1 later)
    ]
follows-along q [] [] (q1 ∷ states) cover numbered run rules = absurd run
follows-along q [] (r1 ∷ replies) states cover numbered run rules = absurd run
follows-along q (s1 ∷ steps) [] states cover numbered run rules = absurd run
follows-along q (s1 ∷ steps) (r1 ∷ replies) [] cover numbered run rules = absurd run

-- no gate is below that of the state
pub least-gate : (q : State) (steps : List Step) (replies : List Reply) (states : List State) (cover : Cover) → IsNumbered q → Run q steps replies states → MayRule q states cover → q.ruling.gate ≤ cover.ruled_by.gate
least-gate q steps replies states cover numbered run rules = (follows-along q steps replies states cover numbered run rules).least

pub one-cover : (q : State) (steps : List Step) (replies : List Reply) (states : List State) → IsNumbered q → Run q steps replies states
    → (cover other : Cover) → MayRule q states cover → MayRule q states other → cover.ruled_by.gate ≡ other.ruled_by.gate → cover ≡ other
one-cover q [] [] [] numbered run cover other rules rules' same = meets q cover other (is-at q cover rules) (follows-at q other numbered (is-at q other rules')) same
one-cover q (step ∷ steps) (reply ∷ replies) (q' ∷ states) numbered run cover other rules rules' same =
    let moved = moves q step reply q' run.0 in
    elim (split q q' states cover moved rules) [
      | inl here ↦ meets q cover other here (follows-along q (step ∷ steps) (reply ∷ replies) (q' ∷ states) other numbered run rules') same
      | inr later ↦ elim (split q q' states other moved rules') [
        | inl here ↦ sym (meets q other cover here (follows-along q (step ∷ steps) (reply ∷ replies) (q' ∷ states) cover numbered run rules) (sym same))
        | inr later' ↦ one-cover q' steps replies states (numbered-after q q' numbered moved) run.1 cover other later later' same
      ]
    ]
one-cover q [] [] (q1 ∷ states) numbered run cover other rules rules' same = absurd run
one-cover q [] (r1 ∷ replies) states numbered run cover other rules rules' same = absurd run
one-cover q (s1 ∷ steps) [] states numbered run cover other rules rules' same = absurd run
one-cover q (s1 ∷ steps) (r1 ∷ replies) [] numbered run cover other rules rules' same = absurd run

-- ---- closing

-- the number that closing writes, by what is being written
closing-some : (q : State) (hand : Hand) → q.hand ≡ Some hand → closing_gate q ≡ q.ruling.gate + 2
closing-some q hand is = ap (λ (o : Option Hand). q.ruling.gate + cond (is_some o) 2 1) is

closing-none : (q : State) → q.hand ≡ None → closing_gate q ≡ q.ruling.gate + 1
closing-none q is = ap (λ (o : Option Hand). q.ruling.gate + cond (is_some o) 2 1) is

closing-least : (q : State) → q.ruling.gate + 1 ≤ closing_gate q
closing-least q = grind (arith, closing-none, closing-some)

closing-grows : (q q' : State) → IsNumbered q → Moves q q' → closing_gate q ≤ closing_gate q'
closing-grows q q' numbered a = grind (arith, closing-none, closing-some)

closing-run : (q : State) (steps : List Step) (replies : List Reply) (states : List State) → IsNumbered q → Run q steps replies states → closing_gate q ≤ closing_gate (final q states)
closing-run q [] [] [] numbered run = omega arith
closing-run q (step ∷ steps) (reply ∷ replies) (q' ∷ states) numbered run =
    let moved = moves q step reply q' run.0 in
    omega (arith, closing-grows q q' numbered moved, closing-run q' steps replies states (numbered-after q q' numbered moved) run.1)
closing-run q [] [] (q1 ∷ states) numbered run = absurd run
closing-run q [] (r1 ∷ replies) states numbered run = absurd run
closing-run q (s1 ∷ steps) [] states numbered run = absurd run
closing-run q (s1 ∷ steps) (r1 ∷ replies) [] numbered run = absurd run

closes-at : (q : State) (cover : Cover) → IsNumbered q → IsAt q cover → cover.ruled_by.gate < closing_gate q
closes-at q cover numbered a = grind (arith, closing-least, closing-some)

pub closes-above : (q : State) (steps : List Step) (replies : List Reply) (states : List State) → IsNumbered q → Run q steps replies states
    → (cover : Cover) → MayRule q states cover → cover.ruled_by.gate < (closed (final q states)).ruled_by.gate
closes-above q [] [] [] numbered run cover rules = closes-at q cover numbered (is-at q cover rules)
closes-above q (step ∷ steps) (reply ∷ replies) (q' ∷ states) numbered run cover rules =
    let moved = moves q step reply q' run.0 in
    elim (split q q' states cover moved rules) [
      | inl here ↦ omega (arith, closes-at q cover numbered here, closing-run q (step ∷ steps) (reply ∷ replies) (q' ∷ states) numbered run)
      | inr later ↦ closes-above q' steps replies states (numbered-after q q' numbered moved) run.1 cover later
    ]
closes-above q [] [] (q1 ∷ states) numbered run cover rules = absurd run
closes-above q [] (r1 ∷ replies) states numbered run cover rules = absurd run
closes-above q (s1 ∷ steps) [] states numbered run cover rules = absurd run
closes-above q (s1 ∷ steps) (r1 ∷ replies) [] numbered run cover rules = absurd run

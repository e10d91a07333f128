-- What only grows from step to step: the history, and the timestamps that were drawn.
use Rattle.std.proofs.Common.{◌≡◌, ℕ, ◌+◌, Bool, true, ◌||◌, nat_eq, List, [], ◌∷◌, ◌++◌, refl, sym, ◌∙◌, ap, subst, append-nil, append_assoc, arith}
use Rattle.std.specs.Prelude.{Option, Some, None, IsTrue, if◌then◌else◌}
use Rattle.base.specs.declared.fault.Fault.{Fault}
use Rattle.base.specs.declared.step.Step.{Step}
use Rattle.base.specs.declared.step.Step.TheVariants.{Begin, Get, Scan, Put, Delete, Draw, Stamp, Poll, Abort, End, Commit as CommitTick, Collect}
use Rattle.base.specs.declared.step.Stage.{Stage}
use Rattle.base.specs.declared.step.Reply.{Reply}
use Rattle.base.specs.declared.step.Reply.TheVariants.{Done, Drawn as DrewAs, Committed, Refused}
use Rattle.base.specs.Commits.{Commit, Writes}
use Rattle.base.specs.Stands.{has_timestamp}
use Rattle.base.specs.Lists.{is_nil}
use Rattle.machine.specs.Machine.{State, Hand, Stepped, refused, answered, memory_refused, device_failed, Answers, Run, final, next_state, state_ticked, state_ticked_on, state_drawn, next_stage, is_idle, writes_of, ticked}
use Rattle.machine.specs.Laws.{drawn_by, drawn_in, RiseBetween}
use Rattle.machine.specs.Collecting.{visited}
use Rattle.machine.proofs.collector.Visits.{visit-changes}

-- Refusals

same_fault : (fault other : Fault) → Refused fault ≡ Refused other → fault ≡ other
same_fault fault other e = cc

-- The history

-- the state has this history and more
abbrev pub Extends : List Commit → State → Type 0
Extends history q = (more : List Commit) × (q.history ≡ history ++ more)

none_more : (history : List Commit) → history ≡ history ++ []
none_more history = sym (append-nil history)

pub extends-same : (history : List Commit) (q : State) → q.history ≡ history → Extends history q
extends-same history q e = ([], e ∙ sym (append-nil history))

extends-idle : (q : State) (hand : Hand) (b : Bool) → Extends q.history (if b then q else record q { hand = Some hand })
extends-idle q hand a = grind (arith, none_more)

extends-on : (q : State) (hand : Hand) (o : Option Stage) → Extends q.history (state_ticked_on q hand o)
extends-on q hand None = (hand.commits, refl)
extends-on q hand (Some stage) = ([], none_more q.history)

extends-ticked : (q : State) (o : Option Hand) → Extends q.history (state_ticked q o)
extends-ticked q None = extends-idle q _ (is_idle q)
extends-ticked q (Some hand) = extends-on q hand (next_stage q hand)

extends-drawn : (q : State) (n : ℕ) (writes : Writes) → Extends q.history (state_drawn q n writes)
extends-drawn q n [] = ([], none_more q.history)
extends-drawn q n (write ∷ writes) = ([], none_more q.history)

extends-next : (q : State) (step : Step) → Extends q.history (next_state q step)
extends-next q Begin = ([], none_more q.history)
extends-next q (Get n key) = ([], none_more q.history)
extends-next q (Scan n table lo hi) = ([], none_more q.history)
extends-next q (Put n key row) = ([], none_more q.history)
extends-next q (Delete n key) = ([], none_more q.history)
extends-next q (Draw n) = extends-drawn q n (writes_of (q.sessions n))
extends-next q (Stamp n) = ([], none_more q.history)
extends-next q (Poll n) = ([], none_more q.history)
extends-next q (Abort n) = ([], none_more q.history)
extends-next q (End n) = ([], none_more q.history)
extends-next q CommitTick = extends-ticked q q.hand
extends-next q Collect = extends-same q.history (visited q) (visit-changes q).history

pub extends-stepped : (q : State) (step : Step) (reply : Reply) (q' : State) → Stepped q step reply q' → Extends q.history q'
extends-stepped q step reply q' (refused fault e r s) = extends-same q.history q' (ap (λ (p : State). p.history) s)
extends-stepped q step reply q' (answered e a s) = subst (Extends q.history) (sym s) (extends-next q step)
extends-stepped q step reply q' (memory_refused e m r s) = extends-same q.history q' (ap (λ (p : State). p.history) s)
extends-stepped q step reply q' (device_failed e m r s) = extends-same q.history q' (ap (λ (p : State). p.history) s)

pub extends-trans : (history : List Commit) (q q' : State) → Extends history q → Extends q.history q' → Extends history q'
extends-trans history q q' (a, e) (b, f) = (a ++ b, f ∙ (ap (λ (l : List Commit). l ++ b) e ∙ append_assoc history a b))

pub extends-run : (q : State) (steps : List Step) (replies : List Reply) (states : List State) → Run q steps replies states → Extends q.history (final q states)
extends-run q [] [] [] run = ([], none_more q.history)
extends-run q (step ∷ steps) (reply ∷ replies) (q1 ∷ states) run = extends-trans q.history q1 (final q1 states) (extends-stepped q step reply q1 run.0) (extends-run q1 steps replies states run.1)
extends-run q [] [] (q1 ∷ states) run = absurd run
extends-run q [] (r1 ∷ replies) states run = absurd run
extends-run q (s1 ∷ steps) [] states run = absurd run
extends-run q (s1 ∷ steps) (r1 ∷ replies) [] run = absurd run

-- a timestamp stays in the history

or-more : (a b c : Bool) → (b ≡ true → c ≡ true) → a || b ≡ true → a || c ≡ true
or-more a b c more e = grind (arith)

pub any-append : (xs ys : List Commit) (t : ℕ) → has_timestamp xs t ≡ true → has_timestamp (xs ++ ys) t ≡ true
any-append [] ys t e = cc
any-append (x ∷ xs) ys t e = or-more (nat_eq x.timestamp t) (has_timestamp xs t) (has_timestamp (xs ++ ys) t) (any-append xs ys t) e

pub stays-in : (history : List Commit) (q : State) (t : ℕ) → Extends history q → has_timestamp history t ≡ true → has_timestamp q.history t ≡ true
stays-in history q t (more, e) h = subst (λ (l : List Commit). has_timestamp l t ≡ true) (sym e) (any-append history more t h)

poll-in : (q : State) (n t : ℕ) (q' : State) → Stepped q (Poll n) (Committed t) q' → has_timestamp q.history t ≡ true
poll-in q n t q' b = grind (arith)

pub acknowledged-stays : (q : State) (n t : ℕ) (q' : State) (steps : List Step) (replies : List Reply) (states : List State)
    → Stepped q (Poll n) (Committed t) q' → Run q' steps replies states → IsTrue (has_timestamp (final q' states).history t)
acknowledged-stays q n t q' steps replies states s run =
    stays-in q'.history (final q' states) t (extends-run q' steps replies states run) (stays-in q.history q' t (extends-stepped q (Poll n) (Committed t) q' s) (poll-in q n t q' s))

-- Timestamps

pub rise-append : (from mid to : ℕ) (xs ys : List ℕ) → RiseBetween from xs mid → RiseBetween mid ys to → RiseBetween from (xs ++ ys) to
rise-append from mid to [] [] a b = omega (arith, a, b)
rise-append from mid to [] (y ∷ ys) a b = (omega (arith, a, b.0), b.1)
rise-append from mid to (x ∷ xs) ys a b = (a.0, rise-append (x + 1) mid to xs ys a.1 b)

-- a reply that draws nothing, and the next timestamp stays
abbrev Same : State → Reply → State → Type 0
Same q reply q' = (drawn_by reply ≡ []) × (q'.next ≡ q.next)

ticked-same : (q : State) (o : Option Hand) → Same q (ticked q o) (state_ticked q o)
ticked-same q a = grind (arith)

drawn-rise : (q : State) (n : ℕ) (writes : Writes) → RiseBetween q.next (drawn_by (if is_nil writes then Done else DrewAs q.next)) (state_drawn q n writes).next
drawn-rise q n [] = omega arith
drawn-rise q n (write ∷ writes) = (omega arith, omega arith)

along : (q : State) (reply other : Reply) (q' : State) → reply ≡ other → RiseBetween q.next (drawn_by other) q'.next → RiseBetween q.next (drawn_by reply) q'.next
along q reply other q' e r = subst (λ (x : Reply). RiseBetween q.next (drawn_by x) q'.next) (sym e) r

next-rise : (q : State) (step : Step) (reply : Reply) → Answers q step reply → RiseBetween q.next (drawn_by reply) (next_state q step).next
next-rise q b reply a = grind (arith, drawn-rise, ticked-same, visit-changes)

pub stepped-rise : (q : State) (step : Step) (reply : Reply) (q' : State) → Stepped q step reply q' → RiseBetween q.next (drawn_by reply) q'.next
stepped-rise q step reply q' b = grind (arith, next-rise)

pub run-rise : (q : State) (steps : List Step) (replies : List Reply) (states : List State) → Run q steps replies states → RiseBetween q.next (drawn_in replies) (final q states).next
run-rise q [] [] [] run = omega arith
run-rise q (step ∷ steps) (reply ∷ replies) (q1 ∷ states) run =
    rise-append q.next q1.next (final q1 states).next (drawn_by reply) (drawn_in replies) (stepped-rise q step reply q1 run.0) (run-rise q1 steps replies states run.1)
run-rise q [] [] (q1 ∷ states) run = absurd run
run-rise q [] (r1 ∷ replies) states run = absurd run
run-rise q (s1 ∷ steps) [] states run = absurd run
run-rise q (s1 ∷ steps) (r1 ∷ replies) [] run = absurd run

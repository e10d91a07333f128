-- What an Active session sees stays the same.
use Rattle.std.proofs.Common.{◌≡◌, ℕ, ◌≤◌, Bool, true, false, cond, List, [], ◌∷◌, length, take, refl, sym, ◌∙◌, ap, subst, arith, nat_eq}
use Rattle.std.specs.Prelude.{Option, Some, None, is_none, unwrap_or}
use Rattle.std.proofs.lemmas.Bool.{ne_eqb}
use Rattle.std.proofs.lemmas.List.{take-append-le, length-append}
use Rattle.std.proofs.lemmas.Bool.Decides.{nat_tests}
use Rattle.base.specs.declared.step.Step.{Step}
use Rattle.base.specs.declared.step.Step.TheVariants.{Begin, Get, Scan, Put, Delete, Draw, Stamp, Poll, Abort, End, Commit as CommitTick, Collect}
use Rattle.base.specs.declared.step.Stage.{Stage}
use Rattle.base.specs.declared.step.Reply.{Reply}
use Rattle.base.specs.Images.{Image}
use Rattle.base.specs.Commits.{Commit, Writes, after, overlaid}
use Rattle.base.specs.Lists.{replaced}
use Rattle.machine.specs.Machine.{State, Session, Active, Drew, WroteNothing, Hand, Stepped, refused, answered, memory_refused, device_failed, refusal, next_state, state_ticked, state_ticked_on, state_drawn, next_stage, is_idle, taken_in_hand, writes_of, begun_of, session_of, free_session}
use Rattle.machine.specs.Openings.{OpensAs}
use Rattle.machine.specs.Laws.{SeesCovered, SeesTheSame}
use Rattle.machine.proofs.Growth.{Extends, extends-stepped}
use Rattle.machine.proofs.collector.Visits.{visit-changes}
use Rattle.base.proofs.Lists.{find-passes}

-- ---- sessions after a step

-- the sessions of the one state are those of the other, except at the number n, which has this one
abbrev But : ℕ → Option Session → State → State → Type 0
But n session q q' = (m : ℕ) → q'.sessions m ≡ replaced n session q.sessions m

-- no session changes
abbrev Same : State → State → Type 0
Same q q' = (m : ℕ) → q'.sessions m ≡ q.sessions m

-- a number whose session sees at most this many commits
abbrev Within : ℕ → Option Session → Type 0
Within covered session = begun_of session ≤ covered

within-but : (n m covered : ℕ) (session : Option Session) (sessions : ℕ → Option Session) → Within covered session → ((k : ℕ) → Within covered (sessions k)) → Within covered (replaced n session sessions m)
within-but n m covered session sessions here each = grind arith

-- what a step does to the sessions: nothing, or it gives one of them another state that sees no more than is covered
data Does (q q' : State) : Type 0 where
  nothing : Same q q' → Does q q'
  one : (n : ℕ) (session : Option Session) → Within (length q.history) session → But n session q q' → Does q q'

does-ticked : (q : State) (o : Option Hand) → Does q (state_ticked q o)
does-ticked q a = grind (arith, nat_tests)

does-drawn : (q : State) (n : ℕ) (writes : Writes) → Does q (state_drawn q n writes)
does-drawn q n [] = one n (Some WroteNothing) (omega arith) (λ m. refl)
does-drawn q n (write ∷ writes) = one n (Some (Drew q.next)) (omega arith) (λ m. refl)

does-next : (q : State) (step : Step) → SeesCovered q → Does q (next_state q step)
does-next q Begin sees = one _ _ (omega arith) (λ m. refl)
does-next q (Get n key) sees = nothing (λ m. refl)
does-next q (Scan n table lo hi) sees = nothing (λ m. refl)
does-next q (Put n key row) sees = one n _ (sees n) (λ m. refl)
does-next q (Delete n key) sees = one n _ (sees n) (λ m. refl)
does-next q (Draw n) sees = does-drawn q n (writes_of (q.sessions n))
does-next q (Stamp n) sees = nothing (λ m. refl)
does-next q (Poll n) sees = nothing (λ m. refl)
does-next q (Abort n) sees = one n None (omega arith) (λ m. refl)
does-next q (End n) sees = one n None (omega arith) (λ m. refl)
does-next q CommitTick sees = does-ticked q q.hand
does-next q Collect sees = nothing (λ m. ap (λ (f : ℕ → Option Session). f m) (visit-changes q).sessions)

does-same : (q q' p : State) → p ≡ q' → Does q q' → Does q p
does-same q q' p e d = subst (Does q) (sym e) d

does : (q : State) (step : Step) (reply : Reply) (q' : State) → SeesCovered q → Stepped q step reply q' → Does q q'
does q step reply q' sees (refused fault e r s) = does-same q q q' s (nothing (λ m. refl))
does q step reply q' sees (answered e a s) = does-same q (next_state q step) q' s (does-next q step sees)
does q step reply q' sees (memory_refused e m r s) = does-same q q q' s (nothing (λ m. refl))
does q step reply q' sees (device_failed e m r s) = does-same q (record q { failed = true }) q' s (nothing (λ m. refl))

longer : (q : State) (q' : State) → Extends q.history q' → length q.history ≤ length q'.history
longer q q' (more, e) = omega (arith, ap (length {A = Commit}) e, length-append q.history more)

pub sees-kept : (q : State) (step : Step) (reply : Reply) (q' : State) → SeesCovered q → Stepped q step reply q' → SeesCovered q'
sees-kept q step reply q' sees s n = grind (arith, does, longer, extends-stepped, within-but)

pub sees-opened : (image : Image) (history : List Commit) (lost : List ℕ) (q : State) → OpensAs image history lost q → SeesCovered q
sees-opened image history lost q opens n = omega (arith, ap (λ (p : State). begun_of (p.sessions n)) opens.2)

-- ---- a session that the step doesn't name

-- if no number is free, no session begins
refuses-full : (q : State) → is_none (free_session q) ≡ true → is_none (refusal q Begin) ≡ false
refuses-full q full = grind arith

-- if a session begins, it has a number that was free
begun-free : (q : State) (n : ℕ) (session : Session) → refusal q Begin ≡ None → q.sessions n ≡ Some session → nat_eq n (unwrap_or (free_session q) 0) ≡ false
begun-free q n session ok is_at = grind (arith, ne_eqb, refuses-full, find-passes)

other : (n m : ℕ) (session : Option Session) (q : State) → nat_eq n m ≡ false → replaced m session q.sessions n ≡ q.sessions n
other n m session q apart = ap (λ (b : Bool). cond b session (q.sessions n)) apart

-- it is not the one that is named
unnamed : (n m : ℕ) → (Some m ≡ Some n → ⊥) → nat_eq n m ≡ false
unnamed n m not = ne_eqb n m (λ e. not (ap (λ (k : ℕ). Some k) (sym e)))

-- the session after a step that doesn't name it
Stays : ℕ → State → State → Type 0
Stays n q q' = q'.sessions n ≡ q.sessions n

stays-on : (n : ℕ) (q : State) (hand : Hand) (o : Option Stage) → Stays n q (state_ticked_on q hand o)
unfolding Stays
stays-on n q hand None = refl
stays-on n q hand (Some stage) = refl

stays-idle : (n : ℕ) (q : State) (b : Bool) → Stays n q (cond b q (record q { hand = Some (taken_in_hand q) }))
unfolding Stays
stays-idle n q true = refl
stays-idle n q false = refl

stays-ticked : (n : ℕ) (q : State) (o : Option Hand) → Stays n q (state_ticked q o)
stays-ticked n q None = stays-idle n q (is_idle q)
stays-ticked n q (Some hand) = stays-on n q hand (next_stage q hand)

stays-drawn : (n m : ℕ) (q : State) (writes : Writes) → nat_eq n m ≡ false → Stays n q (state_drawn q m writes)
unfolding Stays
stays-drawn n m q [] apart = other n m (Some WroteNothing) q apart
stays-drawn n m q (write ∷ writes) apart = other n m (Some (Drew q.next)) q apart

stays-next : (n : ℕ) (q : State) (step : Step) (session : Session) → refusal q step ≡ None → q.sessions n ≡ Some session → (session_of step ≡ Some n → ⊥) → Stays n q (next_state q step)
unfolding Stays
stays-next n q Begin session ok is_at not = other n _ _ q (begun-free q n session ok is_at)
stays-next n q (Get m key) session ok is_at not = refl
stays-next n q (Scan m table lo hi) session ok is_at not = refl
stays-next n q (Put m key row) session ok is_at not = other n m _ q (unnamed n m not)
stays-next n q (Delete m key) session ok is_at not = other n m _ q (unnamed n m not)
stays-next n q (Draw m) session ok is_at not = stays-drawn n m q (writes_of (q.sessions m)) (unnamed n m not)
stays-next n q (Stamp m) session ok is_at not = refl
stays-next n q (Poll m) session ok is_at not = refl
stays-next n q (Abort m) session ok is_at not = other n m None q (unnamed n m not)
stays-next n q (End m) session ok is_at not = other n m None q (unnamed n m not)
stays-next n q CommitTick session ok is_at not = stays-ticked n q q.hand
stays-next n q Collect session ok is_at not = ap (λ (f : ℕ → Option Session). f n) (visit-changes q).sessions

stays : (n : ℕ) (q : State) (step : Step) (reply : Reply) (q' : State) (session : Session) → Stepped q step reply q' → q.sessions n ≡ Some session → (session_of step ≡ Some n → ⊥) → Stays n q q'
unfolding Stays
stays n q step reply q' session (refused fault e r s) is_at not = ap (λ (p : State). p.sessions n) s
stays n q step reply q' session (answered e a s) is_at not = ap (λ (p : State). p.sessions n) s ∙ stays-next n q step session e is_at not
stays n q step reply q' session (memory_refused e m r s) is_at not = ap (λ (p : State). p.sessions n) s
stays n q step reply q' session (device_failed e m r s) is_at not = ap (λ (p : State). p.sessions n) s

pub sees-the-same : (q : State) (step : Step) (reply : Reply) (q' : State) (n begun : ℕ) (writes : Writes) → SeesCovered q → Stepped q step reply q'
    → q.sessions n ≡ Some (Active begun writes) → (session_of step ≡ Some n → ⊥) → SeesTheSame n q q'
unfolding Stays
sees-the-same q step reply q' n begun writes sees s is_at not =
    let same : q'.sessions n ≡ q.sessions n = stays n q step reply q' (Active begun writes) s is_at not in
    let more = extends-stepped q step reply q' s in
    let history : take (begun_of (q.sessions n)) q'.history ≡ take (begun_of (q.sessions n)) q.history =
    ap (λ (l : List Commit). take (begun_of (q.sessions n)) l) more.1 ∙ take-append-le (begun_of (q.sessions n)) q.history more.0 (sees n) in
    record {
      session = same;
      tables = λ key.
          ap (λ (o : Option Session). overlaid (writes_of o) (after (take (begun_of o) q'.history)) key) same
          ∙ ap (λ (l : List Commit). overlaid (writes_of (q.sessions n)) (after l) key) history;
    }

-- Refusals, and the steps that change one transaction alone: Begin, Abort, End; and Poll.
use Rattle.std.proofs.Common.{◌≡◌, ◌⊎◌, inl, inr, ℕ, Bool, true, false, not, List, [], length, refl, sym, ◌∙◌, ap, subst, nat_eq, arith}
use Rattle.std.specs.Prelude.{Option, Some, None, is_none, is_some, unwrap_or, All}
use Rattle.std.specs.Option.{option_map}
use Rattle.std.proofs.lemmas.Bool.{and_parts}
use Rattle.std.proofs.lemmas.Bool.Decides.{nat_tests}
use Rattle.std.proofs.lemmas.List.Elements.{All-nil}
use Rattle.base.specs.declared.fault.Fault.{Fault}
use Rattle.base.specs.declared.fault.Fault.TheVariants.{SessionsFull, OutOfMemory}
use Rattle.base.specs.declared.step.Step.TheVariants as step
use Rattle.base.specs.declared.step.Reply.TheVariants as reply
use Rattle.base.specs.declared.step.SessionStep.{SessionStep}
use Rattle.base.specs.declared.step.SessionStep.TheVariants.{Begin, End, Poll}
use Rattle.base.specs.declared.step.SessionReply.{SessionReply}
use Rattle.base.specs.declared.step.SessionReply.TheVariants.{Began, Done, Waiting, Committed, Refused}
use Rattle.base.specs.Steps.{as_step, as_reply}
use Rattle.base.specs.Commits.{Writes}
use Rattle.base.specs.Stands.{has_timestamp}
use Rattle.base.specs.Records.{is_committed}
use Rattle.base.specs.Lists.{replaced}
use Rattle.machine.specs.Machine.{State, Drawn as PlainDrawn, Active as Reads, refused, answered, refusal, session_of, allows, standing_of, with_session, drawn_at, polled}
use Rattle.base.proofs.Lists.{find-passes}
use Rattle.snapshot.specs.Snapshots.{Seen, seen_by}
use Rattle.txn.specs.declared.drawn.DrawnCommit.{DrawnCommit}
use Rattle.txn.specs.declared.transaction.Transaction.{Transaction}
use Rattle.txn.specs.declared.transaction.Transaction.TheVariants.{Active, Drawn, ReadOnly}
use Rattle.txn.specs.DrawnCommits.{drawn_at as commit_at}
use Rattle.txn.specs.Transactions.{transaction_at, Sets, IsLowestFree, IsFull}
use Rattle.state_invariant.specs.Kept.{Origin, Keeps}
use Rattle.state_invariant.proofs.Commits.{timestamp-all}
use Rattle.state_invariant.proofs.Lists.{find-map}
use Rattle.state_invariant.proofs.Lookups.{find-all}
use Rattle.session_steps.specs.declared.sessions.Sessions.{Sessions}
use Rattle.simulation.specs.sessions.Sees.{Sees}
use Rattle.session_steps.specs.Shows.{Hidden, plain_of, plain_session, plain_drawn, HoldsSession}
use Rattle.session_steps.specs.Steps.{Holds, Goes, IsBarred, is_active, is_over, is_over_at}
use Rattle.session_steps.proofs.transactions.Agrees.{agrees-changed}
use Rattle.session_steps.proofs.transactions.Sets.{replaced-same, replaced-other, sessions-kept, sessions-begun, free-at, free-none}
use Rattle.session_steps.proofs.Refusals.{refused-absent, refused-misplaced, passes, refusal-begin, is_of_active, others-bar}
use Rattle.simulation.proofs.sessions.Present.{present-sees}
use Rattle.session_steps.proofs.CodeTests.{unfound, same-drawers}

-- ---- refusals

-- a refusal
pub refuses : (s : Sessions) (step : SessionStep) (fault : Fault) (h : Hidden) → Holds s h → refusal (plain_of s h) (as_step step) ≡ Some fault → Goes s s step (Refused fault) h
refuses s step fault h holds is = record { next = h; origin = refl; drawers = same-drawers s.drawn.commits; stepped = refused fault is refl refl; agrees = holds.agrees }

-- the plain session of a number
pub found : (s : Sessions) (h : Hidden) (n : ℕ) (t : Option Transaction) → transaction_at s.transactions n ≡ t → (plain_of s h).sessions n ≡ option_map (plain_session (h.seen n)) t
found s h n t at = ap (λ (t : Option Transaction). option_map (plain_session (h.seen n)) t) at

-- the session of the step bars it
pub barred-refusal : (s : Sessions) (step : SessionStep) (n : ℕ) (lets : Transaction → Bool) (fault : Fault) (h : Hidden) (t : Option Transaction) → session_of (as_step step) ≡ Some n → transaction_at s.transactions n ≡ t
    → ((t : Transaction) → transaction_at s.transactions n ≡ Some t → lets t ≡ false → allows (as_step step) (standing_of (plain_of s h) (plain_session (h.seen n) t)) ≡ false)
    → h.failed ≡ false → IsBarred lets t fault → refusal (plain_of s h) (as_step step) ≡ Some fault
barred-refusal s step n lets fault h a is at each works barred = grind (arith, refused-absent, found, refused-misplaced)

pub bars : (s : Sessions) (step : SessionStep) (n : ℕ) (lets : Transaction → Bool) (fault : Fault) (h : Hidden) (t : Option Transaction) → session_of (as_step step) ≡ Some n → transaction_at s.transactions n ≡ t
    → ((t : Transaction) → transaction_at s.transactions n ≡ Some t → lets t ≡ false → allows (as_step step) (standing_of (plain_of s h) (plain_session (h.seen n) t)) ≡ false)
    → Holds s h → IsBarred lets t fault → Goes s s step (Refused fault) h
bars s step n lets fault h t is at each holds barred = refuses s step fault h holds (barred-refusal s step n lets fault h t is at each holds.works barred)

-- a session that isn't Active bars the steps of Active ones
pub inactive-refusal : (s : Sessions) (step : SessionStep) (n : ℕ) (fault : Fault) (h : Hidden) → session_of (as_step step) ≡ Some n → is_of_active (as_step step) ≡ true → IsBarred is_active (transaction_at s.transactions n) fault → h.failed ≡ false
    → refusal (plain_of s h) (as_step step) ≡ Some fault
inactive-refusal s step n fault h is of barred works = grind (arith, barred-refusal, others-bar (as_step step) of)

pub inactive : (s : Sessions) (step : SessionStep) (n : ℕ) (fault : Fault) (h : Hidden) → session_of (as_step step) ≡ Some n → is_of_active (as_step step) ≡ true → IsBarred is_active (transaction_at s.transactions n) fault → Holds s h
    → Goes s s step (Refused fault) h
inactive s step n fault h is of barred holds = refuses s step fault h holds (inactive-refusal s step n fault h is of barred holds.works)

-- ---- what is drawn isn't covered

-- the drawn commit of the timestamp
pub drawn-plain : (s : Sessions) (h : Hidden) (t : ℕ) → drawn_at (plain_of s h) t ≡ option_map plain_drawn (commit_at t s.drawn.commits)
drawn-plain s h t = find-map (λ (d : PlainDrawn). nat_eq d.commit.timestamp t) plain_drawn s.drawn.commits

-- no commit is drawn and covered
pub not-both : (o : Origin) (q : State) (t : ℕ) (d : PlainDrawn) → Keeps o q → has_timestamp q.history t ≡ true → drawn_at q t ≡ Some d → ⊥
not-both o q t d keeps has at =
    let parts = and_parts (not (is_committed q.ruling d.commit.timestamp)) _ (find-all (λ (e : PlainDrawn). nat_eq e.commit.timestamp t) _ q.drawn d keeps.numbers.drawn at) in
    let same : nat_eq d.commit.timestamp t ≡ true = find-passes (λ (e : PlainDrawn). nat_eq e.commit.timestamp t) q.drawn d at in
    let is : d.commit.timestamp ≡ t = grind (arith, nat_tests) in
    let counts : is_committed q.ruling t ≡ true = timestamp-all (is_committed q.ruling) q.history t keeps.numbers.covered has in
    absurd (cc (parts.0, ap (λ (u : ℕ). not (is_committed q.ruling u)) is, ap not counts))

-- what a session drew is covered exactly if it is drawn no more
pub covered-or-drawn : (s : Sessions) (h : Hidden) (n t : ℕ) → Holds s h → transaction_at s.transactions n ≡ Some (Drawn t) → has_timestamp h.history t ≡ is_none (commit_at t s.drawn.commits)
covered-or-drawn s h n t holds at = by (commit_at t s.drawn.commits) (drawn-plain s h t) (holds.keeps.draws.drew n t (found s h n _ at)) (has_timestamp h.history t) refl
  where
    by : (o : Option DrawnCommit) → drawn_at (plain_of s h) t ≡ option_map plain_drawn o → (has_timestamp h.history t ≡ true) ⊎ ((d : PlainDrawn) × (drawn_at (plain_of s h) t ≡ Some d))
        → (b : Bool) → has_timestamp h.history t ≡ b → b ≡ is_none o
    by None is either true has = refl
    by None is (inl covered) false has = absurd (cc (covered, has))
    by None is (inr some) false has = absurd (cc (is, some.1))
    by (Some d) is either false has = refl
    by (Some d) is either true has = absurd (not-both h.origin (plain_of s h) t (plain_drawn d) holds.keeps has is)

-- ---- Begin

pub begins : (s : Sessions) (ts : List (Option Transaction)) (n : ℕ) (snapshot : Seen) (h : Hidden) → IsLowestFree s.transactions n → snapshot ≡ seen_by s.numbers.record
    → Sets s.transactions ts n (Some (Active snapshot [])) → Holds s h → Goes s (record s { transactions = ts }) Begin (Began n) h
begins s ts n snapshot h lowest is sets holds = record {
  next = record h { seen = seen };
  origin = refl;
  drawers = same-drawers s.drawn.commits;
  agrees = agrees-changed s h ts s.slots seen h.held n (Some (Active snapshot [])) holds.agrees sets (λ slot. inl refl) (λ m apart. replaced-other n m (length h.history) h.seen apart)
      (subst (λ (k : ℕ). HoldsSession h.origin (plain_of (record s { transactions = ts }) (record h { seen = seen })) n k (Some (Active snapshot []))) (sym (replaced-same n (length h.history) h.seen)) (sees, All-nil _))
      (λ m writes at. inl (begun m writes at)) (λ k d lt there. absurd (cc (lowest.free, there))) holds.agrees.free holds.agrees.counted;
  stepped =
      let free = free-at s h n lowest in
      answered (refusal-begin (plain_of s h) false holds.works (ap (λ (o : Option ℕ). is_none o) free)) (ap (λ (o : Option ℕ). reply.Began (unwrap_or o 0)) (sym free))
      (subst (λ (k : ℕ). ◌≡◌ {A = State} (plain_of (record s { transactions = ts }) (record h { seen = seen })) (with_session k (Some (Reads (length h.history) [])) (plain_of s h)))
      (ap (λ (o : Option ℕ). unwrap_or o 0) (sym free))
      (λ i. record (plain_of s h) { sessions = λ m. sessions-begun s.transactions ts h.seen n (length h.history) (Some (Active snapshot [])) sets m i }));
}
  where
    seen : ℕ → ℕ
    seen = replaced n (length h.history) h.seen

    begun : (m : ℕ) (writes : Writes) → Some (Reads (seen n) []) ≡ Some (Reads m writes) → m ≡ length h.history
    begun m writes at = let same : seen n ≡ m = cc at in sym same ∙ replaced-same n (length h.history) h.seen

    sees : Sees h.origin (plain_of (record s { transactions = ts }) (record h { seen = seen })) snapshot (length h.history)
    sees =
        let present = present-sees h.origin (plain_of s h) holds.keeps in
        let all : Sees h.origin (plain_of s h) snapshot (length h.history) = subst (λ (x : Seen). Sees h.origin (plain_of s h) x (length h.history)) (sym is) present in
        record { covered = all.covered; early = all.early; gaps = all.gaps }

-- a begin that finds no number, or no memory
pub begins-not : (s : Sessions) (fault : Fault) (h : Hidden) → (fault ≡ SessionsFull) × IsFull s.transactions ⊎ (fault ≡ OutOfMemory) × ((n : ℕ) × IsLowestFree s.transactions n) → Holds s h
    → Goes s s Begin (Refused fault) h
begins-not s fault h (inl full) holds = grind (arith, refuses, refusal-begin, free-none) steps 800000
begins-not s fault h (inr short) holds = grind (arith, same-drawers, refusal-begin, free-at) steps 800000

-- ---- End

-- a session that is over allows its end
over-allows : (s : Sessions) (n : ℕ) (h : Hidden) (t : Transaction) → Holds s h → transaction_at s.transactions n ≡ Some t → allows (step.End n) (standing_of (plain_of s h) (plain_session (h.seen n) t)) ≡ is_over s.drawn.commits t
over-allows s n h a holds at = grind (arith, covered-or-drawn)

pub ends : (s : Sessions) (ts : List (Option Transaction)) (n : ℕ) (h : Hidden) → is_over_at s.drawn.commits (transaction_at s.transactions n) ≡ true → Sets s.transactions ts n None → Holds s h
    → Goes s (record s { transactions = ts }) (End n) Done h
ends s ts n h over sets holds = record {
  next = h;
  origin = refl;
  drawers = same-drawers s.drawn.commits;
  agrees = agrees-changed s h ts s.slots h.seen h.held n None holds.agrees sets (λ slot. inl refl) (λ m apart. refl) tt (λ m writes at. absurd (cc at)) (apart (transaction_at s.transactions n) refl over) holds.agrees.free holds.agrees.counted;
  stepped = answered (allowed (transaction_at s.transactions n) refl over) refl (λ i. record (plain_of s h) { sessions = λ m. sessions-kept s.transactions ts h.seen n None sets m i });
}
  where
    allowed : (t : Option Transaction) → transaction_at s.transactions n ≡ t → is_over_at s.drawn.commits t ≡ true → refusal (plain_of s h) (step.End n) ≡ None
    allowed None at over = absurd (cc over)
    allowed (Some t) at over = passes (plain_of s h) (step.End n) n (plain_session (h.seen n) t) holds.works refl (found s h n (Some t) at) (over-allows s n h t holds at ∙ over)

    -- the session of no drawn commit is over
    apart : (t : Option Transaction) → transaction_at s.transactions n ≡ t → is_over_at s.drawn.commits t ≡ true → All (λ (d : DrawnCommit). transaction_at s.transactions n ≡ Some (Drawn d.timestamp) → ⊥) s.drawn.commits
    apart None at over = absurd (cc over)
    apart (Some (Active snapshot writes)) at over = λ k d lt there. absurd (cc (at, there))
    apart (Some ReadOnly) at over = λ k d lt there. absurd (cc (at, there))
    apart (Some (Drawn t)) at over = λ k d lt there. never _ (unfound (λ d. nat_eq d.timestamp t) s.drawn.commits (nothing (commit_at t s.drawn.commits) over) k d lt) (cc (at, there))
      where
        nothing : (o : Option DrawnCommit) → is_none o ≡ true → o ≡ None
        nothing None is = refl
        nothing (Some d) is = absurd (cc is)

        never : (u : ℕ) → nat_eq u t ≡ false → Some (Drawn t) ≡ Some (Drawn u) → ⊥
        never u ne same = let e : t ≡ u = cc same in absurd (grind (arith, nat_tests))

pub ends-not : (s : Sessions) (n : ℕ) (fault : Fault) (h : Hidden) → IsBarred (is_over s.drawn.commits) (transaction_at s.transactions n) fault → Holds s h → Goes s s (End n) (Refused fault) h
ends-not s n fault h barred holds = bars s (End n) n (is_over s.drawn.commits) fault h (transaction_at s.transactions n) refl refl (λ t at lets. over-allows s n h t holds at ∙ lets) holds barred

-- ---- Poll

asks : (s : Sessions) (n : ℕ) (t : Transaction) (answer : SessionReply) (h : Hidden) → transaction_at s.transactions n ≡ Some t → allows (step.Poll n) (standing_of (plain_of s h) (plain_session (h.seen n) t)) ≡ true
    → as_reply answer ≡ polled (plain_of s h) (Some (plain_session (h.seen n) t)) → Holds s h → Goes s s (Poll n) answer h
asks s n t answer h at lets is holds = grind (arith, same-drawers, passes, found) steps 800000

-- its commit waits to be covered
pub polls-waiting : (s : Sessions) (n t : ℕ) (h : Hidden) → transaction_at s.transactions n ≡ Some (Drawn t) → is_some (commit_at t s.drawn.commits) ≡ true → Holds s h → Goes s s (Poll n) Waiting h
polls-waiting s n t h at is holds = grind (arith, asks s n (Drawn t) Waiting h at, covered-or-drawn s h n t holds at)

-- it is covered
pub polls-committed : (s : Sessions) (n t : ℕ) (h : Hidden) → transaction_at s.transactions n ≡ Some (Drawn t) → is_some (commit_at t s.drawn.commits) ≡ false → Holds s h → Goes s s (Poll n) (Committed t) h
polls-committed s n t h at is holds = grind (arith, asks s n (Drawn t) (Committed t) h at, covered-or-drawn s h n t holds at)

pub polls-not : (s : Sessions) (n : ℕ) (fault : Fault) (h : Hidden) (t : Option Transaction) → transaction_at s.transactions n ≡ t → IsBarred (λ t. not (is_active t)) t fault → Holds s h → Goes s s (Poll n) (Refused fault) h
polls-not s n fault h t at barred holds = grind (arith, bars) steps 800000

-- Sessions over a log: those that make no step, those that read and write, and those that wait for their record.
use Rattle.std.proofs.Common.{◌≡◌, ◌≢◌, ℕ, zero, suc, ◌+◌, ◌≤◌, ◌<◌, Bool, true, false, cond, not, ◌&&◌, ◌||◌, List, [], ◌∷◌, fold, length, take, refl, sym, ◌∙◌, ap, subst, arith, nat_eq, true≢false}
use Rattle.std.specs.Prelude.{Option, Some, None, is_none, unwrap_or, find, filter, IsTrue}
use Rattle.std.specs.List.{list_all, list_any, range_with_len}
use Rattle.std.specs.Option.{option_map_or}
use Rattle.std.proofs.lemmas.Bool.{ne_eqb, eqb-true, eq-eqb, and_parts}
use Rattle.std.proofs.lemmas.List.{take-append-le, take_all}
use Rattle.base.specs.declared.key.Key.{Key}
use Rattle.base.specs.declared.step.Step.{Step}
use Rattle.base.specs.declared.step.Step.TheVariants.{Begin, Get, Scan, Put, Delete, Draw, Stamp, Poll, Abort, End, Commit as CommitTick, Collect}
use Rattle.base.specs.declared.step.Stage.{Stage}
use Rattle.base.specs.declared.step.Reply.TheVariants.{Row, Rows, Committed, Waiting}
use Rattle.base.specs.Commits.{Commit, Writes, Tables, overlaid, after, in_range, Lists}
use Rattle.base.specs.Lists.{replaced}
use Rattle.base.specs.Stands.{has_timestamp}
use Rattle.base.proofs.Lists.{find-passes}
use Rattle.machine.specs.Machine.{State, Session, Active, Drew, WroteNothing, Hand, IsActive, IsDrawn, IsStamped, IsCovered, is_stamped, standing_of, Stepped, refused, answered, memory_refused, device_failed, refusal, next_state, state_ticked, state_ticked_on, state_drawn, next_stage, is_idle, taken_in_hand, writes_of, begun_of, free_session, seen_by, polled, is_misplaced_in, session_of, allows}
use Rattle.machine.specs.Replay.{reply_on, state_on}
use Rattle.machine.proofs.Growth.{Extends, extends-stepped, extends-trans, extends-same}
use Rattle.machine.proofs.Replayed.{stepped}
use Rattle.machine.proofs.reads.Scans.{one-listing}
use Rattle.machine.proofs.collector.Visits.{visit-changes}
use Rattle.state_invariant.specs.Kept.{Origin, Keeps, IsSessionNumber}
use Rattle.state_invariant.proofs.Lookups.{replaced-same, replaced-other}
use Rattle.state_invariant.proofs.steps.Refusals.{allowed, active}
use Rattle.state_invariant.proofs.steps.Kept.{keeps-next}
use Rattle.session_laws.specs.Logs.{state_after, AreMade, may_change, is_own, own}
use Rattle.session_laws.specs.Sessions.{IsOfLife, snapshot_of, Stays, reads_or_writes, is_end_of, with_step, written_by}
use Rattle.session_laws.specs.Laws.{HasBegun, Reads, ReadsRepeat}
use Rattle.session_laws.proofs.Logs.{silent-go}

-- ---- a log keeps what a step keeps

pub keeps-log : (o : Origin) (q : State) (log : List Step) → Keeps o q → AreMade q log → Keeps o (state_after q log)
keeps-log o q [] kept m = kept
keeps-log o q (step ∷ log) kept m = keeps-log o (next_state q step) log (keeps-next o q step kept m.0) m.1

-- a step that isn't refused leads on
leads : (q : State) (step : Step) → refusal q step ≡ None → Stepped q step (reply_on q step None) (next_state q step)
leads q step none = subst (λ o. Stepped q step (reply_on q step o) (state_on q step o)) none (stepped q step)

pub grows : (q : State) (log : List Step) → AreMade q log → Extends q.history (state_after q log)
grows q [] m = extends-same q.history q refl
grows q (step ∷ log) m =
    extends-trans q.history (next_state q step) (state_after (next_state q step) log)
    (extends-stepped q step (reply_on q step None) (next_state q step) (leads q step m.0)) (grows (next_state q step) log m.1)

sees-covered : (o : Origin) (q : State) (s : ℕ) → Keeps o q → begun_of (q.sessions s) ≤ length q.history
sees-covered o q s kept = by (q.sessions s) refl
  where
    by : (session : Option Session) → q.sessions s ≡ session → begun_of session ≤ length q.history
    by None is = omega arith
    by (Some (Active begun writes)) is = (kept.numbers.snapshots s begun writes is).1
    by (Some (Drew t)) is = omega arith
    by (Some WroteNothing) is = omega arith

-- ---- a session that a step doesn't name

refuses-full : (q : State) → is_none (free_session q) ≡ true → is_none (refusal q Begin) ≡ false
refuses-full q full = grind arith

-- if a session begins, it has a number that was free
begun-free : (q : State) (n : ℕ) (session : Session) → refusal q Begin ≡ None → q.sessions n ≡ Some session → nat_eq n (unwrap_or (free_session q) 0) ≡ false
begun-free q n session ok is_at = grind (arith, ne_eqb, refuses-full, find-passes)

other : (n m : ℕ) (session : Option Session) (q : State) → nat_eq n m ≡ false → replaced m session q.sessions n ≡ q.sessions n
other n m session q apart = ap (λ (b : Bool). cond b session (q.sessions n)) apart

stays-on : (n : ℕ) (q : State) (hand : Hand) (o : Option Stage) → (state_ticked_on q hand o).sessions n ≡ q.sessions n
stays-on n q hand None = refl
stays-on n q hand (Some stage) = refl

stays-idle : (n : ℕ) (q : State) (b : Bool) → (cond b q (record q { hand = Some (taken_in_hand q) })).sessions n ≡ q.sessions n
stays-idle n q true = refl
stays-idle n q false = refl

stays-ticked : (n : ℕ) (q : State) (o : Option Hand) → (state_ticked q o).sessions n ≡ q.sessions n
stays-ticked n q None = stays-idle n q (is_idle q)
stays-ticked n q (Some hand) = stays-on n q hand (next_stage q hand)

stays-drawn : (n m : ℕ) (q : State) (writes : Writes) → nat_eq n m ≡ false → (state_drawn q m writes).sessions n ≡ q.sessions n
stays-drawn n m q [] apart = other n m (Some WroteNothing) q apart
stays-drawn n m q (write ∷ writes) apart = other n m (Some (Drew q.next)) q apart

stays-next : (n : ℕ) (q : State) (step : Step) (session : Session) → refusal q step ≡ None → q.sessions n ≡ Some session → is_own n step ≡ false → (next_state q step).sessions n ≡ q.sessions n
stays-next n q Begin session ok is_at not = other n _ _ q (begun-free q n session ok is_at)
stays-next n q (Get m key) session ok is_at not = refl
stays-next n q (Scan m table lo hi) session ok is_at not = refl
stays-next n q (Put m key row) session ok is_at not = other n m _ q not
stays-next n q (Delete m key) session ok is_at not = other n m _ q not
stays-next n q (Draw m) session ok is_at not = stays-drawn n m q (writes_of (q.sessions m)) not
stays-next n q (Stamp m) session ok is_at not = refl
stays-next n q (Poll m) session ok is_at not = refl
stays-next n q (Abort m) session ok is_at not = other n m None q not
stays-next n q (End m) session ok is_at not = other n m None q not
stays-next n q CommitTick session ok is_at not = stays-ticked n q q.hand
stays-next n q Collect session ok is_at not = ap (λ (f : ℕ → Option Session). f n) (visit-changes q).sessions

-- ---- a session that makes no step

none-own : (s : ℕ) (step : Step) (log : List Step) → own s (step ∷ log) ≡ [] → (is_own s step ≡ false) × (own s log ≡ [])
none-own s step log e = by (is_own s step) refl e
  where
    by : (b : Bool) → is_own s step ≡ b → cond b (step ∷ own s log) (own s log) ≡ [] → (is_own s step ≡ false) × (own s log ≡ [])
    by true is e = absurd (cc e)
    by false is e = (is, e)

quiet-session : (q : State) (s : ℕ) (session : Session) (log : List Step) → AreMade q log → q.sessions s ≡ Some session → own s log ≡ [] → (state_after q log).sessions s ≡ q.sessions s
quiet-session q s session [] m is quiet = refl
quiet-session q s session (step ∷ log) m is quiet =
    let parts = none-own s step log quiet in
    let same : (next_state q step).sessions s ≡ q.sessions s = stays-next s q step session m.0 is parts.0 in
    quiet-session (next_state q step) s session log m.1 (same ∙ is) parts.1 ∙ same

pub quiet-stays : (q : State) (s : ℕ) (session : Session) (log : List Step) → IsOfLife q → AreMade q log → q.sessions s ≡ Some session → own s log ≡ [] → Stays s q (state_after q log)
quiet-stays q s session log life m is quiet =
    let same : (state_after q log).sessions s ≡ q.sessions s = quiet-session q s session log m is quiet in
    let more = grows q log m in
    record {
      session = same;
      snapshot =
          ap (λ (o : Option Session). take (begun_of o) (state_after q log).history) same
          ∙ ap (λ (l : List Commit). take (begun_of (q.sessions s)) l) more.1
          ∙ take-append-le (begun_of (q.sessions s)) q.history more.0 (sees-covered life.0 q s life.1);
    }

-- ---- a session that has drawn

or-false : (a b : Bool) → (a || b) ≡ false → (a ≡ false) × (b ≡ false)
or-false true b e = absurd (cc e)
or-false false b e = (refl, e)

-- only active sessions can make these steps
active-only : (q : State) (s m : ℕ) (step : Step) (session : Session) → nat_eq s m ≡ true → q.sessions s ≡ Some session → standing_of q session ≢ IsActive
    → ((begun : ℕ) × (writes : Writes) × (q.sessions m ≡ Some (Active begun writes))) → ⊥
active-only q s m step (Active begun writes) own is not act = not refl
active-only q s m step (Drew t) own is not act = absurd (cc (ap q.sessions (eqb-true s m own), is, act.2))
active-only q s m step WroteNothing own is not act = absurd (cc (ap q.sessions (eqb-true s m own), is, act.2))

waits-own : (q : State) (s : ℕ) (session : Session) (step : Step) → refusal q step ≡ None → q.sessions s ≡ Some session → standing_of q session ≢ IsActive → is_end_of s step ≡ false → is_own s step ≡ true
    → (next_state q step).sessions s ≡ Some session
waits-own q s session Begin none is not end own = absurd (true≢false (sym own))
waits-own q s session (Get m key) none is not end own = is
waits-own q s session (Scan m table lo hi) none is not end own = is
waits-own q s session (Put m key row) none is not end own =
    let a = allowed q (Put m key row) none in
    absurd (active-only q s m (Put m key row) session own is not (active q (Put m key row) (q.sessions m) refl refl refl a.there a.placed))
waits-own q s session (Delete m key) none is not end own =
    let a = allowed q (Delete m key) none in
    absurd (active-only q s m (Delete m key) session own is not (active q (Delete m key) (q.sessions m) refl refl refl a.there a.placed))
waits-own q s session (Draw m) none is not end own =
    let a = allowed q (Draw m) none in
    absurd (active-only q s m (Draw m) session own is not (active q (Draw m) (q.sessions m) refl refl refl a.there a.placed))
waits-own q s session (Stamp m) none is not end own = is
waits-own q s session (Poll m) none is not end own = is
waits-own q s session (Abort m) none is not end own =
    let a = allowed q (Abort m) none in
    absurd (active-only q s m (Abort m) session own is not (active q (Abort m) (q.sessions m) refl refl refl a.there a.placed))
waits-own q s session (End m) none is not end own = absurd (true≢false (sym own ∙ end))
waits-own q s session CommitTick none is not end own = absurd (true≢false (sym own))
waits-own q s session Collect none is not end own = absurd (true≢false (sym own))

-- a session that isn't active in one state isn't in another
inactive : (q q' : State) (session : Session) → standing_of q session ≢ IsActive → standing_of q' session ≢ IsActive
inactive q q' (Active begun writes) not = not
inactive q q' (Drew t) not = by (has_timestamp q'.history t) (list_any (λ d. nat_eq d.commit.timestamp t && is_stamped d) q'.drawn)
  where
    by : (covered stamped : Bool) → cond covered IsCovered (cond stamped IsStamped IsDrawn) ≢ IsActive
    by true stamped e = absurd (cc e)
    by false true e = absurd (cc e)
    by false false e = absurd (cc e)
inactive q q' WroteNothing not = λ e. absurd (cc e)

pub drawn-waits : (q : State) (s : ℕ) (session : Session) (log : List Step) → AreMade q log → q.sessions s ≡ Some session → standing_of q session ≢ IsActive → list_any (is_end_of s) log ≡ false
    → (state_after q log).sessions s ≡ Some session
drawn-waits q s session [] m is not none = is
drawn-waits q s session (step ∷ log) m is not none =
    drawn-waits (next_state q step) s session log m.1 (by (is_own s step) refl) (inactive q (next_state q step) session not) (or-false (is_end_of s step) (list_any (is_end_of s) log) none).1
  where
    by : (b : Bool) → is_own s step ≡ b → (next_state q step).sessions s ≡ Some session
    by true own = waits-own q s session step m.0 is not (or-false (is_end_of s step) (list_any (is_end_of s) log) none).0 own
    by false other = stays-next s q step session m.0 is other ∙ is

-- ---- a session that reads and writes

accesses-here : (q : State) (s begun : ℕ) (writes : Writes) (step : Step) → q.sessions s ≡ Some (Active begun writes) → is_own s step ≡ true → reads_or_writes step ≡ true
    → (next_state q step).sessions s ≡ Some (Active begun (with_step writes step))
accesses-here q s begun writes Begin is own access = absurd (cc access)
accesses-here q s begun writes (Get m key) is own access = is
accesses-here q s begun writes (Scan m table lo hi) is own access = is
accesses-here q s begun writes (Put m key row) is own access = grind (arith, eqb-true, replaced-same)
accesses-here q s begun writes (Delete m key) is own access = grind (arith, eqb-true, replaced-same)
accesses-here q s begun writes (Draw m) is own access = absurd (cc access)
accesses-here q s begun writes (Stamp m) is own access = absurd (cc access)
accesses-here q s begun writes (Poll m) is own access = absurd (cc access)
accesses-here q s begun writes (Abort m) is own access = absurd (cc access)
accesses-here q s begun writes (End m) is own access = absurd (cc access)
accesses-here q s begun writes CommitTick is own access = absurd (cc access)
accesses-here q s begun writes Collect is own access = absurd (cc access)

pub accesses-add_up : (q : State) (s begun : ℕ) (writes : Writes) (log : List Step) → AreMade q log → q.sessions s ≡ Some (Active begun writes) → IsTrue (list_all reads_or_writes (own s log))
    → (state_after q log).sessions s ≡ Some (Active begun (fold with_step writes (own s log)))
accesses-add_up q s begun writes [] m is all = is
accesses-add_up q s begun writes (step ∷ log) m is all =
    by
    (λ (w : Writes) (at : (next_state q step).sessions s ≡ Some (Active begun w)) (more : IsTrue (list_all reads_or_writes (own s log))). accesses-add_up (next_state q step) s begun w log m.1 at more)
    (is_own s step) refl all
  where
    by : ((w : Writes) → (next_state q step).sessions s ≡ Some (Active begun w) → IsTrue (list_all reads_or_writes (own s log)) → (state_after (next_state q step) log).sessions s ≡ Some (Active begun (fold with_step w (own s log))))
        → (b : Bool) → is_own s step ≡ b → IsTrue (list_all reads_or_writes (cond b (step ∷ own s log) (own s log)))
        → (state_after (next_state q step) log).sessions s ≡ Some (Active begun (fold with_step writes (cond b (step ∷ own s log) (own s log))))
    by more true own_step all =
        let parts = and_parts (reads_or_writes step) (list_all reads_or_writes (own s log)) all in
        more (with_step writes step) (accesses-here q s begun writes step is own_step parts.0) parts.1
    by more false other_step all =
        more writes (stays-next s q step (Active begun writes) m.0 is other_step ∙ is) all

-- ---- a begin

number-among : (test : ℕ → Bool) (from many n : ℕ) → find test (range_with_len from many) ≡ Some n → (from ≤ n) × (n < from + many)
number-among test from zero n is = absurd (cc is)
number-among test from (suc many) n is = grind (arith, number-among test (from + 1) many n)

pub free-closed : (q : State) (s : ℕ) → free_session q ≡ Some s → IsSessionNumber s × (q.sessions s ≡ None)
free-closed q s free = (grind (arith, number-among), grind (arith, find-passes))

pub begun-session : (q : State) (s : ℕ) → free_session q ≡ Some s → (next_state q Begin).sessions s ≡ Some (Active (length q.history) [])
begun-session q s free = replaced-same (unwrap_or (free_session q) 0) (Some (Active (length q.history) [])) q.sessions s (sym (ap (λ (o : Option ℕ). unwrap_or o 0) free))

begun-snapshot : (q : State) (s : ℕ) → free_session q ≡ Some s → snapshot_of (next_state q Begin) s ≡ q.history
begun-snapshot q s free = ap (λ (o : Option Session). take (begun_of o) q.history) (begun-session q s free) ∙ take_all (length q.history) q.history (omega arith)

pub has-begun : (q : State) (s : ℕ) → free_session q ≡ Some s → HasBegun q s
has-begun q s free = record {
  session = begun-session q s free;
  snapshot = begun-snapshot q s free;
  sees = λ key.
      ap (λ (o : Option Session). overlaid (writes_of o) (after (snapshot_of (next_state q Begin) s)) key) (begun-session q s free)
      ∙ ap (λ (l : List Commit). after l key) (begun-snapshot q s free);
  others = λ n apart. replaced-other (unwrap_or (free_session q) 0) (Some (Active (length q.history) [])) q.sessions n (λ e. apart (e ∙ ap (λ (o : Option ℕ). unwrap_or o 0) free));
}

pub begins-fresh : (q : State) → refusal q Begin ≡ None → (s : ℕ) × (free_session q ≡ Some s) × HasBegun q s
begins-fresh q none = by (free_session q) refl
  where
    by : (o : Option ℕ) → free_session q ≡ o → (s : ℕ) × (free_session q ≡ Some s) × HasBegun q s
    by None full = absurd (true≢false (sym (ap is_none full) ∙ (allowed q Begin none).room))
    by (Some s) free = (s, free, has-begun q s free)

-- ---- reads

read-row : (q : State) (s : ℕ) (key : Key) (row : Option (List ℕ)) (q' : State) → Stepped q (Get s key) (Row row) q' → row ≡ seen_by q s key
read-row q s key row q' (refused fault e r same) = absurd (cc r)
read-row q s key row q' (answered e a same) = cc a
read-row q s key row q' (memory_refused e m r same) = absurd (cc r)
read-row q s key row q' (device_failed e m r same) = absurd (cc r)

read-rows : (q : State) (s table lo hi : ℕ) (rows : List (Key × List ℕ)) (q' : State) → Stepped q (Scan s table lo hi) (Rows rows) q' → Lists rows (in_range table lo hi (seen_by q s))
read-rows q s table lo hi rows q' (refused fault e r same) = absurd (cc r)
read-rows q s table lo hi rows q' (answered e a same) =
    let is : rows ≡ a.0 = cc a.1 in
    subst (λ (l : List (Key × List ℕ)). Lists l (in_range table lo hi (seen_by q s))) (sym is) a.2
read-rows q s table lo hi rows q' (memory_refused e m r same) = absurd (cc r)
read-rows q s table lo hi rows q' (device_failed e m r same) = absurd (cc r)

pub reads-snapshot : (q : State) (s : ℕ) (log : List Step) → free_session q ≡ Some s → AreMade q (Begin ∷ log) → IsTrue (list_all reads_or_writes (own s log))
    → Reads (state_after q (Begin ∷ log)) s q.history (overlaid (written_by (own s log)) (after q.history))
reads-snapshot q s log free m all = record {
  snapshot_is = sees;
  get = λ key row q' step. read-row (state_after (next_state q Begin) log) s key row q' step ∙ ap (λ (t : Tables). t key) same;
  scan = λ table lo hi rows q' step. subst (λ (t : Tables). Lists rows (in_range table lo hi t)) same (read-rows (state_after (next_state q Begin) log) s table lo hi rows q' step);
}
  where
    session : (state_after (next_state q Begin) log).sessions s ≡ Some (Active (length q.history) (written_by (own s log)))
    session = accesses-add_up (next_state q Begin) s (length q.history) [] log m.1 (begun-session q s free) all

    more : Extends q.history (state_after (next_state q Begin) log)
    more = grows (next_state q Begin) log m.1

    sees : snapshot_of (state_after (next_state q Begin) log) s ≡ q.history
    sees =
        ap (λ (o : Option Session). take (begun_of o) (state_after (next_state q Begin) log).history) session
        ∙ ap (λ (l : List Commit). take (length q.history) l) more.1
        ∙ take-append-le (length q.history) q.history more.0 (omega arith)
        ∙ take_all (length q.history) q.history (omega arith)

    same : seen_by (state_after (next_state q Begin) log) s ≡ overlaid (written_by (own s log)) (after q.history)
    same =
        ap (λ (o : Option Session). overlaid (writes_of o) (after (snapshot_of (state_after (next_state q Begin) log) s))) session
        ∙ ap (λ (l : List Commit). overlaid (written_by (own s log)) (after l)) sees

-- ---- a read that is repeated

-- a session whose steps only read and poll sees the same
sees-same : (q : State) (s : ℕ) (session : Session) (log : List Step) → IsOfLife q → AreMade q log → own s (filter may_change log) ≡ [] → q.sessions s ≡ Some session
    → seen_by (state_after q log) s ≡ seen_by q s
sees-same q s session log life m quiet is =
    let changing = silent-go q log m in
    let stays = quiet-stays q s session (filter may_change log) life changing.0 is quiet in
    subst (λ (p : State). seen_by p s ≡ seen_by q s) changing.1
    (
    ap (λ (o : Option Session). overlaid (writes_of o) (after (snapshot_of (state_after q (filter may_change log)) s))) stays.session
    ∙ ap (λ (l : List Commit). overlaid (writes_of (q.sessions s)) (after l)) stays.snapshot
    )

-- a step that an active session alone can make has a session
reading : (q : State) (s : ℕ) (step : Step) → is_own s step ≡ true → allows step IsCovered ≡ false → allows step IsStamped ≡ false → allows step IsDrawn ≡ false → refusal q step ≡ None
    → session_of step ≡ Some s → (session : Session) × (q.sessions s ≡ Some session)
reading q s step own covered stamped drawn none named =
    let a = allowed q step none in
    let there : is_none (q.sessions s) ≡ false = ap (λ (o : Option ℕ). option_map_or (λ n. is_none (q.sessions n)) o false) (sym named) ∙ a.there in
    let placed : is_misplaced_in q step (q.sessions s) ≡ false = ap (λ (o : Option ℕ). option_map_or (λ n. is_misplaced_in q step (q.sessions n)) o false) (sym named) ∙ a.placed in
    let act = active q step (q.sessions s) covered stamped drawn there placed in
    (Active act.0 act.1, act.2)

getting : (q : State) (s : ℕ) (key : Key) (row : Option (List ℕ)) (q' : State) → Stepped q (Get s key) (Row row) q' → refusal q (Get s key) ≡ None
getting q s key row q' (refused fault e r same) = absurd (cc r)
getting q s key row q' (answered e a same) = e
getting q s key row q' (memory_refused e m r same) = absurd (cc r)
getting q s key row q' (device_failed e m r same) = absurd (cc r)

scanning : (q : State) (s table lo hi : ℕ) (rows : List (Key × List ℕ)) (q' : State) → Stepped q (Scan s table lo hi) (Rows rows) q' → refusal q (Scan s table lo hi) ≡ None
scanning q s table lo hi rows q' (refused fault e r same) = absurd (cc r)
scanning q s table lo hi rows q' (answered e a same) = e
scanning q s table lo hi rows q' (memory_refused e m r same) = absurd (cc r)
scanning q s table lo hi rows q' (device_failed e m r same) = absurd (cc r)

pub reads-repeat : ReadsRepeat
reads-repeat = record {
  get = λ q s key row again log q' q'' life m quiet first second.
      let session = reading q s (Get s key) (eq-eqb s s refl) refl refl refl (getting q s key row q' first) refl in
      read-row (state_after q log) s key again q'' second ∙ ap (λ (t : Tables). t key) (sees-same q s session.0 log life m quiet session.1) ∙ sym (read-row q s key row q' first);
  scan = λ q s table lo hi rows again log q' q'' life m quiet first second.
      let session = reading q s (Scan s table lo hi) (eq-eqb s s refl) refl refl refl (scanning q s table lo hi rows q' first) refl in
      one-listing again rows (in_range table lo hi (seen_by q s))
      (subst (λ (t : Tables). Lists again (in_range table lo hi t)) (sees-same q s session.0 log life m quiet session.1) (read-rows (state_after q log) s table lo hi again q'' second))
      (read-rows q s table lo hi rows q' first);
}

-- ---- an end, and a poll

pub ends-covered : (q : State) (s t : ℕ) → q.sessions s ≡ Some (Drew t) → refusal q (End s) ≡ None → has_timestamp q.history t ≡ true
ends-covered q s t is none = by (has_timestamp q.history t) refl (list_any (λ d. nat_eq d.commit.timestamp t && is_stamped d) q.drawn) refl
  where
    placed : is_misplaced_in q (End s) (Some (Drew t)) ≡ false
    placed = ap (is_misplaced_in q (End s)) (sym is) ∙ (allowed q (End s) none).placed

    by : (covered : Bool) → has_timestamp q.history t ≡ covered → (stamped : Bool) → list_any (λ d. nat_eq d.commit.timestamp t && is_stamped d) q.drawn ≡ stamped → has_timestamp q.history t ≡ true
    by true covered stamped e = covered
    by false covered stamped e = grind (arith)

pub polls-covered : (q : State) (s t : ℕ) (q' : State) → Stepped q (Poll s) (Committed t) q' → (q.sessions s ≡ Some (Drew t)) × (has_timestamp q.history t ≡ true)
polls-covered q s t q' (refused fault e r same) = absurd (cc r)
polls-covered q s t q' (answered e a same) = by (q.sessions s) refl a
  where
    drew : (u : ℕ) (b : Bool) → has_timestamp q.history u ≡ b → Committed t ≡ cond b (Committed u) Waiting → (u ≡ t) × (has_timestamp q.history u ≡ true)
    drew u true covered e = (cc e, covered)
    drew u false covered e = absurd (cc e)

    by : (o : Option Session) → q.sessions s ≡ o → Committed t ≡ polled q o → (q.sessions s ≡ Some (Drew t)) × (has_timestamp q.history t ≡ true)
    by None is e = absurd (cc e)
    by (Some (Active begun writes)) is e = absurd (cc e)
    by (Some WroteNothing) is e = absurd (cc e)
    by (Some (Drew u)) is e =
        let has = drew u (has_timestamp q.history u) refl e in
        (is ∙ ap (λ (n : ℕ). Some (Drew n)) has.0, ap (has_timestamp q.history) (sym has.0) ∙ has.1)
polls-covered q s t q' (memory_refused e m r same) = absurd (cc r)
polls-covered q s t q' (device_failed e m r same) = absurd (cc r)

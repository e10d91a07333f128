-- A step that isn't a tick of the committer leaves the pending batch as it is, and its cycle with it: a step of a session, or
-- a visit of the collector, even if a sweep ends with it.
use Rattle.std.proofs.Common.{◌≡◌, ℕ, ◌<◌, Bool, true, false, ◌&&◌, ◌||◌, not, List, [], ◌∷◌, ◌++◌, length, map, refl, sym, ◌∙◌, ap, subst, arith, nat_eq, nat_le}
use Rattle.std.specs.Prelude.{Option, Some, None, Result, Err}
use Rattle.std.specs.List.{list_any, list_all}
use Rattle.std.proofs.lemmas.Bool.{and_parts, and_from, le-leb, leb-true}
use Rattle.std.proofs.lemmas.List.{append-nil, map-append, length-map}
use Rattle.base.specs.declared.fault.Fault.{Fault}
use Rattle.base.specs.declared.step.Step.{Step}
use Rattle.base.specs.declared.step.Step.TheVariants.{Begin, Get, Scan, Put, Delete, Draw, Stamp, Poll, Abort, End, Commit as CommitTick, Collect}
use Rattle.base.specs.declared.step.Reply.{Reply}
use Rattle.base.specs.declared.step.Reply.TheVariants as reply
use Rattle.base.specs.declared.step.SessionStep.{SessionStep}
use Rattle.base.specs.declared.step.SessionReply.{SessionReply}
use Rattle.base.specs.declared.step.SessionReply.TheVariants.{Refused}
use Rattle.base.specs.Steps.{as_step, as_reply}
use Rattle.base.specs.Batches.{Batch}
use Rattle.base.specs.Commits.{Commit, Writes}
use Rattle.base.specs.Layout.{Layout}
use Rattle.machine.specs.Laws.{is_no_tick}
use Rattle.base.specs.Records.{Record, is_committed}
use Rattle.machine.proofs.collector.Visits.{visit-changes}
use Rattle.machine.specs.Machine.{State, Hand, Drawn, Stepped, refused, answered, memory_refused, device_failed, next_state, state_drawn, drawn_of, writes_of, timestamp_of, session_of}
use Rattle.machine.proofs.stamps.Drawn.{counted-commits}
use Rattle.pmem.specs.Device.{Device}
use Rattle.txn.specs.declared.drawn.DrawnCommit.{DrawnCommit}
use Rattle.collector.specs.declared.visit.Visit.{Visit}
use Rattle.group_commit.specs.Cycles.{Cycling}
use Rattle.group_commit.specs.Laws.{IsAfter}
use Rattle.device_invariant.specs.Log.{Line, line_number, lines_in}
use Rattle.state_invariant.specs.Kept.{Origin, Keeps}
use Rattle.state_invariant.proofs.Commits.{uncommitted-above}
use Rattle.simulation.proofs.cycles.covers.LinesStay.{lines-stay}
use Rattle.session_steps.specs.declared.sessions.Sessions.{Sessions}
use Rattle.simulation.specs.cycles.Batches.{line_numbers}
use Rattle.session_steps.specs.Shows.{plain_drawn, Shows as SessionsShow}
use Rattle.session_steps.specs.Steps.{Drawers, Steps as SessionSteps}
use Rattle.session_steps.specs.Collecting.{Collects}
use Rattle.session_steps.specs.Collecting as visit
use Rattle.session_steps.proofs.Effects.{effect-as}
use Rattle.room.specs.declared.volatile.VolatileState.{VolatileState}
use Rattle.room.specs.Committing.{HoldsHand, HoldsCycle, ShowsIn}
use Rattle.room.specs.Steps.{actor_of, StepsToIn, StepsIn}

-- what such a step leaves of a state
record LeavesHand (q q' : State) : Type 0 where
  pub hand : q'.hand ≡ q.hand
  pub ruling : q'.ruling ≡ q.ruling
  pub layout : q'.layout ≡ q.layout
  pub more : List Commit
  pub drawn : drawn_of q' ≡ drawn_of q ++ more
  pub later : list_all (λ c. nat_le q.next c.timestamp) more ≡ true

same-leaves : (q : State) → LeavesHand q q
same-leaves q = record { hand = refl; ruling = refl; layout = refl; more = []; drawn = sym (append-nil (drawn_of q)); later = refl }

next-leaves : (q : State) (step : Step) → is_no_tick step ≡ true → LeavesHand q (next_state q step)
next-leaves q Begin is = record { hand = refl; ruling = refl; layout = refl; more = []; drawn = sym (append-nil (drawn_of q)); later = refl }
next-leaves q (Get n key) is = same-leaves q
next-leaves q (Scan n table lo hi) is = same-leaves q
next-leaves q (Put n key row) is = record { hand = refl; ruling = refl; layout = refl; more = []; drawn = sym (append-nil (drawn_of q)); later = refl }
next-leaves q (Delete n key) is = record { hand = refl; ruling = refl; layout = refl; more = []; drawn = sym (append-nil (drawn_of q)); later = refl }
next-leaves q (Draw n) is = by (writes_of (q.sessions n))
  where
    by : (writes : Writes) → LeavesHand q (state_drawn q n writes)
    by [] = record { hand = refl; ruling = refl; layout = refl; more = []; drawn = sym (append-nil (drawn_of q)); later = refl }
    by (write ∷ writes) = record { hand = refl; ruling = refl; layout = refl; more = record { timestamp = q.next; writes = write ∷ writes } ∷ []; drawn = map-append (λ (d : Drawn). d.commit) q.drawn _; later = ap (λ (b : Bool). b && true) (le-leb q.next q.next (omega arith)) }
next-leaves q (Stamp n) is = record { hand = refl; ruling = refl; layout = refl; more = []; drawn = counted-commits (timestamp_of (q.sessions n)) q.drawn ∙ sym (append-nil (drawn_of q)); later = refl }
next-leaves q (Poll n) is = same-leaves q
next-leaves q (Abort n) is = record { hand = refl; ruling = refl; layout = refl; more = []; drawn = sym (append-nil (drawn_of q)); later = refl }
next-leaves q (End n) is = record { hand = refl; ruling = refl; layout = refl; more = []; drawn = sym (append-nil (drawn_of q)); later = refl }
next-leaves q CommitTick is = absurd (cc is)
next-leaves q Collect is = grind (arith, visit-changes, append-nil)

leaves : (q q' : State) (step : Step) (reply : Reply) → is_no_tick step ≡ true → Stepped q step reply q' → LeavesHand q q'
leaves q q' step reply is (refused fault why told same) = subst (LeavesHand q) (sym same) (same-leaves q)
leaves q q' step reply is (answered none told same) = subst (LeavesHand q) (sym same) (next-leaves q step is)
leaves q q' step reply is (memory_refused none takes told same) = subst (LeavesHand q) (sym same) (same-leaves q)
leaves q q' step reply is (device_failed none makes told same) =
    subst (LeavesHand q) (sym same) record { hand = refl; ruling = refl; layout = refl; more = []; drawn = sym (append-nil (drawn_of q)); later = refl }

-- ---- the sessions of those that a record commits

abbrev sessions-in : List DrawnCommit → List ℕ
sessions-in ds = map (λ (d : DrawnCommit). d.session) ds

abbrev times-in : List DrawnCommit → List ℕ
times-in ds = map (λ (d : DrawnCommit). d.timestamp) ds

abbrev times-of : List Commit → List ℕ
times-of cs = map (λ (c : Commit). c.timestamp) cs

-- one of the timestamps that pass is paired with this session
abbrev any-beside : ℕ → (ℕ → Bool) → List ℕ → List ℕ → Bool
any-beside n test [] ts = false
any-beside n test (m ∷ ms) [] = false
any-beside n test (m ∷ ms) (t ∷ ts) = nat_eq m n && test t || any-beside n test ms ts

beside-is : (n : ℕ) (test : ℕ → Bool) (ds : List DrawnCommit) → list_any (λ d. nat_eq d.session n && test d.timestamp) ds ≡ any-beside n test (sessions-in ds) (times-in ds)
beside-is n test [] = refl
beside-is n test (d ∷ ds) = ap (λ (b : Bool). nat_eq d.session n && test d.timestamp || b) (beside-is n test ds)

none-beside : (n : ℕ) (test : ℕ → Bool) (ms ts : List ℕ) → list_all (λ t. not (test t)) ts ≡ true → any-beside n test ms ts ≡ false
none-beside n test [] ts none = refl
none-beside n test (m ∷ ms) [] none = refl
none-beside n test (m ∷ ms) (t ∷ ts) none = grind (arith, and_parts, none-beside n test ms ts)

more-beside : (n : ℕ) (test : ℕ → Bool) (ms more ts further : List ℕ) → length ms ≡ length ts → list_all (λ t. not (test t)) further ≡ true → any-beside n test (ms ++ more) (ts ++ further) ≡ any-beside n test ms ts
more-beside n test [] more [] further same none = none-beside n test more further none
more-beside n test [] more (t ∷ ts) further same none = absurd (omega (arith, same))
more-beside n test (m ∷ ms) more [] further same none = absurd (omega (arith, same))
more-beside n test (m ∷ ms) more (t ∷ ts) further same none = ap (λ (b : Bool). nat_eq m n && test t || b) (more-beside n test ms more ts further (omega (arith, same)) none)

times-plain : (ds : List DrawnCommit) → times-in ds ≡ times-of (map (λ (d : Drawn). d.commit) (map plain_drawn ds))
times-plain [] = refl
times-plain (d ∷ ds) = ap (λ (ts : List ℕ). d.timestamp ∷ ts) (times-plain ds)

times-same : (q : State) (ds : List DrawnCommit) → q.drawn ≡ map plain_drawn ds → times-in ds ≡ times-of (drawn_of q)
times-same q ds is = times-plain ds ∙ ap (λ (es : List Drawn). times-of (map (λ (d : Drawn). d.commit) es)) (sym is)

-- what was drawn from a timestamp on is in no record that persists less
later-none : (r : Record) (next : ℕ) (cs : List Commit) → r.persisted < next → list_all (λ c. nat_le next c.timestamp) cs ≡ true → list_all (λ t. not (is_committed r t)) (times-of cs) ≡ true
later-none r next [] low all = refl
later-none r next (c ∷ cs) low all = grind (arith, and_parts, and_from, uncommitted-above, leb-true, later-none r next cs low)

-- after the step, too, the cycle is that of the pending batch
module _ (o : Origin) (q q' : State) (step : Step) (reply : Reply) (old new : List DrawnCommit) (kept : Keeps o q) (session : is_no_tick step ≡ true) (stepped : Stepped q step reply q')
    (drawn : q.drawn ≡ map plain_drawn old) (drawn-after : q'.drawn ≡ map plain_drawn new) (drawers : (more : List ℕ) × (sessions-in new ≡ sessions-in old ++ more)) where
  l : LeavesHand q q'
  l = leaves q q' step reply session stepped

  hand-stays : (hand : Hand) (cycle : Cycling) → q.hand ≡ Some hand → HoldsHand q old hand cycle → HoldsHand q' new hand cycle
  hand-stays hand cycle in_hand h = record {
    sessions = λ n. h.sessions n ∙ sessions-stay n;
    batch = h.batch ∙ ap (λ (r : Record). let b : Batch = record { from = r.gate; stamp = hand.target.gate; persisted = hand.target.persisted; longs = hand.target.longs; commits = hand.commits } in b) (sym l.ruling);
    layout = h.layout ∙ sym l.layout;
    target = h.target;
    unfinished = h.unfinished;
    ticks = subst (λ (lines : List ℕ). IsAfter lines hand.ticks cycle) (sym numbers) h.ticks;
  }
    where
      none : list_all (λ t. not (is_committed hand.target t)) (times-of l.more) ≡ true
      none = later-none hand.target q.next l.more (kept.numbers.hand hand in_hand).persisted l.later

      sized : length (sessions-in old) ≡ length (times-of (drawn_of q))
      sized = length-map old (λ (d : DrawnCommit). d.session) ∙ sym (length-map old (λ (d : DrawnCommit). d.timestamp)) ∙ ap (λ (ts : List ℕ). length ts) (times-same q old drawn)

      sessions-stay : (n : ℕ) → list_any (λ (d : DrawnCommit). nat_eq d.session n && is_committed hand.target d.timestamp) old ≡ list_any (λ (d : DrawnCommit). nat_eq d.session n && is_committed hand.target d.timestamp) new
      sessions-stay n =
          beside-is n (is_committed hand.target) old
          ∙ ap (any-beside n (is_committed hand.target) (sessions-in old)) (times-same q old drawn)
          ∙ sym (more-beside n (is_committed hand.target) (sessions-in old) drawers.0 (times-of (drawn_of q)) (times-of l.more) sized none)
          ∙ ap (any-beside n (is_committed hand.target) (sessions-in old ++ drawers.0)) (sym (times-same q' new drawn-after ∙ ap (λ (cs : List Commit). times-of cs) l.drawn ∙ map-append (λ (c : Commit). c.timestamp) (drawn_of q) l.more))
          ∙ ap (λ (ms : List ℕ). any-beside n (is_committed hand.target) ms (times-in new)) (sym drawers.1)
          ∙ sym (beside-is n (is_committed hand.target) new)

      numbers : line_numbers q' hand.commits ≡ line_numbers q hand.commits
      numbers =
          ap (λ (ls : List Line). map (line_number q'.layout) ls) (lines-stay o q step reply q' hand kept in_hand session stepped)
          ∙ ap (λ (a : Layout). map (line_number a) (lines_in q hand.commits)) l.layout

  pub cycle-stays : (cycle : Option Cycling) → HoldsCycle q old q.hand cycle → HoldsCycle q' new q'.hand cycle
  cycle-stays cycle holds = subst (λ (hand : Option Hand). HoldsCycle q' new hand cycle) (sym l.hand) (by q.hand refl cycle holds)
    where
      by : (hand : Option Hand) → q.hand ≡ hand → (cycle : Option Cycling) → HoldsCycle q old hand cycle → HoldsCycle q' new hand cycle
      by None is None holds = tt
      by None is (Some cycle) holds = absurd holds
      by (Some hand) is None holds = absurd holds
      by (Some hand) is (Some cycle) holds = hand-stays hand cycle is holds

-- what the sessions show has the drawn commits that they keep
pub shown-drawn : (s : Sessions) (device : Device) (q : State) → SessionsShow s device q → q.drawn ≡ map plain_drawn s.drawn.commits
shown-drawn s device q shown = ap (λ (p : State). p.drawn) shown.plain

-- so what is shown after the step is shown with its cycle
pub shows-after : (old new : Sessions) (cycle : Option Cycling) (before now : Device) (step : Step) (reply : Reply) (q q' : State) → is_no_tick step ≡ true → ShowsIn old cycle before q → Stepped q step reply q' → SessionsShow new now q' → Drawers old new
    → ShowsIn new cycle now q'
shows-after old new cycle before now step reply q q' no_tick shows stepped shown drawers = record {
  shown = shown;
  cycle_is = cycle-stays shows.shown.hidden.origin q q' step reply old.drawn.commits new.drawn.commits shows.shown.upholds.keeps no_tick stepped (shown-drawn old before q shows.shown) (shown-drawn new now q' shown) drawers cycle shows.cycle_is;
}

-- ---- a session's step

told-back : (r : SessionReply) (told : Fault) → as_reply r ≡ reply.Refused told → r ≡ Refused told
told-back a told is = grind (arith)

no-tick : (s : SessionStep) → is_no_tick (as_step s) ≡ true
no-tick a = grind (arith)

its-actor : (s : SessionStep) → session_of (as_step s) ≡ actor_of (as_step s)
its-actor a = grind (arith)

pub session-steps : (old new : Sessions) (cycle : Option Cycling) (before now : Device) (s : SessionStep) (r : SessionReply) → SessionSteps old new before now s r
    → (q : State) → ShowsIn old cycle before q → q.failed ≡ false → (q' : State) × StepsToIn new cycle before now (as_step s) (as_reply r) q q'
session-steps old new cycle before now s r steps q shows works =
    let went = steps q shows.shown works in (
      went.0,
      record {
        stepped = went.1.stepped;
        shows = shows-after old new cycle before now (as_step s) (as_reply r) q went.0 (no-tick s) shows went.1.stepped went.1.shows went.1.drawers;
        effect = effect-as (its-actor s) (λ fault told. ap as_reply told) (told-back r) went.1.effect;
      },
    )

-- ---- a visit of the collector

visit-told-back : (r : Result Visit Fault) (told : Fault) → visit.as_reply r ≡ reply.Refused told → r ≡ Err told
visit-told-back a told is = grind (arith)

visit-steps : (old new : Sessions) (cycle : Option Cycling) (before now : Device) (r : Result Visit Fault) → Collects old new before now r
    → (q : State) → ShowsIn old cycle before q → q.failed ≡ false → (q' : State) × StepsToIn new cycle before now Collect (visit.as_reply r) q q'
visit-steps old new cycle before now r steps q shows works =
    let went = steps q shows.shown works in (
      went.0,
      record {
        stepped = went.1.stepped;
        shows = shows-after old new cycle before now Collect (visit.as_reply r) q went.0 refl shows went.1.stepped went.1.shows went.1.drawers;
        effect = effect-as refl (λ fault told. ap visit.as_reply told) (visit-told-back r) went.1.effect;
      },
    )

-- the same, under the reply of the machine
pub visits-named : (old : Sessions) (new : VolatileState) (before now : Device) (r : Result Visit Fault) (reply : Reply) → visit.as_reply r ≡ reply → Collects old new.sessions before now r → StepsIn old new.cycle new before now Collect reply
visits-named old new before now r reply is steps = λ q shows works.
    subst (λ (x : Reply). (q' : State) × StepsToIn new.sessions new.cycle before now Collect x q q') is (visit-steps old new.sessions new.cycle before now r steps q shows works)

-- Visits that pass, as a run of the room.
use Rattle.std.proofs.Common.{◌≡◌, ◌+◌, ℕ, zero, suc, Bool, false, List, [], ◌∷◌, map, sym, ◌∙◌, ap, subst, arith}
use Rattle.std.specs.Prelude.{Option, Some, None, Contains}
use Rattle.std.proofs.Math.Logic.{∥∥₁_map}
use Rattle.base.specs.declared.fault.Fault.TheVariants.{Device as DeviceFault}
use Rattle.base.specs.declared.step.Step.{Step}
use Rattle.base.specs.declared.step.Step.TheVariants.{Collect}
use Rattle.base.specs.declared.step.Reply.{Reply}
use Rattle.base.specs.declared.step.Reply.TheVariants.{Refused, Visited}
use Rattle.machine.specs.Machine.{State, Hand, Stepped, Run, final, StandsAlong}
use Rattle.pmem.specs.Device.{Device, IsOrderly}
use Rattle.pmem.specs.Words.{LeavesOnly, operations_of}
use Rattle.pmem.specs.declared.device.Pmem.{Ghosts}
use Rattle.pmem.proofs.Images.{leaves_refl}
use Rattle.txn.specs.declared.drawn.DrawnCommit.{DrawnCommit}
use Rattle.group_commit.specs.Cycles.{Cycling}
use Rattle.session_steps.specs.declared.sessions.Sessions.{Sessions}
use Rattle.session_steps.specs.Collecting.{passed, PassesTo, Passes}
use Rattle.room.specs.declared.room.Room.{Room}
use Rattle.room.specs.declared.volatile.VolatileState.{VolatileState}
use Rattle.room.specs.Committing.{HoldsCycle, Shows as CommitterShows}
use Rattle.room.specs.Steps.{ShowsAs}
use Rattle.room.specs.Room.{Shows, place_of}
use Rattle.room.specs.Runs.{LeadsAlong, visited_from}
use Rattle.room.proofs.Rooms.{shown-stands, shown-clear}
use Rattle.room.proofs.Runs.{along-at}

-- ---- what is shown then

-- the pending batch doesn't ask for the place
cycle-on : (q : State) (count : ℕ) (drawn : List DrawnCommit) (hand : Option Hand) (cycle : Option Cycling) → HoldsCycle q drawn hand cycle → HoldsCycle (passed count q) drawn hand cycle
cycle-on q count drawn None None holds = tt
cycle-on q count drawn (Some hand) (Some cycle) holds = record { sessions = holds.sessions; batch = holds.batch; layout = holds.layout; target = holds.target; unfinished = holds.unfinished; ticks = holds.ticks }
cycle-on q count drawn None (Some cycle) holds = absurd holds
cycle-on q count drawn (Some hand) None holds = absurd holds

module _ (old new : VolatileState) (device : Device) (count : ℕ) (orderly : IsOrderly device) (drawn : new.sessions.drawn.commits ≡ old.sessions.drawn.commits) (cycle : new.cycle ≡ old.cycle) (passes : Passes old.sessions new.sessions count) where
  pub passed-shown : (q : State) → CommitterShows old device q → q.failed ≡ false → CommitterShows new device (passed count q)
  passed-shown q shows works = record {
    shown = (passes device q orderly shows.shown works).shows;
    cycle_is = subst (λ (c : Option Cycling). HoldsCycle (passed count q) new.sessions.drawn.commits q.hand c) (sym cycle) (subst (λ (ds : List DrawnCommit). HoldsCycle (passed count q) ds q.hand old.cycle) (sym drawn) (cycle-on q count old.sessions.drawn.commits q.hand old.cycle shows.cycle_is));
  }

  pub passed-some : (failed : Bool) → failed ≡ false → ∥ ShowsAs old device failed ∥₁ → ∥ ShowsAs new device failed ∥₁
  passed-some failed works some = ∥∥₁_map some (λ shown. (passed count shown.0, passed-shown shown.0 shown.1 (shown.2 ∙ works), shown.2))

-- ---- the run

-- the visits, and what they reply
abbrev visits : ℕ → ℕ → List (Step × Reply)
visits slot count = map (λ (reply : Reply). (Collect, reply)) (visited_from slot count)

abbrev step_in : Step × Reply → Step
step_in one = one.0

abbrev reply_in : Step × Reply → Reply
reply_in one = one.1

-- the states after each of them
abbrev states_after : State → ℕ → ℕ → List State
states_after q k zero = []
states_after q k (suc count) = passed (k + 1) q ∷ states_after q (k + 1) count

-- none of them reports a failing device
none-fails : (slot count : ℕ) → Contains (map reply_in (visits slot count)) (Refused DeviceFault) → ⊥
none-fails slot zero (k, within, is) = absurd (omega (arith, within))
none-fails slot (suc count) (zero, within, is) = absurd (cc is)
none-fails slot (suc count) (suc k, within, is) = none-fails (slot + 1) count (k, omega (arith, within), is)

module _ (new : Sessions) (device : Device) (total : ℕ) (q : State) (passes : PassesTo new device total q) where
  run-on : (count k slot : ℕ) → k + count ≡ total → slot ≡ q.place + k → Run (passed k q) (map step_in (visits slot count)) (map reply_in (visits slot count)) (states_after q k count)
  run-on zero k slot all is = tt
  run-on (suc count) k slot all is = (
    subst (λ (s : ℕ). Stepped (passed k q) Collect (Visited s) (passed (k + 1) q)) (sym is) (passes.stepped k (omega (arith, all))),
    run-on count (k + 1) (slot + 1) (omega (arith, all)) (omega (arith, is)),
  )

  final-on : (count k : ℕ) → k + count ≡ total → final (passed k q) (states_after q k count) ≡ passed total q
  final-on zero k all = ap (λ (n : ℕ). passed n q) (omega (arith, all))
  final-on (suc count) k all = final-on count (k + 1) (omega (arith, all))

none-passed : (q : State) → passed 0 q ≡ q
none-passed q = ap (λ (place : ℕ). record q { place = place }) (omega arith)

module _ {D : Type 0} {G : Ghosts D} (state : D → Device) where
  pub passes-along : (old new : Room D G) (count : ℕ) → old.failed ≡ false → new.failed ≡ old.failed → state new.device ≡ state old.device → IsOrderly (state old.device) → new.volatile.cycle ≡ old.volatile.cycle
      → new.volatile.sessions.drawn.commits ≡ old.volatile.sessions.drawn.commits → Passes old.volatile.sessions new.volatile.sessions count → LeadsAlong state old new (visits (place_of old) count)
  passes-along old new count works same_failed same orderly cycle drawn passes q shows = (
    states_after q 0 count,
    record {
      run = subst (λ (p : State). Run p (map step_in (visits (place_of old) count)) (map reply_in (visits (place_of old) count)) (states_after q 0 count)) (none-passed q) (run-on new.volatile.sessions (state old.device) count q there count 0 (place_of old) (omega arith) (omega (arith, placed)));
      shows = subst (λ (p : State). Shows state new p) (sym is-final) shown;
      images = subst (λ (d : Device). LeavesOnly (state old.device) d (StandsAlong q (states_after q 0 count))) (sym same) (leaves_refl (state old.device) (StandsAlong q (states_after q 0 count)) orderly (λ image left. along-at q (states_after q 0 count) image (shows.stands image left)));
      failure = record {
        no_fewer = let failures = ap (λ (d : Device). d.failures) same in omega (arith, failures);
        cause = λ told. absurd (none-fails (place_of old) count told);
        shown = λ less. let failures = ap (λ (d : Device). d.failures) same in absurd (omega (arith, less, failures));
      };
      operations = let made = ap operations_of same in omega (arith, made);
    },
  )
    where
      here : q.failed ≡ false
      here = shows.agrees.failed ∙ works

      placed : q.place ≡ place_of old
      placed = ap (λ (p : State). p.place) shows.agrees.shown.shown.plain

      there : PassesTo new.volatile.sessions (state old.device) count q
      there = passes (state old.device) q orderly shows.agrees.shown.shown here

      then : CommitterShows new.volatile (state new.device) (passed count q)
      then = subst (λ (d : Device). CommitterShows new.volatile d (passed count q)) (sym same) (passed-shown old.volatile new.volatile (state old.device) count orderly drawn cycle passes q shows.agrees.shown here)

      is-final : final q (states_after q 0 count) ≡ passed count q
      is-final = subst (λ (p : State). final p (states_after q 0 count) ≡ passed count q) (none-passed q) (final-on new.volatile.sessions (state old.device) count q there count 0 (omega arith))

      shown : Shows state new (passed count q)
      shown = record {
        stands = shown-stands new.volatile (state new.device) (passed count q) then;
        swept = shown-clear new.volatile (state new.device) (passed count q) then;
        agrees = record { shown = then; failed = shows.agrees.failed ∙ sym same_failed };
      }

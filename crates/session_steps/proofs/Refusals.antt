-- What a step is refused for by the session that it names, once for all steps.
use Rattle.std.proofs.Common.{◌≡◌, ℕ, Bool, true, false, ◌&&◌, ◌||◌, cond, [], ◌∷◌, refl, ◌∙◌, ap, nat_eq, nat_le, ◌+◌, ◌*◌, ◌^◌, arith}
use Rattle.std.specs.Prelude.{Option, Some, None, is_none}
use Rattle.std.specs.Option.{option_or, option_map, option_map_or}
use Rattle.base.specs.declared.fault.Fault.{Fault}
use Rattle.base.specs.declared.fault.Fault.TheVariants.{Failed, SessionsFull, NoSession, WrongState, TooLong, WriteSetFull, SlotsOut, Conflict, WindowFull, TimestampsOut}
use Rattle.base.specs.declared.step.Step.{Step}
use Rattle.base.specs.declared.step.Step.TheVariants.{Begin, Get, Scan, Put, Delete, Draw, Abort}
use Rattle.base.specs.Search.{first_of as first_there, some_if}
use Rattle.machine.specs.Machine.{State, Session, IsDrawn, IsStamped, IsCovered, refusal, begins, free_session, session_of, is_absent, is_misplaced, is_misplaced_in, is_too_long, overfills, lacks_slot, conflicts, draws, chooses, allows, standing_of}

-- a step that names a session opens none
names-one : (step : Step) (n : ℕ) → session_of step ≡ Some n → begins step ≡ false
names-one a n is = grind (arith)

-- why a step that its session allows may still be refused
abbrev pub later : State → Step → Option Fault
later q step = first_there (
    some_if (is_too_long q step) TooLong
    ∷ some_if (overfills q step) WriteSetFull
    ∷ some_if (lacks_slot q step) SlotsOut
    ∷ option_map Conflict (conflicts q step)
    ∷ some_if (draws q step && nat_eq q.next q.ruling.dirty) WindowFull
    ∷ some_if (draws q step && nat_le (2 ^ 62) (q.next + 2 * q.layout.window) || chooses q step && nat_le (2 ^ 62) (q.ruling.gate + 1)) TimestampsOut
    ∷ [])

-- the first four tests
in-order : (a b full c d : Bool) (rest : Option Fault) → a ≡ false → b ≡ false
    → option_or (some_if a Failed) (option_or (some_if (b && full) SessionsFull) (option_or (some_if c NoSession) (option_or (some_if d WrongState) rest))) ≡ (cond c (Some NoSession) (cond d (Some WrongState) rest))
in-order a b full c d rest works one = grind (arith)

by-session : (q : State) (step : Step) (n : ℕ) → q.failed ≡ false → session_of step ≡ Some n
    → refusal q step ≡ cond (is_absent q step) (Some NoSession) (cond (is_misplaced q step) (Some WrongState) (later q step))
by-session q step n works is = in-order q.failed (begins step) (is_none (free_session q)) (is_absent q step) (is_misplaced q step) (later q step) works (names-one step n is)

absent : (q : State) (step : Step) (n : ℕ) (found : Option Session) → session_of step ≡ Some n → q.sessions n ≡ found → is_absent q step ≡ is_none found
absent q step n found is at = ap (λ (o : Option ℕ). option_map_or (λ n. is_none (q.sessions n)) o false) is ∙ ap (λ (s : Option Session). is_none s) at

misplaced : (q : State) (step : Step) (n : ℕ) (found : Option Session) → session_of step ≡ Some n → q.sessions n ≡ found → is_misplaced q step ≡ is_misplaced_in q step found
misplaced q step n found is at = ap (λ (o : Option ℕ). option_map_or (λ n. is_misplaced_in q step (q.sessions n)) o false) is ∙ ap (λ (s : Option Session). is_misplaced_in q step s) at

-- no session has the number
pub refused-absent : (q : State) (step : Step) (n : ℕ) → q.failed ≡ false → session_of step ≡ Some n → q.sessions n ≡ None → refusal q step ≡ Some NoSession
refused-absent q step n works is at = by-session q step n works is ∙ ap (λ (b : Bool). cond b (Some NoSession) (cond (is_misplaced q step) (Some WrongState) (later q step))) (absent q step n None is at)

-- the session is in a state that doesn't allow the step
pub refused-misplaced : (q : State) (step : Step) (n : ℕ) (session : Session) → q.failed ≡ false → session_of step ≡ Some n → q.sessions n ≡ Some session → allows step (standing_of q session) ≡ false
    → refusal q step ≡ Some WrongState
refused-misplaced q step n session works is at bars = grind (arith, by-session, absent, misplaced)

-- the session allows the step
pub passes : (q : State) (step : Step) (n : ℕ) (session : Session) → q.failed ≡ false → session_of step ≡ Some n → q.sessions n ≡ Some session → allows step (standing_of q session) ≡ true
    → refusal q step ≡ later q step
passes q step n session works is at lets = grind (arith, by-session, absent, misplaced)

-- ---- Begin

begin-order : (a full : Bool) (rest : Option Fault) → a ≡ false → rest ≡ None → option_or (some_if a Failed) (option_or (some_if full SessionsFull) rest) ≡ cond full (Some SessionsFull) None
begin-order a full rest works nothing = grind (arith)

pub refusal-begin : (q : State) (full : Bool) → q.failed ≡ false → is_none (free_session q) ≡ full → refusal q Begin ≡ cond full (Some SessionsFull) None
refusal-begin q full works is = begin-order q.failed (is_none (free_session q)) None works refl ∙ ap (λ (b : Bool). cond b (Some SessionsFull) None) is

-- ---- the steps of an Active session

-- only an Active session allows it
abbrev pub is_of_active : Step → Bool
is_of_active (Get n key) = true
is_of_active (Scan n table lo hi) = true
is_of_active (Put n key row) = true
is_of_active (Delete n key) = true
is_of_active (Draw n) = true
is_of_active (Abort n) = true
is_of_active _ = false

-- it is not allowed in any other state
pub record Bars (step : Step) : Type 0 where
  pub drawn : allows step IsDrawn ≡ false
  pub stamped : allows step IsStamped ≡ false
  pub covered : allows step IsCovered ≡ false

pub others-bar : (step : Step) → is_of_active step ≡ true → Bars step
others-bar a of = grind (arith)

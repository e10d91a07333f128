-- A log: the steps that were made since some state, in their order. Which state it leads to, and which of its steps are a session's own.
use Rattle.std.specs.Prelude.{ℕ, ◌≤◌, ◌≡◌, Bool, true, false, not, nat_eq, List, [], ◌∷◌, ◌++◌, fold, map, filter, length, drop, None}
use Rattle.std.specs.Option.{option_map_or}
use Rattle.base.specs.declared.step.Step.{Step}
use Rattle.base.specs.declared.step.Step.TheVariants.{Get, Scan, Poll}
use Rattle.base.specs.declared.step.Reply.{Reply}
use Rattle.base.specs.declared.step.Reply.TheVariants.{Refused}
use Rattle.machine.specs.Machine.{State, session_of, refusal, next_state}

-- the state that the steps lead to
abbrev pub state_after : State → List Step → State
state_after q log = fold next_state q log

-- Each of the steps can be made: nothing refuses it in the state that those before it lead to.
-- Excluded: a log with a begin that found no free number.
abbrev pub AreMade : State → List Step → Type 0
AreMade q [] = Unit {0}
AreMade q (step ∷ log) = (refusal q step ≡ None) × AreMade (next_state q step) log

-- ---- of a run

-- the reply refuses its step
abbrev pub is_refusal : Reply → Bool
is_refusal (Refused fault) = true
is_refusal _ = false

-- what was made of steps with these replies: the steps that weren't refused
abbrev pub made : List (Step × Reply) → List Step
made taken = map (λ one. one.0) (filter (λ one. not (is_refusal one.1)) taken)

-- the step may change the state: a read or a poll never does
abbrev pub may_change : Step → Bool
may_change (Get n key) = false
may_change (Scan n table lo hi) = false
may_change (Poll n) = false
may_change _ = true

-- what was made of them, except for reads and polls
abbrev pub changes : List (Step × Reply) → List Step
changes taken = filter may_change (made taken)

-- ---- of one session

-- the step names the session. A begin names none
abbrev pub is_own : ℕ → Step → Bool
is_own s step = option_map_or (nat_eq s) (session_of step) false

-- the session's own steps
abbrev pub own : ℕ → List Step → List Step
own s log = filter (is_own s) log

-- the log goes on from what was seen, without a step of the session
abbrev pub Follows : ℕ → List Step → List Step → Type 0
Follows s seen log = (between : List Step) × (log ≡ seen ++ between) × (own s between ≡ [])

-- from this place of the log on, the session made no step
abbrev pub IsQuietSince : ℕ → ℕ → List Step → Type 0
IsQuietSince s at log = (at ≤ length log) × (own s (drop at log) ≡ [])

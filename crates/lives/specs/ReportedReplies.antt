-- What is reported of the replies to steps that are taken again and again.
use Rattle.std.specs.Prelude.{◌≡◌, ◌⊎◌, ℕ, suc, Bool, true, false, List, [], ◌∷◌, ◌++◌, length, flat_map, replicate, All, Option, Some, None, Result, Ok, Err}
use Rattle.base.specs.declared.fault.Fault.{Fault}
use Rattle.base.specs.declared.step.Step.{Step}
use Rattle.base.specs.declared.step.Reply.{Reply}
use Rattle.base.specs.declared.step.Reply.TheVariants.{Idle, Refused}
use Rattle.base.specs.Replies.{is_failure}
use Rattle.lives.specs.declared.life.Opened.{Opened}
use Rattle.lives.specs.declared.life.Repeated.{Repeated}

-- the steps that are asked for, each as often as it says
abbrev pub steps_of : List Repeated → List Step
steps_of asked = flat_map (λ (each : Repeated). replicate each.times each.step) asked

-- the step was refused, or found nothing to do
abbrev pub is_final : Reply → Bool
is_final Idle = true
is_final (Refused fault) = true
is_final _ = false

-- the device failed in what this is reported of
abbrev pub has_failed : Option Reply → Bool
has_failed None = false
has_failed (Some reply) = is_failure reply

-- What is reported of the replies to one step: the last of them. All replies from the first that is a refusal, or says that nothing
-- is left to do, are equal to it. Nothing is reported if there are no replies
abbrev pub IsReported : List Reply → Option Reply → Type 0
IsReported replies None = replies ≡ []
IsReported replies (Some answer) =
    (before : List Reply) × (more : ℕ) × All (λ reply. is_final reply ≡ false) before × (replies ≡ before ++ replicate (suc more) answer)

-- The same of steps that follow each other, up to the one in which the device failed: each has as many replies as it is asked for, except
-- for that one.
-- Excluded: a step that is taken less often; a refusal that a later reply hides.
abbrev pub AreReported : List Repeated → List Reply → List (Option Reply) → Type 0
AreReported [] replies kept = (replies ≡ []) × (kept ≡ [])
AreReported (asked ∷ more) replies [] = ⊥
AreReported (asked ∷ more) replies (answer ∷ kept) =
    (own : List Reply) × (later : List Reply) × (replies ≡ own ++ later) × IsReported own answer
    × (((has_failed answer ≡ true) × (later ≡ []) × (kept ≡ [])) ⊎ ((has_failed answer ≡ false) × (length own ≡ asked.times) × AreReported more later kept))

-- the same of a life; one that doesn't open takes no step
abbrev pub ReportsOf : Result Opened Fault → List Repeated → List Reply → List (Option Reply) → Type 0
ReportsOf (Ok opened) asked replies kept = AreReported asked replies kept
ReportsOf (Err fault) asked replies kept = (replies ≡ []) × (kept ≡ [])

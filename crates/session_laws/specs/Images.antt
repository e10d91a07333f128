-- What images stand for along a log.
use Rattle.std.specs.Prelude.{ℕ, ◌≡◌, List, ◌++◌, map, take, Contains}
use Rattle.base.specs.declared.step.Step.{Step}
use Rattle.base.specs.declared.step.Reply.{Reply}
use Rattle.base.specs.Commits.{Commit}
use Rattle.base.specs.Images.{Image}
use Rattle.base.specs.Stands.{Stands}
use Rattle.machine.specs.Machine.{State, Run, StandsWithin, StandsAlong}
use Rattle.session_laws.specs.Logs.{state_after, AreMade, changes}

-- the image stands for what a beginning of the log leads to: between two of its steps, or within the next
pub record StandsInLog (start : State) (log : List Step) (image : Image) : Type 0 where
  pub seen : List Step
  pub more : List Step
  pub log_is : log ≡ seen ++ more
  pub stands : StandsWithin (state_after start seen) (state_after start (seen ++ take 1 more)) image

-- what stands for something along a run stands for something along its log
abbrev pub RunsStandInLogs : Type 0
RunsStandInLogs = (q : State) (taken : List (Step × Reply)) (states : List State) (image : Image) → Run q (map (λ one. one.0) taken) (map (λ one. one.1) taken) states
    → StandsAlong q states image → StandsInLog q (changes taken) image

-- a history that the image stands for has the commit
abbrev pub HasIn : Image → Commit → Type 0
HasIn image commit = (history : List Commit) × (drawn : List Commit) × (next : ℕ) × Stands image history drawn next × Contains history commit

-- What stands within a log from a state on has all that this state had covered. So what a crash leaves after a commit was covered
-- stands for a history that has it
abbrev pub CommitsSurvive : Type 0
CommitsSurvive = (q : State) (log : List Step) (commit : Commit) (image : Image) → AreMade q log → Contains q.history commit → StandsInLog q log image → HasIn image commit

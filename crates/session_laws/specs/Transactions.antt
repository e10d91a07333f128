-- A transaction as its calls know it, by beginnings of one log.
use Rattle.std.specs.Prelude.{ℕ, ◌≡◌, ◌≢◌, true, List, [], ◌∷◌, ◌++◌, IsTrue, Some}
use Rattle.std.specs.List.{list_all}
use Rattle.base.specs.declared.step.Step.{Step}
use Rattle.base.specs.declared.step.Step.TheVariants.{Begin, Draw, End}
use Rattle.base.specs.Commits.{overlaid, after}
use Rattle.machine.specs.Machine.{State, free_session}
use Rattle.session_laws.specs.Logs.{state_after, AreMade, is_own, own, Follows}
use Rattle.session_laws.specs.Sessions.{IsOfLife, reads_or_writes, stamps_or_polls, written_by, IsKept}
use Rattle.session_laws.specs.Laws.{Reads}

-- a transaction: its session, the log up to its begin, and the log up to its own last step
pub record Open : Type 0 where
  pub session : ℕ
  pub begun : List Step
  pub seen : List Step

-- it begins after all that was known, under a number that is free then, and has made no step since
pub record Begins (start : State) (known : List Step) (it : Open) : Type 0 where
  pub between : List Step
  pub free : free_session (state_after start (known ++ between)) ≡ Some it.session
  pub begun : it.begun ≡ (known ++ between) ++ Begin ∷ []
  pub seen : it.seen ≡ it.begun

-- it is the same transaction, and of its session the log has this step more
pub record Adds (before : Open) (step : Step) (now : Open) : Type 0 where
  pub session : now.session ≡ before.session
  pub begun : now.begun ≡ before.begun
  pub between : List Step
  pub quiet : own before.session between ≡ []
  pub its_own : is_own before.session step ≡ true
  pub seen : now.seen ≡ before.seen ++ (between ++ step ∷ [])

-- since its begin it has made these reads and writes, and no other step
pub record IsOpen (start : State) (it : Open) (accesses : List Step) : Type 0 where
  pub before : List Step
  pub free : free_session (state_after start before) ≡ Some it.session
  pub begun : it.begun ≡ before ++ Begin ∷ []
  pub since : List Step
  pub seen : it.seen ≡ it.begun ++ since
  pub did : own it.session since ≡ accesses
  pub accesses_are : IsTrue (list_all reads_or_writes accesses)

-- After what the transaction had seen it drew this timestamp, stamped and polled, and ended, and made no other step
pub record Commits (start : State) (it : Open) (t : ℕ) (log : List Step) : Type 0 where
  pub first : List Step
  pub rest : List Step
  pub stamps : List Step
  pub log_is : log ≡ it.seen ++ (first ++ Draw it.session ∷ rest)
  pub quiet : own it.session first ≡ []
  pub drew : t ≡ (state_after start (it.seen ++ first)).next
  pub waits : IsTrue (list_all stamps_or_polls stamps)
  pub ends : own it.session rest ≡ stamps ++ End it.session ∷ []

-- What follows for the calls of a transaction, one after another
pub record TransactionsAddUp : Type 0 where
  -- a begin opens a transaction that has done nothing
  pub opens : (start : State) (known : List Step) (it : Open) → Begins start known it → IsOpen start it []
  -- each read or write adds itself
  pub adds : (start : State) (before now : Open) (accesses : List Step) (step : Step) → IsOpen start before accesses → Adds before step now → reads_or_writes step ≡ true → IsOpen start now (accesses ++ step ∷ [])
  -- its reads return its own writes over what was covered when it began, at any moment at which it has made no further step
  pub reads : (start : State) (it : Open) (accesses log : List Step) → (open_is : IsOpen start it accesses) → AreMade start log → Follows it.session it.seen log
      → Reads (state_after start log) it.session (state_after start open_is.before).history (overlaid (written_by accesses) (after (state_after start open_is.before).history))
  -- once it has committed, the history has exactly its writes, under its timestamp and no other
  pub commits : (start : State) (it : Open) (accesses log : List Step) (t : ℕ) → IsOfLife start → IsOpen start it accesses → written_by accesses ≢ [] → AreMade start log → Commits start it t log
      → IsKept (state_after start log) (record { timestamp = t; writes = written_by accesses })

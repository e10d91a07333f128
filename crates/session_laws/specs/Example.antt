-- Two sessions side by side, as a log: one commits while the other is open.
use Rattle.std.specs.Prelude.{◌≡◌, false, List, [], ◌∷◌, ◌++◌, Some, None}
use Rattle.std.specs.List.{list_any}
use Rattle.base.specs.declared.step.Step.{Step}
use Rattle.base.specs.declared.step.Step.TheVariants.{Begin, Get, Put, Draw, Stamp, Poll, End}
use Rattle.base.specs.Commits.{Commit}
use Rattle.machine.specs.Machine.{free_session, seen_by}
use Rattle.machine.specs.Replay.{replies}
use Rattle.worked.specs.Images.{key_7, ab}
use Rattle.worked.specs.Runs.{start, key_8, ticks}
use Rattle.session_laws.specs.Logs.{state_after, is_refusal, own}
use Rattle.session_laws.specs.Sessions.{transacted}

-- session 2 begins, then session 3, and each writes a key
abbrev pub opened_both : List Step
opened_both = Begin ∷ Begin ∷ Put 2 key_7 ab ∷ Put 3 key_8 ab ∷ []

-- then session 3 draws and stamps its commit
abbrev pub drawn_by_3 : List Step
drawn_by_3 = opened_both ++ Draw 3 ∷ Stamp 3 ∷ []

-- that is covered, session 3 ends, and session 2 reads the key that it wrote
abbrev pub side_by_side : List Step
side_by_side = drawn_by_3 ++ (ticks 42 ++ Poll 3 ∷ End 3 ∷ Get 2 key_8 ∷ [])

-- the commit of session 3
abbrev pub commit_8 : Commit
commit_8 = record { timestamp = 1; writes = (key_8, Some ab) ∷ [] }

-- two sessions side by side, computed: session 3 commits, and session 2 doesn't see it
pub record SideBySide : Type 0 where
  -- none of the steps is refused
  pub makes_all : list_any is_refusal (replies start side_by_side) ≡ false
  -- whose the steps are
  pub of_2 : own 2 side_by_side ≡ Put 2 key_7 ab ∷ Get 2 key_8 ∷ []
  pub of_3 : own 3 side_by_side ≡ Put 3 key_8 ab ∷ Draw 3 ∷ Stamp 3 ∷ Poll 3 ∷ End 3 ∷ []
  -- what session 3 wrote is the commit under the timestamp that was next at its draw, and the history has it and nothing else
  pub transacts : transacted (state_after start (Begin ∷ [])) 3 (Put 2 key_7 ab ∷ Put 3 key_8 ab ∷ []) ≡ commit_8
  pub covered : (state_after start side_by_side).history ≡ commit_8 ∷ []
  -- session 2 sees its own write, and nothing of what was covered since it began
  pub own_write : seen_by (state_after start side_by_side) 2 key_7 ≡ Some ab
  pub not_theirs : seen_by (state_after start side_by_side) 2 key_8 ≡ None
  -- the number of session 3 is free for another session, so its begin is a part of what a transaction is
  pub free_again : free_session (state_after start side_by_side) ≡ Some 3

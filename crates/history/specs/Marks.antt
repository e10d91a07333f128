-- At which place of a log each session's own last step is.
use Rattle.std.specs.Prelude.{ℕ, ◌≡◌, ◌<◌, List, length, slice_index}
use Rattle.base.specs.declared.step.Step.{Step}
use Rattle.session_laws.specs.Logs.{IsQuietSince}

-- each session has made no step since its mark
pub record AreMarked (last : List ℕ) (log : List Step) : Type 0 where
  pub size : length last ≡ 64
  pub quiet : (s : ℕ) → s < 64 → IsQuietSince s (slice_index last s) log

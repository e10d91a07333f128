-- Which versions are opened, and what a snapshot doesn't cover.
use Rattle.std.proofs.Common.{◌≡◌, ℕ, ◌<◌, false}
use Rattle.snapshot.specs.Snapshots.{Seen, covers}
use Rattle.state_invariant.proofs.Commits.{uncommitted-above}

-- a snapshot covers nothing above its last timestamp
pub uncovered-above : (s : Seen) (t : ℕ) → s.persisted < t → covers s t ≡ false
uncovered-above s t lt = uncommitted-above (record { gate = 0; persisted = s.persisted; dirty = 0; gaps = s.gaps; longs = s.longs }) t lt

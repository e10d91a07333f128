-- Free slots that are built one by one.
use Rattle.std.proofs.Common.{◌≡◌, ℕ, ◌≤◌, ◌<◌, Bool, false, List, length}
use Rattle.slot_alloc.specs.Free.{is_free}

-- the truth values below this slot are there, and no others
pub record IsBuilt (free : List Bool) (slot : ℕ) (built : List Bool) : Type 0 where
  pub size : length built ≡ length free
  pub below : (k : ℕ) → k < slot → is_free built k ≡ is_free free k
  pub rest : (k : ℕ) → slot ≤ k → is_free built k ≡ false

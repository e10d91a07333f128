-- What has been kept by now.
use Rattle.std.specs.Prelude.{◌≡◌, ℕ, ◌≤◌, Option, Some, None, is_some, unwrap_or}
use Rattle.std.proofs.Common.{refl}
use Rattle.std.proofs.lemmas.Bool.{le-leb}
use Rattle.pmem.specs.Device.{is_kept_by}

-- at a moment that isn't earlier, all that is kept was kept
pub kept_now : (clock : ℕ) (kept : Option ℕ) → unwrap_or kept 0 ≤ clock → is_kept_by clock kept ≡ is_some kept
kept_now clock None le = refl
kept_now clock (Some since) le = le-leb since clock le

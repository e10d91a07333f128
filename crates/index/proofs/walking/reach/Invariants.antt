use Rattle.std.specs.Prelude.{ℕ, ◌≡◌, ◌-◌, ◌^◌}
use Rattle.base.specs.Images.{layout_of}
use Rattle.pmem.specs.Words.{image_of}
use Rattle.snapshot.specs.Walks.{IsSeenAt}
use Rattle.index.proofs.Ways.{Comes}
use Rattle.index.proofs.walking.reach.Given as goal

abbrev pub invariant-loop-at : goal.invariant-loop-at
invariant-loop-at g l =
    layout_of (image_of (g.D.Pmem.state l.device)) ≡ l.geometry → (target : ℕ) → IsSeenAt l.snapshot (image_of (g.D.Pmem.state l.device)) l.key target
    → Comes l.snapshot (image_of (g.D.Pmem.state l.device)) l.key target (2 ^ 64 - 1) l.initial.at → Comes l.snapshot (image_of (g.D.Pmem.state l.device)) l.key target l.bound l.at

abbrev pub decreases-loop-at : goal.decreases-loop-at
decreases-loop-at g l = l.bound

use Rattle.std.specs.Prelude.{ℕ, Bool}
use Rattle.std.specs.BTreeMap.{get}
use Rattle.base.specs.Commits.{Tables}
use Rattle.pmem.specs.Words.{image_of}
use Rattle.index.specs.Entries.{key_cmp}
use Rattle.index.specs.Reading.{CountsAs, ShowsTables}
use Rattle.index.specs.Walking.{AreLinked}
use Rattle.index.proofs.Bounds.{HasUpTo}
use Rattle.index.proofs.map.Index.first_part.Given as goal

abbrev pub invariant-loop-key : goal.invariant-loop-key
invariant-loop-key g l =
    (counts : ℕ → Bool) (tables : Tables) → CountsAs counts l.snapshot l.geometry (image_of (g.D.Pmem.state l.device)) → AreLinked l.snapshot (image_of (g.D.Pmem.state l.device)) l.self
    → ShowsTables counts l.geometry (image_of (g.D.Pmem.state l.device)) tables → HasUpTo tables l.initial.key-iterator l.key-iterator (get key_cmp l.rows)

use Rattle.std.specs.Prelude.{◌≡◌, ℕ, Bool, List, ◌++◌}
use Rattle.base.specs.declared.key.Key.{Key}
use Rattle.std.specs.BTreeMap.{get}
use Rattle.std.specs.Iterator.Adapters.{rev_source}
use Rattle.base.specs.Commits.{Tables}
use Rattle.pmem.specs.Words.{image_of}
use Rattle.index.specs.Entries.{key_cmp}
use Rattle.index.specs.Reading.{CountsAs, ShowsTables}
use Rattle.index.specs.Walking.{AreLinked}
use Rattle.index.proofs.Reaching.{HasDownTo}
use Rattle.index.proofs.map.Index.last_part.Given as goal

abbrev pub invariant-loop-key : goal.invariant-loop-key
invariant-loop-key g l = record {
  split : ((done : List (Key × ℕ)) × (rev_source l.initial.key-iterator ≡ rev_source l.key-iterator ++ done));
  rows : ((counts : ℕ → Bool) (tables : Tables) → CountsAs counts l.snapshot l.geometry (image_of (g.D.Pmem.state l.device)) → AreLinked l.snapshot (image_of (g.D.Pmem.state l.device)) l.self
      → ShowsTables counts l.geometry (image_of (g.D.Pmem.state l.device)) tables → HasDownTo tables (rev_source l.initial.key-iterator) (rev_source l.key-iterator) (get key_cmp l.rows));
}

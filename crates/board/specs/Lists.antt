-- Published lists: which are well formed, and when one begins another.
use Rattle.std.specs.Prelude.{ℕ, ◌+◌, ◌-◌, ◌≤◌, ◌<◌, ◌≡◌, ◌⊎◌, Bool, true, false, not, nat_eq, List, [], ◌∷◌, ◌++◌, map, filter}
use Rattle.std.specs.List.{range_with_len, list_any, list_all}
use mathlib.Core.List.{IsPrefix}
use Rattle.base.specs.Batches.{Batch}
use Rattle.base.specs.Published.{Published, Follow, last_stamp}
use Rattle.board.specs.declared.coverage.Coverage.{Coverage}

-- the timestamp persisted by the last batch, or that before the first
abbrev pub persisted_from : ℕ → List Batch → ℕ
persisted_from persisted [] = persisted
persisted_from persisted (batch ∷ batches) = persisted_from batch.persisted batches

-- the timestamp persisted at the last stamp
abbrev pub last_persisted : Published → ℕ
last_persisted list = persisted_from list.persisted list.batches

-- the long commits of the last batch, or those before the first
abbrev pub longs_from : List ℕ → List Batch → List ℕ
longs_from longs [] = longs
longs_from longs (batch ∷ batches) = longs_from batch.longs batches

-- the long commits at the last stamp
abbrev pub last_longs : Published → List ℕ
last_longs list = longs_from list.longs list.batches

-- what is covered at the last stamp
abbrev pub last_coverage : Published → Coverage
last_coverage list = record { stamp = last_stamp list; persisted = last_persisted list; longs = last_longs list }

-- the timestamp is one of these
abbrev pub is_among : List ℕ → ℕ → Bool
is_among timestamps timestamp = list_any (nat_eq timestamp) timestamps

-- what a batch may cover: the long commits before it, and the timestamps above the one persisted before it, up to its own
abbrev pub due : List ℕ → ℕ → ℕ → List ℕ
due longs persisted upto = longs ++ range_with_len (persisted + 1) (upto - persisted)

-- after this timestamp and these long commits, the batch has one commit for each timestamp that is due, less its own long
-- commits, which are due too
pub record CoversDue (before : ℕ) (left : List ℕ) (batch : Batch) : Type 0 where
  pub persisted : before ≤ batch.persisted
  pub commits : map (λ commit. commit.timestamp) batch.commits ≡ filter (λ t. not (is_among batch.longs t)) (due left before batch.persisted)
  pub longs : list_all (is_among (due left before batch.persisted)) batch.longs ≡ true

-- each batch covers what is due after those before it
abbrev pub Counted : ℕ → List ℕ → List Batch → Type 0
Counted persisted longs [] = Unit {0}
Counted persisted longs (batch ∷ batches) = CoversDue persisted longs batch × Counted batch.persisted batch.longs batches

-- the batches follow one another without a gap, and the last stamp may be read
pub record IsPublished (list : Published) : Type 0 where
  pub follow : Follow list.stamp list.batches
  pub counted : Counted list.persisted list.longs list.batches
  pub floor : list.floor ≤ last_stamp list

-- the second list is the first one, or goes on from it
pub record Begins (first second : Published) : Type 0 where
  pub stamp : second.stamp ≡ first.stamp
  pub persisted : second.persisted ≡ first.persisted
  pub longs : second.longs ≡ first.longs
  pub rows : second.rows ≡ first.rows
  pub batches : IsPrefix first.batches second.batches
  pub floor : first.floor ≤ second.floor

-- one of the batches holds the commit
abbrev pub has_commit : Published → ℕ → Bool
has_commit list timestamp = list_any (λ batch. list_any (λ commit. nat_eq commit.timestamp timestamp) batch.commits) list.batches

-- the list began without the commit: it was above what was persisted then, or it was one of the long commits up to there
abbrev pub IsLater : Published → ℕ → Type 0
IsLater list timestamp = ((list.persisted < timestamp) × (is_among list.longs timestamp ≡ false)) ⊎ ((timestamp ≤ list.persisted) × (is_among list.longs timestamp ≡ true))

-- the batch may come next: it begins at the end of the list, and covers what is due since
pub record Fits (list : Published) (batch : Batch) : Type 0 where
  pub from : batch.from ≡ last_stamp list
  pub stamp : batch.stamp ≡ batch.from + 1
  pub covers : CoversDue (last_persisted list) (last_longs list) batch

-- What an engine publishes when it starts.
use Rattle.std.specs.Prelude.{◌≡◌, []}
use Rattle.base.specs.Commits.{Lists, after}
use Rattle.machine.specs.Machine.{State}
use Rattle.base.specs.Published.{Published}

-- the tables of the state alone, at the stamp of its ruling record
pub record IsStartedOn (q : State) (list : Published) : Type 0 where
  pub stamp : list.stamp ≡ q.ruling.gate
  pub persisted : list.persisted ≡ q.ruling.persisted
  pub longs : list.longs ≡ q.ruling.longs
  pub rows : Lists list.rows (after q.history)
  pub batches : list.batches ≡ []
  pub floor : list.floor ≡ q.ruling.gate

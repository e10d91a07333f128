use Rattle.index.proofs.map.Index.walk_into.Goals as goal

pub returns-clause-none : goal.returns-clause-none
returns-clause-none g c = rw c.hinted.ensures at c.reach.ensures.none

pub returns-clause-tables : goal.returns-clause-tables
returns-clause-tables g c = rw c.hinted.ensures at c.reach.ensures.tables

-- What a change makes of a published list, and the list that changes make.
use Rattle.std.specs.Prelude.{List, [], ◌∷◌, ◌++◌, max, fold}
use Rattle.base.specs.Published.{Published}
use Rattle.board.specs.declared.change.Change.{Change}
use Rattle.board.specs.declared.change.Change.TheVariants.{Begin, Add, Raise}
use Rattle.board.specs.Openings.{opening}

-- the list after a change: one more batch, or a higher floor
abbrev pub changed : Published → Change → Published
changed list (Begin start) = list
changed list (Add batch) = record list { batches = list.batches ++ batch ∷ [] }
changed list (Raise stamp) = record list { floor = max list.floor stamp }

-- the list before any change
abbrev pub nothing : Published
nothing = opening (record { stamp = 0; persisted = 0; longs = [] }) []

-- the list that the first change opens
abbrev pub begun : Change → Published
begun (Begin start) = opening start.coverage start.rows.items
begun (Add batch) = nothing
begun (Raise stamp) = nothing

-- the published list whose history this is
abbrev pub list_of : List Change → Published
list_of [] = nothing
list_of (change ∷ changes) = fold changed (begun change) changes

-- What the fields of a placed key stand for.
use Rattle.base.specs.declared.key.Key.{Key}
use Rattle.index.specs.Keyed.{joined}
use Rattle.index.specs.declared.placed.PlacedKey.TheInside.{Inside}

-- the key that the fields hold
abbrev pub placed_in : Inside → Key
placed_in k = record { table = k.table; key = joined k.number }

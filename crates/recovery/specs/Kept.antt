-- What the fields of a kept slot stand for.
use Rattle.recovery.specs.declared.rows.LiveSlot.{LiveSlot}
use Rattle.recovery.specs.declared.rows.KeptSlot.TheInside.{Inside}

-- the live slot that the fields hold
abbrev pub slot_in : Inside → LiveSlot
slot_in s = record { key = record { table = s.table; key = s.key }; slot = s.slot }

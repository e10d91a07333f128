-- The errors of a store for the faults and refusals below it.
use Rattle.std.specs.Prelude.{ℕ, ◌-◌, nat_lt, if◌then◌else◌}
use Rattle.base.specs.declared.fault.Fault.{Fault}
use Rattle.base.specs.declared.fault.Fault.TheVariants.{Device, Failed, SlotsOut, SessionsFull, WriteSetFull, Conflict, OutOfMemory}
use Rattle.base.specs.Layout.{Layout}
use Rattle.database.specs.declared.error.CommitError.{CommitError}
use Rattle.database.specs.declared.error.CommitError.TheVariants.{Refused, Open}
use Rattle.store.specs.declared.error.StoreError.{StoreError}
use Rattle.store.specs.declared.error.Part.{Part}

-- the places are counted first, and then the slots
abbrev pub part_of : Layout → ℕ → Part
part_of layout number = if nat_lt number layout.places then Part.Place number else Part.Slot (number - layout.places)

-- the error that a fault becomes
abbrev pub error_of : Fault → StoreError
error_of (Conflict key) = StoreError.Conflict key
error_of SlotsOut = StoreError.Full
error_of WriteSetFull = StoreError.TooManyKeys
error_of SessionsFull = StoreError.TooManyTransactions
error_of OutOfMemory = StoreError.OutOfMemory
error_of Device = StoreError.Failed
error_of Failed = StoreError.Failed
error_of fault = StoreError.Refused fault

-- nothing of the commit is kept; or only the next opening shows whether it is
abbrev pub commit_error : CommitError → StoreError
commit_error (Refused fault) = error_of fault
commit_error (Open fault) = StoreError.Unknown fault

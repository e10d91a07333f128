-- The status of each refusal.
use Rattle.requests.specs.declared.status.Status.{Status}
use Rattle.requests.specs.declared.status.Status.TheVariants as status
use Rattle.store.specs.declared.error.StoreError.{StoreError}

-- the status of a store's error
abbrev pub status_of : StoreError → Status
status_of (StoreError.Missing name) = status.NoStore
status_of (StoreError.File name cause) = status.File
status_of (StoreError.OtherLayout name found asked) = status.OtherLayout
status_of (StoreError.Damaged name part) = status.Damaged
status_of (StoreError.NotOpened name fault) = status.NotOpened
status_of (StoreError.Lost name cause) = status.Lost
status_of (StoreError.NotClosed name fault) = status.NotClosed
status_of (StoreError.Conflict key) = status.Conflict
status_of StoreError.Full = status.Full
status_of (StoreError.RowTooLong limit) = status.RowTooLong
status_of StoreError.TooManyKeys = status.TooManyKeys
status_of StoreError.TooManyTransactions = status.TooManyTransactions
status_of StoreError.OutOfMemory = status.OutOfMemory
status_of StoreError.Failed = status.Failed
status_of (StoreError.Unknown fault) = status.Unknown
status_of _ = status.Refused

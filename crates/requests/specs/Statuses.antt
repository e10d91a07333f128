-- The number that stands for a status in a reply.
use Rattle.std.specs.Prelude.{ℕ}
use Rattle.requests.specs.declared.status.Status.{Status}
use Rattle.requests.specs.declared.status.Status.TheVariants.{Done, Missing, Misuse, File, OtherLayout, Damaged, NotOpened, Lost, NotClosed, NoStore, Conflict, Full, RowTooLong, TooManyKeys, TooManyTransactions, OutOfMemory, Failed, Unknown, Refused}

-- the status as docs/FORMATS.md numbers it
abbrev pub status_code : Status → ℕ
status_code Done = 0
status_code Missing = 1
status_code Misuse = 2
status_code File = 10
status_code OtherLayout = 11
status_code Damaged = 12
status_code NotOpened = 13
status_code Lost = 14
status_code NotClosed = 15
status_code NoStore = 16
status_code Conflict = 20
status_code Full = 22
status_code RowTooLong = 24
status_code TooManyKeys = 25
status_code TooManyTransactions = 26
status_code OutOfMemory = 27
status_code Failed = 28
status_code Unknown = 29
status_code Refused = 30

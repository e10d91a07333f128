-- What the calls of a session return, as its replies.
use Rattle.std.specs.Prelude.{ℕ, Bool, true, false, List, Option, Some, None, Result, Ok, Err, ⊤}
use Rattle.base.specs.declared.fault.Fault.{Fault}
use Rattle.base.specs.declared.key.Key.{Key}
use Rattle.base.specs.declared.step.SessionReply.{SessionReply}
use Rattle.base.specs.declared.step.SessionReply.TheVariants.{Began, Row, Rows, Done, Drawn, More, Stamped, Waiting, Committed, Refused}
use Rattle.session_steps.specs.declared.poll.CommitStatus.{CommitStatus}
use Rattle.session_steps.specs.declared.poll.CommitStatus.TheVariants.{Waiting as Waits, Committed as IsCommitted, ReadOnly}

-- the number of a session that began
abbrev pub began : Result ℕ Fault → SessionReply
began (Ok number) = Began number
began (Err fault) = Refused fault

-- the row that was read, if there is one
abbrev pub read : Result (Option (List ℕ)) Fault → SessionReply
read (Ok row) = Row row
read (Err fault) = Refused fault

-- the row in its place, if one was found there
abbrev pub found_in : List ℕ → Result Bool Fault → Result (Option (List ℕ)) Fault
found_in row (Ok true) = Ok (Some row)
found_in row (Ok false) = Ok None
found_in row (Err fault) = Err fault

-- the rows that were read
abbrev pub scanned : Result (List (Key × List ℕ)) Fault → SessionReply
scanned (Ok rows) = Rows rows
scanned (Err fault) = Refused fault

-- that it is done
abbrev pub done : Result ⊤ Fault → SessionReply
done (Ok nothing) = Done
done (Err fault) = Refused fault

-- the timestamp that was drawn, or none if nothing was written
abbrev pub drawn : Result (Option ℕ) Fault → SessionReply
drawn (Ok (Some timestamp)) = Drawn timestamp
drawn (Ok None) = Done
drawn (Err fault) = Refused fault

-- whether the write that was stamped was the last
abbrev pub stamped : Result Bool Fault → SessionReply
stamped (Ok true) = Stamped
stamped (Ok false) = More
stamped (Err fault) = Refused fault

-- how far the commit has come; it is done if nothing was written
abbrev pub polled : Result CommitStatus Fault → SessionReply
polled (Ok Waits) = Waiting
polled (Ok (IsCommitted timestamp)) = Committed timestamp
polled (Ok ReadOnly) = Done
polled (Err fault) = Refused fault

-- What a reply reports: a failing device, rows, or what a history keeps of it.
use Rattle.std.specs.Prelude.{ℕ, ◌≡◌, Bool, true, false, List}
use Rattle.base.specs.declared.key.Key.{Key}
use Rattle.base.specs.declared.fault.Fault.TheVariants.{Device}
use Rattle.base.specs.declared.step.Reply.{Reply}
use Rattle.base.specs.declared.step.Reply.TheVariants.{Began, Row, Rows, Done, Drawn as DrewAs, More, Stamped, Waiting, Committed, Idle, Ticked, Covered, Visited, SweepEnd, Refused}
use Rattle.base.specs.declared.step.Note.{Note}
use Rattle.base.specs.declared.step.Note.TheVariants.{Began as NoteBegan, Row as NoteRow, Rows as NoteRows, Done as NoteDone, Drawn as NoteDrawn, More as NoteMore, Stamped as NoteStamped, Waiting as NoteWaiting, Committed as NoteCommitted, Idle as NoteIdle, Ticked as NoteTicked, Covered as NoteCovered, Visited as NoteVisited, SweepEnd as NoteSweepEnd, Refused as NoteRefused}

-- the device failed
abbrev pub is_failure : Reply → Bool
is_failure (Refused Device) = true
is_failure _ = false

-- the reply to a scan
abbrev pub IsRows : Reply → Type 0
IsRows reply = (rows : List (Key × List ℕ)) × (reply ≡ Rows rows)

-- what a history keeps of a reply
abbrev pub note_of : Reply → Note
note_of (Began n) = NoteBegan n
note_of (Row row) = NoteRow row
note_of (Rows rows) = NoteRows rows
note_of Done = NoteDone
note_of (DrewAs t) = NoteDrawn t
note_of More = NoteMore
note_of Stamped = NoteStamped
note_of Waiting = NoteWaiting
note_of (Committed t) = NoteCommitted t
note_of Idle = NoteIdle
note_of (Ticked stage) = NoteTicked stage
note_of (Covered batch) = NoteCovered batch.stamp
note_of (Visited slot) = NoteVisited slot
note_of SweepEnd = NoteSweepEnd
note_of (Refused fault) = NoteRefused fault

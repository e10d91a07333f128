-- The lines that are printed, as bytes and without their line feed.
use Rattle.std.specs.Prelude.{ℕ, List, [], ◌∷◌, ◌++◌, length, codes, decimal}
use Rattle.std.specs.List.{flat_map}
use Rattle.base.specs.declared.fault.Fault.{Fault}
use Rattle.base.specs.Faults.{number_of, fault_text}
use Rattle.base.specs.declared.gap.Gap.{Gap}
use Rattle.base.specs.declared.key.Key.{Key}
use Rattle.command_line.specs.Numbers.{Text}
use Rattle.command_line.specs.Rows.{row_text}
use Rattle.command_line.specs.declared.command.Survivor.{Survivor}
use Rattle.command_line.specs.declared.command.Survivor.TheVariants.{Oldest, Newest}
use Rattle.command_line.specs.declared.printed.Printed.{Printed}
use Rattle.command_line.specs.declared.printed.Printed.TheVariants as printed

-- a refusal
abbrev pub refused_text : Fault → Text
refused_text f =
    codes "refused " ++ (decimal (number_of f) ++ (codes " " ++ fault_text f))

-- a gap, after a space
abbrev pub gap_text : Gap → Text
gap_text gap = codes " " ++ (decimal gap.first ++ (codes "-" ++ decimal gap.last))

-- the gaps, a space before each
abbrev pub gaps_text : List Gap → Text
gaps_text [] = codes " -"
gaps_text (gap ∷ gaps) = flat_map gap_text (gap ∷ gaps)

-- a timestamp, after a space
abbrev pub long_text : ℕ → Text
long_text timestamp = codes " " ++ decimal timestamp

-- the long commits, with a space before each, if there are any
abbrev pub longs_text : List ℕ → Text
longs_text [] = []
longs_text (long ∷ longs) = codes " longs" ++ flat_map long_text (long ∷ longs)

-- the name of what a crash keeps
abbrev pub survivor_text : Survivor → Text
survivor_text Oldest = codes "oldest"
survivor_text Newest = codes "newest"

-- the line printed on opening, with these numbers and gaps
abbrev pub opened_line : ℕ → ℕ → ℕ → ℕ → List Gap → Text
opened_line gate persisted dirty next gaps =
    codes "opened gate " ++ (decimal gate ++ (codes " p " ++ (decimal persisted ++ (codes " d " ++ (decimal dirty ++ (codes " next " ++ (decimal next ++ (codes " gaps" ++ gaps_text gaps))))))))

-- the line printed on closing, with these numbers
abbrev pub closed_line : ℕ → ℕ → ℕ → Text
closed_line gate persisted dirty = codes "closed gate " ++ (decimal gate ++ (codes " p " ++ (decimal persisted ++ (codes " d " ++ decimal dirty))))

-- the line of a sound image, with these numbers, gaps and long commits of its ruling record
abbrev pub sound_line : ℕ → ℕ → ℕ → List Gap → List ℕ → Text
sound_line gate persisted dirty gaps longs =
    codes "sound gate " ++ (decimal gate ++ (codes " p " ++ (decimal persisted ++ (codes " d " ++ (decimal dirty ++ (codes " gaps" ++ (gaps_text gaps ++ longs_text longs)))))))

-- the line of a row and its key
abbrev pub entry_text : Key → List ℕ → Text
entry_text key row = decimal key.table ++ (codes " " ++ (decimal key.key ++ (codes " " ++ row_text row)))

-- the line of a number of rows
abbrev pub end_line : ℕ → Text
end_line rows = codes "end " ++ decimal rows

-- a line for each row
abbrev pub entries_text : List (Key × List ℕ) → Text
entries_text = flat_map (λ row. entry_text row.0 row.1 ++ 10 ∷ [])

-- the lines of rows, and that of their number
abbrev pub rows_text : List (Key × List ℕ) → Text
rows_text rows = entries_text rows ++ end_line (length rows)

-- a printed line, or several
abbrev pub text_of : Printed → Text
text_of (printed.Opened gate persisted dirty next gaps) = opened_line gate persisted dirty next gaps.now
text_of (printed.Closed gate persisted dirty) = closed_line gate persisted dirty
text_of (printed.Formatted words) = codes "formatted " ++ (decimal words ++ codes " words")
text_of (printed.Sound gate persisted dirty gaps longs) = sound_line gate persisted dirty gaps.now longs.now
text_of (printed.Entry key row) = entry_text key row.now
text_of (printed.End rows) = end_line rows
text_of (printed.Rows rows) = rows_text rows.now
text_of (printed.Session session) = codes "session " ++ decimal session
text_of (printed.Row bytes) = codes "row " ++ row_text bytes.now
text_of printed.NoRow = codes "none"
text_of printed.Done = codes "done"
text_of (printed.Drawn timestamp) = codes "drawn " ++ decimal timestamp
text_of printed.More = codes "more"
text_of printed.Stamped = codes "stamped"
text_of printed.Waiting = codes "waiting"
text_of (printed.Committed timestamp) = codes "committed " ++ decimal timestamp
text_of printed.Idle = codes "idle"
text_of printed.Tick = codes "tick"
text_of (printed.Covered gate) = codes "covered " ++ decimal gate
text_of (printed.Visited slot) = codes "slot " ++ decimal slot
text_of printed.SweepEnd = codes "sweep end"
text_of (printed.Stopped keeps) = codes "stopped " ++ survivor_text keeps
text_of (printed.Life number) = codes "life " ++ decimal number
text_of printed.LifeStopped = codes "stopped"
text_of printed.ThreadsClosed = codes "closed"
text_of (printed.Refused f) = refused_text f
text_of (printed.NotACommand line) = codes "line " ++ (decimal line ++ codes ": not a command")
text_of printed.FileFault = codes "file fault"

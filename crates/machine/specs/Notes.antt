-- Which kind of note a step has.
use Rattle.std.specs.Prelude.{List, [], ◌∷◌, ◌++◌, Bool, true, false, IsTrue}
use Rattle.base.specs.declared.step.Step.{Step}
use Rattle.base.specs.declared.step.Step.TheVariants.{Begin, Get, Scan, Put, Delete, Draw, Stamp, Poll, Abort, End, Commit as CommitTick, Collect}
use Rattle.base.specs.declared.step.Reply.{Reply}
use Rattle.base.specs.declared.step.Note.{Note}
use Rattle.base.specs.declared.step.Note.TheVariants.{Began, Row, Rows, Done, Drawn, More, Stamped, Waiting, Committed, Idle, Ticked, Covered, Visited, SweepEnd, Refused}
use Rattle.base.specs.Replies.{note_of}
use Rattle.machine.specs.Machine.{State, Stepped, Noted}

-- the kinds of note that a step may have
abbrev pub fits : Step → Note → Bool
fits _ (Refused fault) = true
fits Begin (Began n) = true
fits (Get n key) (Row row) = true
fits (Scan n table lo hi) (Rows rows) = true
fits (Put n key row) Done = true
fits (Delete n key) Done = true
fits (Draw n) Done = true
fits (Draw n) (Drawn t) = true
fits (Stamp n) More = true
fits (Stamp n) Stamped = true
fits (Poll n) Waiting = true
fits (Poll n) (Committed t) = true
fits (Poll n) Done = true
fits (Abort n) Done = true
fits (End n) Done = true
fits CommitTick Idle = true
fits CommitTick (Ticked stage) = true
fits CommitTick (Covered stamp) = true
fits Collect (Visited slot) = true
fits Collect SweepEnd = true
fits _ _ = false

-- a step has a note of one of these kinds
abbrev pub StepsFit : Type 0
StepsFit = (q q' : State) (step : Step) (reply : Reply) → Stepped q step reply q' → IsTrue (fits step (note_of reply))

-- so has the last step of a run
abbrev pub RunsFit : Type 0
RunsFit = (q q' : State) (before : List (Step × Note)) (step : Step) (note : Note) → Noted q (before ++ (step, note) ∷ []) q' → IsTrue (fits step note)

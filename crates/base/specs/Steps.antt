-- A session's steps and replies are steps and replies of the machine.
use Rattle.base.specs.declared.step.Step.{Step}
use Rattle.base.specs.declared.step.Step.TheVariants as step
use Rattle.base.specs.declared.step.SessionStep.{SessionStep}
use Rattle.base.specs.declared.step.SessionStep.TheVariants.{Begin, Get, Scan, Put, Delete, Draw, Stamp, Poll, Abort, End}
use Rattle.base.specs.declared.step.Reply.{Reply}
use Rattle.base.specs.declared.step.Reply.TheVariants as reply
use Rattle.base.specs.declared.step.SessionReply.{SessionReply}
use Rattle.base.specs.declared.step.SessionReply.TheVariants.{Began, Row, Rows, Done, Drawn, More, Stamped, Waiting, Committed, Refused}

-- the step of the machine that it is
abbrev pub as_step : SessionStep → Step
as_step Begin = step.Begin
as_step (Get n key) = step.Get n key
as_step (Scan n table lo hi) = step.Scan n table lo hi
as_step (Put n key row) = step.Put n key row
as_step (Delete n key) = step.Delete n key
as_step (Draw n) = step.Draw n
as_step (Stamp n) = step.Stamp n
as_step (Poll n) = step.Poll n
as_step (Abort n) = step.Abort n
as_step (End n) = step.End n

-- the reply of the machine that it is
abbrev pub as_reply : SessionReply → Reply
as_reply (Began n) = reply.Began n
as_reply (Row row) = reply.Row row
as_reply (Rows rows) = reply.Rows rows
as_reply Done = reply.Done
as_reply (Drawn t) = reply.Drawn t
as_reply More = reply.More
as_reply Stamped = reply.Stamped
as_reply Waiting = reply.Waiting
as_reply (Committed t) = reply.Committed t
as_reply (Refused fault) = reply.Refused fault

-- The results of the parts of a life.
use Rattle.std.specs.Prelude.{◌≡◌, ℕ, Bool, true, false, List, ◌++◌, length, replicate, Option, Result}
use Rattle.base.specs.declared.fault.Fault.{Fault}
use Rattle.base.specs.declared.key.Key.{Key}
use Rattle.base.specs.declared.step.Step.{Step}
use Rattle.base.specs.declared.step.Reply.{Reply}
use Rattle.base.specs.Images.{Image, ruling}
use Rattle.machine.specs.Machine.{State, final}
use Rattle.machine.specs.Lives.{World, Numbers, Opens, RunsUp, EndsAs, Life as PlainLife, numbers_of as state_numbers}
use Rattle.pmem.specs.Device.{Device}
use Rattle.lives.specs.Plain.{ReportsLife, asked_of, closed_of, opening_of, report_of}
use Rattle.lives.specs.Stops.{PlaysOn, ReportsDevice, StepsOn, StopsBy}
use Rattle.lives.specs.ReportedReplies.{AreReported, IsReported, has_failed, steps_of}
use Rattle.lives.specs.declared.life.Life.{Life}
use Rattle.lives.specs.declared.life.LifeReport.{LifeReport}
use Rattle.lives.specs.declared.life.Repeated.{Repeated}

-- those of the record that rules an image
abbrev pub ruling_numbers : Image → Numbers
ruling_numbers image = record { gate = (ruling image).gate; persisted = (ruling image).persisted; dirty = (ruling image).dirty }

-- The step, as often as it is asked for, leads from the state on the one device to a state on the other, of which this holds,
-- whatever steps come after it. If the device fails in the step, no later step is taken. This is reported of its replies
pub record HasRepeated (q : State) (device : Device) (asked : Repeated) (answer : Option Reply) (left : Device) (P : State → Type 0) : Type 0 where
  pub own : List Reply
  pub reported : IsReported own answer
  pub last : State
  pub after_it : P last
  pub failure : q.failed ≡ false → last.failed ≡ has_failed answer
  pub counted : has_failed answer ≡ false → length own ≡ asked.times
  pub goes_on : has_failed answer ≡ false → (more : List Step) (later : List Reply) (end : State) (ended : Device) → StepsOn last left more later end ended
      → StepsOn q device (replicate asked.times asked.step ++ more) (own ++ later) end ended
  pub stops : has_failed answer ≡ true → (more : List Step) → StepsOn q device (replicate asked.times asked.step ++ more) own last left

-- the steps lead from the state on the one device to a state on the other. This is reported of their replies, and this holds of
-- that state; the device has failed exactly if it failed in one of the steps
pub record HasObeyed (q : State) (device : Device) (steps : List Repeated) (kept : List (Option Reply)) (failed : Bool) (left : Device) (P : State → Type 0) : Type 0 where
  pub last : State
  pub replies : List Reply
  pub runs : StepsOn q device (steps_of steps) replies last left
  pub reported : AreReported steps replies kept
  pub after_it : P last
  pub failure : q.failed ≡ false → last.failed ≡ failed

-- a life ends in the state, and leaves this image: without closing, after closing succeeded, or while closing, if it failed
abbrev pub HasEnded : State → Bool → Option (Result Numbers Fault) → Image → Type 0
HasEnded q closes closed image = (lost : List ℕ) → (after : World) × (after.image ≡ image) × EndsAs q closes closed lost after

-- closing is asked for in this state only if the device hasn't failed
abbrev pub MayAsk : Bool → State → Type 0
MayAsk closes q = closes ≡ true → q.failed ≡ false

-- a life goes on from the opened state, and its opening had these rows
pub record HasPlayed (q : State) (rows : List (Key × List ℕ)) (life : Life) (report : LifeReport) (replies : List Reply) (image : Image) : Type 0 where
  pub opening : opening_of report.opening ≡ Opens (state_numbers q) q.next q.ruling.gaps rows
  pub states : List State
  pub runs : RunsUp q (steps_of life.steps.items) replies states
  pub ends : HasEnded (final q states) life.close (closed_of report.closed) image

-- the life goes on like that, and so did its device
pub record Plays (q : State) (device : Device) (rows : List (Key × List ℕ)) (life : Life) (report : LifeReport) (image : Image) : Type 0 where
  pub replies : List Reply
  pub reported : ReportsLife life report replies
  pub played : q.failed ≡ false → HasPlayed q rows life report replies image
  pub stopped : StopsBy life.choice device (ReportsDevice report) (PlaysOn q device life report replies) image

-- this is a life over what the stop before it left, which leaves the image; and this holds of its replies
pub record HasLived (before : World) (life : Life) (report : LifeReport) (left : Image) (P : List Reply → Type 0) : Type 0 where
  pub replies : List Reply
  pub reported : ReportsLife life report replies
  pub after : World
  pub leaves : after.image ≡ left
  pub lives : PlainLife before (asked_of life) (report_of report replies) after
  pub so : P replies

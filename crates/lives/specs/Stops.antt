-- What each life did on its device, where it was stopped, and what its stop left.
use Rattle.std.specs.Prelude.{◌≡◌, ◌⊎◌, ◌↔◌, ℕ, ◌<◌, ◌≤◌, true, false, List, [], ◌∷◌, Contains, Option, None, Some, Result, Ok, Err}
use Rattle.base.specs.declared.fault.Fault.{Fault}
use Rattle.base.specs.declared.fault.Fault.TheVariants.{Device as DeviceFault}
use Rattle.base.specs.declared.step.Step.{Step}
use Rattle.base.specs.declared.step.Reply.{Reply}
use Rattle.base.specs.declared.step.Reply.TheVariants.{Refused}
use Rattle.base.specs.Images.{Image, opening_fault}
use Rattle.base.specs.Replies.{is_failure}
use Rattle.machine.specs.Lives.{World, IsWorld, Report, Life as PlainLife}
use Rattle.machine.specs.Machine.{State, StandsClosed, StandsClosing}
use Rattle.machine.specs.Openings.{OpensAs, StandsOpening}
use Rattle.pmem.specs.Device.{Device, IsOrderly, MayLeave, limited, restarted}
use Rattle.pmem.specs.Words.{Continues, HasNoFailure, LeavesOnly, image_of, operations_of}
use Rattle.pmem_model.specs.declared.choice.Choice.{Choice}
use Rattle.pmem_model.specs.Chosen.{IsChosen}
use Rattle.pmem_model.specs.Sim.{IsWithinLimit}
use Rattle.recovery.specs.Opened.{IsRefusal, MakesOpening}
use Rattle.room.specs.Closing.{IsClosingRefusal}
use Rattle.room.specs.Committing.{Shows}
use Rattle.room.specs.Steps.{StepsTo}
use Rattle.room.specs.declared.volatile.VolatileState.{VolatileState}
use Rattle.lives.specs.declared.life.Life.{Life}
use Rattle.lives.specs.declared.life.LifeReport.{LifeReport}
use Rattle.lives.specs.declared.life.Numbers.{Numbers}
use Rattle.lives.specs.declared.life.Opened.{Opened}
use Rattle.lives.specs.Plain.{IsReport, asked_of}
use Rattle.lives.specs.ReportedReplies.{steps_of}

-- ---- what a life does on its device

-- opening leads from one device to the other, by all operations of its record, after those of a sweep, and in the end the
-- device shows the opened state
pub record OpensOn (begun : Device) (before : World) (q : State) (opened : Device) : Type 0 where
  pub opens : OpensAs before.image before.history before.lost q
  pub made : MakesOpening before.image begun opened
  pub images : LeavesOnly begun opened (StandsOpening before.image before.history before.next)
  pub volatile : VolatileState
  pub shows : Shows volatile opened q

-- The steps lead from a state and its device to the last ones, up to the first step in which the device fails: each by
-- operations of its own, no more than it may make, and then the device shows the state
abbrev pub StepsOn : State → Device → List Step → List Reply → State → Device → Type 0
StepsOn q device [] [] last end = (last ≡ q) × (end ≡ device)
StepsOn q device (step ∷ steps) (reply ∷ replies) last end =
    (q' : State) × (next : Device) × (volatile : VolatileState) × StepsTo volatile device next step reply q q'
    × (((is_failure reply ≡ true) × (replies ≡ []) × (last ≡ q') × (end ≡ next)) ⊎ ((is_failure reply ≡ false) × StepsOn q' next steps replies last end))
StepsOn q device _ _ last end = ⊥

-- the end of a life leads from one device to the other: by nothing without closing, otherwise by closing, which failed or succeeded
abbrev pub EndsOn : State → Option (Result Numbers Fault) → Device → Device → Type 0
EndsOn q None device last = last ≡ device
EndsOn q (Some (Err fault)) device last = IsClosingRefusal q device last fault × LeavesOnly device last (StandsClosing q)
EndsOn q (Some (Ok numbers)) device last =
    HasNoFailure device last × LeavesOnly device last (StandsClosing q) × ((image : Image) → MayLeave last image → StandsClosed q image)

-- the steps and the end of a life whose opening succeeded
pub record PlaysOn (q : State) (opened : Device) (life : Life) (report : LifeReport) (replies : List Reply) (last : Device) : Type 0 where
  pub opening : Opened
  pub opens : report.opening ≡ Ok opening
  pub after : State
  pub left : Device
  pub steps : StepsOn q opened (steps_of life.steps.items) replies after left
  pub ends : EndsOn after report.closed left last

-- opening that failed leads from one device to the other
pub record FailsOn (begun : Device) (before : World) (report : LifeReport) (last : Device) : Type 0 where
  pub fault : Fault
  pub fails : report.opening ≡ Err fault
  pub refusal : IsRefusal (opening_fault before.image) begun last fault
  pub images : LeavesOnly begun last (StandsOpening before.image before.history before.next)

-- a whole life leads on, over what the stop before it left: by opening that failed; or by opening that succeeded, the steps and the end
abbrev pub LivesOn : Device → World → Life → LifeReport → List Reply → Device → Type 0
LivesOn begun before life report replies last =
    FailsOn begun before report last ⊎ ((q : State) × (opened : Device) × OpensOn begun before q opened × PlaysOn q opened life report replies last)

-- ---- how it was stopped

-- closing reports that the device failed
abbrev pub ClosesWithDevice : Option (Result Numbers Fault) → Type 0
ClosesWithDevice closed = closed ≡ Some (Err DeviceFault)

-- opening, a reply or closing reports that the device failed
abbrev pub ReportsDevice : LifeReport → Type 0
ReportsDevice report = (report.opening ≡ Err DeviceFault) ⊎ Contains report.replies.items (Some (Refused DeviceFault)) ⊎ ClosesWithDevice report.closed

-- The life led from the device that was made of the image, with the life's fuse, to the one that was stopped: it made no more operations
-- than the fuse allows, and exactly as many if the report says that the device failed, as it does if an operation failed. The stop left of
-- each word the survivor that the life's choice names.
-- Excluded: a report of a life that its device didn't live; a fuse that is ignored, or blows early; lack of memory taken for the fuse.
pub record IsStopped (life : Life) (report : LifeReport) (replies : List Reply) (before : World) (left : Image) : Type 0 where
  pub last : Device
  pub lives : LivesOn (limited life.fuse (restarted before.image)) before life report replies last
  pub goes_on : Continues (limited life.fuse (restarted before.image)) last
  pub orderly : IsOrderly last
  pub counted : operations_of last ≡ last.clock
  pub most : (fuse : ℕ) → life.fuse ≡ Some fuse → operations_of last ≤ fuse
  pub reported : ReportsDevice report ↔ (0 < last.failures)
  pub all : ReportsDevice report → life.fuse ≡ Some (operations_of last)
  pub chosen : IsChosen life.choice last left

-- Each life is one over what the one before it left, was stopped within its fuse, and left what its choice names
abbrev pub AreStopped : World → List Life → List LifeReport → List Report → World → Type 0
AreStopped before [] [] [] after = after ≡ before
AreStopped before (life ∷ more) (report ∷ reports) (plain ∷ plains) after =
    (mid : World) × IsReport life report plain × PlainLife before (asked_of life) plain mid × IsStopped life report plain.replies before mid.image
    × AreStopped mid more reports plains after
AreStopped before _ _ _ after = ⊥

-- ---- what the parts of a life make of its device

-- as a crash leaves it
abbrev pub IsRestarted : Device → Type 0
IsRestarted device = device ≡ restarted (image_of device)

-- the device goes on, and this is reported exactly if an operation fails
pub record GoesOn (old new : Device) (Reported : Type 0) : Type 0 where
  pub continues : Continues old new
  pub cause : Reported → old.failures < new.failures
  pub shown : old.failures < new.failures → Reported

-- the device went on so up to a stop, which left what the choice names
pub record StopsBy (choice : Choice) (old : Device) (Reported : Type 0) (Leads : Device → Type 0) (left : Image) : Type 0 where
  pub last : Device
  pub leads : Leads last
  pub goes_on : GoesOn old last Reported
  pub orderly : IsOrderly last
  pub within : IsWithinLimit last
  pub chosen : IsChosen choice last left

-- whatever the image stands for
abbrev pub WhereItStands : Image → (World → Type 0) → Type 0
WhereItStands image P = (before : World) → IsWorld before → before.image ≡ image → P before

-- What is found in a file over any number of lives, whatever stops each of them: what lives of the machine leave.
use Rattle.std.specs.Prelude.{◌≡◌, ℕ, List, [], ◌∷◌, ◌++◌, None}
use Rattle.base.specs.declared.step.Step.{Step}
use Rattle.base.specs.declared.step.Reply.{Reply}
use Rattle.base.specs.Commits.{Commit}
use Rattle.base.specs.Images.{Image, opening_fault}
use Rattle.base.specs.Stands.{Stands}
use Rattle.journal.specs.declared.images.Images.{Ghosts}
use Rattle.machine.specs.Lives.{World, IsWorld, Asked, Report, Lives}
use Rattle.machine.specs.Machine.{State, StandsClosing, closing_fault}
use Rattle.machine.specs.Openings.{OpensAs, StandsOpening}
use Rattle.pmem.specs.Device.{Device}
use Rattle.pmem.specs.Words.{Continues, IsAtRest, LeavesOnly, image_of}
use Rattle.pmem.specs.declared.device.Pmem as pmem
use Rattle.pmem_file.specs.Devices.{MayFind, state_of}
use Rattle.pmem_file.specs.declared.journaled.JournaledPmem.{JournaledPmem}
use Rattle.room.specs.declared.room.Room.{Room}
use Rattle.room.specs.Room.{Leads, Shows, device_of}
use Rattle.room_logs.specs.Logs.{HasLog}
use Rattle.session_laws.specs.Logs.{state_after}
use Rattle.file_laws.specs.Found.{OpensFirst}

-- ---- one life

-- How all stops while a room has such a device, which then is as `found`: between two steps, within the next one, or while the room is closed or
-- has just been closed. Closing begins only if nothing refuses it.
pub data Stops {I P : Type 0} {H : Ghosts I P} {G : pmem.Ghosts (JournaledPmem I P H)} (room : Room (JournaledPmem I P H) G) (found : JournaledPmem I P H) : Type 0 where
  between : state_of found ≡ device_of state_of room → Stops room found
  within : (next : Room (JournaledPmem I P H) G) (step : Step) (reply : Reply) → Leads state_of room next step reply
      → Continues (device_of state_of room) (state_of found) → Continues (state_of found) (device_of state_of next) → Stops room found
  closing : (device : JournaledPmem I P H) → ((q : State) → Shows state_of room q → closing_fault q ≡ None)
      → ((q : State) → Shows state_of room q → LeavesOnly (device_of state_of room) (state_of device) (StandsClosing q))
      → Continues (device_of state_of room) (state_of found) → Continues (state_of found) (state_of device) → Stops room found

-- In the life that began with the opening of this device a room made these steps, and perhaps more. Then all stopped, and the image may be found.
pub record IsLeft {I P : Type 0} (H : Ghosts I P) (G : pmem.Ghosts (JournaledPmem I P H)) (opened : Device) (log : List Step) (image : Image) : Type 0 where
  pub room : Room (JournaledPmem I P H) G
  pub more : List Step
  pub has : HasLog state_of opened room (log ++ more)
  pub found : JournaledPmem I P H
  pub stops : Stops room found
  pub may : MayFind H.may_hold found image

-- ---- the next one

-- the device is at rest at the beginning of its life, with this image
pub record Begins (image : Image) (device : Device) : Type 0 where
  pub zero_is : device.clock ≡ 0
  pub at_rest : IsAtRest device
  pub image_is : image_of device ≡ image

-- The next life began with the image that was found, and what may be found now was left by it: while its device was opened, as `Room::open` says, or
-- later. An image that is refused stays as it is, and begins the life after that
pub data IsLeftNext {I P : Type 0} (H : Ghosts I P) (G : pmem.Ghosts (JournaledPmem I P H)) (before image : Image) : Type 0 where
  opening : (device found : JournaledPmem I P H) (later : Device) → Begins before (state_of device) → opening_fault before ≡ None
      → ((history drawn : List Commit) (next : ℕ) → Stands before history drawn next → LeavesOnly (state_of device) later (StandsOpening before history next))
      → Continues (state_of found) later → MayFind H.may_hold found image → IsLeftNext H G before image
  living : (device : JournaledPmem I P H) → Begins before (state_of device) → IsLeft H G (state_of device) [] image → IsLeftNext H G before image

-- what may be found after the log was made in the life that began with this device, or after any number of further lives
pub data IsLeftSince {I P : Type 0} (H : Ghosts I P) (G : pmem.Ghosts (JournaledPmem I P H)) (opened : Device) (log : List Step) : Image → Type 0 where
  first : (image : Image) → IsLeft H G opened log image → IsLeftSince H G opened log image
  further : (before image : Image) → IsLeftSince H G opened log before → IsLeftNext H G before image → IsLeftSince H G opened log image

-- ---- what it stands for

-- A chain of the machine's lives leads from the world to this image. The first of them made the steps of the log and perhaps more, and the history
-- that is left begins with all that the log has covered. So all laws of lives hold of it (`lives_keep_the_history`, `lost_commits_never_return`).
-- Excluded: an image that lacks a covered commit, or a part of one; one with a commit that no session drew, or that an earlier stop left out.
pub record LeadsTo (before : World) (log : List Step) (image : Image) : Type 0 where
  pub asked : Asked
  pub more : List Step
  pub made : asked.steps ≡ log ++ more
  pub further : List Asked
  pub reports : List Report
  pub after : World
  pub lives : Lives before (asked ∷ further) reports after
  pub image_is : after.image ≡ image
  pub start : State
  pub opens : OpensAs before.image before.history before.lost start
  pub rest : List Commit
  pub keeps : after.history ≡ (state_after start log).history ++ rest

-- whatever world the device's image belonged to when it was opened
abbrev pub IsLived : Device → List Step → Image → Type 0
IsLived opened log image = ∥ ((before : World) → IsWorld before → before.image ≡ image_of opened → LeadsTo before log image) ∥₁

-- Nothing else was left of the device before it was opened. Then each image that may be found from now on, in this life or a further one, is one that
-- lives of the machine leave, and has all that the log has covered
abbrev pub StaysFound : {I P : Type 0} (H : Ghosts I P) → pmem.Ghosts (JournaledPmem I P H) → Device → List Step → Type 0
StaysFound H G opened log = OpensFirst opened → (image : Image) → IsLeftSince H G opened log image → IsLived opened log image

-- the same of a room over such a device, whatever its images are kept in
abbrev pub StaysFoundOver : {I P : Type 0} → {H : Ghosts I P} → {G : pmem.Ghosts (JournaledPmem I P H)} → Room (JournaledPmem I P H) G → Device → List Step → Type 0
StaysFoundOver {I} {P} {H} {G} room opened log = StaysFound H G opened log

-- The log of a room: the steps that it has made since its device was opened.
use Rattle.std.specs.Prelude.{ℕ, ◌≡◌, ◌⊎◌, true, List}
use Rattle.base.specs.declared.step.Step.{Step}
use Rattle.base.specs.declared.step.Reply.{Reply}
use Rattle.base.specs.Commits.{Commit}
use Rattle.machine.specs.Machine.{State}
use Rattle.machine.specs.Openings.{StandsOpening}
use Rattle.pmem.specs.Device.{Device}
use Rattle.pmem.specs.Words.{LeavesOnly, image_of}
use Rattle.pmem.specs.declared.device.Pmem.{Ghosts}
use Rattle.room.specs.declared.room.Room.{Room}
use Rattle.room.specs.Room.{Shows, device_of}
use Rattle.room.specs.Runs.{RunOver}
use Rattle.session_laws.specs.Logs.{state_after, AreMade, changes}
use Rattle.session_laws.specs.Images.{StandsInLog}
use Rattle.session_laws.specs.Laws.{IsFirst}

-- since this device was opened the room has made these steps, and no others but reads and polls
pub record HasLog {D : Type 0} {G : Ghosts D} (state : D → Device) (opened : Device) (room : Room D G) (log : List Step) : Type 0 where
  pub taken : List (Step × Reply)
  pub run : RunOver opened (device_of state room) taken (Shows state room)
  pub log_is : log ≡ changes taken

-- the room shows the state, or that with a failed device
abbrev pub ShowsOrFailed : {D : Type 0} → {G : Ghosts D} → (D → Device) → Room D G → State → Type 0
ShowsOrFailed state room q = Shows state room q ⊎ Shows state room (record q { failed = true })

-- Whatever history the device represented, and whichever state it opened as: the log can be made from there, the room shows the state that it leads to,
-- and a crash since has left what it leaves while opening, or within the log. Excludes a room that shows what its log doesn't say, and an
-- image of another state than one that the log passed
pub record Tells {D : Type 0} {G : Ghosts D} (state : D → Device) (opened : Device) (room : Room D G) (log : List Step) (history : List Commit) (next : ℕ) (start : State) : Type 0 where
  pub first : IsFirst history start
  pub made : AreMade start log
  pub shows : ShowsOrFailed state room (state_after start log)
  pub leaves : LeavesOnly opened (device_of state room) (λ image. StandsOpening (image_of opened) history next image ⊎ StandsInLog start log image)

-- What a history says about a room. All that is known of a value that comes out of a lock is its type. So a room's history carries with it
-- that it is a run, and each session's receipts that they are entries of runs. Both grow for as long as the engine lives.
use Rattle.std.specs.Prelude.{◌≡◌, ◌≢◌, ◌+◌, ◌≤◌, List, [], ◌∷◌, ◌++◌, length, ⊤}
use Rattle.base.specs.declared.fault.Fault.TheVariants.{OutOfMemory, Device as DeviceFault}
use Rattle.base.specs.declared.step.Step.{Step}
use Rattle.base.specs.declared.step.Note.{Note}
use Rattle.base.specs.declared.step.Reply.{Reply}
use Rattle.base.specs.declared.step.Reply.TheVariants.{Refused}
use Rattle.base.specs.Images.{Image}
use Rattle.base.specs.Replies.{note_of}
use Rattle.machine.specs.Machine.{State, Stepped, most_operations, StandsAt}
use Rattle.pmem.specs.Device.{Device}
use Rattle.pmem.specs.Words.{LeavesOnly, HasNoFailure, operations_of}
use Rattle.pmem.specs.declared.device.Pmem.{Ghosts}
use Rattle.room.specs.declared.room.Room.{Room}
use Rattle.room.specs.declared.status.Status.{Status}
use Rattle.room.specs.Room.{Shows, ShowsStatus, device_of}
use Rattle.room.specs.Runs.{OpensTo, RunOf}
use Rattle.audited.specs.declared.receipt.Receipt.{Receipt}

-- The image opens, and whatever history it stands for, the state that it opens as has the numbers of opening, and the entries lead from
-- there to a state that the room shows. So each image that its device may leave now stands for that last state.
-- Excluded: an entry that is dropped, invented or moved; a reply that the machine doesn't give; a room that was formatted or opened again
-- unnoticed.
pub record IsAudited {D : Type 0} {G : Ghosts D} (state : D → Device) (room : Room D G) (image : Image) (opening : Status) (entries : List (Step × Note)) : Type 0 where
  pub status : OpensTo image (λ q. ShowsStatus q opening)
  pub run : RunOf image entries (Shows state room)

-- the same holds of some image: that of the device that was opened
abbrev pub HasHistory : {D : Type 0} → {G : Ghosts D} → (D → Device) → Room D G → Status → List (Step × Note) → Type 0
HasHistory state room opening entries = (image : Image) × IsAudited state room image opening entries

-- a run from opening some image has as many entries as the receipt's place says, and then its step with its note. That it is a run of this
-- very room is what `Agrees` of `engine` says.
pub record IsLastOfRun (receipt : Receipt) : Type 0 where
  pub image : Image
  pub before : List (Step × Note)
  pub length_is : length before ≡ receipt.place
  pub run : RunOf image (before ++ (receipt.step, receipt.note) ∷ []) (λ q. ⊤)

-- the step was kept with its reply's note, and the receipt is that entry
pub record Keeps (old new : List (Step × Note)) (step : Step) (reply : Reply) (receipt : Receipt) : Type 0 where
  pub kept : reply ≢ Refused OutOfMemory
  pub entries : new ≡ old ++ (step, note_of reply) ∷ []
  pub place : receipt.place ≡ length old
  pub asked : receipt.step ≡ step
  pub note : receipt.note ≡ note_of reply

-- the room shows the state as before, and whatever a crash left meanwhile stands for that; no operation failed
pub record Stays {D : Type 0} {G : Ghosts D} (state : D → Device) (old new : Room D G) (step : Step) (q : State) : Type 0 where
  pub shows : Shows state new q
  pub images : LeavesOnly (device_of state old) (device_of state new) (StandsAt q)
  pub no_failure : HasNoFailure (device_of state old) (device_of state new)
  pub operations : operations_of (device_of state new) ≤ operations_of (device_of state old) + most_operations q step

-- a step with this reply changes nothing, and no operation failed in it
pub record ChangesNothing (reply : Reply) : Type 0 where
  pub works : reply ≢ Refused DeviceFault
  pub same : (q q' : State) (step : Step) → Stepped q step reply q' → q' ≡ q

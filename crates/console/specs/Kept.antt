-- What FILE keeps of the history that its image stands for.
use Rattle.std.specs.Prelude.{◌≡◌, ℕ, ◌++◌, List, None, Bool, true, false, ⊤}
use Rattle.base.specs.Commits.{Commit}
use Rattle.base.specs.Layout.{Layout, is_in_limits, opened_layout}
use Rattle.base.specs.Images.{Image, layout_of}
use Rattle.base.specs.Stands.{Stands}
use Rattle.machine.specs.Machine.{State, StandsClosed, closing_fault}
use Rattle.pmem.specs.Device.{Device, MayLeave}
use Rattle.pmem.specs.declared.device.Pmem.{Ghosts}
use Rattle.base.specs.Fresh.{fresh_image}
use Rattle.room.specs.Room.{Shows}
use Rattle.room.specs.declared.room.Room.{Room}
use Rattle.command_line.specs.ImageFile.{HoldsWords, IsFileOf}
use Rattle.command_line.specs.Words.{asked_layout}
use Rattle.command_line.specs.declared.orders.Order.{Order}
use Rattle.command_line.specs.declared.orders.Order.TheVariants.{Format, Run, Check, Threads, Lives}

-- the list begins with this history
abbrev pub Extends : List Commit → List Commit → Type 0
Extends history longer = (more : List Commit) × (longer ≡ history ++ more)

-- from each state that the room showed, it has come to one that it shows now, and the two are related like this
pub record LeadsBy {D : Type 0} {G : Ghosts D} (state : D → Device) (old new : Room D G) (By : State → State → Type 0) : Type 0 where
  pub each : (q : State) → Shows state old q → (q' : State) × By q q' × Shows state new q'

-- whatever state the room showed, it was closed without a fault, and a crash of the device leaves what closing leaves
pub record HasClosed {D : Type 0} {G : Ghosts D} (state : D → Device) (room : Room D G) (device : Device) : Type 0 where
  pub each : (q : State) → Shows state room q → (image : Image) → MayLeave device image → StandsClosed q image
  pub may_close : (q : State) → Shows state room q → closing_fault q ≡ None

-- the image has this layout, and stands for a history that begins with this one
pub record KeepsHistory (layout : Layout) (history : List Commit) (image : Image) : Type 0 where
  pub laid_out : layout_of image ≡ layout
  pub kept : List Commit
  pub drawn : List Commit
  pub next : ℕ
  pub longer : Extends history kept
  pub stands : Stands image kept drawn next

-- the file is that of an image that has this layout and stands for a history that begins with this one
pub record IsFileWith (layout : Layout) (history : List Commit) (file : List ℕ) : Type 0 where
  pub image : Image
  pub of_image : IsFileOf image file
  pub keeps : KeepsHistory layout history image

-- The new file keeps whatever history the image in the old file stands for, with the layout that the image has once it is open.
-- Excluded: a run that takes a covered commit out of the file; one that leaves a file of another geometry.
pub record KeepsHistories (before after : List ℕ) : Type 0 where
  pub each : (image : Image) → HoldsWords before image → (history drawn : List Commit) (next : ℕ) → Stands image history drawn next
      → IsFileWith (opened_layout (layout_of image)) history after

-- What a subcommand leaves in FILE: a format the fresh image, a run and threads what keeps the histories.
-- Excluded: a fresh image with more slots than an image may have.
abbrev pub Leaves : Order → List ℕ → List ℕ → Type 0
Leaves (Format name width slots places window) before after = IsFileOf (fresh_image (asked_layout width slots places window)) after
Leaves (Run name) before after = KeepsHistories before after
Leaves (Check name) before after = ⊥
Leaves (Threads name sessions commits) before after = ∥ KeepsHistories before after ∥₁
Leaves (Lives name) before after = ⊥

-- a subcommand that ends well writes FILE, except for a check and for lives
abbrev pub writes_file : Order → Bool
writes_file (Format name width slots places window) = true
writes_file (Run name) = true
writes_file (Check name) = false
writes_file (Threads name sessions commits) = true
writes_file (Lives name) = false

-- this, if the order is a check
abbrev pub IfCheck : Order → Type 0 → Type 0
IfCheck (Format name width slots places window) P = ⊤
IfCheck (Run name) P = ⊤
IfCheck (Check name) P = P
IfCheck (Threads name sessions commits) P = ⊤
IfCheck (Lives name) P = ⊤

-- this, if the order is lives
abbrev pub IfLives : Order → Type 0 → Type 0
IfLives (Format name width slots places window) P = ⊤
IfLives (Run name) P = ⊤
IfLives (Check name) P = ⊤
IfLives (Threads name sessions commits) P = ⊤
IfLives (Lives name) P = P

-- this, if the order reads no input: all but a run
abbrev pub IfReadsNoInput : Order → Type 0 → Type 0
IfReadsNoInput (Format name width slots places window) P = P
IfReadsNoInput (Run name) P = ⊤
IfReadsNoInput (Check name) P = P
IfReadsNoInput (Threads name sessions commits) P = P
IfReadsNoInput (Lives name) P = P

-- the numbers of a format are within their limits
abbrev pub HasLimits : Order → Type 0
HasLimits (Format name width slots places window) = is_in_limits (asked_layout width slots places window) ≡ true
HasLimits (Run name) = ⊤
HasLimits (Check name) = ⊤
HasLimits (Threads name sessions commits) = ⊤
HasLimits (Lives name) = ⊤

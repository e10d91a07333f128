-- A life of the program: what it prints and what FILE holds then, from the image that FILE held.
use Rattle.std.specs.Prelude.{◌≡◌, ℕ, ◌-◌, List, [], ◌∷◌, ◌++◌, length, codes, true, Option, Some, None}
use Rattle.std.specs.Io.KnownBytes.{Appends}
use Rattle.base.specs.Images.{Image}
use Rattle.machine.specs.Machine.{State, StandsAt, StandsClosed, closing_fault, closing_gate}
use Rattle.pmem.specs.Device.{Device}
use Rattle.room.specs.Committing.{Shows}
use Rattle.room.specs.Runs.{OpensTo}
use Rattle.room.specs.declared.volatile.VolatileState.{VolatileState}
use Rattle.command_line.specs.ImageFile.{HoldsWords, IsFileOf, is_image_length}
use Rattle.command_line.specs.Numbers.{Text}
use Rattle.command_line.specs.Texts.{opened_line, closed_line, survivor_text}
use Rattle.command_line.specs.declared.command.Survivor.{Survivor}
use Rattle.console.specs.Crash.{KeepsNamed}
use Rattle.console.specs.Input.{Reads}
use Rattle.console.specs.Obeyed.{ObeysLines}

-- the line of the opened state
abbrev pub opened_text : State → Text
opened_text q = opened_line q.ruling.gate q.ruling.persisted q.ruling.dirty q.next q.ruling.gaps

-- the line of closing in the state
abbrev pub closed_text : State → Text
closed_text q = closed_line (closing_gate q) (q.next - 1) q.next

-- the file has the words of an image that opens, and whatever history it stands for, this holds of the state that it opens as
pub record FileOpensTo (file : List ℕ) (Is : State → Type 0) : Type 0 where
  pub size : is_image_length (length file) ≡ true
  pub image : Image
  pub holds : HoldsWords file image
  pub opens : OpensTo image Is

-- How a life ends in this state: by a crash, which leaves an image that stands for what must be kept then, or by closing without a
-- fault. The line that is printed, and what FILE holds then
abbrev pub Ends : State → Option Survivor → Text → List ℕ → Type 0
Ends q (Some keeps) said file =
    (image : Image) × IsFileOf image file × StandsAt q image × (said ≡ (codes "stopped " ++ survivor_text keeps) ++ 10 ∷ [])
Ends q None said file =
    (image : Image) × IsFileOf image file × StandsClosed q image × (closing_fault q ≡ None) × (said ≡ closed_text q ++ 10 ∷ [])

-- the line of the opened state is printed, and these lines, a list that begins with the last, lead from it to a state of which this holds
pub record IsBegun (lines : List Text) (keeps : Option Survivor) (begun said : Text) (Is : State → Type 0) (start : State) : Type 0 where
  pub announced : begun ≡ opened_text start ++ 10 ∷ []
  pub last : State
  pub runs : ObeysLines start lines said keeps last
  pub is : Is last

-- the device shows the state, and the life ends in it
pub record EndsOn (device : Device) (keeps : Option Survivor) (ended : Text) (file : List ℕ) (q : State) : Type 0 where
  pub volatile : VolatileState
  pub shows : Shows volatile device q
  pub ends : Ends q keeps ended file

-- The image in the old file opens, and these lines of the input are read, a list that begins with the last. Whatever history the image
-- stands for, this is a life of it by them, and no more is printed. After a crash FILE has of each word of the life's device the survivor
-- that was asked for. About a reader or writer whose bytes aren't known, such as the standard streams, nothing is said.
-- Excluded: a line that is left out, run twice or out of order; a run over a damaged file that ends well; a life that ends as closed after
-- a failing device.
pub record Lives (before : List ℕ) (input old new : Option (List ℕ)) (after : List ℕ) : Type 0 where
  pub lines : List Text
  pub keeps : Option Survivor
  pub reads : Reads input lines keeps
  pub begun : Text
  pub said : Text
  pub ended : Text
  pub prints : Appends old new ((begun ++ said) ++ ended)
  pub device : Device
  pub kept : KeepsNamed device keeps after
  pub opens : FileOpensTo before (IsBegun lines keeps begun said (EndsOn device keeps ended after))

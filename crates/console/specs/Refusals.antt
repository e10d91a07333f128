-- Why a subcommand is refused, and what is printed then.
use Rattle.std.specs.Prelude.{◌≡◌, ◌⊎◌, ℕ, List, [], ◌∷◌, ◌++◌, length, Bool, true, false, Option, Some, None, IfSome, IsSome, ⊤}
use Rattle.std.specs.Io.KnownBytes.{Appends}
use Rattle.base.specs.declared.fault.Fault.{Fault}
use Rattle.base.specs.declared.fault.Fault.TheVariants.{BadGeometry, OutOfMemory}
use Rattle.base.specs.Images.{Image, damage, opening_fault}
use Rattle.base.specs.Layout.{is_in_limits}
use Rattle.machine.specs.Machine.{State, closing_fault}
use Rattle.command_line.specs.ImageFile.{HoldsWords, is_image_length}
use Rattle.command_line.specs.Numbers.{Text}
use Rattle.command_line.specs.Scripts.{HasBadGeometry}
use Rattle.command_line.specs.Texts.{refused_text}
use Rattle.command_line.specs.Words.{asked_layout}
use Rattle.command_line.specs.declared.orders.Order.{Order}
use Rattle.command_line.specs.declared.orders.Order.TheVariants.{Format, Run, Check, Threads, Lives}
use Rattle.command_line.specs.declared.orders.Width.{Width}
use Rattle.console.specs.Input.{Reads}
use Rattle.console.specs.Lives.{FileOpensTo, IsBegun}
use Rattle.console.specs.Threads.{IsThreadsFault}
use Rattle.console.specs.declared.stop.Stop.{Stop}
use Rattle.console.specs.declared.stop.Stop.TheVariants.{Refused, NotACommand, Broken}

-- the line of a refusal
abbrev pub refusal_line : Fault → Text
refusal_line fault = refused_text fault ++ 10 ∷ []

-- ---- the faults

-- No fault is that the device failed: the program's device has no fuse, so an operation fails only if a store takes memory and there is
-- none, and then that is the fault

-- the numbers of a format are out of their limits
abbrev pub IsFormatFault : Width → ℕ → ℕ → ℕ → Fault → Type 0
IsFormatFault width slots places window fault = (is_in_limits (asked_layout width slots places window) ≡ false) × (fault ≡ BadGeometry)

-- the file has the words of an image with this fault
pub record HasFault (file : List ℕ) (Is : Image → Fault → Type 0) (fault : Fault) : Type 0 where
  pub size : is_image_length (length file) ≡ true
  pub image : Image
  pub holds : HoldsWords file image
  pub is : Is image fault

-- no image has the file's length; or the file has the words of an image with this fault
abbrev pub IsFileFault : List ℕ → (Image → Fault → Type 0) → Fault → Type 0
IsFileFault file Is fault = ((is_image_length (length file) ≡ false) × (fault ≡ BadGeometry)) ⊎ HasFault file Is fault

-- the first fault of an image that isn't sound
abbrev pub IsDamage : Image → Fault → Type 0
IsDamage image fault = damage image ≡ Some fault

-- why the image doesn't open
abbrev pub IsOpeningFault : Image → Fault → Type 0
IsOpeningFault image fault = opening_fault image ≡ Some fault

-- why the state can't be closed
abbrev pub IsClosingFault : State → Fault → Type 0
IsClosingFault q fault = closing_fault q ≡ Some fault

-- The image in the file opens, and whatever history it stands for, all lines of the input are run, and the state then has this fault
-- when it is closed. No more is printed, except this at the end
pub record EndsAtClose (file : List ℕ) (input old new : Option Text) (fault : Fault) (ended : Text) : Type 0 where
  pub lines : List Text
  pub reads : Reads input lines None
  pub begun : Text
  pub said : Text
  pub prints : Appends old new ((begun ++ said) ++ ended)
  pub opens : FileOpensTo file (IsBegun lines None begun said (λ q. IsClosingFault q fault))

-- ---- what a refusal says

-- the subcommand has this fault, and no more is printed than it prints before, and this at the end
abbrev pub EndsRefused : Order → List ℕ → Option Text → Option Text → Option Text → Fault → Text → Type 0
EndsRefused (Format name width slots places window) file input old new fault ended = IsFormatFault width slots places window fault × Appends old new ended
EndsRefused (Run name) file input old new fault ended =
    (IsFileFault file IsOpeningFault fault × Appends old new ended) ⊎ EndsAtClose file input old new fault ended
EndsRefused (Check name) file input old new fault ended = IsFileFault file IsDamage fault × Appends old new ended
EndsRefused (Threads name sessions commits) file input old new fault ended = IsFileFault file (IsThreadsFault sessions commits) fault × Appends old new ended
EndsRefused (Lives name) file input old new fault ended = (fault ≡ BadGeometry) × HasBadGeometry file × Appends old new ended

-- The fault is lack of memory, or the subcommand's, and then its line ends what is printed. Device is never the fault.
abbrev pub Refuses : Order → List ℕ → Option Text → Option Text → Option Text → Fault → Type 0
Refuses order file input old new fault = (fault ≡ OutOfMemory) ⊎ EndsRefused order file input old new fault (refusal_line fault)

-- ---- what is printed last

-- the bytes of each writer of this kind are known
abbrev pub AreKnown : {W : Type 0} → (W → Option Text) → Type 0
AreKnown {W = W} contents = (writer : W) → IsSome (contents writer)

-- the known bytes end with these
abbrev pub EndsWith : Option Text → Text → Type 0
EndsWith known ended = IfSome known (λ text. (before : Text) × (text ≡ before ++ ended))

-- ---- why a subcommand ended

-- if a refusal ended it, this holds of its fault
abbrev pub IfRefused : (Fault → Type 0) → Stop → Type 0
IfRefused P (Refused fault) = P fault
IfRefused P (NotACommand number) = ⊤
IfRefused P (Broken reason) = ⊤

-- only for lack of memory a refusal ended it
abbrev pub WantsMemory : Stop → Type 0
WantsMemory stop = IfRefused (λ fault. fault ≡ OutOfMemory) stop

-- this is the fault of the refusal that ended it, or lack of memory to print
abbrev pub IsFaultOf : Stop → Fault → Type 0
IsFaultOf (Refused reason) fault = fault ≡ reason
IsFaultOf (NotACommand number) fault = ⊥
IsFaultOf (Broken reason) fault = fault ≡ OutOfMemory

-- the exit status: 0 if the work was done, 2 if a line isn't a command, 1 if a refusal, the input or the output ended it
abbrev pub status_of : Option Stop → ℕ
status_of None = 0
status_of (Some (NotACommand number)) = 2
status_of (Some (Refused fault)) = 1
status_of (Some (Broken reason)) = 1

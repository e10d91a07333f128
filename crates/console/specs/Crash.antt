-- Which values a crash keeps.
use Rattle.std.specs.Prelude.{ℕ, List, Option, IfSome}
use Rattle.base.specs.Images.{Image}
use Rattle.pmem.specs.Device.{Device}
use Rattle.pmem_model.specs.Chosen.{IsChosen}
use Rattle.pmem_model.specs.declared.choice.Choice.{Choice}
use Rattle.pmem_model.specs.declared.choice.Choice.TheVariants as choice
use Rattle.command_line.specs.ImageFile.{IsFileOf}
use Rattle.command_line.specs.declared.command.Survivor.{Survivor}
use Rattle.command_line.specs.declared.command.Survivor.TheVariants.{Oldest, Newest}

-- the choice of the survivor that a line names
abbrev pub choice_of : Survivor → Choice
choice_of Oldest = choice.Oldest
choice_of Newest = choice.Newest

-- the file is that of the image which has, of each word of the device, the survivor that is named
pub record IsFileKept (device : Device) (keeps : Survivor) (file : List ℕ) : Type 0 where
  pub image : Image
  pub of_image : IsFileOf image file
  pub chosen : IsChosen (choice_of keeps) device image

-- the same at the end of a life, if that was a crash
abbrev pub KeepsNamed : Device → Option Survivor → List ℕ → Type 0
KeepsNamed device keeps file = IfSome keeps (λ survivor. IsFileKept device survivor file)

-- What is left in the file of a store that was closed.
use Rattle.std.specs.Prelude.{◌≡◌, Bool, true, false, List, length, Option, Some, None}
use Rattle.base.specs.Images.{Image}
use Rattle.base.specs.declared.step.Step.{Step}
use Rattle.file_words.specs.Calls.{IsCutTo, held_by}
use Rattle.file_words.specs.declared.account.Account.{Account}
use Rattle.journal.specs.Kept.{HoldsOnly}
use Rattle.machine.specs.Machine.{StandsClosed}
use Rattle.pmem.specs.Device.{Device}
use Rattle.session_laws.specs.Laws.{IsFirst}
use Rattle.session_laws.specs.Logs.{state_after, AreMade}
use Rattle.database.specs.Histories.{OfEachStart}

-- If the history is kept, it can be made from whatever the device opened as, and this image covers all that was covered and drawn in the state
-- that it leads to.
-- Excluded: an image that lacks a commit which the history draws.
abbrev pub CoversHistory : Device → Bool → Image → Option (List Step) → Type 0
CoversHistory opened true image (Some log) = OfEachStart opened (λ history start. IsFirst history start × AreMade start log × StandsClosed (state_after start log) image)
CoversHistory opened true image None = ⊥
CoversHistory opened false image log = log ≡ None

-- By its account the file was cut to one image, which covers the history. Nothing else is found of its words.
-- Excluded: a file whose journal still counts; one whose last words may be lost.
pub record IsClosedAs (opened : Device) (kept : Bool) (account : Account) (front : Option (List Step)) : Type 0 where
  pub image : Image
  pub found : HoldsOnly (held_by account) (length image) image
  pub cut : IsCutTo (length image) account
  pub covers : CoversHistory opened kept image front

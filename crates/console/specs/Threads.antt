-- What threads that make commits print and leave, and why they are refused.
use Rattle.std.specs.Prelude.{◌≡◌, ◌≢◌, ◌⊎◌, ℕ, ◌*◌, ◌^◌, ◌-◌, min, Bool, ◌&&◌, nat_eq, nat_lt, List, [], ◌∷◌, ◌++◌, filter, codes, decimal, None, Option, Some}
use Rattle.std.specs.Io.KnownBytes.{Appends}
use Rattle.base.specs.declared.fault.Fault.{Fault}
use Rattle.base.specs.declared.fault.Fault.TheVariants.{Device as DeviceFault, SlotsOut, TimestampsOut}
use Rattle.base.specs.declared.key.Key.{Key}
use Rattle.base.specs.Images.{Image, opening_fault}
use Rattle.machine.specs.Machine.{StandsClosed, closing_fault}
use Rattle.image_check.specs.Checked.{ListsTables}
use Rattle.room.specs.Runs.{OpensTo}
use Rattle.workload.specs.Load.{HasFree, HasNumbers, IsEngineFault, LacksFree, LacksNumbers, MakesTo}
use Rattle.command_line.specs.ImageFile.{IsFileOf}
use Rattle.command_line.specs.Numbers.{Text}
use Rattle.command_line.specs.Texts.{end_line, entries_text}
use Rattle.console.specs.Lives.{FileOpensTo}

-- the row is one that one of this many threads puts: under its number, in table 1
abbrev pub is_of_thread : ℕ → Key × List ℕ → Bool
is_of_thread sessions row = nat_eq row.0.table 1 && nat_lt row.0.key sessions

-- how many commits all threads make; a number past the greatest that can be printed is printed as that one
abbrev pub commits_of_all : ℕ → ℕ → ℕ
commits_of_all sessions commits = min (sessions * commits) (2 ^ 64 - 1)

-- how many commits they made, the rows that they put, how many threads they were, and that the room is closed
abbrev pub threads_text : ℕ → ℕ → List (Key × List ℕ) → Text
threads_text sessions commits rows =
    (((codes "committed " ++ decimal (commits_of_all sessions commits)) ++ 10 ∷ []) ++ entries_text (filter (is_of_thread sessions) rows))
    ++ ((end_line sessions ++ 10 ∷ []) ++ (codes "closed" ++ 10 ∷ []))

-- The image in the file opens, and then two slots are free for each thread, and numbers are left for all commits. In a run from it each
-- thread made its commits, and all were acknowledged. In the end the file has an image as closing leaves it in the very state to which that
-- run came, and the rows that are printed are those of this image.
-- Excluded: a commit that is counted and wasn't acknowledged, or is counted twice; commits that were reported and that FILE is left
-- without; a step of a session that no thread has a receipt of.
pub record PrintsThreads (sessions commits : ℕ) (before : List ℕ) (old new : Option Text) (after : List ℕ) : Type 0 where
  pub opens : FileOpensTo before (HasFree (2 * sessions))
  pub has_numbers : OpensTo opens.image (HasNumbers (sessions * commits))
  pub image : Image
  pub of_image : IsFileOf image after
  pub made : MakesTo opens.image sessions commits (λ q. StandsClosed q image)
  pub rows : List (Key × List ℕ)
  pub lists : ListsTables image rows
  pub prints : Appends old new (threads_text sessions commits rows)

-- the fault is neither that slots ran out nor that the device failed
pub record IsOther (fault : Fault) : Type 0 where
  pub slots : fault ≢ SlotsOut
  pub device : fault ≢ DeviceFault

-- Numbers are lacking. Or they are there, and the fault is the engine's, or why the state can't be closed to which a run came in which
-- the threads made their commits
abbrev pub IsLaterFault : ℕ → ℕ → Image → Fault → Type 0
IsLaterFault sessions commits image fault =
    (OpensTo image (LacksNumbers (sessions * commits)) × (fault ≡ TimestampsOut))
    ⊎ (OpensTo image (HasNumbers (sessions * commits))
    × (IsEngineFault image fault ⊎ MakesTo image sessions commits (λ q. closing_fault q ≡ Some fault)))

-- The image doesn't open; or two slots for each thread aren't free then; or they are, and it is a later fault.
-- Excluded: SlotsOut though the slots are free; a fault that no step was refused with.
abbrev pub IsThreadsFault : ℕ → ℕ → Image → Fault → Type 0
IsThreadsFault sessions commits image fault =
    (opening_fault image ≡ Some fault)
    ⊎ ((OpensTo image (LacksFree (2 * sessions)) × (fault ≡ SlotsOut))
    ⊎ (OpensTo image (λ q. HasFree (2 * sessions) q × IsOther fault) × IsLaterFault sessions commits image fault))

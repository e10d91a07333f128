-- Runs from the opening of an image, and of a device: the words in which every crate above speaks of them.
use Rattle.std.specs.Prelude.{◌≡◌, ◌⊎◌, ℕ, zero, suc, ◌+◌, List, [], ◌∷◌, ◌++◌, map, ⊤, None}
use Rattle.base.specs.declared.step.Step.{Step}
use Rattle.base.specs.declared.step.Note.{Note}
use Rattle.base.specs.declared.step.Reply.{Reply}
use Rattle.base.specs.declared.step.Reply.TheVariants.{Visited}
use Rattle.base.specs.Commits.{Commit}
use Rattle.base.specs.Images.{Image, opening_fault}
use Rattle.base.specs.Stands.{Stands}
use Rattle.machine.specs.Machine.{State, Noted, Run, final, StandsAlong}
use Rattle.machine.specs.Openings.{OpensAs, StandsOpening}
use Rattle.pmem.specs.Device.{Device}
use Rattle.pmem.specs.Words.{IsAtRest, LeavesOnly, image_of}
use Rattle.pmem.specs.declared.device.Pmem.{Ghosts}
use Rattle.room.specs.declared.room.Room.{Room}
use Rattle.room.specs.Room.{Shows, RunsTo, device_of}

-- ---- of an image

-- whatever history the image stands for, this holds of that history, of the timestamp that is next then, and of the state that it opens as
abbrev pub InEach : Image → (List Commit → ℕ → State → Type 0) → Type 0
InEach image Fact =
    (history drawn : List Commit) (next : ℕ) (lost : List ℕ) → Stands image history drawn next → (start : State) × OpensAs image history lost start × Fact history next start

-- the image opens, and whatever history it stands for, this holds of the state that it opens as
pub record OpensTo (image : Image) (Is : State → Type 0) : Type 0 where
  pub may_open : opening_fault image ≡ None
  pub each : InEach image (λ history next start. Is start)

-- the image opens, and whatever history it stands for, the entries lead from the state that it opens as to one of which this holds
abbrev pub RunOf : Image → List (Step × Note) → (State → Type 0) → Type 0
RunOf image entries Is = OpensTo image (λ start. (now : State) × Noted start entries now × Is now)

-- ---- of a device

-- the steps with these replies lead from q through these states
abbrev pub Takes : State → List (Step × Reply) → List State → Type 0
Takes q taken states = Run q (map (λ one. one.0) taken) (map (λ one. one.1) taken) states

-- what a crash leaves since an image of this history was opened: while opening, or in one of the steps
abbrev pub StandsSince : Image → List Commit → ℕ → State → List State → Image → Type 0
StandsSince before history next start states image = StandsOpening before history next image ⊎ StandsAlong start states image

-- From the state that a device was opened as, which represented this history, the steps with these replies lead to a state of which this holds. A crash
-- since then leaves what it may leave while opening, or in one of the steps
pub record RunsOn (opened now : Device) (taken : List (Step × Reply)) (Is : State → Type 0) (history : List Commit) (next : ℕ) (start : State) : Type 0 where
  pub states : List State
  pub run : Takes start taken states
  pub images : LeavesOnly opened now (StandsSince (image_of opened) history next start states)
  pub is : Is (final start states)

-- the device was at rest and was opened, and whatever history it represented, these steps were made since, with these replies, up to a state of which this holds
pub record RunOver (opened now : Device) (taken : List (Step × Reply)) (Is : State → Type 0) : Type 0 where
  pub at_rest : IsAtRest opened
  pub may_open : opening_fault (image_of opened) ≡ None
  pub each : InEach (image_of opened) (RunsOn opened now taken Is)

-- a run from the opening of some device ends in such steps, with their replies, and in a state of which this holds
abbrev pub EndsRunIn : (List (Step × Reply) → Type 0) → (State → Type 0) → Type 0
EndsRunIn Fact Is = ∥ ((opened now : Device) × (before taken : List (Step × Reply)) × RunOver opened now (before ++ taken) Is × Fact taken) ∥₁

-- such a run ends in such steps
abbrev pub EndsRun : (List (Step × Reply) → Type 0) → Type 0
EndsRun Fact = EndsRunIn Fact (λ q. ⊤)

-- such a run comes to a state of which this holds
abbrev pub ComesTo : (State → Type 0) → Type 0
ComesTo Is = EndsRunIn (λ taken. ⊤) Is

-- ---- visits

-- the replies to visits of this many slots, from this one on
abbrev pub visited_from : ℕ → ℕ → List Reply
visited_from slot zero = []
visited_from slot (suc count) = Visited slot ∷ visited_from (slot + 1) count

-- ---- of a room

-- from each state that the room showed, the steps with these replies lead to one that it shows
abbrev pub LeadsAlong : {D : Type 0} → {G : Ghosts D} → (D → Device) → Room D G → Room D G → List (Step × Reply) → Type 0
LeadsAlong state old new taken =
    (q : State) → Shows state old q → (states : List State) × RunsTo state old new (map (λ one. one.0) taken) (map (λ one. one.1) taken) q states

-- the room has taken such steps since some device was opened, and shows the state that they lead to
pub record HasTaken {D : Type 0} {G : Ghosts D} (state : D → Device) (room : Room D G) (Fact : List (Step × Reply) → Type 0) : Type 0 where
  pub opened : Device
  pub taken : List (Step × Reply)
  pub run : RunOver opened (device_of state room) taken (Shows state room)
  pub so : Fact taken

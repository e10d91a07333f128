-- What a database says of the runs that its room makes.
use Rattle.std.proofs.Common.{◌≡◌, List, [], ◌∷◌, ◌++◌, Option, Some, refl}
use Rattle.std.specs.Prelude.{Result}
use Rattle.std.proofs.Math.Logic.{∥∥₁_map}
use Rattle.std.proofs.lemmas.List.Elements.{Contains-append_left}
use Rattle.base.specs.declared.fault.Fault.{Fault}
use Rattle.base.specs.declared.step.Step.{Step}
use Rattle.base.specs.declared.step.Step.TheVariants.{Commit as CommitTick}
use Rattle.base.specs.declared.step.Reply.{Reply}
use Rattle.base.specs.declared.step.Reply.TheVariants.{Refused as RefusedWith}
use Rattle.machine.specs.Machine.{State, StandsClosing}
use Rattle.pmem.specs.Device.{Device}
use Rattle.pmem.specs.Words.{LeavesOnly}
use Rattle.pmem.specs.declared.device.Pmem.{Ghosts}
use Rattle.room.specs.declared.room.Room.{Room}
use Rattle.room.specs.Room.{Shows, Leads, device_of}
use Rattle.room.specs.Runs.{LeadsAlong, HasTaken}
use Rattle.room.proofs.Runs.{leads-one, taken-led, over-led, over-weaken, ends-run}
use Rattle.database.specs.Ended.{EndedAlong, EndsOnceEnded}
use Rattle.database.specs.Obeys.{Obeys, IsStep, AnswersStep}
use Rattle.database.specs.Closing.{ClosesRun}

-- if the committer has ended, it has also ended in a longer run
ended-more : (ended : Option Fault) (taken more : List (Step × Reply)) → EndedAlong ended taken → EndedAlong ended (taken ++ more)
ended-more ended taken more r = record { along = λ fault is. let a = r.along fault is in (Contains-append_left taken more (CommitTick, RefusedWith fault) a.0, a.1) }

-- one step more
pub run-led : {D : Type 0} {G : Ghosts D} {ended : Option Fault} (state : D → Device) (old new : Room D G) (step : Step) (reply : Reply)
    → ∥ HasTaken state old (EndedAlong ended) ∥₁ → Leads state old new step reply → ∥ HasTaken state new (EndedAlong ended) ∥₁
run-led {D} {G} {ended} state old new step reply run leads =
    taken-led state old new ((step, reply) ∷ []) (EndedAlong ended) (EndedAlong ended) run (leads-one state old new step reply leads) (λ taken along. ended-more ended taken ((step, reply) ∷ []) along)

pub run-led-along : {D : Type 0} {G : Ghosts D} {ended : Option Fault} (state : D → Device) (old new : Room D G) (more : List (Step × Reply))
    → ∥ HasTaken state old (EndedAlong ended) ∥₁ → LeadsAlong state old new more → ∥ HasTaken state new (EndedAlong ended) ∥₁
run-led-along {D} {G} {ended} state old new more run leads = taken-led state old new more (EndedAlong ended) (EndedAlong ended) run leads (λ taken along. ended-more ended taken more along)

-- the steps that the room makes end a run in which the committer has ended
pub ends-once-ended : {D : Type 0} {G : Ghosts D} {ended : Option Fault} (state : D → Device) (old new : Room D G) (fault : Fault) (taken : List (Step × Reply)) (Fact : List (Step × Reply) → Type 0)
    → ∥ HasTaken state old (EndedAlong ended) ∥₁ → ended ≡ Some fault → LeadsAlong state old new taken → Fact taken → EndsOnceEnded fault Fact
ends-once-ended state old new fault taken Fact run is leads fact =
    ∥∥₁_map run (λ r. (
      r.opened,
      device_of state new,
      r.taken,
      taken,
      over-weaken r.opened (device_of state new) (r.taken ++ taken) (Shows state new) _ (λ q shows. tt) (over-led state old new r.opened r.taken taken r.run leads),
      r.so.along fault is,
      fact,
    ))

pub answers-step : {D A : Type 0} {G : Ghosts D} {ended : Option Fault} (state : D → Device) (old new : Room D G) (step : Step) (read : Reply → Result A Fault) (result : Result A Fault)
    → ∥ HasTaken state old (EndedAlong ended) ∥₁ → Obeys state old new step read result → AnswersStep step read result
answers-step state old new step read result run obeys =
    ends-run state old new ((step, obeys.0) ∷ []) (IsStep step read result) run (leads-one state old new step obeys.0 obeys.1) (obeys.0, refl, obeys.2)

-- the room was closed, or closing was refused: the run ends in whatever state the room showed
pub closes-run : {D : Type 0} {G : Ghosts D} {ended : Option Fault} (state : D → Device) (room : Room D G) (now : Device) (Is : State → Type 0) → ∥ HasTaken state room (EndedAlong ended) ∥₁
    → ((q : State) → Shows state room q → LeavesOnly (device_of state room) now (StandsClosing q)) → ((q : State) → Shows state room q → Is q) → ∥ ClosesRun now Is ∥₁
closes-run state room now Is run images is = ∥∥₁_map run (λ r. record {
  opened = r.opened;
  before = device_of state room;
  taken = r.taken;
  run = over-weaken r.opened (device_of state room) r.taken (Shows state room) _ (λ q shows. (images q shows, is q shows)) r.run;
})

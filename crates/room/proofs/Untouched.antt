-- A room to whose device nothing was done, and which shows what it showed.
use Rattle.std.proofs.Common.{◌≡◌, Bool, sym, ◌∙◌, subst}
use Rattle.std.specs.Prelude.{Option}
use Rattle.std.proofs.Math.Logic.{∥∥₁_map}
use Rattle.base.specs.declared.step.Step.{Step}
use Rattle.base.specs.declared.step.Reply.{Reply}
use Rattle.base.specs.declared.step.Reply.TheVariants.{Refused}
use Rattle.machine.specs.Machine.{State, Stepped, StandsWithin, most_operations}
use Rattle.pmem.specs.Device.{Device, MayLeave}
use Rattle.pmem.specs.declared.device.Pmem.{Ghosts}
use Rattle.group_commit.specs.Cycles.{Cycling}
use Rattle.session_steps.specs.declared.sessions.Sessions.{Sessions}
use Rattle.room.specs.declared.volatile.VolatileState.{VolatileState}
use Rattle.room.specs.declared.room.Room.{Room}
use Rattle.room.specs.Committing.{Shows as CommitterShows, ShowsIn}
use Rattle.session_steps.specs.Steps.{HasEffect}
use Rattle.room.specs.Steps.{ShowsAs, actor_of}
use Rattle.room.specs.Room.{Shows, Leads}

pub shows-same : {D : Type 0} {G : Ghosts D} (state : D → Device) (old new : Room D G) → new.volatile ≡ old.volatile → new.failed ≡ old.failed → state new.device ≡ state old.device
    → (q : State) → Shows state old q → Shows state new q
shows-same state old new same_volatile same_failed is q shows = record {
  stands = λ image left. shows.stands image (subst (λ (d : Device). MayLeave d image) is left);
  swept = λ swept image left. shows.swept swept image (subst (λ (d : Device). MayLeave d image) is left);
  agrees = record {
    shown = subst (λ (c : VolatileState). CommitterShows c (state new.device) q) (sym same_volatile) (subst (λ (d : Device). CommitterShows old.volatile d q) (sym is) shows.agrees.shown);
    failed = shows.agrees.failed ∙ sym same_failed;
  };
}

-- ---- only what isn't shown has changed

module _ (old new : VolatileState) (sessions : new.sessions ≡ old.sessions) (cycle : new.cycle ≡ old.cycle) (device : Device) where
  alike : (q : State) → CommitterShows old device q → CommitterShows new device q
  alike q shows =
      subst (λ (o : Option Cycling). ShowsIn new.sessions o device q) (sym cycle) (subst (λ (s : Sessions). ShowsIn s old.cycle device q) (sym sessions) shows)

  pub some-alike : (failed : Bool) → ∥ ShowsAs old device failed ∥₁ → ∥ ShowsAs new device failed ∥₁
  some-alike failed some = ∥∥₁_map some (λ shown. (shown.0, alike shown.0 shown.1, shown.2))

-- a step leads there too
pub leads-alike : {D : Type 0} {G : Ghosts D} (state : D → Device) (old new last : Room D G) → last.volatile.sessions ≡ new.volatile.sessions → last.volatile.cycle ≡ new.volatile.cycle → last.failed ≡ new.failed
    → state last.device ≡ state new.device → (step : Step) (reply answer : Reply) → answer ≡ reply → Leads state old new step reply → Leads state old last step answer
leads-alike state old new last sessions cycle same_failed is step reply answer told leads q shows =
    let one = leads q shows in (
      one.0,
      record {
        stepped = subst (λ (r : Reply). Stepped q step r one.0) (sym told) one.1.stepped;
        shows = record {
          stands = λ image left. one.1.shows.stands image (subst (λ (d : Device). MayLeave d image) is left);
          swept = λ swept image left. one.1.shows.swept swept image (subst (λ (d : Device). MayLeave d image) is left);
          agrees = record {
            shown = alike new.volatile last.volatile sessions cycle (state last.device) one.0 (subst (λ (d : Device). CommitterShows new.volatile d one.0) (sym is) one.1.shows.agrees.shown);
            failed = one.1.shows.agrees.failed ∙ sym same_failed;
          };
        };
        effect = subst (λ (d : Device). HasEffect (state old.device) d (StandsWithin q one.0) (most_operations q step) (actor_of step) (λ fault. answer ≡ Refused fault)) (sym is)
            (subst (λ (r : Reply). HasEffect (state old.device) (state new.device) (StandsWithin q one.0) (most_operations q step) (actor_of step) (λ fault. r ≡ Refused fault)) (sym told) one.1.effect);
      },
    )

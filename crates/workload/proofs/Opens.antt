-- What a load says about the image that it opened.
use Rattle.std.proofs.Common.{◌≡◌, ℕ, ◌*◌, Bool, true, false, inr, subst, sym, arith}
use Rattle.std.proofs.Math.Logic.{∥∥₁_map}
use Rattle.std.specs.Prelude.{MatchBool}
use Rattle.base.specs.declared.fault.Fault.{Fault}
use Rattle.base.specs.Images.{Image}
use Rattle.machine.specs.Machine.{State}
use Rattle.pmem.specs.Device.{Device}
use Rattle.pmem.specs.declared.device.Pmem.{Ghosts}
use Rattle.audited.specs.declared.audited.Audited.{Audited}
use Rattle.audited.proofs.Compose.{opens-weaken}
use Rattle.engine.specs.Origins.{IsFrom}
use Rattle.room.specs.Room.{Shows, ShowsStatus}
use Rattle.room.specs.Runs.{OpensTo}
use Rattle.room.specs.declared.room.Room.{Room}
use Rattle.room.specs.declared.status.Status.{Status}
use Rattle.workload.specs.Load.{AreMade, HasFree, HasNumbers, IsEngineFault, IsLoadFault, MakesTo}

pub opens-to : {D : Type 0} {G : Ghosts D} (state : D → Device) (image : Image) (room : Room D G) (opening : Status) (Is : State → Type 0) → OpensTo image (λ q. Shows state room q × ShowsStatus q opening)
    → ((q : State) → Shows state room q → ShowsStatus q opening → Is q) → OpensTo image Is
opens-to state image room opening Is opens says = opens-weaken image (λ q. Shows state room q × ShowsStatus q opening) Is (λ q both. says q both.0 both.1) opens

pub of-true : (b : Bool) (A B : Type 0) → MatchBool b A B → b ≡ true → A
of-true a b d is e = grind (arith)

pub of-false : (b : Bool) (A B : Type 0) → MatchBool b A B → b ≡ false → B
of-false a b d is e = grind (arith)

pub made-from : {D : Type 0} {G : Ghosts D} (state : D → Device) (image named : Image) (sessions commits : ℕ) (audited : Audited D G) (left : Room D G)
    → image ≡ named → left ≡ audited.room → IsFrom state named audited → AreMade sessions commits audited.entries.items → MakesTo image sessions commits (Shows state left)
made-from {D = D} {G = G} state image named sessions commits audited left is same from made =
    subst (λ (r : Room D G). MakesTo image sessions commits (Shows state r)) (sym same)
    (subst (λ (i : Image). MakesTo i sessions commits (Shows state audited.room)) (sym is) (∥∥₁_map from (λ a. (audited.entries.items, a.run, made))))

-- the engine's fault is about the image that its type names
pub engine-refused : (image named : Image) (sessions commits : ℕ) (fault : Fault) → image ≡ named → OpensTo image (HasFree (2 * sessions)) → OpensTo image (HasNumbers (sessions * commits)) → IsEngineFault named fault
    → IsLoadFault image sessions commits fault
engine-refused image named sessions commits fault is free has engine = inr (inr (inr (inr (inr (free, has, subst (λ (i : Image). IsEngineFault i fault) (sym is) engine)))))

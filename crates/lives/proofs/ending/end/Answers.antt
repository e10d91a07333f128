use Rattle.std.proofs.Common.{◌≡◌, Bool, true, false, sym, subst, rules}
use Rattle.std.specs.Prelude.{Some, None, Err}
use Rattle.machine.specs.Machine.{StandsClosing}
use Rattle.pmem.specs.Device.{Device, MayLeave}
use Rattle.pmem.specs.Words.{image_of}
use Rattle.pmem_model.specs.Sim.{device_of}
use Rattle.room.specs.Room.{device_of as device_in}
use Rattle.lives.specs.Plain.{closed_of}
use Rattle.lives.specs.Parts.{HasEnded}
use Rattle.lives.proofs.Ends.{orderly, leaves-now, ends-open, ends-closed, ends-refused}
use Rattle.lives.proofs.Stops.{open-stops, closed-stops, refused-stops}
use Rattle.lives.proofs.ending.end.Goals as goal

pub returns-then-not-closes-clause-ok : goal.returns-then-not-closes-clause-ok
returns-then-not-closes-clause-ok c = λ q shows may.
    let image = image_of (device_of c.in_ok-left.left) in
    let open_still : c.args.closes ≡ false = search rules in
    subst (λ (b : Bool). HasEnded q b None image) (sym open_still)
    (ends-open q image (shows.stands image (subst (λ (d : Device). MayLeave d image) c.into_device.ensures c.in_ok-left.ensures.possible)))

pub returns-in_ok-left-in-Ok-clause-ok : goal.returns-in_ok-left-in-Ok-clause-ok
returns-in_ok-left-in-Ok-clause-ok c = λ q shows may.
    let image = image_of (device_of c.in_ok-left-in-Ok.left) in
    let asked : c.args.closes ≡ true = search rules in
    subst (λ (b : Bool). HasEnded q b (closed_of (Some c.numbers_on.result)) image) (sym asked)
    (ends-closed q image c.numbers_on.result (may asked) (c.in-Ok.ensures.may_close q shows) (c.in-Ok.ensures.ok q shows image c.in_ok-left-in-Ok.ensures.possible)
    c.numbers_on.ensures.ok c.numbers_on.ensures.fault)

pub returns-in_ok-left-in-Err-clause-ok : goal.returns-in_ok-left-in-Err-clause-ok
returns-in_ok-left-in-Err-clause-ok c = λ q shows may.
    let image = image_of (device_of c.in_ok-left-in-Err.left) in
    let asked : c.args.closes ≡ true = search rules in
    subst (λ (b : Bool). HasEnded q b (closed_of (Some (Err c.in-Err.fault))) image) (sym asked)
    (ends-refused q image (device_in device_of c.args.room) (device_of c.in-Err.device) c.in-Err.fault (may asked) (c.in-Err.ensures.fault q shows)
    (λ same. shows.stands image (subst (λ (d : Device). MayLeave d image) same c.in_ok-left-in-Err.ensures.possible))
    (leaves-now (device_in device_of c.args.room) (device_of c.in-Err.device) (StandsClosing q) (orderly c.in-Err.device) (c.in-Err.ensures.images q shows) image c.in_ok-left-in-Err.ensures.possible))

pub returns-then-not-closes-clause-stopped : goal.returns-then-not-closes-clause-stopped
returns-then-not-closes-clause-stopped c = λ q shows.
    open-stops c.args.choice.now q (device_in device_of c.args.room) (device_of c.into_device.result) (image_of (device_of c.in_ok-left.left)) c.into_device.ensures
    (orderly c.into_device.result) c.in_ok-left.ensures.within c.in_ok-left.ensures.chosen

pub returns-in_ok-left-in-Ok-clause-stopped : goal.returns-in_ok-left-in-Ok-clause-stopped
returns-in_ok-left-in-Ok-clause-stopped c = λ q shows.
    let image = image_of (device_of c.in_ok-left-in-Ok.left) in
    closed-stops c.args.choice.now q (device_in device_of c.args.room) (device_of c.in-Ok.device) image c.numbers_on.result
    (c.in-Ok.ensures.images q shows) c.in-Ok.ensures.no_failure (c.in-Ok.ensures.ok q shows) (c.in-Ok.ensures.ok q shows image c.in_ok-left-in-Ok.ensures.possible).stands.sound
    c.numbers_on.ensures.fault (orderly c.in-Ok.device) c.in_ok-left-in-Ok.ensures.within c.in_ok-left-in-Ok.ensures.chosen

pub returns-in_ok-left-in-Err-clause-stopped : goal.returns-in_ok-left-in-Err-clause-stopped
returns-in_ok-left-in-Err-clause-stopped c = λ q shows.
    refused-stops c.args.choice.now q (device_in device_of c.args.room) (device_of c.in-Err.device) (image_of (device_of c.in_ok-left-in-Err.left)) c.in-Err.fault
    (c.in-Err.ensures.images q shows) (c.in-Err.ensures.fault q shows) (orderly c.in-Err.device) c.in_ok-left-in-Err.ensures.within c.in_ok-left-in-Err.ensures.chosen

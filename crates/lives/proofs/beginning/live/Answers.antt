use Rattle.std.proofs.Common.{◌∙◌, ap, sym}
use Rattle.std.specs.Prelude.{List}
use Rattle.std.proofs.lemmas.Result.{IfOk-weaker}
use Rattle.base.specs.declared.step.Reply.{Reply}
use Rattle.base.specs.Images.{Image}
use Rattle.pmem.specs.Device.{limited, restarted}
use Rattle.pmem.specs.Words.{image_of}
use Rattle.pmem_model.specs.Sim.{device_of}
use Rattle.lives.specs.Parts.{HasLived}
use Rattle.lives.specs.Stops.{IsStopped, LivesOn, ReportsDevice, StopsBy, WhereItStands}
use Rattle.lives.proofs.Stops.{is-stopped}
use Rattle.lives.proofs.beginning.live.Goals as goal

pub returns-clause-ok : goal.returns-clause-ok
returns-clause-ok g c =
    let life = c.args.life.now in
    let device = device_of c.args.device in
    let begun = device_of c.set_fuse.new.self in
    IfOk-weaker c.live_under_fuse.result
    (λ lived. WhereItStands (image_of begun) (λ before. HasLived before life lived.0 (image_of (device_of lived.1))
    (λ (replies : List Reply). StopsBy life.choice begun (ReportsDevice lived.0) (LivesOn begun before life lived.0 replies) (image_of (device_of lived.1)))))
    (λ lived. WhereItStands (image_of device) (λ before. HasLived before life lived.0 (image_of (device_of lived.1))
    (λ (replies : List Reply). IsStopped life lived.0 replies before (image_of (device_of lived.1)))))
    (λ lived lives before w same.
    let one = lives before w (same ∙ sym (ap image_of c.set_fuse.ensures.device)) in
    record {
      replies = one.replies;
      reported = one.reported;
      after = one.after;
      leaves = one.leaves;
      lives = one.lives;
      so = is-stopped life lived.0 one.replies before (image_of (device_of lived.1)) begun
          (c.set_fuse.ensures.device ∙ ap (limited life.fuse) c.requires ∙ ap (λ (i : Image). limited life.fuse (restarted i)) (sym same)) one.so;
    })
    c.live_under_fuse.ensures.ok

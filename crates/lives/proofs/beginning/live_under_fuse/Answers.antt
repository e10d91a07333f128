use Rattle.std.proofs.Common.{◌≡◌, ◌∙◌, inl, List, ap, subst, refl}
use Rattle.std.specs.Prelude.{None, Err}
use Rattle.std.proofs.lemmas.Result.{IfOk-weaker}
use Rattle.base.specs.declared.step.Reply.{Reply}
use Rattle.base.specs.Images.{Image}
use Rattle.machine.specs.Machine.{State}
use Rattle.base.specs.Stands.{Stands}
use Rattle.pmem.specs.Words.{image_of}
use Rattle.pmem_model.specs.Sim.{device_of}
use Rattle.room.specs.Room.{Shows, device_of as device_in}
use Rattle.image_check.specs.Checked.{ListsTables}
use Rattle.lives.specs.Parts.{HasLived, Plays}
use Rattle.lives.proofs.Ends.{orderly}
use Rattle.lives.proofs.Chains.{lived-refused, lived-played}
use Rattle.lives.specs.declared.life.LifeReport.{LifeReport}
use Rattle.lives.specs.Stops.{LivesOn, ReportsDevice, StopsBy, WhereItStands}
use Rattle.lives.proofs.Stops.{fails-on, opened-stops, opens-on, refused-goes}
use Rattle.lives.proofs.beginning.live_under_fuse.Goals as goal

pub returns-in-Ok-checked-clause-ok : goal.returns-in-Ok-checked-clause-ok
returns-in-Ok-checked-clause-ok g c =
    let old = device_of c.args.device in
    let image = image_of old in
    let mid = device_in device_of c.in-Ok.room in
    let life = c.args.life.now in
    let read : c.as_slice.result.now ≡ image = c.as_slice.ensures.value ∙ c.in_ok-image.ensures.image in
    let lists : ListsTables image c.in-Ok-checked.found.rows.items = subst (λ (i : Image). ListsTables i c.in-Ok-checked.found.rows.items) read c.in-Ok-checked.ensures.ok.lists in
    IfOk-weaker c.play.result
    (λ played. (q : State) → Shows device_of c.in-Ok.room q → Plays q mid c.in-Ok-checked.found.rows.items life played.0 (image_of (device_of played.1)))
    (λ lived. WhereItStands image (λ before. HasLived before life lived.0 (image_of (device_of lived.1))
    (λ (replies : List Reply). StopsBy life.choice old (ReportsDevice lived.0) (LivesOn old before life lived.0 replies) (image_of (device_of lived.1)))))
    (λ played plays before w same.
    let left = image_of (device_of played.1) in
    let stands : Stands image before.history before.drawn before.next = subst (λ (i : Image). Stands i before.history before.drawn before.next) same w in
    let opened = c.in-Ok.ensures.ok before.history before.drawn before.next before.lost stands in
    let q = opened.0 in
    let so = plays q opened.2 in
    lived-played image left c.in-Ok-checked.found.rows.items life played.0 so.replies before q
    (λ (replies : List Reply). StopsBy life.choice old (ReportsDevice played.0) (LivesOn old before life played.0 replies) left)
    c.in-Ok.ensures.may_open lists w same opened.1 (so.played (ap (λ (x : State). x.failed) opened.1.2)) so.reported
    (opened-stops life played.0 so.replies before q old mid left
    (opens-on old mid image before q c.in-Ok.room.volatile same opened.1 c.in-Ok.ensures.made
    (c.in-Ok.ensures.images before.history before.drawn before.next stands) opened.2.agrees.shown)
    c.in-Ok.ensures.no_failure so.stopped))
    c.play.ensures.ok

pub returns-clause-ok : goal.returns-clause-ok
returns-clause-ok g c =
    let old = device_of c.args.device in
    let last = device_of c.in-Err.device in
    let image = image_of old in
    let left = image_of (device_of c.in_ok-left-in-Err.left) in
    let life = c.args.life.now in
    let report : LifeReport = record { opening = Err c.in-Err.fault; replies = c.new.result; closed = None } in
    lived-refused old last image left life report c.in-Err.fault
    c.requires (orderly c.in-Err.device) refl c.in_ok-left-in-Err.ensures.possible refl (refl, c.new.ensures.items) refl
    c.in-Err.ensures.fault c.in-Err.ensures.log c.in-Err.ensures.images
    (λ before replies. StopsBy life.choice old (ReportsDevice report) (LivesOn old before life report replies) left)
    (λ before w same.
    let stands : Stands image before.history before.drawn before.next = subst (λ (i : Image). Stands i before.history before.drawn before.next) same w in
    record {
      last = last;
      leads = inl (fails-on old last image before report c.in-Err.fault refl same c.in-Err.ensures.fault (c.in-Err.ensures.images before.history before.drawn before.next stands));
      goes_on = refused-goes old last image c.in-Err.fault report refl c.new.ensures.items refl c.in-Err.ensures.fault (c.in-Err.ensures.images before.history before.drawn before.next stands).continues;
      orderly = orderly c.in-Err.device;
      within = c.in_ok-left-in-Err.ensures.within;
      chosen = c.in_ok-left-in-Err.ensures.chosen;
    })

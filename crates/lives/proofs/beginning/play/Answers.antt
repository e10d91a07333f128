use Rattle.std.proofs.Common.{◌≡◌, refl, ◌∙◌, Bool, not, ◌&&◌, List, sym, ap, subst}
use Rattle.std.specs.Prelude.{Ok}
use Rattle.pmem.specs.Words.{image_of}
use Rattle.pmem_model.specs.Sim.{device_of}
use Rattle.room.specs.Room.{Shows, device_of as device_in}
use Rattle.lives.specs.Plain.{closed_of}
use Rattle.lives.specs.Parts.{HasObeyed, HasEnded, MayAsk}
use Rattle.lives.proofs.Chains.{opens-so, played-so}
use Rattle.lives.specs.declared.life.LifeReport.{LifeReport}
use Rattle.lives.specs.declared.life.Opened.{Opened}
use Rattle.lives.specs.declared.life.Repeated.{Repeated}
use Rattle.lives.proofs.Stops.{played-stops}
use Rattle.lives.proofs.beginning.play.Goals.{then-life, else-life}
use Rattle.lives.proofs.beginning.play.Goals as goal

pub returns-clause-ok : goal.returns-clause-ok
returns-clause-ok c = λ q shows.
    let s = c.status-status.result in
    let says = c.status-status.ensures q shows in
    let failed = c.in-Ok.obeyed.failed in
    let device = device_in device_of c.args.room in
    let mid = device_in device_of c.obey.new.room in
    let image = image_of (device_of c.in_ok-closed.left) in
    let opened : Opened = record { numbers = record { gate = s.gate; persisted = s.persisted; dirty = s.dirty }; next = s.next; gaps = s.gaps; rows = c.args.rows } in
    let report : LifeReport = record { opening = Ok opened; replies = c.in-Ok.obeyed.replies; closed = c.in_ok-closed.closed } in
    let both : c.if-life.end ≡ (c.args.life.now.close && not failed) = elim c.if-life.branch [
      | then-life w ↦ w.end-is ∙ sym (ap (λ (b : Bool). b && not failed) w.if-life.true)
      | else-life w ↦ w.end-is ∙ w.if-life.false ∙ sym (ap (λ (b : Bool). b && not failed) w.if-life.false)
    ] in
    let obeyed : HasObeyed q device c.args.life.now.steps.items c.in-Ok.obeyed.replies.items failed mid (Shows device_of c.obey.new.room) =
    subst (λ (steps : List Repeated). HasObeyed q device steps c.in-Ok.obeyed.replies.items failed mid (Shows device_of c.obey.new.room)) c.as_slice.ensures.value (c.in-Ok.ensures q shows) in
    record {
      replies = obeyed.replies;
      reported = obeyed.reported;
      played = λ works.
          played-so q device mid c.args.rows.items c.args.life.now report image failed (Shows device_of c.obey.new.room) works
          (opens-so q s.gate s.persisted s.dirty s.next s.gaps c.args.rows.items says.gate says.persisted says.dirty says.next says.gaps)
          obeyed
          (λ last here may. subst (λ (b : Bool). HasEnded last b (closed_of c.in_ok-closed.closed) image) both
          (c.in_ok-closed.ensures.ok last here (subst (λ (b : Bool). MayAsk b last) (sym both) may)));
      stopped = played-stops c.args.life.now q obeyed.last device mid image opened report obeyed.replies refl obeyed.reported obeyed.runs (c.in_ok-closed.ensures.stopped obeyed.last obeyed.after_it);
    }

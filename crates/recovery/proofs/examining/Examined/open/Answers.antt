use Rattle.std.proofs.Common.{◌≡◌, ℕ, List, OnErr, OnOk, IfOk, sym, subst}
use Rattle.std.specs.Prelude.{Result, Ok, Err}
use Rattle.base.specs.Commits.{Commit}
use Rattle.base.specs.Images.{Image}
use Rattle.base.specs.Layout.{Layout, opened_layout}
use Rattle.base.specs.Records.{opened_gaps}
use Rattle.base.specs.Stands.{Stands}
use Rattle.base.specs.declared.fault.Fault.{Fault}
use Rattle.machine.specs.Openings.{StandsOpening, gaps_kept, opening_record, updated}
use Rattle.machine.proofs.openings.Updates.{updated-open}
use Rattle.pmem.specs.Device.{Device}
use Rattle.pmem.specs.Trace.{Runs, StopsWithin}
use Rattle.pmem.specs.Words.{LeavesOnly, image_of, IsAtRest}
use Rattle.recovery.specs.declared.examining.Examined.{Examined as Found}
use Rattle.recovery.specs.declared.rows.LiveSlot.{LiveSlot}
use Rattle.recovery.specs.declared.opening.OpenedImage.{OpenedImage}
use Rattle.recovery.specs.Opened.{Examined, IsExamined, HasOpened, IsCutShort, today_operations, update_operations}
use Rattle.recovery.specs.Sweeping.{AreHits}
use Rattle.recovery.proofs.openings.Devices.{is, today-images, today-images_stopped, today-opened, today-cut}
use Rattle.recovery.proofs.openings.Updates.{IsUpdate, is_update, update-cut, update-images_stopped, update-first_stopped, examined-updated, cut-after, images-after, version-after, has-opened-updated}
use Rattle.recovery.proofs.sweeps.Hits.{hits-now}
use Rattle.recovery.proofs.examining.Examined.open.Goals as goal

module _ (old mid : Device) (self : Found) (rest : IsAtRest old) (live : List LiveSlot) (ex : Examined (image_of old) self.geometry self.ruling self.gaps self.free.items live) where
  known : IsExamined (image_of old) self.geometry self.ruling self.gaps self.free.items live
  known = is (image_of old) self.geometry self.ruling self.gaps self.free.items live ex

  -- after the update
  module _ (today : Layout) (is-today : today ≡ opened_layout self.geometry) (run : Runs (update_operations (image_of old)) old mid) where
    done : IsUpdate old mid
    done = is_update rest known.opens run

    examined-now : Examined (image_of mid) today self.ruling self.gaps self.free.items live
    examined-now =
        subst (λ (i : Image). Examined i today self.ruling self.gaps self.free.items live) (sym done.image)
        (subst (λ (l : Layout). Examined (updated (image_of old)) l self.ruling self.gaps self.free.items live) (sym is-today)
        (examined-updated (image_of old) (updated-open (image_of old) known.opens) self.geometry self.ruling self.gaps self.free.items live ex))

    hits-mid : AreHits (image_of old) self.geometry self.gaps self.hits.items → AreHits (image_of mid) today self.gaps self.hits.items
    hits-mid hits = hits-now (image_of old) (image_of mid) (updated-open (image_of old) known.opens) self.geometry today self.gaps self.hits.items hits done.image is-today

    abbrev life : OpenedImage
    life = record { geometry = today; ruling = opening_record today self.ruling (gaps_kept (opened_gaps self.ruling)); next = self.ruling.dirty; free = self.free; places = self.places }

    module _ (new : Device) where
      opened-now : (l : OpenedImage) → l ≡ life → Runs (today_operations today self.ruling mid) mid new → HasOpened old new l.geometry l.ruling l.next l.free.items live
      opened-now l same run =
          subst (λ (l : OpenedImage). HasOpened old new l.geometry l.ruling l.next l.free.items live) (sym same)
          (has-opened-updated old mid new known.opens done.image done.made done.others.left.continues.same_words done.others life.geometry life.ruling life.next life.free.items live
          (today-opened mid done.rest today self.ruling self.gaps self.free.items live examined-now run))

      cut-now : (result : Result OpenedImage Fault) → OnErr result (StopsWithin (today_operations today self.ruling mid) mid new) → OnErr result (IsCutShort old new)
      cut-now (Ok l) stop = tt
      cut-now (Err fault) stop = cut-after old mid new known.opens done.image done.made (today-cut mid done.rest today self.ruling self.gaps self.free.items live examined-now stop)

      -- whatever a crash leaves meanwhile
      images-now : (result : Result OpenedImage Fault) → OnOk result (Runs (today_operations today self.ruling mid) mid new) → OnErr result (StopsWithin (today_operations today self.ruling mid) mid new)
          → (history drawn : List Commit) (next : ℕ) → Stands (image_of mid) history drawn next → LeavesOnly mid new (StandsOpening (image_of mid) history next)
      images-now (Ok l) run stop = today-images mid done.rest today self.ruling self.gaps self.free.items live examined-now run
      images-now (Err fault) run stop = today-images_stopped mid done.rest today self.ruling self.gaps self.free.items live examined-now stop

pub update-requires-clause-opens : goal.update-requires-clause-opens
update-requires-clause-opens g c = (known (g.D.Pmem.state c.args.device.now) (g.D.Pmem.state c.args.device.now) c.args.self c.requires.at_rest c.requires.examined.0 c.requires.examined.1).opens

pub update-requires-clause-laid_out : goal.update-requires-clause-laid_out
update-requires-clause-laid_out g c = (known (g.D.Pmem.state c.args.device.now) (g.D.Pmem.state c.args.device.now) c.args.self c.requires.at_rest c.requires.examined.0 c.requires.examined.1).rules.laid_out

pub returns-in-Err-clause-failed : goal.returns-in-Err-clause-failed
returns-in-Err-clause-failed g c = update-cut c.requires.at_rest (known (g.D.Pmem.state c.args.device.now) (g.D.Pmem.state c.update.new.device) c.args.self c.requires.at_rest c.requires.examined.0 c.requires.examined.1).opens c.in-Err.ensures.stopped

pub returns-in-Err-clause-images : goal.returns-in-Err-clause-images
returns-in-Err-clause-images g c = update-images_stopped c.requires.at_rest (known (g.D.Pmem.state c.args.device.now) (g.D.Pmem.state c.update.new.device) c.args.self c.requires.at_rest c.requires.examined.0 c.requires.examined.1).opens c.in-Err.ensures.stopped

pub returns-in-Err-clause-version : goal.returns-in-Err-clause-version
returns-in-Err-clause-version g c = update-first_stopped c.requires.at_rest (known (g.D.Pmem.state c.args.device.now) (g.D.Pmem.state c.update.new.device) c.args.self c.requires.at_rest c.requires.examined.0 c.requires.examined.1).opens c.in-Err.ensures.stopped

pub open_today-requires-clause-examined : goal.open_today-requires-clause-examined
open_today-requires-clause-examined g c = (c.requires.examined.0, examined-now (g.D.Pmem.state c.args.device.now) (g.D.Pmem.state c.update.new.device) c.args.self c.requires.at_rest c.requires.examined.0 c.requires.examined.1 c.in-Ok.geometry c.in-Ok.ensures.ok c.in-Ok.ensures.run)

pub open_today-requires-clause-hits : goal.open_today-requires-clause-hits
open_today-requires-clause-hits g c = hits-mid (g.D.Pmem.state c.args.device.now) (g.D.Pmem.state c.update.new.device) c.args.self c.requires.at_rest c.requires.examined.0 c.requires.examined.1 c.in-Ok.geometry c.in-Ok.ensures.ok c.in-Ok.ensures.run c.requires.hits

opened-each : (old mid new : Device) (self : Found) (rest : IsAtRest old) (today : Layout) (is-today : today ≡ opened_layout self.geometry) (run : Runs (update_operations (image_of old)) old mid) (result : Result OpenedImage Fault)
    → IfOk result (λ l. l ≡ record { geometry = today; ruling = opening_record today self.ruling (gaps_kept (opened_gaps self.ruling)); next = self.ruling.dirty; free = self.free; places = self.places })
    → OnOk result (Runs (today_operations today self.ruling mid) mid new)
    → IfOk result (λ l. (live : List LiveSlot) → Examined (image_of old) self.geometry self.ruling self.gaps self.free.items live → HasOpened old new l.geometry l.ruling l.next l.free.items live)
opened-each old mid new self rest today is-today run (Ok l) same later = λ live ex. opened-now old mid self rest live ex today is-today run new l same later
opened-each old mid new self rest today is-today run (Err fault) same later = tt

pub returns-clause-ok : goal.returns-clause-ok
returns-clause-ok g c =
    opened-each (g.D.Pmem.state c.args.device.now) (g.D.Pmem.state c.update.new.device) (g.D.Pmem.state c.open_today.new.device) c.args.self c.requires.at_rest c.in-Ok.geometry c.in-Ok.ensures.ok c.in-Ok.ensures.run
    c.open_today.result c.open_today.ensures.ok c.open_today.ensures.run

pub returns-clause-failed : goal.returns-clause-failed
returns-clause-failed g c =
    cut-now (g.D.Pmem.state c.args.device.now) (g.D.Pmem.state c.update.new.device) c.args.self c.requires.at_rest c.requires.examined.0 c.requires.examined.1 c.in-Ok.geometry c.in-Ok.ensures.ok c.in-Ok.ensures.run (g.D.Pmem.state c.open_today.new.device)
    c.open_today.result c.open_today.ensures.stopped

pub returns-clause-images : goal.returns-clause-images
returns-clause-images g c history drawn next stands =
    let old = g.D.Pmem.state c.args.device.now in
    let mid = g.D.Pmem.state c.update.new.device in
    let new = g.D.Pmem.state c.open_today.new.device in
    let update = done old mid c.args.self c.requires.at_rest c.requires.examined.0 c.requires.examined.1 c.in-Ok.geometry c.in-Ok.ensures.ok c.in-Ok.ensures.run in
    images-after old mid new (known old mid c.args.self c.requires.at_rest c.requires.examined.0 c.requires.examined.1).opens update.image update.made history drawn next stands (update.images history drawn next stands)
    (images-now old mid c.args.self c.requires.at_rest c.requires.examined.0 c.requires.examined.1 c.in-Ok.geometry c.in-Ok.ensures.ok c.in-Ok.ensures.run new c.open_today.result c.open_today.ensures.run c.open_today.ensures.stopped)

pub returns-clause-version : goal.returns-clause-version
returns-clause-version g c =
    let old = g.D.Pmem.state c.args.device.now in
    let mid = g.D.Pmem.state c.update.new.device in
    let new = g.D.Pmem.state c.open_today.new.device in
    let update = done old mid c.args.self c.requires.at_rest c.requires.examined.0 c.requires.examined.1 c.in-Ok.geometry c.in-Ok.ensures.ok c.in-Ok.ensures.run in
    version-after old mid new (known old mid c.args.self c.requires.at_rest c.requires.examined.0 c.requires.examined.1).opens update.image update.made update.first
    (images-now old mid c.args.self c.requires.at_rest c.requires.examined.0 c.requires.examined.1 c.in-Ok.geometry c.in-Ok.ensures.ok c.in-Ok.ensures.run new c.open_today.result c.open_today.ensures.run c.open_today.ensures.stopped)

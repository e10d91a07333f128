use Rattle.std.proofs.Common.{◌≡◌, ◌<◌, ◌^◌, ℕ, List, map, Bool, false, length, sym, ◌∙◌, ap, subst, arith}
use Rattle.std.specs.Prelude.{replicate}
use Rattle.base.specs.Layout.{total_words}
use Rattle.base.specs.declared.fault.Fault.TheVariants.{OutOfMemory}
use Rattle.pmem.specs.Words.{image_of}
use Rattle.recovery.specs.Slots.{free_below}
use Rattle.recovery.proofs.openings.Devices.{is, images-refused, version-refused, refusal-examined, refusal-device}
use Rattle.recovery.proofs.reads.Images.{tells-examined}
use Rattle.session_steps.specs.declared.sessions.Sessions.{Sessions}
use Rattle.session_steps.specs.Opening.{HasFound, ShowsOpened}
use Rattle.std.specs.BTreeMap.{BTreeMap}
use Rattle.base.specs.declared.key.Key.{Key}
use Rattle.index.specs.declared.entry.Entry.{Entry}
use Rattle.index.specs.Entries.{ArePlaced}
use Rattle.room.specs.Opening.{entry_of}
use Rattle.room.proofs.openings.LiveIndex.{are-placed, listed-found}
use Rattle.room.proofs.openings.Shown.{old-words, free-counted, examined-few, examined-free-now, examined-found}
use Rattle.room.proofs.opening.begin.Goals as goal

pub returns-in-Err-clause-fault : goal.returns-in-Err-clause-fault
returns-in-Err-clause-fault g c = refusal-examined (g.D.Pmem.state c.args.device.now) c.in-Err.fault c.in-Err.ensures.fault

-- a bound next to `Sync` holds wherever a thread may run, so it holds here too
pub returns-in-Err-clause-images : goal.returns-in-Err-clause-images
returns-in-Err-clause-images g c = images-refused (g.D.Pmem.state c.args.device.now) ((g.met.D.Pmem g.world.𝓛 g.world.𝓜 g.world.𝓡 ((λ s x. x), (λ x. x), (λ x. x), λ x. x)).orderly c.args.device.now) c.requires.at_rest

pub returns-in-Err-clause-version : goal.returns-in-Err-clause-version
returns-in-Err-clause-version g c = version-refused (g.D.Pmem.state c.args.device.now) ((g.met.D.Pmem g.world.𝓛 g.world.𝓜 g.world.𝓡 ((λ s x. x), (λ x. x), (λ x. x), λ x. x)).orderly c.args.device.now) c.requires.at_rest

-- ---- the free slots

pub new-requires : goal.new-requires
new-requires g c =
    let few = examined-few (g.D.Pmem.state c.args.device.now) c.in-Ok.learnt.found.geometry c.in-Ok.learnt.found.ruling c.in-Ok.learnt.found.gaps c.in-Ok.learnt.found.free.items c.in-Ok.ensures.ok.live c.in-Ok.ensures.ok.found.examined in
    subst (λ (l : List Bool). length l < 2 ^ 32) (sym c.as_slice.ensures.value) few

pub returns-in-Err-new-clause-log : goal.returns-in-Err-new-clause-log
returns-in-Err-new-clause-log g c =
    tells-examined (image_of (g.D.Pmem.state c.args.device.now)) c.in-Ok.learnt.found.geometry c.in-Ok.learnt.found.ruling c.in-Ok.learnt.found.gaps c.in-Ok.learnt.found.free.items c.in-Ok.ensures.ok.live c.in-Ok.ensures.ok.found.examined OutOfMemory

pub returns-in-Err-new-clause-images : goal.returns-in-Err-new-clause-images
returns-in-Err-new-clause-images g c = images-refused (g.D.Pmem.state c.args.device.now) ((g.met.D.Pmem g.world.𝓛 g.world.𝓜 g.world.𝓡 ((λ s x. x), (λ x. x), (λ x. x), λ x. x)).orderly c.args.device.now) c.requires.at_rest

pub returns-in-Err-new-clause-version : goal.returns-in-Err-new-clause-version
returns-in-Err-new-clause-version g c = version-refused (g.D.Pmem.state c.args.device.now) ((g.met.D.Pmem g.world.𝓛 g.world.𝓜 g.world.𝓡 ((λ s x. x), (λ x. x), (λ x. x), λ x. x)).orderly c.args.device.now) c.requires.at_rest

-- ---- the table of lines

pub returns-in-Err-new-2-clause-log : goal.returns-in-Err-new-2-clause-log
returns-in-Err-new-2-clause-log g c =
    tells-examined (image_of (g.D.Pmem.state c.args.device.now)) c.in-Ok.learnt.found.geometry c.in-Ok.learnt.found.ruling c.in-Ok.learnt.found.gaps c.in-Ok.learnt.found.free.items c.in-Ok.ensures.ok.live c.in-Ok.ensures.ok.found.examined OutOfMemory

pub returns-in-Err-new-2-clause-images : goal.returns-in-Err-new-2-clause-images
returns-in-Err-new-2-clause-images g c = images-refused (g.D.Pmem.state c.args.device.now) ((g.met.D.Pmem g.world.𝓛 g.world.𝓜 g.world.𝓡 ((λ s x. x), (λ x. x), (λ x. x), λ x. x)).orderly c.args.device.now) c.requires.at_rest

pub returns-in-Err-new-2-clause-version : goal.returns-in-Err-new-2-clause-version
returns-in-Err-new-2-clause-version g c = version-refused (g.D.Pmem.state c.args.device.now) ((g.met.D.Pmem g.world.𝓛 g.world.𝓜 g.world.𝓡 ((λ s x. x), (λ x. x), (λ x. x), λ x. x)).orderly c.args.device.now) c.requires.at_rest

-- ---- the replaced slots

pub none-requires : goal.none-requires
none-requires g c =
    let few = examined-few (g.D.Pmem.state c.args.device.now) c.in-Ok.learnt.found.geometry c.in-Ok.learnt.found.ruling c.in-Ok.learnt.found.gaps c.in-Ok.learnt.found.free.items c.in-Ok.ensures.ok.live c.in-Ok.ensures.ok.found.examined in
    let size = c.as_slice.ensures.len in
    let same = ap (λ (l : List Bool). length l) c.as_slice.ensures.value in
    omega (arith, few, size, same, c.len.ensures)

pub returns-in-Err-none-clause-log : goal.returns-in-Err-none-clause-log
returns-in-Err-none-clause-log g c =
    tells-examined (image_of (g.D.Pmem.state c.args.device.now)) c.in-Ok.learnt.found.geometry c.in-Ok.learnt.found.ruling c.in-Ok.learnt.found.gaps c.in-Ok.learnt.found.free.items c.in-Ok.ensures.ok.live c.in-Ok.ensures.ok.found.examined OutOfMemory

pub returns-in-Err-none-clause-images : goal.returns-in-Err-none-clause-images
returns-in-Err-none-clause-images g c = images-refused (g.D.Pmem.state c.args.device.now) ((g.met.D.Pmem g.world.𝓛 g.world.𝓜 g.world.𝓡 ((λ s x. x), (λ x. x), (λ x. x), λ x. x)).orderly c.args.device.now) c.requires.at_rest

pub returns-in-Err-none-clause-version : goal.returns-in-Err-none-clause-version
returns-in-Err-none-clause-version g c = version-refused (g.D.Pmem.state c.args.device.now) ((g.met.D.Pmem g.world.𝓛 g.world.𝓜 g.world.𝓡 ((λ s x. x), (λ x. x), (λ x. x), λ x. x)).orderly c.args.device.now) c.requires.at_rest

-- ---- the operations

pub open-requires-clause-examined : goal.open-requires-clause-examined
open-requires-clause-examined g c = (c.in-Ok.ensures.ok.live, c.in-Ok.ensures.ok.found.examined)

pub returns-in-Err-open-clause-fault : goal.returns-in-Err-open-clause-fault
returns-in-Err-open-clause-fault g c =
    refusal-device (g.D.Pmem.state c.args.device.now) (g.D.Pmem.state c.open.new.device) c.in-Err-open.fault c.in-Ok.learnt.found.geometry c.in-Ok.learnt.found.ruling c.in-Ok.learnt.found.gaps c.in-Ok.learnt.found.free.items c.in-Ok.ensures.ok.live c.in-Ok.ensures.ok.found.examined
    c.in-Err-open.ensures.fault c.in-Err-open.ensures.failed

pub returns-in-Err-open-clause-log : goal.returns-in-Err-open-clause-log
returns-in-Err-open-clause-log g c =
    tells-examined (image_of (g.D.Pmem.state c.args.device.now)) c.in-Ok.learnt.found.geometry c.in-Ok.learnt.found.ruling c.in-Ok.learnt.found.gaps c.in-Ok.learnt.found.free.items c.in-Ok.ensures.ok.live c.in-Ok.ensures.ok.found.examined c.in-Err-open.fault

-- ---- the index

pub of-index-requires : goal.of-index-requires
of-index-requires g c =
    let found = c.in-Ok.learnt.found in
    let entries : c.in-Ok.learnt.entries ≡ map entry_of c.in-Ok.ensures.ok.live = c.in-Ok.ensures.ok.entries_are in
    let places : c.in-Ok-open.life.places.entries ≡ found.places.entries = ap (λ (m : BTreeMap Key ℕ). m.entries) c.in-Ok-open.ensures.places in
    subst (λ (es : List (Key × Entry)). ArePlaced c.in-Ok-open.life.places.entries es) (sym entries)
    (subst (λ (ps : List (Key × ℕ)). ArePlaced ps (map entry_of c.in-Ok.ensures.ok.live)) (sym places) (are-placed c.in-Ok.ensures.ok.live found.places.entries c.in-Ok.ensures.ok.found.placed))

-- ---- the sessions

pub open-sessions-requires : goal.open-sessions-requires
open-sessions-requires g c =
    let free-now : c.in-Ok.learnt.found.free.items ≡ c.in-Ok-open.life.free.items =
    sym (examined-free-now (g.D.Pmem.state c.args.device.now) c.in-Ok.learnt.found.geometry c.in-Ok.learnt.found.ruling c.in-Ok.learnt.found.gaps c.in-Ok.learnt.found.free.items c.in-Ok.ensures.ok.live c.in-Ok.ensures.ok.found.examined
    (g.D.Pmem.state c.open.new.device) c.in-Ok-open.life.geometry c.in-Ok-open.life.ruling c.in-Ok-open.life.next c.in-Ok-open.life.free.items c.in-Ok.ensures.ok.live (c.in-Ok-open.ensures.ok c.in-Ok.ensures.ok.live c.in-Ok.ensures.ok.found.examined)) in
    let counted : length c.in-Ok.learnt.found.free.items ≡ c.in-Ok-open.life.geometry.slots =
    ap (λ (l : List Bool). length l) free-now
    ∙ free-counted (g.D.Pmem.state c.args.device.now) (g.D.Pmem.state c.open.new.device) c.in-Ok-open.life.geometry c.in-Ok-open.life.ruling c.in-Ok-open.life.next c.in-Ok-open.life.free.items c.in-Ok.ensures.ok.live (c.in-Ok-open.ensures.ok c.in-Ok.ensures.ok.live c.in-Ok.ensures.ok.found.examined) in
    let size = c.as_slice.ensures.len in
    let same = ap (λ (l : List Bool). length l) c.as_slice.ensures.value in
    let many : c.len.result ≡ c.in-Ok-open.life.geometry.slots = omega (arith, size, same, counted, c.len.ensures) in
    record {
      slots = ap (λ (l : List Bool). length l) (c.in-Ok-new.ensures ∙ c.as_slice.ensures.value) ∙ counted;
      replaced = c.in-Ok-none.ensures ∙ ap (λ (n : ℕ). replicate n false) many;
      untouched = c.in-Ok-new-2.ensures.touches;
      sized =
          let words : (g.D.Pmem.state c.args.device.now).words ≡ total_words c.in-Ok-open.life.geometry =
          old-words (g.D.Pmem.state c.args.device.now) (g.D.Pmem.state c.open.new.device) c.in-Ok-open.life.geometry c.in-Ok-open.life.ruling c.in-Ok-open.life.next c.in-Ok-open.life.free.items c.in-Ok.ensures.ok.live (c.in-Ok-open.ensures.ok c.in-Ok.ensures.ok.live c.in-Ok.ensures.ok.found.examined) in
          omega (arith, words, c.words.ensures, c.in-Ok-new-2.ensures.lines);
    }

pub returns-clause-ok : goal.returns-clause-ok
returns-clause-ok g c =
    let old = g.D.Pmem.state c.args.device.now in
    let new = g.D.Pmem.state c.open.new.device in
    let life = c.in-Ok-open.life in
    record {
      layout = life.geometry;
      ruling = life.ruling;
      next = life.next;
      free = life.free.items;
      live = c.in-Ok.ensures.ok.live;
      opened = (c.in-Ok-open.ensures.ok c.in-Ok.ensures.ok.live c.in-Ok.ensures.ok.found.examined);
      shows =
          let known = is (image_of old) c.in-Ok.learnt.found.geometry c.in-Ok.learnt.found.ruling c.in-Ok.learnt.found.gaps c.in-Ok.learnt.found.free.items c.in-Ok.ensures.ok.live c.in-Ok.ensures.ok.found.examined in
          let found : HasFound (image_of new) life.free.items life.geometry.slots c.of-index.result =
          examined-found old c.in-Ok.learnt.found.geometry c.in-Ok.learnt.found.ruling c.in-Ok.learnt.found.gaps c.in-Ok.learnt.found.free.items c.in-Ok.ensures.ok.live c.in-Ok.ensures.ok.found.examined new
          life.geometry life.ruling life.next life.free.items c.in-Ok.ensures.ok.live (c.in-Ok-open.ensures.ok c.in-Ok.ensures.ok.live c.in-Ok.ensures.ok.found.examined) (free_below (image_of old) c.in-Ok.learnt.found.geometry.slots) c.of-index.result (sym known.free_are)
          (λ laid. listed-found (image_of old) c.in-Ok.learnt.found.geometry.slots c.in-Ok.ensures.ok.live c.of-index.result known.live_are (c.of-index.ensures ∙ c.in-Ok.ensures.ok.entries_are)) in
          let slots : c.in-Ok-new.slots ≡ life.free.items = c.in-Ok-new.ensures ∙ c.as_slice.ensures.value
          ∙ sym (examined-free-now old c.in-Ok.learnt.found.geometry c.in-Ok.learnt.found.ruling c.in-Ok.learnt.found.gaps c.in-Ok.learnt.found.free.items c.in-Ok.ensures.ok.live c.in-Ok.ensures.ok.found.examined new life.geometry life.ruling life.next life.free.items c.in-Ok.ensures.ok.live (c.in-Ok-open.ensures.ok c.in-Ok.ensures.ok.live c.in-Ok.ensures.ok.found.examined)) in
          let shown : ShowsOpened c.open-sessions.result new life.geometry life.ruling life.next c.in-Ok-new.slots =
          c.open-sessions.ensures new ((g.met.D.Pmem g.world.𝓛 g.world.𝓜 g.world.𝓡 ((λ s x. x), (λ x. x), (λ x. x), λ x. x)).orderly c.open.new.device) (subst (λ (l : List Bool). HasFound (image_of new) l life.geometry.slots c.of-index.result) (sym slots) found) in
          subst (λ (s : Sessions). ShowsOpened s new life.geometry life.ruling life.next life.free.items) (sym c.new-3.ensures.sessions)
          (subst (λ (l : List Bool). ShowsOpened c.open-sessions.result new life.geometry life.ruling life.next l) slots shown);
      rests = c.new-3.ensures.rests;
      waits = c.new-3.ensures.waits;
    }

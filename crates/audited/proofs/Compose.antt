-- A history goes on by a step.
use Rattle.std.proofs.Common.{◌≡◌, ◌<◌, ◌≤◌, List, [], ◌∷◌, ◌++◌, refl, sym, subst, ◌∙◌, arith, inl, inr, Bool, true, false}
use Rattle.std.proofs.Math.Logic.{∥∥₁_map}
use Rattle.std.specs.Prelude.{Option, Contains, nat_lt, ⊤}
use Rattle.std.proofs.lemmas.Bool.Decides.{nat_tests}
use Rattle.std.proofs.lemmas.List.Elements.{Contains-append_cases}
use Rattle.base.specs.declared.fault.Fault.TheVariants.{OutOfMemory, Device as DeviceFault}
use Rattle.base.specs.declared.step.Step.{Step}
use Rattle.base.specs.declared.step.Note.{Note}
use Rattle.base.specs.declared.step.Reply.{Reply}
use Rattle.base.specs.declared.step.Reply.TheVariants.{Rows, Refused}
use Rattle.base.specs.Images.{Image}
use Rattle.base.specs.Replies.{IsRows, note_of}
use Rattle.machine.specs.Machine.{State, Hand, Cover, Stepped, StandsAt, StandsWithin, covers_at, of_hand, present}
use Rattle.machine.proofs.Runs.{memory_unchanged}
use Rattle.machine.proofs.Notes.{rows-unchanged}
use Rattle.pmem.specs.Device.{Device, IsOrderly}
use Rattle.pmem.specs.Words.{LeavesOnly, HasNoFailure}
use Rattle.pmem.proofs.Images.{leaves_refl, leaves_weaken}
use Rattle.pmem.specs.declared.device.Pmem.{Ghosts}
use Rattle.room.specs.declared.room.Room.{Room}
use Rattle.room.specs.declared.status.Status.{Status}
use Rattle.room.specs.Room.{Shows, ShowsStatus, Leads, device_of}
use Rattle.room.specs.Runs.{OpensTo, RunOf}
use Rattle.room.proofs.Runs.{of-opened, of-led, of-weaken}
use Rattle.audited.specs.Audit.{HasHistory, IsAudited, IsLastOfRun, Keeps, Stays, ChangesNothing}
use Rattle.audited.specs.declared.receipt.Receipt.{Receipt}

-- what follows from what holds of the state that an image opens as
pub opens-weaken : (image : Image) (Is Other : State → Type 0) → ((q : State) → Is q → Other q) → OpensTo image Is → OpensTo image Other
opens-weaken image Is Other weaker opens =
    record { may_open = opens.may_open; each = λ history drawn next lost stands. let s = opens.each history drawn next lost stands in (s.0, s.1, weaker s.0 s.2) }

-- a room that was just opened has the empty history
pub IsAudited-opened : {D : Type 0} {G : Ghosts D} (state : D → Device) (room : Room D G) (image : Image) (opening : Status) {entries : List (Step × Note)}
    → OpensTo image (Shows state room) → ((q : State) → Shows state room q → ShowsStatus q opening) → entries ≡ [] → IsAudited state room image opening entries
IsAudited-opened state room image opening opens status none = record {
  status = opens-weaken image (Shows state room) (λ q. ShowsStatus q opening) status opens;
  run = subst (λ (es : List (Step × Note)). RunOf image es (Shows state room)) (sym none) (of-opened state room image opens.may_open opens.each);
}

-- a history goes on by a step that is kept
pub IsAudited-step : {D : Type 0} {G : Ghosts D} (state : D → Device) (room room' : Room D G) (image : Image) (opening : Status) (entries entries' : List (Step × Note)) (step : Step) (reply : Reply) (note : Note)
    → IsAudited state room image opening entries → Leads state room room' step reply → note ≡ note_of reply → entries' ≡ entries ++ (step, note) ∷ [] → IsAudited state room' image opening entries'
IsAudited-step state room room' image opening entries entries' step reply note a leads noted added =
    record { status = a.status; run = rw (added, noted) (of-led state room room' image entries step reply a.run leads) }

-- within a step that leads from a state to itself, an image stands for what it stands for between two steps
one_of_hand : (q : State) (cover : Cover) (hand : Option Hand) → Contains (of_hand q hand ++ present q ∷ []) cover → Contains (present q ∷ of_hand q hand) cover
one_of_hand q cover a found = grind (arith)

StandsWithin-at : (q : State) (image : Image) → StandsWithin q q image → StandsAt q image
StandsWithin-at q image s =
    (s.0, elim (Contains-append_cases (covers_at q) (of_hand q q.hand ++ present q ∷ []) s.0 s.1) [ inl at ↦ at | inr then ↦ one_of_hand q s.0 q.hand then ], s.2)

-- a step that changes nothing leaves the state that was shown
pub Stays-step : {D : Type 0} {G : Ghosts D} (state : D → Device) (room room' : Room D G) (step : Step) (reply : Reply)
    → Leads state room room' step reply → ChangesNothing reply → (q : State) → Shows state room q → Stays state room room' step q
Stays-step {D} {G} state room room' step reply leads nothing q shown =
    let s = leads q shown in
    let same : s.0 ≡ q = nothing.same q s.0 step s.1.stepped in
    record {
      shows = subst (λ (m : State). Shows state room' m) same s.1.shows;
      images = leaves_weaken (StandsWithin-at q) (subst (λ (m : State). LeavesOnly (device_of state room) (device_of state room') (StandsWithin q m)) same s.1.effect.images);
      no_failure = not_failed s.1.effect.failure.no_fewer (λ less. nothing.works (s.1.effect.failure.shown less));
      operations = s.1.effect.operations;
    }
  where
    not_failed : (device_of state room).failures ≤ (device_of state room').failures → ((device_of state room).failures < (device_of state room').failures → ⊥)
        → HasNoFailure (device_of state room) (device_of state room')
    not_failed no_fewer none = by (nat_lt (device_of state room).failures (device_of state room').failures) refl
      where
        by : (b : Bool) → nat_lt (device_of state room).failures (device_of state room').failures ≡ b → (device_of state room').failures ≡ (device_of state room).failures
        by true is = absurd (none (grind (arith, nat_tests)))
        by false is = let over : (device_of state room').failures ≤ (device_of state room).failures = grind (arith, nat_tests) in omega (arith, over, no_fewer)

-- without a step a room stays as it is
pub Stays-same : {D : Type 0} {G : Ghosts D} (state : D → Device) (room : Room D G) (step : Step) → IsOrderly (device_of state room)
    → (q : State) → Shows state room q → Stays state room room step q
Stays-same state room step orderly q shown = record {
  shows = shown;
  images = leaves_refl _ (StandsAt q) orderly shown.stands;
  no_failure = refl;
  operations = omega arith;
}

-- a lack of memory changes nothing
pub memory_changes_nothing : (reply : Reply) → reply ≡ Refused OutOfMemory → ChangesNothing reply
memory_changes_nothing reply is = record {
  works = λ told. not_both (sym is ∙ told);
  same = λ q q' step s. memory_unchanged q step q' (subst (λ (r : Reply). Stepped q step r q') is s);
}
  where
    not_both : ◌≡◌ {A = Reply} (Refused OutOfMemory) (Refused DeviceFault) → ⊥
    not_both e = cc

-- nor does a step that lists rows
pub rows_change_nothing : (reply : Reply) → IsRows reply → ChangesNothing reply
rows_change_nothing reply (rows, is) = record {
  works = λ told. not_both (sym is ∙ told);
  same = λ q q' step s. rows-unchanged q q' step rows (subst (λ (r : Reply). Stepped q step r q') is s);
}
  where
    not_both : Rows rows ≡ Refused DeviceFault → ⊥
    not_both e = cc

-- if nothing is kept, the history stays one of the room
pub IsAudited-stays : {D : Type 0} {G : Ghosts D} (state : D → Device) (room room' : Room D G) (image : Image) (opening : Status) (entries entries' : List (Step × Note)) (step : Step)
    → IsAudited state room image opening entries → ((q : State) → Shows state room q → Stays state room room' step q) → entries' ≡ entries
    → IsAudited state room' image opening entries'
IsAudited-stays state room room' image opening entries entries' step a stays same =
    record { status = a.status; run = rw same (of-weaken image entries (Shows state room) (Shows state room') (λ q shows. (stays q shows).shows) a.run) }

-- the entry kept last ends a run
pub last-of-run : {D : Type 0} {G : Ghosts D} (state : D → Device) (room : Room D G) (opening : Status) (old entries : List (Step × Note)) (step : Step) (reply : Reply) (receipt : Receipt)
    → ∥ HasHistory state room opening entries ∥₁ → Keeps old entries step reply receipt → ∥ IsLastOfRun receipt ∥₁
last-of-run state room opening old entries step reply receipt has k =
    ∥∥₁_map has (λ a.
    record { image = a.0; before = old; length_is = sym k.place; run = rw (k.asked, k.note, ← k.entries) (of-weaken a.0 entries (Shows state room) (λ q. ⊤) (λ q shows. tt) a.1.run) })

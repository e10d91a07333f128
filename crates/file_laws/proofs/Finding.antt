-- What may be found of such a device is an image of an earlier moment with the gates of now.
use Rattle.std.proofs.Common.{◌≡◌, ◌⊎◌, inl, inr, ℕ, Bool, ◌+◌, ◌*◌, ◌%◌, ◌<◌, true, false, ◌&&◌, List, [], ◌∷◌, ◌==◌, refl, sym, ◌∙◌, ap, subst, arith, length, nat_eq, nat_le, nat_lt}
use Rattle.std.specs.Prelude.{slice_index, map}
use Rattle.std.proofs.Math.Logic.{∥∥₁_map}
use Rattle.std.proofs.lemmas.Bool.{and_from, cases_lt, or_left, or_right, eq-eqb, lt-ltb}
use Rattle.std.proofs.lemmas.List.FromFn.{get_or-map-range_with_len}
use Rattle.base.specs.Layout.{Layout, place_start}
use Rattle.base.specs.Commits.{Commit}
use Rattle.base.specs.Fresh.{fresh_image}
use Rattle.base.specs.Images.{Image, is_formatted, superblock_word}
use Rattle.base.specs.declared.step.Step.{Step}
use Rattle.base.specs.declared.step.Reply.{Reply}
use Rattle.machine.specs.Machine.{State, Cover, Run, closed, covers_at, covers_closing, final, StandsAsOne, StandsUnder, StandsAt, StandsWithin, StandsAlong, StandsClosing, StandsClosed}
use Rattle.machine.proofs.openings.States.{whole-of}
use Rattle.pmem.specs.Device.{Device, LeftAt, MayLeave, MightHaveLeft, IsOrderly}
use Rattle.machine.specs.Openings.{OpensAs, StandsOpening}
use Rattle.pmem.specs.Words.{Survives, Continues, IsAtRest, LeavesOnly, image_of, value_of}
use Rattle.pmem.specs.declared.device.Pmem as pmem
use Rattle.pmem.proofs.AtRest.{left_at_rest}
use Rattle.pmem.proofs.Images.{continues_refl, grows, left_before, left_now, left_still, may_leave_now}
use Rattle.device_invariant.proofs.reads.Images.{leaves-image}
use Rattle.journal.specs.declared.images.Images.{Ghosts}
use Rattle.pmem_file.specs.Devices.{state_of}
use Rattle.pmem_file.specs.Journaled.{is_gate}
use Rattle.pmem_file.specs.Orderly.{orderly_of}
use Rattle.pmem_file.specs.declared.journaled.JournaledPmem.{JournaledPmem}
use Rattle.pmem_file.proofs.Named.{names-own}
use Rattle.room.specs.declared.room.Room.{Room}
use Rattle.recovery.specs.Fresh.{HasFormattedNew, IsFormatting}
use Rattle.room.specs.Room.{Leads, Shows, StepsTo, device_of}
use Rattle.room.specs.Runs.{InEach}
use Rattle.room_logs.specs.Logs.{HasLog}
use Rattle.session_laws.specs.Images.{StandsInLog}
use Rattle.session_laws.specs.Logs.{state_after, made, changes}
use Rattle.session_laws.proofs.Images.{along-log, failed-run}
use Rattle.session_laws.proofs.Logs.{run-log, silent-go}
use Rattle.room.proofs.Runs.{run-none}
use Rattle.file_laws.specs.Found.{IsFound, ComesFrom, OpensFirst, RunsSince, covers_within}
use Rattle.file_laws.proofs.FoundRuns.{found-now, found-within, found-closing, found-closed, comes-opened, comes-formatted, since-now, since-within, since-closing}

-- the superblock's words, and the first word of each place
head : (places word : ℕ) → word < 8 → is_gate places word ≡ true
head places word low = or_left (nat_lt word 8) ((word % 32 == 8) && nat_lt word (8 + 32 * places)) (lt-ltb word 8 low)

first : (places place : ℕ) → place < places → is_gate places (place_start place) ≡ true
first places place h = grind (arith, or_right, and_from, eq-eqb, lt-ltb)

-- what a device left that began at 0 is what it might have left by any later moment
pub left-since : (device later : Device) (since start : ℕ) (image : Image) → start ≡ 0 → Continues device later → MightHaveLeft device since image → MightHaveLeft later start image
left-since device later since start image zero_is continues might = grind (arith, grows)

-- before a moment it is what was left up to then, and else what was left since
pub left-either : (P Q : Image → Type 0) (first mid last : Device) (image : Image) → LeavesOnly first mid P → LeavesOnly mid last Q → MightHaveLeft last first.clock image → P image ⊎ Q image
left-either P Q first mid last image before after might = grind (arith, cases_lt might.moment mid.clock, left_before)

-- what a device left, and whose gates survive, is found at that moment of what it becomes
pub is-found : (layout : Layout) (places : ℕ) (device later : Device) (since : ℕ) (image : Image) → places ≡ layout.places → IsOrderly device → Continues device later
    → ((word : ℕ) → is_gate places word ≡ true → word < device.words → Survives device word (slice_index image word))
    → MightHaveLeft device since image → IsFound layout later 0 device.clock image
is-found layout places device later since image same orderly continues gates might = grind (arith, left_still, head, first)

module _ {I P : Type 0} {H : Ghosts I P} where
  -- what is known of an image that may be found of the device
  pub record Found (device : JournaledPmem I P H) (since : ℕ) (image : Image) : Type 0 where
    pub left : ∥ MightHaveLeft (state_of device) since image ∥₁
    pub gates : (word : ℕ) → is_gate device.places word ≡ true → word < (state_of device).words → Survives (state_of device) word (slice_index image word)

  pub orderly : (device : JournaledPmem I P H) → IsOrderly (state_of device)
  orderly device = orderly_of (state_of device) device.words.items device.shown

  -- a room comes from the beginning of the device that it was opened on
  begins : {G : pmem.Ghosts (JournaledPmem I P H)} (room : Room (JournaledPmem I P H) G) (since : ℕ) (q : State) → since ≡ 0 → Shows state_of room q → ComesFrom (device_of state_of room) since q
      → RunsSince state_of room room 0 [] [] q []
  begins room since q zero_is shows comes = record {
    shows = shows;
    comes = subst (λ (n : ℕ). ComesFrom (device_of state_of room) n q) zero_is comes;
    runs = run-none state_of room q (orderly room.device) shows;
  }

  pub begins-opened : {G : pmem.Ghosts (JournaledPmem I P H)} (device : JournaledPmem I P H) (room : Room (JournaledPmem I P H) G) (history : List Commit) (next : ℕ) (lost : List ℕ) (q : State)
      → (state_of device).clock ≡ 0 → OpensAs (image_of (state_of device)) history lost q → Shows state_of room q
      → LeavesOnly (state_of device) (device_of state_of room) (StandsOpening (image_of (state_of device)) history next) → RunsSince state_of room room 0 [] [] q []
  begins-opened device room history next lost q zero_is opens shows leaves =
      begins room (state_of device).clock q zero_is shows (comes-opened (state_of device) (device_of state_of room) history next lost q opens leaves)

  -- and was formatted before
  pub begins-formatted : {G : pmem.Ghosts (JournaledPmem I P H)} (unformatted device : JournaledPmem I P H) (room : Room (JournaledPmem I P H) G) (layout : Layout) (history : List Commit) (next : ℕ) (lost : List ℕ) (q : State)
      → (state_of unformatted).clock ≡ 0 → ((image : Image) → MayLeave (state_of unformatted) image → is_formatted image ≡ false)
      → LeavesOnly (state_of unformatted) (state_of device) (IsFormatting (state_of unformatted) layout) → image_of (state_of device) ≡ fresh_image layout
      → OpensAs (image_of (state_of device)) history lost q → Shows state_of room q
      → LeavesOnly (state_of device) (device_of state_of room) (StandsOpening (image_of (state_of device)) history next) → RunsSince state_of room room 0 [] [] q []
  begins-formatted unformatted device room layout history next lost q zero_is nothing formats fresh opens shows leaves =
      begins room (state_of unformatted).clock q zero_is shows
      (comes-formatted (state_of unformatted) (state_of device) (device_of state_of room) layout history lost q nothing formats fresh opens leaves.continues
      (comes-opened (state_of device) (device_of state_of room) history next lost q opens leaves))

  -- ---- it has the places of the layout

  -- an image that stands for the state names them
  named-under : (device : JournaledPmem I P H) (q : State) (cover : Cover) → StandsUnder q cover (image_of (state_of device)) → device.places ≡ q.layout.places
  named-under device q cover under =
      sym (names-own device (whole-of (image_of (state_of device)) under.stands.sound).formatted) ∙ ap (λ (l : Layout). l.places) under.laid_out

  named-one : (device : JournaledPmem I P H) (q : State) (covers : List Cover) → StandsAsOne q covers (image_of (state_of device)) → device.places ≡ q.layout.places
  named-one device q covers (cover, is, under) = named-under device q cover under

  -- what it holds last is left at its moment, also by what it becomes
  last-left : (device : JournaledPmem I P H) (later : Device) → Continues (state_of device) later → LeftAt later (state_of device).clock (image_of (state_of device))
  last-left device later continues = left_still {old = state_of device} (state_of device).clock continues (omega arith) (left_now (orderly device) (leaves-image (state_of device) (orderly device)))

  last-meanwhile : (device : JournaledPmem I P H) (before later : Device) → Continues before (state_of device) → Continues (state_of device) later → MightHaveLeft later before.clock (image_of (state_of device))
  last-meanwhile device before later from to = record { moment = (state_of device).clock; from = from.later; to = to.later; left = last-left device later to }

  -- of what the device becomes it is found at that moment
  found-of : (device : JournaledPmem I P H) (later : Device) (q : State) (since : ℕ) (image : Image) → device.places ≡ q.layout.places → Continues (state_of device) later → Found device since image
      → ∥ IsFound q.layout later 0 (state_of device).clock image ∥₁
  found-of device later q since image places continues found =
      ∥∥₁_map found.left (λ might. is-found q.layout device.places (state_of device) later since image places (orderly device) continues found.gates might)

  module _ {G : pmem.Ghosts (JournaledPmem I P H)} (first next last : Room (JournaledPmem I P H) G) (found : JournaledPmem I P H) (since : ℕ) (steps : List Step) (replies : List Reply) (q : State) (states : List State) (image : Image) where
    pub found-between : RunsSince state_of first last 0 steps replies q states → state_of found ≡ device_of state_of last → Found found since image → ∥ StandsAt (final q states) image ∥₁
    found-between runs same is =
        let left = subst (λ (d : Device). MayLeave d (image_of (state_of found))) same (leaves-image (state_of found) (orderly found)) in
        let one = runs.runs.shows.stands (image_of (state_of found)) left in
        let places = named-one found (final q states) (covers_at (final q states)) one in
        ∥∥₁_map (found-of found (state_of found) (final q states) since image places (continues_refl (state_of found)) is) (λ one.
        found-now state_of first last 0 steps replies q states image (subst IsOrderly same (orderly found)) runs.shows runs.comes runs.runs
        (subst (λ (d : Device). IsFound (final q states).layout d 0 d.clock image) same one))

    pub found-meanwhile : (step : Step) (reply : Reply) (q' : State) → RunsSince state_of first next 0 steps replies q states → StepsTo state_of next last step reply (final q states) q'
        → Continues (device_of state_of next) (state_of found) → Continues (state_of found) (device_of state_of last) → Found found since image → ∥ StandsWithin (final q states) q' image ∥₁
    found-meanwhile step reply q' runs one before after is =
        let stands = one.effect.images.each (image_of (state_of found)) (last-meanwhile found (device_of state_of next) (device_of state_of last) before after) in
        let places = named-one found (final q states) (covers_within (final q states) q') stands in
        ∥∥₁_map (found-of found (device_of state_of last) (final q states) since image places after is) (λ here.
        found-within state_of first next last 0 (state_of found).clock steps replies step reply q states q' image runs.shows runs.comes runs.runs one before.later after.later here)

    module _ (device : JournaledPmem I P H) (runs : RunsSince state_of first last 0 steps replies q states) (leaves : LeavesOnly (device_of state_of last) (state_of device) (StandsClosing (final q states))) where
      pub found-in-close : Continues (device_of state_of last) (state_of found) → Continues (state_of found) (state_of device) → Found found since image → ∥ StandsClosing (final q states) image ∥₁
      found-in-close before after is =
          let stands = leaves.each (image_of (state_of found)) (last-meanwhile found (device_of state_of last) (state_of device) before after) in
          let places = named-one found (final q states) (covers_closing (final q states)) stands in
          ∥∥₁_map (found-of found (state_of device) (final q states) since image places after is) (λ here.
          found-closing state_of first last (state_of device) 0 (state_of found).clock steps replies q states image runs.shows runs.comes runs.runs leaves before.later after.later here)

      pub found-after-close : ((other : Image) → MayLeave (state_of device) other → StandsClosed (final q states) other) → Found device since image → ∥ StandsClosed (final q states) image ∥₁
      found-after-close stands is =
          let places = named-under device (final q states) (closed (final q states)) (stands (image_of (state_of device)) (leaves-image (state_of device) (orderly device))) in
          ∥∥₁_map (found-of device (state_of device) (final q states) since image places (continues_refl (state_of device)) is) (λ here.
          found-closed state_of first last (state_of device) 0 steps replies q states image (orderly device) runs.shows runs.comes runs.runs leaves stands here)

  -- ---- of a log

  module _ {G : pmem.Ghosts (JournaledPmem I P H)} (room : Room (JournaledPmem I P H) G) (found : JournaledPmem I P H) (opened : Device) (log : List Step) (since : ℕ) (image : Image) (only : OpensFirst opened)
      (has : HasLog state_of opened room log) where
    -- the run ends in the state that the log leads to, or in that one with a failed device
    ends-at : (start : State) (states : List State) → Run start (map (λ one. one.0) has.taken) (map (λ one. one.1) has.taken) states
        → (final start states ≡ state_after start log) ⊎ (final start states ≡ record (state_after start log) { failed = true })
    ends-at start states run =
        let leads = run-log start has.taken states run in
        let same : state_after start log ≡ state_after start (made has.taken) = ap (state_after start) has.log_is ∙ (silent-go start (made has.taken) leads.0).1 in
        subst (λ (q : State). (final start states ≡ q) ⊎ (final start states ≡ record q { failed = true })) (sym same) leads.1

    in-log : (q end : State) (taken : List (Step × Reply)) (states : List State) → (end ≡ q) ⊎ (end ≡ record q { failed = true }) → Run end (map (λ one. one.0) taken) (map (λ one. one.1) taken) states → StandsAlong end states image
        → StandsInLog q (changes taken) image
    in-log q end taken states (inl is) run along = subst (λ (p : State). StandsInLog p (changes taken) image) is (along-log end taken states image run along)
    in-log q end taken states (inr is) run along =
        failed-run q taken states image (subst (λ (p : State). Run p (map (λ one. one.0) taken) (map (λ one. one.1) taken) states) is run) (subst (λ (p : State). StandsAlong p states image) is along)

    in-closing : (q end : State) → (end ≡ q) ⊎ (end ≡ record q { failed = true }) → StandsClosing end image → StandsClosing q image
    in-closing q end (inl is) stands = subst (λ (p : State). StandsClosing p image) is stands
    in-closing q end (inr is) stands =
        let (cover, has, under) = subst (λ (p : State). StandsClosing p image) is stands in
        (cover, has, record { stands = under.stands; ruled = under.ruled; laid_out = under.laid_out })

    pub logged-now : state_of found ≡ device_of state_of room → Found found since image → ∥ InEach (image_of opened) (λ history next start. StandsInLog (state_after start log) [] image) ∥₁
    logged-now same is = ∥∥₁_map is.left (λ might history drawn next lost stands.
        let (start, opens, on) = has.run.each history drawn next lost stands in
        let q = final start on.states in
        let left = subst (λ (d : Device). MayLeave d (image_of (state_of found))) same (leaves-image (state_of found) (orderly found)) in
        let places = named-one found q (covers_at q) (on.is.stands (image_of (state_of found)) left) in
        let here = is-found q.layout found.places (state_of found) (state_of found) since image places (orderly found) (continues_refl (state_of found)) is.gates might in
        let now = since-now opened history next lost start opens only (device_of state_of room) (map (λ one. one.0) has.taken) (map (λ one. one.1) has.taken) on.states on.run on.images image (subst IsOrderly same (orderly found)) on.is.stands
        (subst (λ (d : Device). IsFound q.layout d 0 d.clock image) same here) in
        (start, opens, in-log (state_after start log) q [] [] (ends-at start on.states on.run) tt now))

    pub logged-within : (last : Room (JournaledPmem I P H) G) (step : Step) (reply : Reply) → Leads state_of room last step reply → Continues (device_of state_of room) (state_of found)
        → Continues (state_of found) (device_of state_of last) → Found found since image → ∥ InEach (image_of opened) (λ history next start. StandsInLog (state_after start log) (changes ((step, reply) ∷ [])) image) ∥₁
    logged-within last step reply leads before after is = ∥∥₁_map is.left (λ might history drawn next lost stands.
        let (start, opens, on) = has.run.each history drawn next lost stands in
        let q = final start on.states in
        let (q', one) = leads q on.is in
        let within = one.effect.images.each (image_of (state_of found)) (last-meanwhile found (device_of state_of room) (device_of state_of last) before after) in
        let places = named-one found q (covers_within q q') within in
        let here = is-found q.layout found.places (state_of found) (device_of state_of last) since image places (orderly found) after is.gates might in
        let stood = since-within opened history next lost start opens only (device_of state_of room) (map (λ one. one.0) has.taken) (map (λ one. one.1) has.taken) on.states on.run on.images (device_of state_of last) step reply q'
        (state_of found).clock image one.stepped one.effect.images before.later after.later here in
        (start, opens, in-log (state_after start log) q ((step, reply) ∷ []) (q' ∷ []) (ends-at start on.states on.run) (one.stepped, tt) (inl stood)))

    pub logged-closing : (device : Device) → ((q : State) → Shows state_of room q → LeavesOnly (device_of state_of room) device (StandsClosing q)) → Continues (device_of state_of room) (state_of found) → Continues (state_of found) device
        → Found found since image → ∥ InEach (image_of opened) (λ history next start. StandsClosing (state_after start log) image) ∥₁
    logged-closing device closes before after is = ∥∥₁_map is.left (λ might history drawn next lost stands.
        let (start, opens, on) = has.run.each history drawn next lost stands in
        let q = final start on.states in
        let leaves = closes q on.is in
        let places = named-one found q (covers_closing q) (leaves.each (image_of (state_of found)) (last-meanwhile found (device_of state_of room) device before after)) in
        let here = is-found q.layout found.places (state_of found) device since image places (orderly found) after is.gates might in
        let stood = since-closing opened history next lost start opens only (device_of state_of room) (map (λ one. one.0) has.taken) (map (λ one. one.1) has.taken) on.states on.run on.images device
        (state_of found).clock image leaves before.later after.later here in
        (start, opens, in-closing (state_after start log) q (ends-at start on.states on.run) stood))

-- ---- what is opened first

-- a device at rest at the beginning of its life
pub first-opened : (device : Device) → IsOrderly device → device.clock ≡ 0 → IsAtRest device → OpensFirst device
first-opened device orderly zero_is rests image might =
    let now : might.moment ≡ device.clock = omega (arith, zero_is, might.to) in
    inr (left_at_rest device rests image (may_leave_now orderly (subst (λ (m : ℕ). LeftAt device m image) now might.left)))

-- one that was formatted since, and before held nothing
pub first-formatted : (unformatted device : Device) (layout : Layout) → unformatted.clock ≡ 0 → ((image : Image) → MayLeave unformatted image → is_formatted image ≡ false)
    → LeavesOnly unformatted device (IsFormatting unformatted layout) → image_of device ≡ fresh_image layout → OpensFirst device
first-formatted unformatted device layout zero_is nothing leaves fresh image might =
    elim (leaves.each image (record { moment = might.moment; from = omega (arith, zero_is); to = might.to; left = might.left })) [
      | inl was ↦ inl (nothing image was)
      | inr (inl no_image) ↦ inl no_image
      | inr (inr is) ↦ inr (is ∙ sym fresh)
    ]

-- an image whose first word is 0 isn't formatted
unformatted : (image : Image) → slice_index image 0 ≡ 0 → is_formatted image ≡ false
unformatted image is = ap (λ (x : ℕ). nat_le 8 (length image) && nat_eq x superblock_word) is ∙ by (nat_le 8 (length image))
  where
    by : (b : Bool) → b && false ≡ false
    by true = refl
    by false = refl

-- one that was formatted if nothing was kept in it, and otherwise stayed as it was
pub first-made : (old new : Device) (layout : Layout) (is_made : Bool) → IsOrderly old → old.clock ≡ 0 → IsAtRest old → HasFormattedNew layout old new is_made → LeavesOnly old new (IsFormatting old layout) → OpensFirst new
first-made old new layout true orderly zero_is rests (some, zero_word, fresh) leaves =
    first-formatted old new layout zero_is (λ image left. unformatted image (ap (λ (i : Image). slice_index i 0) (left_at_rest old rests image left) ∙ (get_or-map-range_with_len (value_of old) 0 old.words 0 0 0 some (omega arith) ∙ zero_word))) leaves fresh
first-made old new layout false orderly zero_is rests (kept, same) leaves = subst OpensFirst (sym same) (first-opened old orderly zero_is rests)

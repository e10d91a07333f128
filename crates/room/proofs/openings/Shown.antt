-- What opening gives is shown.
use Rattle.std.proofs.Common.{◌≡◌, ℕ, zero, suc, ◌∷◌, ◌+◌, ◌*◌, ◌<◌, ◌≤◌, Bool, true, false, cond, not, ◌&&◌, List, [], length, get_or, map, refl, sym, ◌∙◌, ap, subst, nat_lt, ◌^◌, arith}
use Rattle.std.specs.Prelude.{slice_get, Option, Some, None, is_none, is_some}
use Rattle.std.specs.List.{range_with_len, Contains}
use Rattle.std.proofs.lemmas.Bool.{lt-ltb, false≢true}
use Rattle.std.proofs.lemmas.Option.{slice_get-get_or}
use Rattle.std.proofs.lemmas.List.FromFn.{length-map-range_with_len, get_or-map-range_with_len}
use Rattle.base.specs.declared.key.Key.{Key}
use Rattle.base.specs.declared.gap.Gap.{Gap}
use Rattle.base.specs.Commits.{Commit}
use Rattle.base.specs.Layout.{Layout, slot_start, slot_words, total_words}
use Rattle.base.specs.Records.{Record, opened_gaps}
use Rattle.base.specs.Images.{Image, IsSound, layout_of, ruling, is_shown, IsRuledBy}
use Rattle.base.specs.Stands.{Stands}
use Rattle.machine.specs.Openings.{OpensAs, IsOpenedGaps, opened as opened-state, opened_slots, updated}
use Rattle.machine.specs.Laws.{OpensUpdated}
use Rattle.machine.specs.Machine.{State}
use Rattle.base.proofs.Alike.{HasRowsOf, key-same, misfit-same}
use Rattle.base.proofs.Histories.{history_in, sound-stands, opens-sound}
use Rattle.machine.proofs.openings.States.{opened-rows, same_opened, whole-of, size-of, covers-of}
use Rattle.base.proofs.Layouts.{few_slots, line-words}
use Rattle.machine.proofs.openings.Updates.{updated-open}
use Rattle.pmem.specs.Device.{Device}
use Rattle.pmem.specs.Words.{image_of, HasNoFailure, IsSettledAt}
use Rattle.pmem.specs.declared.device.Pmem.{Ghosts}
use Rattle.log_area.specs.Rulings.{HoldsRecord}
use Rattle.log_area.proofs.Heads.{image_size, image_word}
use Rattle.log_area.proofs.Rulings.{log_within}
use Rattle.group_commit.specs.Cycles.{Cycling}
use Rattle.index.specs.declared.entry.Entry.{Entry}
use Rattle.index.specs.Entries.{entry_at}
use Rattle.state_invariant.specs.Kept.{origin_of}
use Rattle.state_invariant.specs.Shown.{word_of}
use Rattle.device_invariant.specs.Laws.{RestsOn}
use Rattle.device_invariant.specs.Upholds.{Upholds}
use Rattle.device_invariant.proofs.openings.Upheld.{opened-upholds}
use Rattle.device_invariant.proofs.Words.{word-within}
use Rattle.session_steps.specs.Opening.{Begins, HasFound}
use Rattle.recovery.specs.Opened.{HasOpened, Examined, free_in}
use Rattle.recovery.specs.Slots.{free_below}
use Rattle.recovery.proofs.openings.Devices.{is}
use Rattle.recovery.specs.declared.rows.LiveSlot.{LiveSlot}
use Rattle.room.specs.declared.volatile.VolatileState.{VolatileState}
use Rattle.room.specs.declared.room.Room.{Room}
use Rattle.room.specs.Committing.{HoldsCycle, Shows as CommitterShows}
use Rattle.room.specs.Steps.{ShowsAs}
use Rattle.room.specs.Opening.{AreFew, HasBegun}
use Rattle.room.proofs.openings.LiveIndex.{live-in}
use Rattle.room.specs.Room.{Shows}
use Rattle.room.proofs.Rooms.{shown-stands, shown-clear}

above-log : (a : Layout) (slot w : ℕ) → 8 + 32 * a.places ≤ word_of a slot w
above-log a slot w = grind (arith)

none-held : {X : Type 0} (b c : Bool) (x : X) → b ≡ true → not c ≡ is_none (cond (b && c) (Some x) None)
none-held a c x e = grind (arith, false≢true)

-- ---- the index was made before the operations

-- the index of an image is that of the image with the current version
found-updated : (before : Image) → OpensUpdated before → (free : List Bool) (slots : ℕ) (index : List (Key × Entry)) → HasFound before free slots index → HasFound (updated before) free slots index
found-updated before up free slots index found = record {
  nothing_else = found.nothing_else;
  newest = λ key slot is. let at = found.newest key slot is in (at.0, at.1, up.keys slot ∙ at.2);
  each = λ slot lt taken fits.
      let known = found.each slot lt taken (sym (up.misfits slot) ∙ fits) in
      subst (λ (key : Key). is_some (entry_at index key).newest ≡ true) (sym (up.keys slot)) known;
}

-- the index of an image is that of one with the same rows
found-alike : (before image : Image) (free : List Bool) (index : List (Key × Entry)) → HasRowsOf before image → 8 ≤ slot_words (layout_of before).version
    → HasFound before free (layout_of before).slots index → HasFound image free (layout_of before).slots index
found-alike before image free index like wide found = record {
  nothing_else = found.nothing_else;
  newest = λ key slot is. let at = found.newest key slot is in (at.0, at.1, key-same before image like slot at.0 wide ∙ at.2);
  each = λ slot lt taken fits.
      let known = found.each slot lt taken (sym (misfit-same before image like slot lt wide) ∙ fits) in
      subst (λ (key : Key). is_some (entry_at index key).newest ≡ true) (sym (key-same before image like slot lt wide)) known;
}

-- the same slots are free
free-updated : (before : Image) → OpensUpdated before → free_in (updated before) ≡ free_in before
free-updated before up =
    ap (λ (l : Layout). map (λ slot. not (is_shown (ruling (updated before)) (updated before) slot)) (range_with_len 0 l.slots)) up.laid_out
    ∙ ap (λ (x : Record). map (λ slot. not (is_shown x (updated before) slot)) (range_with_len 0 (layout_of before).slots)) up.ruled
    ∙ (λ i. map (λ slot. not (up.shown (ruling before) slot i)) (range_with_len 0 (layout_of before).slots))

module _ (old new : Device) (layout : Layout) (r : Record) (next : ℕ) (free : List Bool) (live : List LiveSlot) (opened : HasOpened old new layout r next free live) where
  -- the image with the current version
  abbrev image : Image
  image = updated (image_of old)

  up : OpensUpdated (image_of old)
  up = updated-open (image_of old) opened.opens

  sound : IsSound image
  sound = opens-sound image up.opens

  layout_is : layout ≡ layout_of image
  layout_is = opened.layout_is ∙ sym up.laid_out

  pub old-words : old.words ≡ total_words layout
  old-words = sym (image_size old) ∙ sym up.size ∙ (size-of image (whole-of image sound).geometry).1 ∙ ap total_words (sym layout_is)

  new-words : new.words ≡ old.words
  new-words = opened.holds.stands.size ∙ sym old-words

  -- ---- the words of the opened device

  -- the words of the slots that are neither begins nor ends are as they were
  word-now : (word : ℕ) → 8 + 32 * layout.places ≤ word → word < old.words → get_or (image_of new) word 0 ≡ get_or (opened_slots image) word 0
  word-now word past within = image_word new word (omega (arith, within, new-words)) ∙ (opened.slots word past within).holds ∙ sym (up.slots word (omega (arith, past)))

  low-now : (word : ℕ) → word < 8 → get_or (image_of new) word 0 ≡ get_or image word 0
  low-now word low =
      let lt : word < old.words = omega (arith, low, old-words, log_within layout) in
      image_word new word (omega (arith, lt, new-words)) ∙ (opened.superblock word low).holds

  layout-now : layout_of (image_of new) ≡ layout_of image
  layout-now = λ i. record { version = low-now 1 (omega arith) i; slots = low-now 2 (omega arith) i; places = low-now 3 (omega arith) i; window = low-now 4 (omega arith) i }

  slot-now : (slot w : ℕ) → slot < layout.slots → w < slot_words layout.version → get_or (image_of new) (word_of layout slot w) 0 ≡ get_or (opened_slots image) (word_of layout slot w) 0
  slot-now slot w lt inside = word-now (word_of layout slot w) (above-log layout slot w) (omega (arith, old-words, word-within layout slot w lt inside))

  rows-now : HasRowsOf image (image_of new)
  rows-now = record {
    size = image_size new ∙ new-words ∙ sym (image_size old) ∙ sym up.size;
    laid_out = layout-now;
    same = λ slot w lt low high.
        let rows = opened-rows image in
        ap (λ (l : Layout). get_or (image_of new) (slot_start l slot + w) 0) (layout-now ∙ sym layout_is)
        ∙ slot-now slot w (subst (λ (l : Layout). slot < l.slots) (sym layout_is) lt) (subst (λ (l : Layout). w < slot_words l.version) (sym layout_is) high)
        ∙ ap (λ (l : Layout). get_or (opened_slots image) (slot_start l slot + w) 0) (layout_is ∙ sym rows.laid_out) ∙ rows.same slot w lt low high;
  }

  wide : 8 ≤ slot_words (layout_of image).version
  wide = line-words (layout_of image).version

  -- so the index that was made before is that of the opened device
  pub found-now : (was : List Bool) (slots : ℕ) (index : List (Key × Entry)) → was ≡ free → slots ≡ layout.slots → HasFound (image_of old) was slots index → HasFound (image_of new) free layout.slots index
  found-now was slots index same-free same-slots found =
      subst (λ (n : ℕ). HasFound (image_of new) free n index) (ap (λ (l : Layout). l.slots) (sym layout_is))
      (found-alike image (image_of new) free index rows-now wide
      (subst (λ (n : ℕ). HasFound image free n index) (same-slots ∙ ap (λ (l : Layout). l.slots) layout_is)
      (found-updated (image_of old) up free slots index (subst (λ (f : List Bool). HasFound (image_of old) f slots index) same-free found))))

  -- free are the slots that aren't live
  free-is : free ≡ free_in image
  free-is = opened.free_is ∙ sym (free-updated (image_of old) up)

  -- each slot is free or not
  pub free-counted : length free ≡ layout.slots
  free-counted = grind (arith, free-is, length-map-range_with_len, layout_is)

  -- no operation failed
  pub no-failure : HasNoFailure old new
  no-failure = let made = opened.made.failures_made in omega (arith, made)

  -- ---- the state that it opens as

  module _ (history drawn : List Commit) (before : ℕ) (lost : List ℕ) (stood : Stands (image_of old) history drawn before) where
    stands : Stands image history drawn before
    stands = up.stands history drawn before stood

    abbrev pub state_opened : State
    state_opened = opened-state image history lost (opened_gaps (ruling image))

    covers : IsOpenedGaps (ruling image) (opened_gaps (ruling image))
    covers = covers-of image stands.sound

    updated-as : OpensAs image history lost state_opened
    updated-as = (opened_gaps (ruling image), covers, refl)

    pub opens-as : OpensAs (image_of old) history lost state_opened
    opens-as = (opened_gaps (ruling image), subst (λ (x : Record). IsOpenedGaps x (opened_gaps (ruling image))) up.ruled covers, up.opened_as history lost (opened_gaps (ruling image)))

    same-layout : state_opened.layout ≡ layout_of image
    same-layout = sym (ap (λ (q : State). q.layout) (same_opened image history lost (opened_gaps (ruling image)) stands.sound up.up_to_date covers))

    layout-is : state_opened.layout ≡ layout
    layout-is = same-layout ∙ sym layout_is

    ruling-is : state_opened.ruling ≡ r
    ruling-is = grind (arith, same-layout, up) steps 800000

    free-each : (slot : ℕ) → slot < layout.slots → slice_get free slot ≡ Some (is_none (state_opened.held slot))
    free-each slot h =
        let lt : slot < (layout_of image).slots = subst (λ (l : Layout). slot < l.slots) layout_is h in
        let within : slot < length (free_in image) = omega (arith, lt, length-map-range_with_len (λ s. not (is_shown (ruling image) image s)) 0 (layout_of image).slots) in
        ap (λ (l : List Bool). slice_get l slot) free-is
        ∙ slice_get-get_or (free_in image) slot false within
        ∙ ap (λ (b : Bool). Some b) (get_or-map-range_with_len (λ s. not (is_shown (ruling image) image s)) 0 (layout_of image).slots slot slot false lt (omega arith)
        ∙ none-held (nat_lt slot (layout_of image).slots) (is_shown (ruling image) image slot) _ (lt-ltb slot (layout_of image).slots lt))

    begins : Begins layout r next free state_opened
    begins = record {
      layout_is = layout-is;
      ruling_is = ruling-is;
      next_is = ap (λ (x : Record). x.dirty) up.ruled ∙ sym opened.next_is;
      none_drawn = refl;
      none_open = λ n. refl;
      unswept = refl;
      first = refl;
      free_are = free-each;
    }

    rests : RestsOn layout new (opened_slots image)
    rests = record {
      each = λ slot w lt inside.
          subst (λ (n : ℕ). IsSettledAt new (word_of layout slot w) n) (sym (up.slots (word_of layout slot w) (omega (arith, above-log layout slot w))))
          (opened.slots (word_of layout slot w) (above-log layout slot w) (omega (arith, old-words, word-within layout slot w lt inside)));
    }

    upholds : Upholds (origin_of state_opened) state_opened new
    upholds =
        opened-upholds image history drawn before lost state_opened new up.opens up.up_to_date stands updated-as
        (subst (λ (l : Layout). RestsOn l new (opened_slots image)) (sym layout-is) rests)
        (subst (λ (l : Layout). HoldsRecord l state_opened.ruling new) (sym layout-is) (subst (λ (x : Record). HoldsRecord layout x new) (sym ruling-is) opened.holds))

-- ---- what was examined

-- the numbers of the live slots are few
pub are-few : (image : Image) (layout : Layout) (r : Record) (gaps : Option (List Gap)) (free : List Bool) (live : List LiveSlot) → Examined image layout r gaps free live → AreFew live
are-few image layout r gaps free live ex = λ k d lt.
    let known = is image layout r gaps free live ex in
    let few = few_slots (layout_of image) (size-of image known.rules.geometry).0 in
    let same = ap (λ (l : Layout). l.slots) known.rules.laid_out in
    let here = live-in image layout.slots (get_or live k d) (subst (λ (l : List LiveSlot). Contains l (get_or live k d)) known.live_are (k, lt, get_or-same live k d lt)) in
    omega (arith, few, same, here.0)
  where
    get_or-same : (live : List LiveSlot) (k : ℕ) (d : LiveSlot) → k < length live → get_or live k (get_or live k d) ≡ get_or live k d
    get_or-same [] k d lt = absurd (omega (arith, lt))
    get_or-same (x ∷ live) zero d lt = refl
    get_or-same (x ∷ live) (suc k) d lt = get_or-same live k d (omega (arith, lt))

module _ (old : Device) (layout : Layout) (r : Record) (gaps : Option (List Gap)) (free : List Bool) (live : List LiveSlot) (ex : Examined (image_of old) layout r gaps free live) where
  rules : IsRuledBy layout r (image_of old)
  rules = (is (image_of old) layout r gaps free live ex).rules

  pub examined-free : free ≡ free_in (image_of old)
  unfolding free_below
  examined-free =
      (is (image_of old) layout r gaps free live ex).free_are
      ∙ ap (λ (l : Layout). map (λ slot. not (is_shown (ruling (image_of old)) (image_of old) slot)) (range_with_len 0 l.slots)) (sym rules.laid_out)

  pub examined-counted : length free ≡ layout.slots
  examined-counted =
      ap (λ (l : List Bool). length l) examined-free
      ∙ length-map-range_with_len (λ slot. not (is_shown (ruling (image_of old)) (image_of old) slot)) 0 (layout_of (image_of old)).slots ∙ ap (λ (l : Layout). l.slots) rules.laid_out

  -- there are few
  pub examined-few : length free < 2 ^ 32
  examined-few =
      omega (arith, few_slots (layout_of (image_of old)) (size-of (image_of old) rules.geometry).0, examined-counted, ap (λ (l : Layout). l.slots) rules.laid_out)

  -- the slots that were found free are free in the opened device
  pub examined-free-now : (new : Device) (layout' : Layout) (r' : Record) (next : ℕ) (free' : List Bool) (live' : List LiveSlot) → HasOpened old new layout' r' next free' live' → free' ≡ free
  examined-free-now new layout' r' next free' live' opened = opened.free_is ∙ sym examined-free

  -- the index of what was examined is that of the opened device
  pub examined-found : (new : Device) (layout' : Layout) (r' : Record) (next : ℕ) (free' : List Bool) (live' : List LiveSlot) → HasOpened old new layout' r' next free' live' → (was : List Bool) (index : List (Key × Entry)) → was ≡ free
      → (layout_of (image_of old) ≡ layout → HasFound (image_of old) was layout.slots index) → HasFound (image_of new) free' layout'.slots index
  examined-found new layout' r' next free' live' opened was index same found =
      found-now old new layout' r' next free' live' opened was layout.slots index (same ∙ examined-free ∙ sym opened.free_is) (ap (λ (l : Layout). l.slots) (sym rules.laid_out) ∙ ap (λ (l : Layout). l.slots) (sym opened.layout_is)) (found rules.laid_out)

-- ---- what is shown then

-- the committer shows the state that the image opens as
pub begun-shows : (old new : Device) (c : VolatileState) (begun : HasBegun old new c) (history drawn : List Commit) (before : ℕ) (lost : List ℕ) → Stands (image_of old) history drawn before
    → (q : State) × OpensAs (image_of old) history lost q × CommitterShows c new q × (q.failed ≡ false)
begun-shows old new c begun history drawn before lost stands =
    let q : State = state_opened old new begun.layout begun.ruling begun.next begun.free begun.live begun.opened history drawn before lost stands in (
      q,
      opens-as old new begun.layout begun.ruling begun.next begun.free begun.live begun.opened history drawn before lost stands,
      record {
        shown = begun.shows q (begins old new begun.layout begun.ruling begun.next begun.free begun.live begun.opened history drawn before lost stands)
            (upholds old new begun.layout begun.ruling begun.next begun.free begun.live begun.opened history drawn before lost stands);
        cycle_is = subst (λ (cycle : Option Cycling). HoldsCycle q c.sessions.drawn.commits None cycle) (sym begun.rests) tt;
      },
      refl,
    )

-- so it shows some state: each image that opens stands for some history
pub begun-shows-some : (old new : Device) (c : VolatileState) (begun : HasBegun old new c) → ∥ ShowsAs c new false ∥₁
begun-shows-some old new c begun =
    let shown = begun-shows old new c begun (history_in (image_of old)) [] (ruling (image_of old)).dirty [] (sound-stands (image_of old) (opens-sound (image_of old) begun.opened.opens)) in ∣ (shown.0, shown.2, shown.3) ∣₁

-- a room with that volatile state shows it
pub opened-shows : {D : Type 0} {G : Ghosts D} (state : D → Device) (old : Device) (room : Room D G) → HasBegun old (state room.device) room.volatile → room.failed ≡ false
    → (history drawn : List Commit) (before : ℕ) (lost : List ℕ) → Stands (image_of old) history drawn before → (q : State) × OpensAs (image_of old) history lost q × Shows state room q
opened-shows state old room begun works history drawn before lost stands =
    let shown = begun-shows old (state room.device) room.volatile begun history drawn before lost stands in (
      shown.0,
      shown.1,
      record { stands = shown-stands room.volatile (state room.device) shown.0 shown.2; swept = shown-clear room.volatile (state room.device) shown.0 shown.2; agrees = record { shown = shown.2; failed = shown.3 ∙ sym works } },
    )

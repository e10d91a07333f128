-- What opening makes of a device.
use Rattle.std.proofs.Common.{◌≡◌, ◌⊎◌, inl, inr, ℕ, ◌+◌, ◌-◌, ◌*◌, ◌^◌, ◌<◌, ◌≤◌, Bool, true, false, cond, not, ◌||◌, ◌&&◌, List, [], length, get_or, map, refl, sym, ◌∙◌, ap, subst, arith, nat_le}
use Rattle.std.specs.Prelude.{Option, None}
use Rattle.std.specs.List.{range_with_len}
use Rattle.std.proofs.lemmas.Bool.{and_parts, leb-true, leb-false, cases_lt, or_parts}
use Rattle.std.proofs.lemmas.List.{get_or_past}
use Rattle.std.proofs.lemmas.List.Elements.{All-append}
use Rattle.base.specs.declared.gap.Gap.{Gap}
use Rattle.base.specs.declared.fault.Fault.{Fault}
use Rattle.base.specs.declared.fault.Fault.TheVariants.{TimestampsOut, OutOfMemory, Device as DeviceFault}
use Rattle.base.specs.Search.{some_if}
use Rattle.base.specs.Commits.{Commit}
use Rattle.base.specs.Layout.{Layout, total_words, is_known_version, is_in_limits}
use Rattle.base.specs.Records.{Record, opened_gaps}
use Rattle.base.specs.Images.{Image, IsSound, damage, layout_of, ruling, is_shown, opening_fault, is_bad_slot, is_near_limit, needs_sweep, IsRuledBy}
use Rattle.base.specs.Stands.{Stands}
use Rattle.machine.specs.Openings.{IsOpenedGaps, opening_record, gaps_kept, swept, opened_slots, record_counts, StandsOpening}
use Rattle.base.proofs.Histories.{no_bad_slot, opens-sound}
use Rattle.base.proofs.Search.{first_below-nowhere}
use Rattle.machine.proofs.openings.Records.{formed-kept}
use Rattle.machine.proofs.openings.States.{covers-of}
use Rattle.machine.proofs.openings.Sweeps.{unmarked-low, swept-unmarked}
use Rattle.pmem.specs.Device.{Device, IsOrderly}
use Rattle.pmem.specs.Trace.{Operation, Runs, StopsWithin}
use Rattle.pmem.specs.Words.{value_of, IsAtRest, LeavesOnly, image_of, Spares, HasOldWords}
use Rattle.pmem.proofs.Images.{leaves_refl, leaves_trans, leaves_weaken, leaves_both}
use Rattle.pmem.proofs.AtRest.{left_at_rest}
use Rattle.pmem.proofs.Lists.{StoresOnly, StoreOnly, store-weaker, IsInTwo, runs-in_two, stops-in_two, orderly-run, makes-run, count_of, count_of-append, one_store, one_flush, one_fence, one_failure-stopped, few-stopped}
use Rattle.pmem.proofs.Spares.{spares_fewer, spares_trans}
use Rattle.pmem.proofs.OperationEffects.{only-settled}
use Rattle.pmem.proofs.Changes.{settled_at-shrinks}
use Rattle.log_area.specs.Rulings.{IsRecordFor}
use Rattle.log_area.specs.Writings.{IsNextRecord, IsRuledByEither, IsOutside, begun, record_operations}
use Rattle.log_area.proofs.Rulings.{place_below, log_within}
use Rattle.log_area.proofs.AtRest.{laid, fits_image, rest_holds}
use Rattle.log_area.proofs.Heads.{laid_size, laid_limits, image_size, image_word}
use Rattle.log_area.proofs.Whole.{record-holds, record-images, record-images_stopped, record-only, record-spares, record-spares_stopped}
use Rattle.recovery.specs.Gaps.{few_gaps, MayRule}
use Rattle.recovery.specs.Slots.{IsUnder, IsSlotsFault, free_below, bad_below}
use Rattle.recovery.specs.Live.{live_below}
use Rattle.recovery.specs.Read.{IsLogRefusal}
use Rattle.recovery.specs.Sweeping.{is_hit}
use Rattle.recovery.specs.Opened.{HasSlotsOf, Refuses, IsExamined, Examined, HasOpenedToday, IsCutBefore, IsCutShort, IsRefusal, IsUpdatedFirst, MakesAll, gap_operations, today_operations, total}
use Rattle.recovery.specs.declared.rows.LiveSlot.{LiveSlot}
use Rattle.base.proofs.WellFormed.{WellFormed, well_formed-parts}
use Rattle.base.proofs.Options.{or-none, some_if-none}
use Rattle.recovery.proofs.sweeps.Slots.{AreKept, are_kept, kept_stopped, gaps-only, gap-counts}
use Rattle.recovery.proofs.openings.Images.{stands-opening, record_after}
use Rattle.recovery.proofs.sweeps.Crashes.{images-sweeping, ruled-swept}
use Rattle.recovery.proofs.openings.Faults.{fault-log, fault-slots, fault-limit, no-damage, no-fault}

-- ---- parts of the answer

opening-near : (image : Image) → opening_fault image ≡ None → is_near_limit image ≡ false
opening-near image none = some_if-none (is_near_limit image) TimestampsOut (or-none (some_if (is_near_limit image) TimestampsOut) _ (or-none (damage image) _ none).1).0

-- ---- a refused examination

pub refuses-read : (image : Image) (fault : Fault) → IsLogRefusal image fault → Refuses image fault
unfolding Refuses
refuses-read image fault (inl log) = inl (fault-log image fault log)
refuses-read image fault (inr memory) = inr memory.1

module _ (layout : Layout) (r : Record) (image : Image) (rules : IsRuledBy layout r image) where
  layout-good : is_in_limits layout ≡ true
  layout-good = laid_limits layout image (laid layout r image rules)

  pub may-rule : MayRule r
  may-rule = (layout.version, (fits_image layout r image rules).well_formed)

  pub formed-parts : WellFormed layout.version r
  formed-parts = well_formed-parts layout.version r (fits_image layout r image rules).well_formed

  pub under : IsUnder layout r image
  unfolding IsUnder
  under = (rules.laid_out, rules.by_record)

  pub window-small : layout.window ≤ 1024
  window-small = grind (arith, and_parts, layout-good, leb-true) steps 800000

  pub refuses-slots : (fault : Fault) → IsSlotsFault layout image fault → Refuses image fault
  unfolding Refuses IsSlotsFault bad_below
  refuses-slots fault (inl memory) = inr memory
  refuses-slots fault (inr bad) = inl (fault-slots layout r image rules fault bad)

  undamaged : bad_below image layout.slots ≡ None → damage image ≡ None
  unfolding bad_below
  undamaged none = no-damage layout r image rules none

  pub refuses-limit : bad_below image layout.slots ≡ None → (nat_le (2 ^ 62) (r.dirty + 2 * layout.window) || nat_le (2 ^ 62) (r.gate + 1)) ≡ true → Refuses image TimestampsOut
  unfolding Refuses
  refuses-limit none near = inl (fault-limit layout r image rules (undamaged none) near)

  pub examined : bad_below image layout.slots ≡ None → (nat_le (2 ^ 62) (r.dirty + 2 * layout.window) || nat_le (2 ^ 62) (r.gate + 1)) ≡ false
      → (gaps : Option (List Gap)) → gaps ≡ few_gaps r → (free : List Bool) → free ≡ free_below image layout.slots → (live : List LiveSlot) → live ≡ live_below image layout.slots → Examined image layout r gaps free live
  unfolding Examined
  examined none near gaps gaps-are free free-are live live-are = grind (arith, no-fault, undamaged) steps 800000

  pub refuses-memory : Refuses image OutOfMemory
  unfolding Refuses
  refuses-memory = inr refl

-- ---- an image that opens

module _ (image : Image) (layout : Layout) (r : Record) (gaps : Option (List Gap)) (free : List Bool) (live : List LiveSlot) (ex : Examined image layout r gaps free live) where
  pub is : IsExamined image layout r gaps free live
  unfolding Examined
  is = ex

  near : (nat_le (2 ^ 62) (r.dirty + 2 * layout.window) ≡ false) × (nat_le (2 ^ 62) (r.gate + 1) ≡ false)
  near = or_parts _ _ ((λ i. nat_le (2 ^ 62) ((sym is.rules.by_record i).dirty + 2 * (sym is.rules.laid_out i).window) || nat_le (2 ^ 62) ((sym is.rules.by_record i).gate + 1)) ∙ opening-near image is.opens)

  pub some-dirty : 1 ≤ r.dirty
  some-dirty = let rising : r.persisted < r.dirty = (formed-parts layout r image is.rules).below in omega (arith, rising)

  pub limit : r.dirty + 2 * layout.window < 2 ^ 62
  limit = leb-false (2 ^ 62) (r.dirty + 2 * layout.window) near.0

  pub gate-limit : r.gate + 1 < 2 ^ 62
  gate-limit = leb-false (2 ^ 62) (r.gate + 1) near.1

  pub size : length image ≡ total_words layout
  size = laid_size layout image (laid layout r image is.rules)

  sound : IsSound image
  sound = opens-sound image is.opens

  pub none-bad : bad_below image layout.slots ≡ None
  unfolding bad_below
  none-bad = first_below-nowhere layout.slots (is_bad_slot (ruling image) image) (λ slot lt. no_bad_slot image sound slot (subst (λ (l : Layout). slot < l.slots) (sym is.rules.laid_out) lt))

  some-window : 0 < layout.window
  some-window =
      let a = and_parts (is_known_version layout.version) _ (layout-good layout r image is.rules) in
      grind (arith)

  covers : IsOpenedGaps r (opened_gaps r)
  covers = subst (λ (x : Record). IsOpenedGaps x (opened_gaps x)) is.rules.by_record (covers-of image sound)

  -- the record that is written then
  pub target-is : (target : Record) (left : List Gap) → left ≡ gaps_kept (opened_gaps r) → target ≡ record { gate = r.gate + 1; persisted = r.dirty - 1; dirty = r.dirty + layout.window; gaps = left; longs = [] }
      → target ≡ opening_record layout r (gaps_kept (opened_gaps r))
  target-is target left left-is made = made ∙ (λ i. record { gate = r.gate + 1; persisted = r.dirty - 1; dirty = r.dirty + layout.window; gaps = left-is i; longs = [] })

  opened-fits : IsRecordFor layout (opening_record layout r (gaps_kept (opened_gaps r)))
  opened-fits = record {
    limits = layout-good layout r image is.rules;
    well_formed = formed-kept layout.version layout r (opened_gaps r) (fits_image layout r image is.rules).well_formed covers some-window (omega (arith, limit));
    numbered = omega arith;
    in_range = gate-limit;
  }

  pub record-is : opening_record layout r (gaps_kept (opened_gaps r)) ≡ record_after image
  record-is = λ i. opening_record (sym is.rules.laid_out i) (sym is.rules.by_record i) (gaps_kept (opened_gaps (sym is.rules.by_record i)))

-- ---- the device, first with its gaps swept and then with the record written

module _ (old : Device) (rest : IsAtRest old) (layout : Layout) (r : Record) (gaps : Option (List Gap)) (free : List Bool) (live : List LiveSlot) (ex : Examined (image_of old) layout r gaps free live) where
  rules : IsRuledBy layout r (image_of old)
  rules = (is (image_of old) layout r gaps free live ex).rules

  old-words : old.words ≡ total_words layout
  old-words = sym (image_size old) ∙ size (image_of old) layout r gaps free live ex

  abbrev after : Record
  after = opening_record layout r (gaps_kept (opened_gaps r))

  module _ {mid : Device} (orderly : IsOrderly mid) (kept : AreKept layout r old mid) where
    same-words : mid.words ≡ old.words
    same-words = kept.kept.images.continues.same_words

    rules-mid : IsRuledBy layout r (image_of mid)
    rules-mid = ruled-swept layout r old rest rules mid kept.rest same-words kept.kept (λ word lt. orderly.some word lt)

    follows : IsNextRecord layout r after mid
    follows = record { holds = rest_holds layout r mid kept.rest rules-mid; next = refl; fits = opened-fits (image_of old) layout r gaps free live ex }

    -- the words of the superblock and of the slots are outside the place
    outside : (word : ℕ) → 8 + 32 * layout.places ≤ word → IsOutside (begun layout after) word
    outside word le = inr (omega (arith, le, place_below layout after (layout-good layout r (image_of old) rules)))

    slots-same : (image : Image) → HasOldWords (IsOutside (begun layout after)) mid image → IsRuledByEither layout r after image → HasSlotsOf (opened_slots (image_of old)) image
    slots-same image words either = subst (λ (i : Image). HasSlotsOf i image) kept.image (record {
      size = sizes either ∙ sym (image_size mid ∙ same-words ∙ old-words);
      laid_out = laid either ∙ sym rules-mid.laid_out;
      same = λ word le. same word (subst (λ (n : ℕ). 8 + 32 * n ≤ word) (ap (λ (l : Layout). l.places) rules-mid.laid_out) le) (cases_lt word mid.words);
    })
      where
        sizes : IsRuledByEither layout r after image → length image ≡ total_words layout
        sizes (inl a) = laid_size layout image (laid layout r image a)
        sizes (inr b) = laid_size layout image (laid layout after image b)

        laid : IsRuledByEither layout r after image → layout_of image ≡ layout
        laid (inl a) = a.laid_out
        laid (inr b) = b.laid_out

        same : (word : ℕ) → 8 + 32 * layout.places ≤ word → (word < mid.words) ⊎ (mid.words ≤ word) → get_or image word 0 ≡ get_or (image_of mid) word 0
        same word le (inl lt) = only-settled mid word (get_or image word 0) (kept.rest word lt) (words word lt (outside word le)) ∙ sym (image_word mid word lt)
        same word le (inr ge) =
            get_or_past image word 0 (omega (arith, ge, same-words, old-words, sizes either)) ∙ sym (get_or_past (image_of mid) word 0 (omega (arith, ge, image_size mid)))

    -- either record, in the words of the image before
    either-before : (image : Image) → IsRuledByEither layout r after image → IsRuledBy (layout_of (image_of old)) (ruling (image_of old)) image ⊎ IsRuledBy (layout_of (image_of old)) (record_after (image_of old)) image
    either-before image (inl a) = inl (subst (λ (l : Layout). IsRuledBy l (ruling (image_of old)) image) (sym rules.laid_out) (subst (λ (x : Record). IsRuledBy layout x image) (sym rules.by_record) a))
    either-before image (inr b) =
        inr (subst (λ (l : Layout). IsRuledBy l (record_after (image_of old)) image) (sym rules.laid_out) (subst (λ (x : Record). IsRuledBy layout x image) (record-is (image_of old) layout r gaps free live ex) b))

    -- whatever a crash leaves while the record is written
    images-meanwhile : {new : Device} → LeavesOnly mid new (IsRuledByEither layout r after) → Spares (IsOutside (begun layout after)) mid new
        → (history drawn : List Commit) (next : ℕ) → Stands (image_of old) history drawn next → LeavesOnly old new (StandsOpening (image_of old) history next)
    images-meanwhile ruled spares history drawn next s =
        let step : (image : Image) → (IsRuledByEither layout r after image × HasOldWords (IsOutside (begun layout after)) mid image) → StandsOpening (image_of old) history next image =
        λ image both. stands-opening (image_of old) image history drawn next s (slots-same image both.1 both.0) (either-before image both.0) in
        leaves_trans (images-sweeping layout r old rest rules mid kept.kept history drawn next s) (leaves_weaken step (leaves_both ruled spares.left))

    value-swept : (word : ℕ) → word < old.words → value_of mid word ≡ get_or (opened_slots (image_of old)) word 0
    value-swept word lt = sym (image_word mid word (omega (arith, lt, same-words))) ∙ ap (λ (i : Image). get_or i word 0) kept.image

    low-word : (word : ℕ) → word < 8 → value_of mid word ≡ value_of old word
    low-word word low =
        let lt : word < old.words = omega (arith, low, old-words, log_within layout) in
        value-swept word lt ∙ by (needs_sweep (image_of old)) ∙ image_word old word lt
      where
        by : (b : Bool) → get_or (cond b (swept (image_of old)) (image_of old)) word 0 ≡ get_or (image_of old) word 0
        by true = swept-unmarked (image_of old) word (unmarked-low (layout_of (image_of old)) word (omega (arith, low)))
        by false = refl

    has-opened : {new : Device} → Runs (record_operations layout after) mid new → MakesAll (record_counts (image_of old)) old new → HasOpenedToday old new layout after r.dirty free live
    unfolding free_below
    has-opened run made =
        let e = is (image_of old) layout r gaps free live ex in
        let spares = record-spares layout after run in
        record {
          opens = e.opens;
          layout_is = sym rules.laid_out;
          record_is = record-is (image_of old) layout r gaps free live ex;
          next_is = ap (λ (x : Record). x.dirty) (sym rules.by_record);
          free_is = e.free_are ∙ ap (λ (n : ℕ). map (λ slot. not (is_shown (ruling (image_of old)) (image_of old) slot)) (range_with_len 0 n)) (ap (λ (l : Layout). l.slots) (sym rules.laid_out));
          live_is = e.live_are ∙ ap (λ (l : Layout). live_below (image_of old) l.slots) (sym rules.laid_out);
          holds = record-holds layout after r follows run;
          left_alone = spares_trans
              (spares_fewer (λ word alone. sym (λ i. needs_sweep (image_of old) && is_hit (rules.laid_out i) (rules.by_record i) old word) ∙ alone.1) kept.others)
              (spares_fewer (λ word alone. alone.0) spares);
          superblock = λ word lt.
              settled_at-shrinks (spares.kept word (inl (omega (arith, lt)))) (record { settled = kept.rest word (omega (arith, lt, same-words, old-words, log_within layout)); holds = low-word word lt });
          slots = λ word le lt.
              settled_at-shrinks (spares.kept word (outside word le)) (record { settled = kept.rest word (omega (arith, lt, same-words)); holds = value-swept word lt });
          made = made;
        }

  -- ---- the whole list

  today-only : StoreOnly (λ word x. Unit {0}) (today_operations layout r old)
  today-only =
      All-append (StoresOnly (λ word x. Unit {0})) (gap_operations layout r old) (record_operations layout after)
      (gaps-only layout r old) (store-weaker (λ word x inside. tt) (record_operations layout after) (record-only layout after))

  today-count : (one : Operation → ℕ) → count_of one (today_operations layout r old) ≡ count_of one (gap_operations layout r old) + count_of one (record_operations layout after)
  today-count one = count_of-append one (gap_operations layout r old) (record_operations layout after)

  module _ {new : Device} (run : Runs (today_operations layout r old) old new) where
    parts : IsInTwo (gap_operations layout r old) (record_operations layout after) old new
    parts = runs-in_two (gap_operations layout r old) (record_operations layout after) run

    pub today-images : (history drawn : List Commit) (next : ℕ) → Stands (image_of old) history drawn next → LeavesOnly old new (StandsOpening (image_of old) history next)
    today-images =
        let orderly = orderly-run parts.first in
        let kept = are_kept layout r rules rest parts.first in
        images-meanwhile orderly kept (record-images layout after r (follows orderly kept) parts.then) (record-spares layout after parts.then)

    pub today-opened : HasOpenedToday old new layout after r.dirty free live
    today-opened =
        let made = makes-run (λ word x. Unit {0}) today-only run in
        let counts = gap-counts layout r old rules in
        has-opened (orderly-run parts.first) (are_kept layout r rules rest parts.first) parts.then (record {
          stores_made = omega (arith, made.stores_made, today-count one_store, counts.0);
          flushes_made = omega (arith, made.flushes_made, today-count one_flush, counts.1);
          fences_made = omega (arith, made.fences_made, today-count one_fence, counts.2);
          failures_made = made.failures_made;
        })

  -- if it stops
  module _ {new : Device} (stop : StopsWithin (today_operations layout r old) old new) where
    pub today-images_stopped : (history drawn : List Commit) (next : ℕ) → Stands (image_of old) history drawn next → LeavesOnly old new (StandsOpening (image_of old) history next)
    today-images_stopped = by (stops-in_two (gap_operations layout r old) (record_operations layout after) stop)
      where
        by : StopsWithin (gap_operations layout r old) old new ⊎ ((mid : Device) × Runs (gap_operations layout r old) old mid × StopsWithin (record_operations layout after) mid new)
            → (history drawn : List Commit) (next : ℕ) → Stands (image_of old) history drawn next → LeavesOnly old new (StandsOpening (image_of old) history next)
        by (inl stops) = images-sweeping layout r old rest rules new (kept_stopped layout r rules stops)
        by (inr (mid, run, stops)) =
            let orderly = orderly-run run in
            let kept = are_kept layout r rules rest run in
            images-meanwhile orderly kept (record-images_stopped layout after r (follows orderly kept) stops) (record-spares_stopped layout after stops)

    pub today-cut : IsCutBefore (total (record_counts (image_of old))) old new
    today-cut =
        let counts = gap-counts layout r old rules in
        record {
          failed = let one = one_failure-stopped (λ word x. Unit {0}) today-only stop in omega (arith, one);
          few = omega (arith, few-stopped (λ word x. Unit {0}) today-only stop, today-count one_store, today-count one_flush, today-count one_fence, counts.0, counts.1, counts.2);
        }

-- a refusal leaves the device as it was
pub images-refused : (device : Device) → IsOrderly device → IsAtRest device → (history drawn : List Commit) (next : ℕ) → Stands (image_of device) history drawn next
    → LeavesOnly device device (StandsOpening (image_of device) history next)
images-refused device orderly rest history drawn next s =
    leaves_refl device (StandsOpening (image_of device) history next) orderly (λ image may.
    subst (λ (i : Image). StandsOpening (image_of device) history next i) (sym (left_at_rest device rest image may))
    (record { stands = record { sound = s.sound; tables = s.tables; covered = s.covered; left_out = refl; reserved = s.reserved }; ruled = inl refl; laid_out = inl refl }))

-- and so the version too
pub version-refused : (device : Device) → IsOrderly device → IsAtRest device → LeavesOnly device device (IsUpdatedFirst (image_of device))
version-refused device orderly rest = leaves_refl device (IsUpdatedFirst (image_of device)) orderly (λ image may. inr (left_at_rest device rest image may))

pub refusal-examined : (device : Device) (fault : Fault) → Refuses (image_of device) fault → IsRefusal (opening_fault (image_of device)) device device fault
unfolding Refuses
refusal-examined device fault refused = inl (refused, refl)

pub refusal-device : (old new : Device) (fault : Fault) (layout : Layout) (r : Record) (gaps : Option (List Gap)) (free : List Bool) (live : List LiveSlot) → Examined (image_of old) layout r gaps free live → fault ≡ DeviceFault → IsCutShort old new
    → IsRefusal (opening_fault (image_of old)) old new fault
refusal-device old new fault layout r gaps free live ex is-device more = inr ((is (image_of old) layout r gaps free live ex).opens, is-device, more)

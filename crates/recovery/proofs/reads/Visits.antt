-- Visiting the slots one after another.
use Rattle.std.proofs.Common.{◌≡◌, ◌⊎◌, inl, inr, ℕ, ◌+◌, ◌<◌, ◌≤◌, Bool, true, false, cond, not, ◌&&◌, ◌||◌, [], ◌∷◌, ◌++◌, refl, sym, ◌∙◌, ap, subst, arith, add-one, nat_le, ◌^◌, length, get_or, lit<}
use Rattle.std.specs.Prelude.{Option, Some, None, is_some}
use Rattle.std.specs.Option.{option_or, option_map}
use Rattle.std.specs.BTreeMap.{is_at}
use Rattle.std.proofs.lemmas.Bool.{cases_lt, le-leb, lt-leb}
use Rattle.std.proofs.lemmas.List.{get_or_past}
use Rattle.std.proofs.lemmas.List.FromFn.{map-range_with_len_more, length-map-range_with_len, get_or-map-range_with_len}
use Rattle.base.specs.declared.key.Key.{Key}
use Rattle.base.specs.declared.fault.Fault.{Fault}
use Rattle.base.specs.declared.fault.Fault.TheVariants.{Damaged, OutOfMemory}
use Rattle.base.specs.Keys.{key_eq}
use Rattle.base.specs.Layout.{Layout, slot_start, slot_words, total_words, used_words}
use Rattle.base.specs.Records.{Record, is_committed}
use Rattle.base.specs.Search.{first_below}
use Rattle.base.specs.Images.{Image, layout_of, ruling, slot_word, begin_of, end_of, key_of, row_of, is_ahead, is_shown, is_misfit, is_bad_slot, is_second}
use Rattle.base.proofs.Layouts.{line-words, slot_within, used-words}
use Rattle.base.proofs.KeyOrder.{is_at-key}
use Rattle.base.proofs.Search.{first_below-found}
use Rattle.pmem.specs.Device.{Device, IsOrderly}
use Rattle.pmem.specs.Words.{value_of, image_of}
use Rattle.version_slot.specs.declared.words.Slot.{Slot}
use Rattle.version_slot.specs.declared.words.Version.{Version}
use Rattle.version_slot.specs.Words.{Fits, IsVersion, IsSlot, slot_at}
use Rattle.version_slot.proofs.ImageSlots.{version_of, holds_version, well_formed, key_is, row_is_of}
use Rattle.recovery.specs.declared.slots.SlotContent.TheVariants.{Bad, Live, Free}
use Rattle.recovery.specs.Slots.{IsUnder, HasKeys, IsVisitFault, IsSlotsFault, found_in, free_below, bad_below, is_bad, is_free, key_cmp}

-- ---- one slot

-- what a slot that isn't live shows
pub found-free : (image : Image) (slot : ℕ) → Free ≡ found_in image slot → (is_free image slot ≡ true) × (is_bad image slot ≡ false)
unfolding found_in is_free is_bad
found-free image slot found = by (is_ahead (ruling image) image slot) (is_shown (ruling image) image slot) (is_misfit image slot) found
  where
    by : (ahead shown ill : Bool) → Free ≡ cond ahead Bad (cond shown (cond ill Bad (Live (key_of image slot))) Free)
        → (not shown ≡ true) × ((ahead || (shown && (ill || is_second (ruling image) image slot))) ≡ false)
    by true shown ill found = absurd (cc found)
    by false true true found = absurd (cc found)
    by false true false found = absurd (cc found)
    by false false ill found = (refl, refl)

pub found-live : (image : Image) (slot : ℕ) (key : Key) → Live key ≡ found_in image slot
    → (is_free image slot ≡ false) × (is_shown (ruling image) image slot ≡ true) × (key ≡ key_of image slot) × (is_bad image slot ≡ is_second (ruling image) image slot)
unfolding found_in is_free is_bad
found-live image slot key found = by (is_ahead (ruling image) image slot) (is_shown (ruling image) image slot) (is_misfit image slot) found
  where
    by : (ahead shown ill : Bool) → Live key ≡ cond ahead Bad (cond shown (cond ill Bad (Live (key_of image slot))) Free)
        → (not shown ≡ false) × (shown ≡ true) × (key ≡ key_of image slot) × ((ahead || (shown && (ill || is_second (ruling image) image slot))) ≡ is_second (ruling image) image slot)
    by true shown ill found = absurd (cc found)
    by false true true found = absurd (cc found)
    by false true false found = (refl, refl, cc found, refl)
    by false false ill found = absurd (cc found)

pub found-bad : (image : Image) (slot : ℕ) → Bad ≡ found_in image slot → is_bad image slot ≡ true
unfolding found_in is_bad
found-bad image slot found = by (is_ahead (ruling image) image slot) (is_shown (ruling image) image slot) (is_misfit image slot) found
  where
    by : (ahead shown ill : Bool) → Bad ≡ cond ahead Bad (cond shown (cond ill Bad (Live (key_of image slot))) Free)
        → (ahead || (shown && (ill || is_second (ruling image) image slot))) ≡ true
    by true shown ill found = refl
    by false true true found = refl
    by false true false found = absurd (cc found)
    by false false ill found = absurd (cc found)

-- ---- the keys seen

step-some : (o : Option ℕ) (b : Bool) (n : ℕ) → is_some (option_or o (cond b (Some n) None)) ≡ (is_some o || b)
step-some a b n = grind (arith)

pub keys-none : (image : Image) (has : Key → Bool) → ((key : Key) → has key ≡ false) → HasKeys image 0 has
unfolding HasKeys
keys-none image has none key = none key

pub keys-free : (image : Image) (slot : ℕ) (has : Key → Bool) → is_free image slot ≡ true → HasKeys image slot has → HasKeys image (slot + 1) has
unfolding HasKeys is_free
keys-free image slot has free keys key =
    keys key
    ∙ sym (ap (λ (n : ℕ). is_some (first_below n (λ lower. is_shown (ruling image) image lower && key_eq (key_of image lower) key))) (add-one slot)
    ∙ step-some (first_below slot (λ lower. is_shown (ruling image) image lower && key_eq (key_of image lower) key)) (is_shown (ruling image) image slot && key_eq (key_of image slot) key) slot
    ∙ by (is_shown (ruling image) image slot) (is_some (first_below slot (λ lower. is_shown (ruling image) image lower && key_eq (key_of image lower) key))) free)
  where
    by : (shown some : Bool) → not shown ≡ true → (some || (shown && key_eq (key_of image slot) key)) ≡ some
    by true some e = absurd (cc e)
    by false true e = refl
    by false false e = refl

pub keys-live : (image : Image) (slot : ℕ) (has has' : Key → Bool) → is_shown (ruling image) image slot ≡ true
    → ((key : Key) → has' key ≡ cond (is_at (key_cmp (key_of image slot)) key) true (has key)) → HasKeys image slot has → HasKeys image (slot + 1) has'
unfolding HasKeys
keys-live image slot has has' shown more keys key =
    more key ∙ ap (λ (b : Bool). cond b true (has key)) (is_at-key (key_of image slot) key)
    ∙ sym (ap (λ (n : ℕ). is_some (first_below n (λ lower. is_shown (ruling image) image lower && key_eq (key_of image lower) key))) (add-one slot)
    ∙ step-some (first_below slot (λ lower. is_shown (ruling image) image lower && key_eq (key_of image lower) key)) (is_shown (ruling image) image slot && key_eq (key_of image slot) key) slot
    ∙ by (is_shown (ruling image) image slot) (key_eq (key_of image slot) key) shown (is_some (first_below slot (λ lower. is_shown (ruling image) image lower && key_eq (key_of image lower) key))) (has key) (keys key))
  where
    by : (shown same : Bool) → shown ≡ true → (some had : Bool) → had ≡ some → (some || (shown && same)) ≡ cond same true had
    by true true e true had is = refl
    by true true e false had is = refl
    by true false e true had is = sym is
    by true false e false had is = sym is
    by false same e some had is = absurd (cc e)

-- a key seen before makes a second slot
pub second-seen : (image : Image) (slot : ℕ) (has : Key → Bool) → HasKeys image slot has → is_second (ruling image) image slot ≡ has (key_of image slot)
unfolding HasKeys
second-seen image slot has keys = sym (keys (key_of image slot))

-- ---- all slots

pub free-none : (image : Image) → free_below image 0 ≡ []
unfolding free_below
free-none image = refl

pub free-more : (image : Image) (slot : ℕ) → free_below image (slot + 1) ≡ free_below image slot ++ is_free image slot ∷ []
unfolding free_below is_free
free-more image slot = map-range_with_len_more (λ lower. not (is_shown (ruling image) image lower)) 0 slot slot (omega arith)

pub bad-none : (image : Image) → bad_below image 0 ≡ None
unfolding bad_below
bad-none image = refl

pub bad-more : (image : Image) (slot : ℕ) → bad_below image slot ≡ None → is_bad image slot ≡ false → bad_below image (slot + 1) ≡ None
unfolding bad_below is_bad
bad-more image slot none good = ap (λ (n : ℕ). first_below n (is_bad_slot (ruling image) image)) (add-one slot) ∙ (λ i. option_or (none i) (cond (good i) (Some slot) None))

pub slots-memory : (layout : Layout) (image : Image) → IsSlotsFault layout image OutOfMemory
unfolding IsSlotsFault
slots-memory layout image = inl refl

-- the lowest bad slot is reported
pub slots-visit : (layout : Layout) (image : Image) (slot : ℕ) (fault : Fault) → slot < layout.slots → bad_below image slot ≡ None → IsVisitFault image layout.places slot fault → IsSlotsFault layout image fault
unfolding IsSlotsFault bad_below is_bad
slots-visit layout image slot fault h none (inl memory) = inl memory
slots-visit layout image slot fault h none (inr bad) =
    inr (ap (option_map (λ s. Damaged (layout.places + s))) (first_below-found layout.slots slot (is_bad_slot (ruling image) image) h none bad.0) ∙ ap Some (sym bad.1))

-- ---- what a device's words show

module _ (device : Device) (layout : Layout) (r : Record) (slot : ℕ) (size : device.words ≡ total_words layout) (under : IsUnder layout r (image_of device)) (h : slot < layout.slots) where
  laid-out : layout_of (image_of device) ≡ layout
  unfolding IsUnder
  laid-out = under.0

  ruled : ruling (image_of device) ≡ r
  unfolding IsUnder
  ruled = under.1

  length-image : length (image_of device) ≡ device.words
  length-image = length-map-range_with_len (value_of device) 0 device.words

  word-at : (word : ℕ) → word < device.words → get_or (image_of device) word 0 ≡ value_of device word
  word-at word lt = get_or-map-range_with_len (value_of device) 0 device.words word word 0 lt (omega arith)

  in-slot : (w : ℕ) → w < slot_words layout.version → slot_start layout slot + w < device.words
  in-slot w lt = omega (arith, slot_within layout slot h, lt, size)

  each-word : (w : ℕ) → w < slot_words layout.version → slot_word (image_of device) slot w ≡ slot_at layout slot (value_of device) w
  each-word w lt = ap (λ (l : Layout). get_or (image_of device) (slot_start l slot + w) 0) laid-out ∙ word-at (slot_start layout slot + w) (in-slot w lt)

  -- of the first line
  pub word-same : (w : ℕ) → w < 8 → slot_word (image_of device) slot w ≡ slot_at layout slot (value_of device) w
  word-same w lt = each-word w (omega (arith, lt, line-words layout.version))

  same-width : slot_words (layout_of (image_of device)).version ≡ slot_words layout.version
  same-width = ap (λ (l : Layout). slot_words l.version) laid-out

  within : slot < (layout_of (image_of device)).slots
  within = omega (arith, h, ap (λ (l : Layout). l.slots) laid-out)

  whole : total_words (layout_of (image_of device)) ≤ length (image_of device)
  whole = omega (arith, length-image, size, ap total_words laid-out)

  -- a version that the device's words hold is one that the image's words hold
  pub held : (v : Version) → IsVersion layout (slot_at layout slot (value_of device)) v → IsVersion (layout_of (image_of device)) (slot_word (image_of device) slot) v
  held v is = subst (λ (l : Layout). IsVersion l (slot_word (image_of device) slot) v) (sym laid-out) (record {
    each = λ w low high. each-word w (omega (arith, high, (used-words layout.version (length v.row)).1)) ∙ is.each w low high;
    fits = is.fits;
  })

  -- its row
  pub row-held : (s : Slot) → IsSlot layout (slot_at layout slot (value_of device)) s → row_of (image_of device) slot ≡ s.version.row
  row-held s is = row_is_of (image_of device) slot within whole s.version (held s.version is.version)

  fits-words : IsOrderly device → (w : ℕ) → get_or (image_of device) w 0 < 2 ^ 64
  fits-words orderly w = grind (arith, cases_lt, word-at, get_or_past, length-image) steps 800000

  -- if nothing can be read, the words hold no version
  pub none-held : IsOrderly device → ((v : Version) → IsVersion layout (slot_at layout slot (value_of device)) v → ⊥) → is_misfit (image_of device) slot ≡ true
  none-held orderly none = by (is_misfit (image_of device) slot) refl
    where
      by : (b : Bool) → is_misfit (image_of device) slot ≡ b → is_misfit (image_of device) slot ≡ true
      by true is = is
      by false is =
          let image = image_of device in
          let version = holds_version image slot within whole (fits-words orderly) is in
          absurd (none (version_of image slot) (record {
            each = λ w low high.
                sym (each-word w (omega (arith, high, (used-words layout.version (length (version_of image slot).row)).1)))
                ∙ version.each w low (subst (λ (l : Layout). w < used_words l.version (length (version_of image slot).row)) (sym laid-out) high);
            fits = subst (λ (l : Layout). Fits l (version_of image slot)) laid-out version.fits;
          }))

  pub none-read : IsOrderly device → ((s : Slot) → IsSlot layout (slot_at layout slot (value_of device)) s → ⊥) → is_misfit (image_of device) slot ≡ true
  none-read orderly none =
      none-held orderly (λ v is. none (record { begin = slot_at layout slot (value_of device) 0; end = slot_at layout slot (value_of device) 1; version = v }) (record { begin = refl; end = refl; version = is }))

  choose : (ahead shown ill : Bool) (key : Key) → is_ahead (ruling (image_of device)) (image_of device) slot ≡ ahead → is_shown (ruling (image_of device)) (image_of device) slot ≡ shown → is_misfit (image_of device) slot ≡ ill → key_of (image_of device) slot ≡ key
      → found_in (image_of device) slot ≡ cond ahead Bad (cond shown (cond ill Bad (Live key)) Free)
  unfolding found_in
  choose ahead shown ill key a s i k = λ j. cond (a j) Bad (cond (s j) (cond (i j) Bad (Live (k j))) Free)

  module _ (begin end : ℕ) (begin-is : begin ≡ slot_at layout slot (value_of device) 0) (end-is : end ≡ slot_at layout slot (value_of device) 1) where
    begin-same : begin_of (image_of device) slot ≡ begin
    begin-same = word-same 0 (lit< tt) ∙ sym begin-is

    end-same : end_of (image_of device) slot ≡ end
    end-same = word-same 1 (lit< tt) ∙ sym end-is

    ahead-is : is_ahead (ruling (image_of device)) (image_of device) slot ≡ (nat_le r.dirty begin || nat_le r.dirty end)
    ahead-is = λ i. nat_le (ruled i).dirty (begin-same i) || nat_le (ruled i).dirty (end-same i)

    shown-is : is_shown (ruling (image_of device)) (image_of device) slot ≡ (is_committed r begin && not (is_committed r end))
    shown-is = λ i. is_committed (ruled i) (begin-same i) && not (is_committed (ruled i) (end-same i))

    pub look-ahead : (r.dirty ≤ begin) ⊎ (r.dirty ≤ end) → Bad ≡ found_in (image_of device) slot
    look-ahead far = sym (choose true _ _ _ (ahead-is ∙ by (nat_le r.dirty begin) (nat_le r.dirty end) far refl refl) refl refl refl)
      where
        by : (a b : Bool) → (r.dirty ≤ begin) ⊎ (r.dirty ≤ end) → nat_le r.dirty begin ≡ a → nat_le r.dirty end ≡ b → (a || b) ≡ true
        by true b far ea eb = refl
        by false true far ea eb = refl
        by false false (inl le) ea eb = sym ea ∙ le-leb r.dirty begin le
        by false false (inr le) ea eb = sym eb ∙ le-leb r.dirty end le

    near : begin < r.dirty → end < r.dirty → is_ahead (ruling (image_of device)) (image_of device) slot ≡ false
    near b e = ahead-is ∙ (λ i. lt-leb r.dirty begin b i || lt-leb r.dirty end e i)

    pub look-free : begin < r.dirty → end < r.dirty → (is_committed r begin && not (is_committed r end)) ≡ false → Free ≡ found_in (image_of device) slot
    look-free b e not_shown = sym (choose false false _ _ (near b e) (shown-is ∙ not_shown) refl refl)

    pub look-live : begin < r.dirty → end < r.dirty → (is_committed r begin && not (is_committed r end)) ≡ true → (key : Key) → (v : Version) × IsVersion layout (slot_at layout slot (value_of device)) v × (v.key ≡ key) → Live key ≡ found_in (image_of device) slot
    look-live b e shown key found =
        let image = image_of device in
        let is = held found.0 found.1 in
        sym (choose false true false key (near b e) (shown-is ∙ shown) (well_formed image slot within whole found.0 is) (key_is image slot within whole found.0 is ∙ found.2))

    pub look-bad : IsOrderly device → begin < r.dirty → end < r.dirty → (is_committed r begin && not (is_committed r end)) ≡ true → ((v : Version) → IsVersion layout (slot_at layout slot (value_of device)) v → ⊥) → Bad ≡ found_in (image_of device) slot
    look-bad orderly b e shown none = sym (choose false true true _ (near b e) (shown-is ∙ shown) (none-held orderly none) refl)

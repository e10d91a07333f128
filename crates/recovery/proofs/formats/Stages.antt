-- What the stages of a format make of a device.
use Rattle.std.proofs.Common.{◌≡◌, ◌⊎◌, inl, inr, ℕ, ◌+◌, ◌-◌, ◌*◌, ◌/◌, ◌<◌, ◌≤◌, ◌%◌, true, false, ◌&&◌, List, ◌++◌, length, get_or, refl, sym, ◌∙◌, ap, subst, arith, nat_le, nat_eq}
use Rattle.std.proofs.Math.Nat.{mod-eq_of_lt}
use Rattle.std.proofs.lemmas.Bool.{and_right, cases_lt}
use Rattle.std.proofs.lemmas.List.{ext_get_or}
use Rattle.std.proofs.lemmas.List.Elements.{All-append}
use Rattle.std.proofs.lemmas.List.FromFn.{length-map-range_with_len, get_or-map-range_with_len}
use Rattle.base.specs.Actors.{committer}
use Rattle.base.specs.Layout.{Layout, total_words, is_in_limits, version_lines}
use Rattle.base.specs.Records.{record_word}
use Rattle.base.specs.Images.{Image, is_formatted, superblock_word}
use Rattle.pmem.specs.Device.{Device}
use Rattle.pmem.specs.Persisting.{set_operations}
use Rattle.pmem.specs.Trace.{Operation, Runs, StopsWithin}
use Rattle.pmem.specs.Words.{Survives, value_of, image_of, LeavesOnly, Keeps, HasOneFailure, IsSettledAt, Makes, Spares, OldOr, IsStore}
use Rattle.pmem.proofs.Changes.{settled_at-shrinks}
use Rattle.pmem.proofs.Images.{leaves_trans, leaves_weaken}
use Rattle.pmem.proofs.Lists.{StoresOnly, StoreOnly, IsElsewhere, IsInTwo, runs-in_two, stops-in_two, keeps-run, keeps-stopped, shrinks-run, spares-run, spares-stopped, store-weaker, one_failure-stopped, persist-only, persist-made, persist-settles, set-only, set-settles}
use Rattle.pmem.proofs.OperationEffects.{only-settled}
use Rattle.pmem.proofs.Traces.{words-run}
use Rattle.log_area.specs.Rulings.{gate_word}
use Rattle.log_area.specs.Writings.{geometry_operations, record_operations}
use Rattle.log_area.proofs.Rulings.{some_places, log_within}
use Rattle.log_area.proofs.Whole.{record-only, record-settles}
use Rattle.base.specs.Fresh.{superblock_words, first_record, fresh_word, fresh_image}
use Rattle.base.proofs.Fresh.{low-word, inside-word, outside-word}
use Rattle.base.proofs.Layouts.{lines-words}
use Rattle.recovery.specs.Fresh.{IsFormatting, clear_operations, fresh_operations, format_operations}

-- ---- images

unformatted : (image : Image) → get_or image 0 0 ≡ 0 → is_formatted image ≡ false
unformatted image e = ap (λ (n : ℕ). nat_le 8 (length image) && nat_eq n superblock_word) e ∙ and_right (nat_le 8 (length image)) (nat_eq 0 superblock_word) refl

-- word 0 is 0, and so it was since the format began, or nothing else was done
pub record IsBegun (old now : Device) (layout : Layout) : Type 0 where
  pub images : LeavesOnly old now (IsFormatting old layout)
  pub zero_first : IsSettledAt now 0 0

module _ (old now : Device) (layout : Layout) (keeps : Keeps old now (OldOr old (IsStore 0 0))) (some : 0 < old.words) where
  by_word : (image : List ℕ) → length image ≡ old.words → ((word : ℕ) → word < old.words → OldOr old (IsStore 0 0) word (get_or image word 0)) → OldOr old (IsStore 0 0) 0 (get_or image 0 0) → IsFormatting old layout image
  by_word image size within a = grind (arith, unformatted)

  pub first-images : LeavesOnly old now (IsFormatting old layout)
  first-images = grind (arith, by_word) steps 800000

pub begun-on : (spared : ℕ → Type 0) (old mid new : Device) (layout : Layout) → IsBegun old mid layout → Spares spared mid new → spared 0 → 0 < mid.words → IsBegun old new layout
begun-on spared old mid new layout u spares here some =
    let weaker : (image : Image) → ((word : ℕ) → word < mid.words → spared word → Survives mid word (get_or image word 0)) → IsFormatting old layout image =
    λ image words. inr (inl (unformatted image (only-settled mid 0 (get_or image 0 0) u.zero_first.settled (words 0 some here) ∙ u.zero_first.holds))) in
    record { images = leaves_trans u.images (leaves_weaken weaker spares.left); zero_first = settled_at-shrinks (spares.kept 0 here) u.zero_first }

module _ (old mid new : Device) (layout : Layout) (u : IsBegun old mid layout) (size : mid.words ≡ total_words layout) (keeps : Keeps mid new (OldOr mid (IsStore 0 superblock_word)))
    (words : (word : ℕ) → 1 ≤ word → word < mid.words → IsSettledAt mid word (fresh_word layout word)) where
  some : 0 < mid.words
  some = omega (arith, size, log_within layout)

  last_by : (image : Image) → length image ≡ mid.words → ((word : ℕ) → word < mid.words → OldOr mid (IsStore 0 superblock_word) word (get_or image word 0)) → OldOr mid (IsStore 0 superblock_word) 0 (get_or image 0 0) → IsFormatting old layout image
  last_by image long within (inl s) = inr (inl (unformatted image (only-settled mid 0 (get_or image 0 0) u.zero_first.settled s ∙ u.zero_first.holds)))
  last_by image long within (inr e) =
      inr (inr (ext_get_or 0 image (fresh_image layout) (long ∙ size ∙ sym (length-map-range_with_len (fresh_word layout) 0 (total_words layout)))
      (λ word lt. at word (omega (arith, lt, long)) (cases_lt 0 word) ∙ sym (get_or-map-range_with_len (fresh_word layout) 0 (total_words layout) word word 0 (omega (arith, lt, long, size)) (omega arith)))))
    where
      other : (word : ℕ) → 1 ≤ word → word < mid.words → OldOr mid (IsStore 0 superblock_word) word (get_or image word 0) → get_or image word 0 ≡ fresh_word layout word
      other word low lt (inl s) = only-settled mid word (get_or image word 0) (words word low lt).settled s ∙ (words word low lt).holds
      other word low lt (inr f) = absurd (omega (arith, f.0, low))

      at : (word : ℕ) → word < mid.words → (0 < word) ⊎ (word ≤ 0) → get_or image word 0 ≡ fresh_word layout word
      at word lt (inl more) = other word (omega (arith, more)) lt (within word lt)
      at word lt (inr none) =
          let is : word ≡ 0 = omega (arith, none) in
          subst (λ (k : ℕ). get_or image k 0 ≡ fresh_word layout k) (sym is) e.1

  pub last-images : LeavesOnly old new (IsFormatting old layout)
  last-images = leaves_trans u.images (record {
    continues = keeps.images.continues;
    each = λ image might.
        let within = keeps.images.each image might in
        last_by image (might.left.size ∙ keeps.images.continues.same_words) within (within 0 some);
  })

-- ---- what is stored

abbrev Anything : ℕ → ℕ → Type 0
Anything word x = Unit {0}

-- ---- its parts

module _ (layout : Layout) where
  abbrev first : List Operation
  first = set_operations committer 0 0

  abbrev cleared : List Operation
  cleared = clear_operations (total_words layout)

  abbrev recorded : List Operation
  recorded = record_operations layout first_record

  abbrev superblock : List Operation
  superblock = geometry_operations layout

  abbrev last : List Operation
  last = set_operations committer 0 superblock_word

  first-only : (Q : ℕ → ℕ → Type 0) → Q 0 0 → StoreOnly Q first
  first-only Q this = set-only committer 0 0 Q this

  last-only : (Q : ℕ → ℕ → Type 0) → Q 0 superblock_word → StoreOnly Q last
  last-only Q this = set-only committer 0 superblock_word Q this

  superblock-only : (Q : ℕ → ℕ → Type 0) → ((k : ℕ) → k < 7 → Q (1 + k) (get_or (superblock_words layout) (k + 1) 0)) → StoreOnly Q superblock
  superblock-only Q each = persist-only committer 1 (λ k. get_or (superblock_words layout) (k + 1) 0) 7 0 1 Q each

  cleared-only : (Q : ℕ → ℕ → Type 0) → ((k : ℕ) → Q (8 + k) 0) → StoreOnly Q cleared
  cleared-only Q each = persist-only committer 8 (λ k. 0) (total_words layout - 8) 1 (total_words layout / 8 - 1) Q (λ k lt. each k)

  -- all but the first and the last leave word 0 alone
  fresh-only : StoreOnly (IsElsewhere 0) (fresh_operations layout)
  fresh-only =
      All-append (StoresOnly (IsElsewhere 0)) (cleared ++ recorded) superblock
      (All-append (StoresOnly (IsElsewhere 0)) cleared recorded (cleared-only (IsElsewhere 0) (λ k e. omega (arith, e))) (store-weaker (λ word x inside e. omega (arith, e, inside.0)) recorded (record-only layout first_record)))
      (superblock-only (IsElsewhere 0) (λ k lt e. omega (arith, e)))

-- ---- words

module _ (layout : Layout) (limits : is_in_limits layout ≡ true) where
  places : (2 ≤ layout.places) × (layout.places ≤ 64)
  places = some_places layout limits

  first-place : gate_word layout first_record ≡ 40
  first-place = let one : 1 % layout.places ≡ 1 = mod-eq_of_lt {n = 1} {m = layout.places} (omega (arith, places.0)) in omega (arith, one)

  total-lines : total_words layout ≡ 8 * (1 + 4 * layout.places + version_lines layout * layout.slots)
  total-lines = ap (λ (n : ℕ). 8 + 32 * layout.places + n * layout.slots) (lines-words layout) ∙ omega arith

  module _ {d1 d4 : Device} (size : d1.words ≡ total_words layout) (run : Runs (fresh_operations layout) d1 d4) where
    parts : IsInTwo (cleared layout ++ recorded layout) (superblock layout) d1 d4
    parts = runs-in_two (cleared layout ++ recorded layout) (superblock layout) run

    abbrev d3 : Device
    d3 = parts.between

    log : IsInTwo (cleared layout) (recorded layout) d1 d3
    log = runs-in_two (cleared layout) (recorded layout) parts.first

    abbrev d2 : Device
    d2 = log.between

    -- after the first record
    third : (w : ℕ) → 8 ≤ w → w < total_words layout → IsSettledAt d3 w (fresh_word layout w)
    third w low high = by (cases_lt w 40) (cases_lt w 72)
      where
        zero_there : IsSettledAt d2 w 0
        zero_there =
            let at : 8 + (w - 8) ≡ w = omega (arith, low) in
            subst (λ (n : ℕ). IsSettledAt d2 n 0) at
            (persist-settles committer 8 (λ k. 0) (total_words layout - 8) 1 (total_words layout / 8 - 1) log.first (w - 8) (omega (arith, low, high)) (omega (arith, low, high, size)) (omega arith) (omega (arith, low, high, total-lines)))

        kept : (w < 40) ⊎ (72 ≤ w) → IsSettledAt d3 w (fresh_word layout w)
        kept apart =
            subst (λ (n : ℕ). IsSettledAt d3 w n) (sym (outside-word layout w low apart))
            (settled_at-shrinks (shrinks-run w (store-weaker (λ word x inside e. elim apart [ inl less ↦ omega (arith, less, e, inside.0, first-place) | inr more ↦ omega (arith, more, e, inside.1, first-place) ]) (recorded layout) (record-only layout first_record)) log.then) zero_there)

        by : (w < 40) ⊎ (40 ≤ w) → (w < 72) ⊎ (72 ≤ w) → IsSettledAt d3 w (fresh_word layout w)
        by (inl less) c = kept (inl less)
        by (inr more) (inr past) = kept (inr past)
        by (inr more) (inl inside) =
            let at : gate_word layout first_record + (w - 40) ≡ w = omega (arith, first-place, more) in
            subst (λ (n : ℕ). IsSettledAt d3 w n) (sym (inside-word layout w more inside))
            (subst (λ (n : ℕ). IsSettledAt d3 n (record_word first_record (w - 40))) at
            (record-settles layout first_record log.then (omega (arith, first-place, words-run log.first, size, log_within layout, places.0)) (w - 40) (omega (arith, more, inside))))

    -- and after the superblock
    pub fourth : (w : ℕ) → 1 ≤ w → w < total_words layout → IsSettledAt d4 w (fresh_word layout w)
    fourth w low high = by (cases_lt w 8)
      where
        by : (w < 8) ⊎ (8 ≤ w) → IsSettledAt d4 w (fresh_word layout w)
        by (inl less) =
            let at : 1 + (w - 1) ≡ w = omega (arith, low) in
            let next : w - 1 + 1 ≡ w = omega (arith, low) in
            subst (λ (n : ℕ). IsSettledAt d4 w n) (ap (λ (n : ℕ). get_or (superblock_words layout) n 0) next ∙ sym (low-word layout w less))
            (subst (λ (n : ℕ). IsSettledAt d4 n (get_or (superblock_words layout) (w - 1 + 1) 0)) at
            (persist-settles committer 1 (λ k. get_or (superblock_words layout) (k + 1) 0) 7 0 1 parts.then (w - 1) (omega (arith, low, less)) (omega (arith, low, high, size, words-run parts.first)) (omega arith) (omega (arith, less))))
        by (inr more) = settled_at-shrinks (shrinks-run w (superblock-only layout (IsElsewhere w) (λ k lt e. omega (arith, more, e, lt))) parts.then) (third w more high)

-- ---- a whole format

some_word : (layout : Layout) (old : Device) → old.words ≡ total_words layout → 0 < old.words
some_word layout old size = omega (arith, size, log_within layout)

apart : (word x : ℕ) → IsElsewhere 0 word x → word ≡ 0 → ⊥
apart word x elsewhere same = elsewhere (sym same)

module _ (layout : Layout) (limits : is_in_limits layout ≡ true) {old : Device} (size : old.words ≡ total_words layout) where
  first-kept : {mid : Device} → Runs (first layout) old mid → IsBegun old mid layout
  first-kept {mid} run = record {
    images = first-images old mid layout (keeps-run (OldOr old (IsStore 0 0)) (λ word x there. inl there) (first-only layout (OldOr old (IsStore 0 0)) (inr (refl, refl))) run) (some_word layout old size);
    zero_first = set-settles committer 0 0 run (some_word layout old size);
  }

  middle-kept : {d1 d4 : Device} → Runs (first layout) old d1 → Spares (λ word. word ≡ 0) d1 d4 → IsBegun old d4 layout
  middle-kept {d1} {d4} run spares = begun-on (λ word. word ≡ 0) old d1 d4 layout (first-kept run) spares refl (omega (arith, words-run run, (some_word layout old size)))

  -- what a crash leaves
  pub format-images : {new : Device} → Runs (format_operations layout) old new → LeavesOnly old new (IsFormatting old layout)
  format-images {new} run =
      let end = runs-in_two (first layout ++ fresh_operations layout) (last layout) run in
      let begin = runs-in_two (first layout) (fresh_operations layout) end.first in
      let sized : begin.between.words ≡ total_words layout = words-run begin.first ∙ size in
      let begun = middle-kept begin.first (spares-run (IsElsewhere 0) (λ word. word ≡ 0) apart (fresh-only layout) begin.then) in
      last-images old end.between new layout begun (words-run end.first ∙ size)
      (keeps-run (OldOr end.between (IsStore 0 superblock_word)) (λ word x there. inl there) (last-only layout (OldOr end.between (IsStore 0 superblock_word)) (inr (refl, refl))) end.then)
      (λ word low lt. fourth layout limits sized begin.then word low (omega (arith, lt, words-run end.first, size)))

  pub format-images_stopped : {new : Device} → StopsWithin (format_operations layout) old new → LeavesOnly old new (IsFormatting old layout)
  format-images_stopped {new} stop = by (stops-in_two (first layout ++ fresh_operations layout) (last layout) stop)
    where
      early : StopsWithin (first layout) old new ⊎ ((d1 : Device) × Runs (first layout) old d1 × StopsWithin (fresh_operations layout) d1 new) → LeavesOnly old new (IsFormatting old layout)
      early (inl stops) =
          first-images old new layout (keeps-stopped (OldOr old (IsStore 0 0)) (λ word x there. inl there) (first-only layout (OldOr old (IsStore 0 0)) (inr (refl, refl))) stops) (some_word layout old size)
      early (inr (d1, run, stops)) = (middle-kept run (spares-stopped (IsElsewhere 0) (λ word. word ≡ 0) apart (fresh-only layout) stops)).images

      by : StopsWithin (first layout ++ fresh_operations layout) old new ⊎ ((d4 : Device) × Runs (first layout ++ fresh_operations layout) old d4 × StopsWithin (last layout) d4 new) → LeavesOnly old new (IsFormatting old layout)
      by (inl stops) = early (stops-in_two (first layout) (fresh_operations layout) stops)
      by (inr (d4, run, stops)) =
          let begin = runs-in_two (first layout) (fresh_operations layout) run in
          let begun = middle-kept begin.first (spares-run (IsElsewhere 0) (λ word. word ≡ 0) apart (fresh-only layout) begin.then) in
          last-images old d4 new layout begun (words-run run ∙ size)
          (keeps-stopped (OldOr d4 (IsStore 0 superblock_word)) (λ word x there. inl there) (last-only layout (OldOr d4 (IsStore 0 superblock_word)) (inr (refl, refl))) stops)
          (λ word low lt. fourth layout limits (words-run begin.first ∙ size) begin.then word low (omega (arith, lt, words-run run, size)))

  pub format-settled : {new : Device} → Runs (format_operations layout) old new → (w : ℕ) → w < total_words layout → IsSettledAt new w (fresh_word layout w)
  format-settled {new} run w h = by (cases_lt 0 w)
    where
      end : IsInTwo (first layout ++ fresh_operations layout) (last layout) old new
      end = runs-in_two (first layout ++ fresh_operations layout) (last layout) run

      by : (0 < w) ⊎ (w ≤ 0) → IsSettledAt new w (fresh_word layout w)
      by (inl more) =
          let begin = runs-in_two (first layout) (fresh_operations layout) end.first in
          settled_at-shrinks (shrinks-run w (last-only layout (IsElsewhere w) (λ e. omega (arith, e, more))) end.then) (fourth layout limits (words-run begin.first ∙ size) begin.then w (omega (arith, more)) h)
      by (inr none) =
          let is : w ≡ 0 = omega (arith, none) in
          subst (λ (k : ℕ). IsSettledAt new k (fresh_word layout k)) (sym is) (set-settles committer 0 superblock_word end.then (omega (arith, words-run end.first, (some_word layout old size))))

  pub format-made : {new : Device} → Runs (format_operations layout) old new → Makes (total_words layout + 33) (total_words layout / 8 + 7) 6 0 old new
  format-made run =
      let end = runs-in_two (first layout ++ fresh_operations layout) (last layout) run in
      let begin = runs-in_two (first layout) (fresh_operations layout) end.first in
      let body = runs-in_two (cleared layout ++ recorded layout) (superblock layout) begin.then in
      let log = runs-in_two (cleared layout) (recorded layout) body.first in
      let clear = persist-made committer 8 (λ k. 0) (total_words layout - 8) 1 (total_words layout / 8 - 1) log.first in
      grind (arith)

  pub format-failure : {new : Device} → StopsWithin (format_operations layout) old new → HasOneFailure old new
  format-failure stop = one_failure-stopped Anything format-only stop
    where
      format-only : StoreOnly Anything (format_operations layout)
      format-only =
          All-append (StoresOnly Anything) (first layout ++ fresh_operations layout) (last layout)
          (All-append (StoresOnly Anything) (first layout) (fresh_operations layout) (first-only layout Anything tt) (store-weaker (λ word x elsewhere. tt) (fresh_operations layout) (fresh-only layout)))
          (last-only layout Anything tt)

-- every word settled, the image is the new one
pub image-fresh : (device : Device) (layout : Layout) → device.words ≡ total_words layout → ((w : ℕ) → w < total_words layout → IsSettledAt device w (fresh_word layout w)) → image_of device ≡ fresh_image layout
image-fresh device layout size holds =
    ext_get_or 0 (image_of device) (fresh_image layout) (length-map-range_with_len (value_of device) 0 device.words ∙ size ∙ sym (length-map-range_with_len (fresh_word layout) 0 (total_words layout)))
    (λ w lt.
    let in_device : w < device.words = omega (arith, lt, length-map-range_with_len (value_of device) 0 device.words) in
    get_or-map-range_with_len (value_of device) 0 device.words w w 0 in_device (omega arith) ∙ (holds w (omega (arith, in_device, size))).holds
    ∙ sym (get_or-map-range_with_len (fresh_word layout) 0 (total_words layout) w w 0 (omega (arith, in_device, size)) (omega arith)))

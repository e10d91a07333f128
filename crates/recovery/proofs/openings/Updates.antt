-- An image that opening gives the current version.
use Rattle.std.proofs.Common.{◌≡◌, ◌≢◌, ◌⊎◌, inl, inr, ℕ, ◌+◌, ◌<◌, ◌≤◌, Bool, true, false, cond, not, ◌&&◌, List, [], ◌∷◌, length, get_or, map, flat_map, refl, sym, ◌∙◌, ap, subst, arith, true≢false}
use Rattle.std.specs.Prelude.{Option, None}
use Rattle.std.specs.List.{range_with_len}
use Rattle.std.proofs.lemmas.Bool.{cases_eq, cases_lt}
use Rattle.std.proofs.lemmas.List.{ext_get_or, get_or_past}
use Rattle.std.proofs.lemmas.List.Elements.{All-nil}
use Rattle.base.specs.Actors.{committer}
use Rattle.base.specs.declared.gap.Gap.{Gap}
use Rattle.base.specs.Commits.{Commit}
use Rattle.base.specs.Layout.{Layout, opened_layout, opened_version, total_words}
use Rattle.machine.specs.Laws.{OpensUpdated}
use Rattle.base.specs.Records.{Record, opened_gaps}
use Rattle.base.specs.Images.{Image, layout_of, ruling, is_shown, opening_fault, needs_sweep, IsRuledBy}
use Rattle.base.specs.Stands.{Stands}
use Rattle.machine.specs.Openings.{Counts, opening_record, gaps_kept, opened_slots, record_counts, update_counts, StandsOpening, updated, updates}
use Rattle.base.proofs.Histories.{history_in, sound-stands, opens-sound}
use Rattle.machine.proofs.openings.States.{whole-of, size-of}
use Rattle.machine.proofs.openings.Updates.{updated-open}
use Rattle.pmem.specs.Device.{Device}
use Rattle.pmem.specs.Persisting.{set_operations}
use Rattle.pmem.specs.Trace.{Operation, Runs, StopsWithin}
use Rattle.pmem.specs.Words.{value_of, IsAtRest, IsSettledAt, IsStore, IsWithin, LeavesOnly, image_of, Keeps, Makes, OldOr, Spares}
use Rattle.pmem.proofs.Images.{leaves_trans, leaves_weaken}
use Rattle.pmem.proofs.Lists.{StoreOnly, keeps-run, keeps-stopped, spares-run, store-weaker, makes_none, makes_trans, count_of, one_store, one_flush, one_fence, few-stopped, one_failure-stopped, set-only, set-settles}
use Rattle.pmem.proofs.Traces.{words-run}
use Rattle.pmem.proofs.Spares.{spares_fewer, spares_trans}
use Rattle.log_area.proofs.Rulings.{log_within}
use Rattle.log_area.proofs.Heads.{image_word, image_size}
use Rattle.recovery.specs.Slots.{free_below}
use Rattle.recovery.specs.Live.{live_at, live_below}
use Rattle.recovery.specs.Sweeping.{is_hit, lies}
use Rattle.recovery.specs.Opened.{Examined, HasOpened, HasOpenedToday, IsCutBefore, IsCutShort, IsUpdatedFirst, MakesAll, free_in, is_swept, is_updated, total, update_operations}
use Rattle.recovery.specs.declared.rows.LiveSlot.{LiveSlot}
use Rattle.recovery.proofs.openings.Devices.{is}

-- ---- what is known of the image is known of the updated one

module _ (image : Image) (up : OpensUpdated image) where
  -- the same slots are free
  pub free-updated : free_in (updated image) ≡ free_in image
  free-updated =
      ap (λ (l : Layout). map (λ slot. not (is_shown (ruling (updated image)) (updated image) slot)) (range_with_len 0 l.slots)) up.laid_out
      ∙ ap (λ (r : Record). map (λ slot. not (is_shown r (updated image) slot)) (range_with_len 0 (layout_of image).slots)) up.ruled
      ∙ (λ i. map (λ slot. not (up.shown (ruling image) slot i)) (range_with_len 0 (layout_of image).slots))

  free-same : (n : ℕ) → free_below (updated image) n ≡ free_below image n
  unfolding free_below
  free-same n =
      ap (λ (r : Record). map (λ slot. not (is_shown r (updated image) slot)) (range_with_len 0 n)) up.ruled
      ∙ (λ i. map (λ slot. not (up.shown (ruling image) slot i)) (range_with_len 0 n))

  live-same : (n : ℕ) → live_below (updated image) n ≡ live_below image n
  unfolding live_below
  live-same n =
      ap (λ (r : Record). flat_map (λ slot. cond (is_shown r (updated image) slot) (live_at (updated image) slot ∷ []) []) (range_with_len 0 n)) up.ruled
      ∙ (λ i. flat_map (λ slot. cond (up.shown (ruling image) slot i) ((let l : LiveSlot = record { key = up.keys slot i; slot = slot } in l) ∷ []) []) (range_with_len 0 n))

  rules-updated : (layout : Layout) (r : Record) → IsRuledBy layout r image → IsRuledBy (opened_layout layout) r (updated image)
  rules-updated layout r rules = grind (arith, whole-of, opens-sound) steps 800000

  pub examined-updated : (layout : Layout) (r : Record) (gaps : Option (List Gap)) (free : List Bool) (live : List LiveSlot) → Examined image layout r gaps free live
      → Examined (updated image) (opened_layout layout) r gaps free live
  unfolding Examined
  examined-updated layout r gaps free live ex =
      let known = is image layout r gaps free live ex in
      record {
        opens = up.opens;
        rules = rules-updated layout r known.rules;
        gaps_are = known.gaps_are;
        free_are = known.free_are ∙ sym (free-same layout.slots);
        live_are = known.live_are ∙ sym (live-same layout.slots);
      }

-- ---- the words of a device

module _ (old : Device) (rest : IsAtRest old) (opens : opening_fault (image_of old) ≡ None) where
  abbrev image : Image
  image = image_of old

  up : OpensUpdated image
  up = updated-open image opens

  version-now : get_or (updated image) 1 0 ≡ opened_version (layout_of image).version
  version-now = ap (λ (l : Layout). l.version) up.laid_out

  -- an image with these words is the old one, or the updated one
  either-image : (other : Image) → length other ≡ old.words → IsWithin old.words (OldOr old (IsStore 1 (opened_version (layout_of image).version))) other → (other ≡ image) ⊎ (other ≡ updated image)
  either-image other size within = by (cases_lt 1 old.words)
    where
      other-word : (word : ℕ) → word < old.words → word ≢ 1 → get_or other word 0 ≡ get_or image word 0
      other-word word lt far = grind (arith, image_word)

      whole : get_or other 1 0 ≡ get_or image 1 0 → other ≡ image
      whole same = grind (arith, ext_get_or 0 other, image_size, other-word)

      changed : get_or other 1 0 ≡ opened_version (layout_of image).version → other ≡ updated image
      changed same = ext_get_or 0 other (updated image) (size ∙ sym (image_size old) ∙ sym up.size) (λ word lt. at word (omega (arith, lt, size)) (cases_eq word 1))
        where
          at : (word : ℕ) → word < old.words → (word ≡ 1) ⊎ (word ≢ 1) → get_or other word 0 ≡ get_or (updated image) word 0
          at word lt (inl one) = ap (λ (w : ℕ). get_or other w 0) one ∙ same ∙ sym version-now ∙ sym (ap (λ (w : ℕ). get_or (updated image) w 0) one)
          at word lt (inr far) = other-word word lt far ∙ sym (up.words word far)

      by : (1 < old.words) ⊎ (old.words ≤ 1) → (other ≡ image) ⊎ (other ≡ updated image)
      by (inl lt) = grind (arith, whole, image_word, changed)
      by (inr short) = inl (whole (get_or_past other 1 0 (omega (arith, short, size)) ∙ sym (get_or_past image 1 0 (omega (arith, short, image_size old)))))

  stands-now : (history drawn : List Commit) (next : ℕ) → Stands image history drawn next → StandsOpening image history next image
  stands-now history drawn next s = grind (arith) steps 800000

  stands-updated : (history drawn : List Commit) (next : ℕ) → Stands image history drawn next → StandsOpening image history next (updated image)
  stands-updated history drawn next s =
      let t = up.stands history drawn next s in
      record {
        stands = record { sound = t.sound; tables = t.tables; covered = t.covered; left_out = refl; reserved = t.reserved };
        ruled = inl up.ruled;
        laid_out = inr up.laid_out;
      }

  -- whatever a crash leaves while the version is stored
  pub images-updating : (new : Device) → Keeps old new (OldOr old (IsStore 1 (opened_version (layout_of image).version))) → (history drawn : List Commit) (next : ℕ) → Stands image history drawn next
      → LeavesOnly old new (StandsOpening image history next)
  images-updating new kept history drawn next s = record {
    continues = kept.images.continues;
    each = λ other might. elim (either-image other (might.left.size ∙ kept.images.continues.same_words) (kept.images.each other might)) [
      | inl same ↦ subst (λ (i : Image). StandsOpening image history next i) (sym same) (stands-now history drawn next s)
      | inr same ↦ subst (λ (i : Image). StandsOpening image history next i) (sym same) (stands-updated history drawn next s)
    ];
  }

  -- the version is stored alone
  pub version-updating : (new : Device) → Keeps old new (OldOr old (IsStore 1 (opened_version (layout_of image).version))) → LeavesOnly old new (IsUpdatedFirst image)
  version-updating new kept = record {
    continues = kept.images.continues;
    each = λ other might. elim (either-image other (might.left.size ∙ kept.images.continues.same_words) (kept.images.each other might)) [
      | inl same ↦ inr same
      | inr same ↦ inl (ap layout_of same ∙ up.laid_out)
    ];
  }

  -- and once it is settled
  module _ (new : Device) (same-words : new.words ≡ old.words) (holds : IsSettledAt new 1 (opened_version (layout_of image).version)) (spares : Spares (λ word. word ≢ 1) old new) where
    pub rest-updated : IsAtRest new
    rest-updated word lt = grind (arith, cases_eq) steps 800000

    value-updated : (word : ℕ) → word < new.words → value_of new word ≡ get_or (updated image) word 0
    value-updated word lt = by (cases_eq word 1)
      where
        by : (word ≡ 1) ⊎ (word ≢ 1) → value_of new word ≡ get_or (updated image) word 0
        by (inl one) = ap (value_of new) one ∙ holds.holds ∙ sym version-now ∙ sym (ap (λ (w : ℕ). get_or (updated image) w 0) one)
        by (inr far) = (spares.kept word far).value ∙ sym (image_word old word (omega (arith, lt, same-words))) ∙ sym (up.words word far)

    pub image-updated : image_of new ≡ updated image
    image-updated = ext_get_or 0 (image_of new) (updated image) (image_size new ∙ same-words ∙ sym (image_size old) ∙ sym up.size) (λ word lt.
        image_word new word (omega (arith, lt, image_size new)) ∙ value-updated word (omega (arith, lt, image_size new)))

-- ---- a device whose image opens

-- it has a superblock
pub opened-size : (old : Device) → opening_fault (image_of old) ≡ None → 8 ≤ old.words
opened-size old opens = grind (arith, size-of, whole-of, opens-sound, log_within, image_size)

-- ---- what an update does

module _ (old : Device) where
  abbrev version : ℕ
  version = opened_version (layout_of (image_of old)).version

  -- the word of the version, if an update changes it
  abbrev IsNewVersion : ℕ → ℕ → Type 0
  IsNewVersion word x = IsStore 1 version word x × (is_updated old word ≡ true)

  update-only : StoreOnly IsNewVersion (update_operations (image_of old))
  update-only = grind (arith, set-only, All-nil) steps 800000

  update-keeps : StoreOnly (OldOr old (IsStore 1 version)) (update_operations (image_of old))
  update-keeps = store-weaker (λ word x this. inr this.0) (update_operations (image_of old)) update-only

abbrev counts_by : Bool → Counts
counts_by b = cond b (record { stores = 1; flushes = 1; fences = 1 }) (record { stores = 0; flushes = 0; fences = 0 })

abbrev set_by : ℕ → Bool → List Operation
set_by v b = cond b (set_operations committer 1 v) []

length-by : (v : ℕ) (b : Bool) → count_of one_store (set_by v b) + count_of one_flush (set_by v b) + count_of one_fence (set_by v b) ≡ total (counts_by b)
length-by v a = grind (arith)

-- what it makes of a device
pub record IsUpdate (old new : Device) : Type 0 where
  pub image : image_of new ≡ updated (image_of old)
  pub rest : IsAtRest new
  pub made : MakesAll (update_counts (image_of old)) old new
  pub others : Spares (λ word. is_updated old word ≡ false) old new
  pub images : (history drawn : List Commit) (next : ℕ) → Stands (image_of old) history drawn next → LeavesOnly old new (StandsOpening (image_of old) history next)
  pub first : LeavesOnly old new (IsUpdatedFirst (image_of old))

module _ {old new : Device} (rest : IsAtRest old) (opens : opening_fault (image_of old) ≡ None) where
  pub is_update : Runs (update_operations (image_of old)) old new → IsUpdate old new
  is_update run = by (updates (image_of old)) refl run
    where
      keeps : Keeps old new (OldOr old (IsStore 1 (version old)))
      keeps = keeps-run (OldOr old (IsStore 1 (version old))) (λ word x there. inl there) (update-keeps old) run

      others : Spares (λ word. is_updated old word ≡ false) old new
      others = spares-run (IsNewVersion old) (λ word. is_updated old word ≡ false) (λ word x this alone. true≢false (sym this.1 ∙ alone)) (update-only old) run

      by : (b : Bool) → updates (image_of old) ≡ b → Runs (set_by (version old) b) old new → IsUpdate old new
      by true some set =
          let holds = set-settles committer 1 (version old) set (omega (arith, opened-size old opens)) in
          let far = spares-run (IsStore 1 (version old)) (λ word. word ≢ 1) (λ word x this far. far this.0) (set-only committer 1 (version old) (IsStore 1 (version old)) (refl, refl)) set in
          grind (arith, image-updated old rest opens new (words-run run) holds far, rest-updated old rest opens new (words-run run) holds far, others, images-updating old rest opens new keeps, version-updating old rest opens new keeps)
      by false none nothing = record {
        image = ap image_of nothing.made ∙ sym ((updated-open (image_of old) opens).same none);
        rest = subst IsAtRest (sym nothing.made) rest;
        made = subst (λ (b : Bool). MakesAll (counts_by b) old new) (sym none) (subst (Makes 0 0 0 0 old) (sym nothing.made) (makes_none old));
        others = others;
        images = images-updating old rest opens new keeps;
        first = version-updating old rest opens new keeps;
      }

  -- if it stops
  module _ (stop : StopsWithin (update_operations (image_of old)) old new) where
    stopped : Keeps old new (OldOr old (IsStore 1 (version old)))
    stopped = keeps-stopped (OldOr old (IsStore 1 (version old))) (λ word x there. inl there) (update-keeps old) stop

    pub update-images_stopped : (history drawn : List Commit) (next : ℕ) → Stands (image_of old) history drawn next → LeavesOnly old new (StandsOpening (image_of old) history next)
    update-images_stopped = images-updating old rest opens new stopped

    pub update-first_stopped : LeavesOnly old new (IsUpdatedFirst (image_of old))
    update-first_stopped = version-updating old rest opens new stopped

    pub update-cut : IsCutShort old new
    update-cut = record {
      failed = let one = one_failure-stopped (IsNewVersion old) (update-only old) stop in omega (arith, one);
      few = omega (arith, few-stopped (IsNewVersion old) (update-only old) stop, length-by (version old) (updates (image_of old)));
    }

-- ---- opening an image, once it is updated

module _ (old mid new : Device) (opens : opening_fault (image_of old) ≡ None) (updated-is : image_of mid ≡ updated (image_of old)) (made-update : MakesAll (update_counts (image_of old)) old mid) where
  abbrev before : Image
  before = image_of old

  gone : OpensUpdated before
  gone = updated-open before opens

  same-counts : record_counts (image_of mid) ≡ record_counts before
  same-counts = ap record_counts updated-is ∙ gone.counts

  -- if opening is cut short after the update, it is cut short as a whole
  pub cut-after : IsCutBefore (total (record_counts (image_of mid))) mid new → IsCutShort old new
  cut-after cut = grind (arith, same-counts) steps 800000

  pub images-after : (history drawn : List Commit) (next : ℕ) → Stands before history drawn next → LeavesOnly old mid (StandsOpening before history next)
      → ((history drawn : List Commit) (next : ℕ) → Stands (image_of mid) history drawn next → LeavesOnly mid new (StandsOpening (image_of mid) history next))
      → LeavesOnly old new (StandsOpening before history next)
  images-after history drawn next s first second =
      leaves_trans first
      (leaves_weaken (λ image stands. gone.within history next image (subst (λ (i : Image). StandsOpening i history next image) updated-is stands))
      (second history drawn next (subst (λ (i : Image). Stands i history drawn next) (sym updated-is) (gone.stands history drawn next s))))

  laid-after : (image : Image) → (layout_of image ≡ layout_of (updated before)) ⊎ (layout_of image ≡ opened_layout (layout_of (updated before))) → IsUpdatedFirst before image
  laid-after image a = grind (arith)

  -- after the update each image has the version
  pub version-after : LeavesOnly old mid (IsUpdatedFirst before) → ((history drawn : List Commit) (next : ℕ) → Stands (image_of mid) history drawn next → LeavesOnly mid new (StandsOpening (image_of mid) history next))
      → LeavesOnly old new (IsUpdatedFirst before)
  version-after first second =
      leaves_trans first
      (leaves_weaken (λ image stands. laid-after image (subst (λ (i : Image). StandsOpening i history next image) updated-is stands).laid_out)
      (second history [] next (subst (λ (i : Image). Stands i history [] next) (sym updated-is) (sound-stands (updated before) (opens-sound (updated before) gone.opens)))))
    where
      history : List Commit
      history = history_in (updated before)

      next : ℕ
      next = (ruling (updated before)).dirty

  module _ (same-words : mid.words ≡ old.words) (spared : Spares (λ word. is_updated old word ≡ false) old mid) (layout : Layout) (r : Record) (next : ℕ) (free : List Bool) (live : List LiveSlot) (today : HasOpenedToday mid new layout r next free live) where
    layout-now : layout_of (image_of mid) ≡ opened_layout (layout_of before)
    layout-now = ap layout_of updated-is ∙ gone.laid_out

    ruled-now : ruling (image_of mid) ≡ ruling before
    ruled-now = ap ruling updated-is ∙ gone.ruled

    mid-words : old.words ≡ total_words layout
    mid-words = sym same-words ∙ sym (image_size mid) ∙ (size-of (image_of mid) (whole-of (image_of mid) (opens-sound (image_of mid) today.opens)).geometry).1 ∙ ap total_words (sym today.layout_is)

    swept-same : (word : ℕ) → is_updated old word ≡ false → is_swept old word ≡ false → is_swept mid word ≡ false
    swept-same word alone unswept =
        ap (λ (i : Image). needs_sweep i && is_hit (layout_of i) (ruling i) mid word) updated-is
        ∙ (λ i. gone.sweeps i && (gone.marks word i && lies (gone.ruled i) ((spared.kept word alone).value i)))
        ∙ unswept

    pub has-opened-updated : HasOpened old new layout r next free live
    has-opened-updated = record {
      opens = opens;
      layout_is = today.layout_is ∙ layout-now;
      record_is = today.record_is ∙ ap (λ (l : Layout). opening_record l (ruling (image_of mid)) (gaps_kept (opened_gaps (ruling (image_of mid))))) layout-now
          ∙ ap (λ (x : Record). opening_record (layout_of before) x (gaps_kept (opened_gaps x))) ruled-now;
      next_is = today.next_is ∙ ap (λ (x : Record). x.dirty) ruled-now;
      free_is = today.free_is ∙ ap free_in updated-is ∙ free-updated before gone;
      live_is = today.live_is ∙ ap (λ (i : Image). live_below i (layout_of i).slots) updated-is ∙ ap (λ (l : Layout). live_below (updated before) l.slots) gone.laid_out ∙ live-same before gone (layout_of before).slots;
      holds = today.holds;
      left_alone = spares_trans (spares_fewer (λ word alone. alone.2) spared) (spares_fewer (λ word alone. (alone.0, swept-same word alone.2 alone.1)) today.left_alone);
      superblock = λ word low.
          let lt : word < mid.words = omega (arith, low, mid-words, same-words, log_within layout) in
          subst (λ (n : ℕ). IsSettledAt new word n) (sym (image_word mid word lt) ∙ ap (λ (i : Image). get_or i word 0) updated-is) (today.superblock word low);
      slots = λ word past lt.
          subst (λ (n : ℕ). IsSettledAt new word n) (ap (λ (i : Image). get_or (opened_slots i) word 0) updated-is ∙ gone.slots word (omega (arith, past)))
          (today.slots word past (omega (arith, lt, same-words)));
      made = makes_trans made-update (subst (λ (c : Counts). MakesAll c mid new) same-counts today.made);
    }

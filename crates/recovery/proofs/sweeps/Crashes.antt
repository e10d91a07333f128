-- What a crash leaves while the gaps are swept: the record that ruled, and rows that count the same.
use Rattle.std.proofs.Common.{◌≡◌, ◌⊎◌, inl, inr, ℕ, ◌+◌, ◌*◌, ◌<◌, ◌≤◌, false, List, length, get_or, sym, ◌∙◌, ap, subst, arith}
use Rattle.std.proofs.lemmas.Bool.{and_parts, le-ltb}
use Rattle.std.proofs.lemmas.List.FromFn.{length-map-range_with_len, get_or-map-range_with_len}
use Rattle.base.specs.Commits.{Commit}
use Rattle.base.specs.Fresh.{superblock_words}
use Rattle.base.specs.Layout.{Layout, slot_start, slot_words, total_words}
use Rattle.base.specs.Records.{Record, record_word, is_in, is_committed, opened_gaps}
use Rattle.base.specs.Images.{Image, IsSound, layout_of, ruling, slot_word, IsRuledBy}
use Rattle.machine.specs.Openings.{StandsOpening, is_mark}
use Rattle.base.specs.Stands.{Stands}
use Rattle.base.proofs.Alike.{HasRowsOf, CountsAlike}
use Rattle.machine.proofs.openings.Records.{uncommitted-in}
use Rattle.machine.proofs.openings.States.{covers-of, below-of}
use Rattle.base.proofs.Layouts.{line-words, slot_within}
use Rattle.machine.proofs.openings.Sweeps.{mark-of, unmarked-low}
use Rattle.pmem.specs.Device.{Device}
use Rattle.pmem.specs.Words.{value_of, image_of, Survives, IsAtRest, IsSettledAt, IsWithin, OldOr, Keeps, LeavesOnly}
use Rattle.pmem.proofs.OperationEffects.{only-settled}
use Rattle.log_area.specs.Rulings.{HoldsRecord, gate_word}
use Rattle.log_area.proofs.AtRest.{laid, rest_holds}
use Rattle.log_area.proofs.Heads.{laid_size}
use Rattle.log_area.proofs.Rulings.{ruled_by, place_below, log_within}
use Rattle.recovery.specs.Sweeping.{IsSwept}
use Rattle.recovery.proofs.openings.Images.{stands-sweeping}

-- an image that has in the log area what the device may leave there is ruled by the record that the device holds
pub ruled-like : (a : Layout) (r : Record) (device : Device) (image : Image) → HoldsRecord a r device → length image ≡ device.words
    → ((word : ℕ) → word < 8 + 32 * a.places → Survives device word (get_or image word 0)) → IsRuledBy a r image
ruled-like a r device image holds size log =
    let has = holds.stands in
    ruled_by a r image has.fits (record {
      size = size ∙ has.size;
      superblock = λ word h. at word (get_or (superblock_words a) word 0) (omega (arith, h)) (has.superblock word h);
      place = λ w h. at (gate_word a r + w) (record_word r w) (omega (arith, h, place_below a r has.fits.limits)) (has.place w h);
      gates = λ place h. grind (arith);
    })
  where
    at : (word value : ℕ) → word < 8 + 32 * a.places → IsSettledAt device word value → get_or image word 0 ≡ value
    at word value lt there = only-settled device word (get_or image word 0) there.settled (log word lt) ∙ there.holds

module _ (a : Layout) (r : Record) (old : Device) (rest : IsAtRest old) (rules : IsRuledBy a r (image_of old)) where
  size-old : old.words ≡ total_words a
  size-old = sym (length-map-range_with_len (value_of old) 0 old.words) ∙ laid_size a (image_of old) (laid a r (image_of old) rules)

  module _ (image : Image) (long : length image ≡ old.words) (within : IsWithin old.words (OldOr old (IsSwept a r old)) image) where
    unswept : (word : ℕ) → word < old.words → is_mark a word ≡ false → Survives old word (get_or image word 0)
    unswept word lt none = grind (arith, and_parts) steps 800000

    pub ruled-sweeping : IsRuledBy a r image
    ruled-sweeping = ruled-like a r old image (rest_holds a r old rest rules) long (λ word low. unswept word (omega (arith, low, size-old, log_within a)) (unmarked-low a word low))

    value-old : (word : ℕ) → word < old.words → get_or (image_of old) word 0 ≡ value_of old word
    value-old word lt = get_or-map-range_with_len (value_of old) 0 old.words word word 0 lt (omega arith)

    slot-in : (slot w : ℕ) → slot < a.slots → w < slot_words a.version → slot_start a slot + w < old.words
    slot-in slot w h lt = omega (arith, slot_within a slot h, lt, size-old)

    rows-sweeping : HasRowsOf (image_of old) image
    rows-sweeping = record {
      size = long ∙ sym (length-map-range_with_len (value_of old) 0 old.words);
      laid_out = ruled-sweeping.laid_out ∙ sym rules.laid_out;
      same = λ slot w h low high. same slot w (subst (λ (l : Layout). slot < l.slots) rules.laid_out h) low (subst (λ (l : Layout). w < slot_words l.version) rules.laid_out high);
    }
      where
        same : (slot w : ℕ) → slot < a.slots → 2 ≤ w → w < slot_words a.version → slot_word image slot w ≡ slot_word (image_of old) slot w
        same slot w h low high = grind (arith, slot-in slot w h high, ruled-sweeping, mark-of, le-ltb w 2 low, value-old)

    module _ (sound : IsSound (image_of old)) where
      -- a begin or an end is what it was, or was in a gap and is 0
      mark-sweeping : (slot w : ℕ) → slot < a.slots → w < 2 → (slot_word image slot w ≡ slot_word (image_of old) slot w) ⊎ ((slot_word image slot w ≡ 0) × (is_committed (ruling (image_of old)) (slot_word (image_of old) slot w) ≡ false))
      mark-sweeping slot w h two = by (within word lt)
        where
          wide : 8 ≤ slot_words a.version
          wide = line-words a.version

          word : ℕ
          word = slot_start a slot + w

          lt : word < old.words
          lt = slot-in slot w h (omega (arith, two, wide))

          new-is : slot_word image slot w ≡ get_or image word 0
          new-is = ap (λ (l : Layout). get_or image (slot_start l slot + w) 0) ruled-sweeping.laid_out

          old-is : slot_word (image_of old) slot w ≡ value_of old word
          old-is = ap (λ (l : Layout). get_or (image_of old) (slot_start l slot + w) 0) rules.laid_out ∙ value-old word lt

          by : OldOr old (IsSwept a r old) word (get_or image word 0) → (slot_word image slot w ≡ slot_word (image_of old) slot w) ⊎ ((slot_word image slot w ≡ 0) × (is_committed (ruling (image_of old)) (slot_word (image_of old) slot w) ≡ false))
          by (inl there) = inl (new-is ∙ only-settled old word (get_or image word 0) (rest word lt) there ∙ sym old-is)
          by (inr one) = inr (
            new-is ∙ one.zero,
            uncommitted-in (ruling (image_of old)) (opened_gaps (ruling (image_of old))) (slot_word (image_of old) slot w) (covers-of (image_of old) sound)
                ((λ i. is_in (opened_gaps (rules.by_record i)) (old-is i)) ∙ (and_parts _ _ one.hit).1),
          )

      counts-sweeping : CountsAlike (ruling (image_of old)) (image_of old) (ruling (image_of old)) image
      counts-sweeping = record {
        begin = λ slot h. counts slot 0 (inside slot h) (omega arith);
        end = λ slot h. counts slot 1 (inside slot h) (omega arith);
        begin_below = λ slot h. below slot 0 (inside slot h) (omega arith) (below-of (image_of old) sound slot h).0;
        end_below = λ slot h. below slot 1 (inside slot h) (omega arith) (below-of (image_of old) sound slot h).1;
      }
        where
          inside : (slot : ℕ) → slot < (layout_of (image_of old)).slots → slot < a.slots
          inside slot h = subst (λ (l : Layout). slot < l.slots) rules.laid_out h

          counts : (slot w : ℕ) → slot < a.slots → w < 2 → is_committed (ruling (image_of old)) (slot_word image slot w) ≡ is_committed (ruling (image_of old)) (slot_word (image_of old) slot w)
          counts slot w h two = grind (arith, mark-sweeping)

          below : (slot w : ℕ) → slot < a.slots → w < 2 → slot_word (image_of old) slot w < (ruling (image_of old)).dirty → slot_word image slot w < (ruling (image_of old)).dirty
          below slot w h two less = grind (arith, mark-sweeping)

  -- whatever a crash leaves meanwhile stands for the same history
  pub images-sweeping : (new : Device) → Keeps old new (OldOr old (IsSwept a r old)) → (history drawn : List Commit) (next : ℕ) → Stands (image_of old) history drawn next → LeavesOnly old new (StandsOpening (image_of old) history next)
  images-sweeping new kept history drawn next s = record {
    continues = kept.images.continues;
    each = λ image might.
        let long : length image ≡ old.words = might.left.size ∙ kept.images.continues.same_words in
        let within = kept.images.each image might in
        stands-sweeping (image_of old) image history drawn next s (rows-sweeping image long within) (counts-sweeping image long within s.sound)
        (subst (λ (l : Layout). IsRuledBy l (ruling (image_of old)) image) (sym rules.laid_out) (subst (λ (x : Record). IsRuledBy a x image) (sym rules.by_record) (ruled-sweeping image long within)));
  }

  -- the last of these images is the device's own
  pub ruled-swept : (new : Device) → IsAtRest new → new.words ≡ old.words → Keeps old new (OldOr old (IsSwept a r old)) → ((word : ℕ) → word < new.words → Survives new word (value_of new word)) → IsRuledBy a r (image_of new)
  ruled-swept new rests same kept own =
      let long : length (image_of new) ≡ new.words = length-map-range_with_len (value_of new) 0 new.words in
      ruled-sweeping (image_of new) (long ∙ same) (λ word lt.
      let here : word < new.words = omega (arith, lt, same) in
      subst (λ (x : ℕ). OldOr old (IsSwept a r old) word x) (sym (get_or-map-range_with_len (value_of new) 0 new.words word word 0 here (omega arith))) (kept.now word (value_of new word) (own word here)))

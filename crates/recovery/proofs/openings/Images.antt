-- What an image stands for under the record that opening writes.
use Rattle.std.proofs.Common.{◌≡◌, ◌⊎◌, inl, inr, ℕ, ◌<◌, ◌≤◌, true, false, List, [], ◌∷◌, refl, sym, ap, subst, arith}
use Rattle.std.specs.Prelude.{None, ◌↔◌}
use Rattle.std.specs.List.{list_all}
use Rattle.std.proofs.lemmas.Bool.{and_parts, and_from, leb-true}
use Rattle.base.specs.Search.{first_below}
use Rattle.base.specs.Commits.{Commit}
use Rattle.base.specs.Layout.{Layout, slot_words, is_known_version}
use Rattle.base.specs.Records.{Record, is_committed, opened_gaps}
use Rattle.base.specs.Images.{Image, IsSound, layout_of, is_formatted, has_good_geometry, is_wrong_gate, is_ruled, ruling, slot_word, is_bad_slot, ShownUnder, IsRuledBy}
use Rattle.base.proofs.Histories.{no_bad_slot}
use Rattle.base.proofs.Alike.{HasRowsOf, CountsAlike, good-same, tables-same}
use Rattle.machine.proofs.openings.Records.{still-committed}
use Rattle.machine.proofs.openings.States.{opened-rows, opened-still, opened-counts, covers-of, rising-of}
use Rattle.base.proofs.Layouts.{line-words}
use Rattle.base.specs.Stands.{Stands}
use Rattle.machine.specs.Openings.{StandsOpening, opening_record, opened, gaps_kept, opened_slots}
use Rattle.base.proofs.Search.{first_below-nowhere}
use Rattle.recovery.specs.Opened.{HasSlotsOf}

-- ---- sound images

pub record IsFaultless (image : Image) : Type 0 where
  pub formatted : is_formatted image ≡ true
  pub known : is_known_version (layout_of image).version ≡ true
  pub geometry : has_good_geometry image ≡ true
  pub gates : first_below (layout_of image).places (is_wrong_gate image) ≡ None
  pub well_ruled : is_ruled image ≡ true
  pub slots : first_below (layout_of image).slots (is_bad_slot (ruling image) image) ≡ None

pub sound-faultless : (image : Image) → IsFaultless image → IsSound image
sound-faultless image is = grind (arith) steps 800000

pub known-good : (image : Image) → has_good_geometry image ≡ true → is_known_version (layout_of image).version ≡ true
known-good image good = (and_parts _ _ (and_parts _ _ (and_parts _ _ (and_parts _ _ (and_parts _ _ good).0).0).0).0).0

-- ---- opening

committed-below : (r : Record) (t : ℕ) → is_committed r t ≡ true → t ≤ r.persisted
committed-below r t is = leb-true t r.persisted (and_parts _ _ (and_parts _ _ (and_parts _ _ is).0).0).1

-- an image whose slots are those of another has their rows, and counts the same
module _ (before middle image : Image) (like : HasSlotsOf middle image) (rows : HasRowsOf before middle) where
  word-same : (slot w : ℕ) → slot_word image slot w ≡ slot_word middle slot w
  word-same slot w = grind (arith)

  pub rows-like : HasRowsOf before image
  rows-like = grind (arith, word-same) steps 800000

  pub counts-like : (r r' : Record) → CountsAlike r before r' middle → CountsAlike r before r' image
  counts-like r r' alike = grind (arith, word-same) steps 800000

-- the image of a record under which its rows count the same stands for the same
pub stands-same : (before image : Image) (history drawn : List Commit) (next : ℕ) (r : Record) → Stands before history drawn next → HasRowsOf before image → CountsAlike (ruling before) before r image → IsRuledBy (layout_of before) r image
    → (ruling before).dirty ≤ r.dirty → ((t : ℕ) → is_committed (ruling before) t ≡ true → is_committed r t ≡ true) → Stands image history [] next
stands-same before image history drawn next r s like alike rules later still =
    let ruled = rules.by_record in
    let slots : (layout_of before).slots ≡ (layout_of image).slots = ap (λ (l : Layout). l.slots) (sym like.laid_out) in
    let places : (layout_of before).places ≡ (layout_of image).places = ap (λ (l : Layout). l.places) (sym like.laid_out) in
    let wide : 8 ≤ slot_words (layout_of before).version = line-words (layout_of before).version in
    let good : (slot : ℕ) → slot < (layout_of before).slots → is_bad_slot (ruling image) image slot ≡ false =
    λ slot h. subst (λ (x : Record). is_bad_slot x image slot ≡ false) (sym ruled) (good-same before image like (ruling before) r alike wide slot h (no_bad_slot before s.sound slot h)) in
    record {
      sound = grind (arith, first_below-nowhere (layout_of before).slots (is_bad_slot (ruling image) image) good);
      tables = λ key row.
          let shown = subst (λ (x : Record). ShownUnder x image key row ↔ ShownUnder (ruling before) before key row) (sym ruled) (tables-same before image like (ruling before) r alike wide key row) in
          (λ t. (s.tables key row).0 (shown.0 t), λ e. shown.1 ((s.tables key row).1 e));
      covered = subst (λ (x : Record). list_all (λ commit. is_committed x commit.timestamp) history ≡ true) (sym ruled) (covered history s.covered);
      left_out = refl;
      reserved = omega (arith, s.reserved, later, ap (λ (x : Record). x.dirty) ruled);
    }
  where
    covered : (history : List Commit) → list_all (λ commit. is_committed (ruling before) commit.timestamp) history ≡ true → list_all (λ commit. is_committed r commit.timestamp) history ≡ true
    covered [] all = refl
    covered (commit ∷ history) all = let parts = and_parts _ _ all in and_from _ _ (still commit.timestamp parts.0) (covered history parts.1)

-- the record that opening a sound image writes
abbrev pub record_after : Image → Record
record_after image = opening_record (layout_of image) (ruling image) (gaps_kept (opened_gaps (ruling image)))

pub still-after : (image : Image) → IsSound image → (t : ℕ) → is_committed (ruling image) t ≡ true → is_committed (record_after image) t ≡ true
still-after image sound t is =
    let low : t ≤ (ruling image).persisted = committed-below (ruling image) t is in
    let rising = rising-of image sound in
    still-committed (layout_of image) (ruling image) (opened_gaps (ruling image)) t (covers-of image sound) (omega (arith, low, rising)) is

-- while the gaps are swept the image stands for the same history, under the record that ruled
pub stands-sweeping : (before image : Image) (history drawn : List Commit) (next : ℕ) → Stands before history drawn next → HasRowsOf before image → CountsAlike (ruling before) before (ruling before) image → IsRuledBy (layout_of before) (ruling before) image
    → StandsOpening before history next image
stands-sweeping before image history drawn next s like alike rules = record {
  stands = stands-same before image history drawn next (ruling before) s like alike rules (omega arith) (λ t is. is);
  ruled = inl rules.by_record;
  laid_out = inl like.laid_out;
}

-- what opening leaves stands for the same history
pub stands-opening : (before image : Image) (history drawn : List Commit) (next : ℕ) → Stands before history drawn next → HasSlotsOf (opened_slots before) image
    → IsRuledBy (layout_of before) (ruling before) image ⊎ IsRuledBy (layout_of before) (record_after before) image → StandsOpening before history next image
stands-opening before image history drawn next s like (inl rules) =
    stands-sweeping before image history drawn next s (rows-like before (opened_slots before) image like (opened-rows before))
    (counts-like before (opened_slots before) image like (opened-rows before) (ruling before) (ruling before) (opened-still before s.sound)) rules
stands-opening before image history drawn next s like (inr rules) =
    let rows = rows-like before (opened_slots before) image like (opened-rows before) in
    record {
      stands = stands-same before image history drawn next (record_after before) s rows
          (counts-like before (opened_slots before) image like (opened-rows before) (ruling before) (record_after before) (opened-counts before s.sound)) rules (omega arith) (still-after before s.sound);
      ruled = inr (opened before history [] (opened_gaps (ruling before)), (opened_gaps (ruling before), covers-of before s.sound, refl), rules.by_record);
      laid_out = inl rows.laid_out;
    }

-- What is found on opening, and the resulting state: with a sweep it is that of the image as swept, under a record
-- without gaps.
use Rattle.std.proofs.Common.{◌≡◌, ℕ, ◌+◌, ◌-◌, ◌*◌, ◌^◌, ◌<◌, ◌≤◌, Bool, true, false, cond, ◌&&◌, ◌||◌, List, [], ◌∷◌, length, refl, sym, ◌∙◌, ap, arith, nat_lt, nat_le}
use Rattle.std.specs.Prelude.{Some, None, ◌↔◌}
use Rattle.std.specs.List.{list_all}
use Rattle.std.proofs.lemmas.Bool.{and_parts, and_from, or_parts, leb-true, leb-false, ltb-true, ltb-false, lt-ltb, le-leb, eqb-true, not-false}
use Rattle.std.proofs.lemmas.Bool.Decides.{nat_tests}
use Rattle.base.specs.declared.key.Key.{Key}
use Rattle.base.specs.declared.gap.Gap.{Gap}
use Rattle.base.specs.Search.{first_below}
use Rattle.base.specs.Commits.{Commit, after}
use Rattle.base.specs.Layout.{Layout, most_longs, slot_words, total_words, is_in_limits, is_known_version}
use Rattle.base.specs.Records.{Record, is_in, is_committed, is_well_formed, opened_gaps}
use Rattle.base.specs.Images.{Image, IsSound, layout_of, ruling, has_good_geometry, is_formatted, is_ruled, is_wrong_gate, begin_of, end_of, is_ahead, is_shown, is_misfit, is_second, is_bad_slot, ShownUnder, faults_of, needs_sweep, opening_fault}
use Rattle.base.specs.Stands.{Stands}
use Rattle.machine.specs.Machine.{State}
use Rattle.machine.specs.Openings.{IsOpenedGaps, IsUpToDate, opening_record, opened, opened_under, held_under, gaps_kept, swept, opened_slots}
use Rattle.base.proofs.Histories.{no_bad_slot}
use Rattle.base.proofs.Layouts.{line-words}
use Rattle.base.proofs.WellFormed.{well_formed-parts}
use Rattle.machine.proofs.openings.GapLists.{opened-gaps, one_gap_list}
use Rattle.base.proofs.Alike.{HasRowsOf, CountsAlike, key-same, shown-same, good-same, tables-same}
use Rattle.machine.proofs.openings.Records.{same-committed, swept-committed, uncommitted-in}
use Rattle.machine.proofs.openings.Sweeps.{swept_record, swept-size, swept-layout, swept-rows, swept-counts}
use Rattle.base.proofs.Options.{or-none, all_none, some_if-none}

-- what is found on opening, by this record and with these gaps
pub record IsOpening (a : Layout) (r : Record) (image : Image) (history : List Commit) (gaps : List Gap) : Type 0 where
  pub layout : layout_of image ≡ a
  pub limits : is_in_limits a ≡ true
  pub size : length image ≡ total_words a
  pub formed : is_well_formed a.version r ≡ true
  pub room : r.dirty + 2 * a.window < 2 ^ 62
  pub good : (slot : ℕ) → slot < a.slots → is_bad_slot r image slot ≡ false
  pub tables : (key : Key) (row : List ℕ) → ShownUnder r image key row ↔ (after history key ≡ Some row)
  pub covered : list_all (λ commit. is_committed r commit.timestamp) history ≡ true
  pub gaps_cover : IsOpenedGaps r gaps
  pub few : length gaps ≤ 8

-- ---- what a sound image says

pub record IsWhole (image : Image) : Type 0 where
  pub formatted : is_formatted image ≡ true
  pub known : is_known_version (layout_of image).version ≡ true
  pub geometry : has_good_geometry image ≡ true
  pub gates : first_below (layout_of image).places (is_wrong_gate image) ≡ None
  pub ruled : is_ruled image ≡ true

pub whole-of : (image : Image) → IsSound image → IsWhole image
whole-of image sound =
    let (formatted, (known, (geometry, (gates, (ruled, _))))) = all_none (faults_of image) sound in
    grind (arith, not-false, some_if-none)

pub size-of : (image : Image) → has_good_geometry image ≡ true → (is_in_limits (layout_of image) ≡ true) × (length image ≡ total_words (layout_of image))
size-of image good = grind (arith, and_parts, eqb-true)

pub formed-of : (image : Image) → IsSound image → is_well_formed (layout_of image).version (ruling image) ≡ true
formed-of image sound = grind (arith, and_parts, whole-of)

pub covers-of : (image : Image) → IsSound image → IsOpenedGaps (ruling image) (opened_gaps (ruling image))
covers-of image sound = opened-gaps (layout_of image).version (ruling image) (formed-of image sound)

pub below-of : (image : Image) → IsSound image → (slot : ℕ) → slot < (layout_of image).slots → (begin_of image slot < (ruling image).dirty) × (end_of image slot < (ruling image).dirty)
below-of image sound slot h =
    let both = or_parts (is_ahead (ruling image) image slot) (is_shown (ruling image) image slot && (is_misfit image slot || is_second (ruling image) image slot)) (no_bad_slot image sound slot h) in
    let marks = or_parts (nat_le (ruling image).dirty (begin_of image slot)) (nat_le (ruling image).dirty (end_of image slot)) both.0 in
    (leb-false (ruling image).dirty (begin_of image slot) marks.0, leb-false (ruling image).dirty (end_of image slot) marks.1)

pub rising-of : (image : Image) → IsSound image → (ruling image).persisted < (ruling image).dirty
rising-of image sound = (well_formed-parts (layout_of image).version (ruling image) (formed-of image sound)).below

pub limit-of : (image : Image) → IsSound image → (ruling image).dirty < 2 ^ 62
limit-of image sound = (well_formed-parts (layout_of image).version (ruling image) (formed-of image sound)).limit

pub room-of : (image : Image) → opening_fault image ≡ None → ((ruling image).dirty + 2 * (layout_of image).window < 2 ^ 62) × ((ruling image).gate + 1 < 2 ^ 62)
room-of image opens = grind (arith, or-none, or_parts, some_if-none, leb-false)

-- ---- what is found

-- the record with which opening continues
abbrev pub ruled_before : Image → Record
ruled_before image = cond (needs_sweep image) (swept_record (ruling image)) (ruling image)

-- the sweep leaves rows that count the same, under a record that commits of what is left what the old one committed
sweep-counts-by : (image : Image) → IsSound image → (r' : Record) → ((t : ℕ) → t < (ruling image).dirty → is_committed r' (cond (is_in (opened_gaps (ruling image)) t) 0 t) ≡ is_committed (ruling image) t) → (ruling image).dirty ≤ r'.dirty
    → CountsAlike (ruling image) image r' (swept image)
sweep-counts-by image sound r' same further =
    swept-counts image r' same further (omega (arith, line-words (layout_of image).version)) (λ slot h. (below-of image sound slot h).0) (λ slot h. (below-of image sound slot h).1)

sweep-counts : (image : Image) → IsSound image → CountsAlike (ruling image) image (swept_record (ruling image)) (swept image)
sweep-counts image sound =
    sweep-counts-by image sound (swept_record (ruling image)) (λ t less. swept-committed (layout_of image) (ruling image) (opened_gaps (ruling image)) t (covers-of image sound) less) (omega arith)

-- an image counts the same as itself, if the record commits the same
own-counts : (image : Image) → IsSound image → (r' : Record) → ((t : ℕ) → t < (ruling image).dirty → is_committed r' t ≡ is_committed (ruling image) t) → (ruling image).dirty ≤ r'.dirty → CountsAlike (ruling image) image r' image
own-counts image sound r' same further = record {
  begin = λ slot h. same (begin_of image slot) (below-of image sound slot h).0;
  end = λ slot h. same (end_of image slot) (below-of image sound slot h).1;
  begin_below = λ slot h. let low = (below-of image sound slot h).0 in omega (arith, low, further);
  end_below = λ slot h. let low = (below-of image sound slot h).1 in omega (arith, low, further);
}

-- the slots that are left by opening have the same rows
pub opened-rows : (image : Image) → HasRowsOf image (opened_slots image)
opened-rows image = by (needs_sweep image)
  where
    by : (b : Bool) → HasRowsOf image (cond b (swept image) image)
    by true = swept-rows image
    by false = record { size = refl; laid_out = refl; same = λ slot w h low high. refl }

-- they count the same under the record that ruled
pub opened-still : (image : Image) → IsSound image → CountsAlike (ruling image) image (ruling image) (opened_slots image)
opened-still image sound = by (needs_sweep image)
  where
    same : (t : ℕ) → t < (ruling image).dirty → is_committed (ruling image) (cond (is_in (opened_gaps (ruling image)) t) 0 t) ≡ is_committed (ruling image) t
    same t less = sides (is_in (opened_gaps (ruling image)) t) refl
      where
        sides : (x : Bool) → is_in (opened_gaps (ruling image)) t ≡ x → is_committed (ruling image) (cond x 0 t) ≡ is_committed (ruling image) t
        sides true is = sym (uncommitted-in (ruling image) (opened_gaps (ruling image)) t (covers-of image sound) is)
        sides false is = refl

    by : (b : Bool) → CountsAlike (ruling image) image (ruling image) (cond b (swept image) image)
    by true = sweep-counts-by image sound (ruling image) same (omega arith)
    by false = own-counts image sound (ruling image) (λ t less. refl) (omega arith)

-- and under the one that the opening writes
pub opened-counts : (image : Image) → IsSound image → CountsAlike (ruling image) image (opening_record (layout_of image) (ruling image) (gaps_kept (opened_gaps (ruling image)))) (opened_slots image)
opened-counts image sound = by (needs_sweep image)
  where
    by : (b : Bool) → CountsAlike (ruling image) image (opening_record (layout_of image) (ruling image) (cond b [] (opened_gaps (ruling image)))) (cond b (swept image) image)
    by true =
        sweep-counts-by image sound (opening_record (layout_of image) (ruling image) []) (λ t less. swept-committed (layout_of image) (ruling image) (opened_gaps (ruling image)) t (covers-of image sound) less) (omega arith)
    by false =
        own-counts image sound (opening_record (layout_of image) (ruling image) (opened_gaps (ruling image))) (λ t less. same-committed (layout_of image) (ruling image) (opened_gaps (ruling image)) t (covers-of image sound) less) (omega arith)

abbrev pub IsOpeningBy : Bool → Image → List Commit → List Gap → Type 0
IsOpeningBy b image history gaps = IsOpening (layout_of image) (cond b (swept_record (ruling image)) (ruling image)) (cond b (swept image) image) history (cond b [] gaps)

opening-by : (image : Image) (history drawn : List Commit) (next : ℕ) → opening_fault image ≡ None → Stands image history drawn next → (b : Bool) → needs_sweep image ≡ b → IsOpeningBy b image history (opened_gaps (ruling image))
opening-by image history drawn next opens stands false is = grind (arith, size-of, whole-of, formed-of, room-of, no_bad_slot, covers-of, ltb-false)
opening-by image history drawn next opens stands true is =
    let sound = stands.sound in
    let size = size-of image (whole-of image sound).geometry in
    let wide : 8 ≤ slot_words (layout_of image).version = line-words (layout_of image).version in
    let alike = sweep-counts image sound in
    let rising = rising-of image sound in
    record {
      layout = swept-layout image;
      limits = size.0;
      size = swept-size image ∙ size.1;
      formed = and_from _ _ (and_from _ _ (and_from _ _ (and_from _ _ (and_from _ _ (and_from _ _ (and_from _ _
          (lt-ltb ((ruling image).dirty - 1) (ruling image).dirty (omega (arith, rising))) (lt-ltb (ruling image).dirty (2 ^ 62) (limit-of image sound))) refl) (le-leb 0 (most_longs (layout_of image).version) (omega arith))) refl) refl) refl) refl;
      room = (room-of image opens).0;
      good = λ slot h. good-same image (swept image) (swept-rows image) (ruling image) (swept_record (ruling image)) alike wide slot h (no_bad_slot image sound slot h);
      tables = λ key row.
          let same = tables-same image (swept image) (swept-rows image) (ruling image) (swept_record (ruling image)) alike wide key row in
          (λ t. (stands.tables key row).0 (same.0 t), λ e. same.1 ((stands.tables key row).1 e));
      covered = covered history stands.covered;
      gaps_cover = record { ordered = refl; apart = refl; same = λ t. none t };
      few = omega arith;
    }
  where
    counted : (t : ℕ) → is_committed (ruling image) t ≡ true → is_committed (swept_record (ruling image)) t ≡ true
    counted t e =
        let parts = and_parts _ _ (and_parts _ _ (and_parts _ _ e).0).0 in
        let rising = rising-of image stands.sound in
        let most : t ≤ (ruling image).persisted = leb-true t (ruling image).persisted parts.1 in
        and_from _ _ (and_from _ _ (and_from _ _ parts.0 (le-leb t ((ruling image).dirty - 1) (omega (arith, most, rising)))) refl) refl

    covered : (history : List Commit) → list_all (λ commit. is_committed (ruling image) commit.timestamp) history ≡ true → list_all (λ commit. is_committed (swept_record (ruling image)) commit.timestamp) history ≡ true
    covered [] all = refl
    covered (commit ∷ history) all = let parts = and_parts _ _ all in and_from _ _ (counted commit.timestamp parts.0) (covered history parts.1)

    none : (t : ℕ) → false ≡ (nat_lt ((ruling image).dirty - 1) t && nat_lt t (ruling image).dirty)
    none t = let d : ℕ = (ruling image).dirty in grind (arith, nat_tests)

pub opening-of : (image : Image) (history drawn : List Commit) (next : ℕ) → opening_fault image ≡ None → Stands image history drawn next
    → IsOpening (layout_of image) (ruled_before image) (opened_slots image) history (gaps_kept (opened_gaps (ruling image)))
opening-of image history drawn next opens stands = opening-by image history drawn next opens stands (needs_sweep image) refl

-- no begin and no end is ahead of the record that ruled
pub opened-below : (image : Image) → IsSound image → (slot : ℕ) → slot < (layout_of image).slots → (begin_of (opened_slots image) slot < (ruling image).dirty) × (end_of (opened_slots image) slot < (ruling image).dirty)
opened-below image sound slot h = let still = opened-still image sound in (still.begin_below slot h, still.end_below slot h)

-- ---- what it gives

abbrev opened_by : Bool → Image → List Commit → List ℕ → List Gap → State
opened_by b image history lost gaps = opened_under (layout_of image) (cond b (swept_record (ruling image)) (ruling image)) (cond b (swept image) image) history lost (cond b [] gaps)

same-held : (image : Image) (history : List Commit) → IsSound image → (slot : ℕ)
    → held_under (layout_of image) (swept_record (ruling image)) (swept image) history slot ≡ held_under (layout_of image) (ruling image) image history slot
same-held image history sound slot = grind (arith, swept_record, ltb-true, line-words, shown-same, swept-rows, sweep-counts, key-same)

same-by : (image : Image) (history : List Commit) (lost : List ℕ) (gaps : List Gap) → IsSound image → (b : Bool)
    → opened_by b image history lost gaps ≡ opened_under (layout_of image) (ruling image) image history lost (cond b [] gaps)
same-by image history lost gaps sound false = refl
same-by image history lost gaps sound true = λ i. record (opened_under (layout_of image) (ruling image) image history lost []) { held = λ slot. same-held image history sound slot i }

-- the state after opening an image of the newest version is the one given by what was found
pub same_opened : (image : Image) (history : List Commit) (lost : List ℕ) (gaps : List Gap) → IsSound image → IsUpToDate image → IsOpenedGaps (ruling image) gaps
    → opened_under (layout_of image) (ruled_before image) (opened_slots image) history lost (gaps_kept (opened_gaps (ruling image))) ≡ opened image history lost gaps
same_opened image history lost gaps sound up covers =
    same-by image history lost (opened_gaps (ruling image)) sound (needs_sweep image)
    ∙ ap (λ (gs : List Gap). opened_under (layout_of image) (ruling image) image history lost (gaps_kept gs)) (one_gap_list (ruling image) (opened_gaps (ruling image)) gaps (covers-of image sound) covers)
    ∙ ap (λ (a : Layout). opened_under a (ruling image) image history lost (gaps_kept gaps)) up

-- Worked images of four slots, two places and a window of eight: their words, and what is wrong with changed ones.
use Rattle.std.specs.Prelude.{ℕ, ◌≡◌, Bool, true, false, List, [], ◌∷◌, ◌++◌, length, map, take, replicate, slice_set, Option, Some, None}
use Rattle.std.specs.List.{range_with_len}
use Rattle.base.specs.declared.key.Key.{Key}
use Rattle.base.specs.declared.gap.Gap.{Gap}
use Rattle.base.specs.declared.fault.Fault.{Fault}
use Rattle.base.specs.declared.fault.Fault.TheVariants.{BadGeometry, NotFormatted, Damaged, Version, TimestampsOut}
use Rattle.base.specs.Commits.{Commit}
use Rattle.base.specs.Layout.{Layout, is_in_limits, layout_with, total_words}
use Rattle.base.specs.Records.{Record, record_word, is_well_formed, is_committed, opened_gaps}
use Rattle.base.specs.Images.{Image, damage, opening_fault, needs_sweep, ruling, place_words, is_live, key_of, layout_of, row_of, superblock_word}
use Rattle.base.specs.Stands.{Stands}
use Rattle.machine.specs.Openings.{IsOpenedGaps, gaps_kept, opened_slots, updates, words_swept, lines_swept}

-- words by number, each with its value
abbrev pub Words : Type 0
Words = List (ℕ × ℕ)

-- the image with these words instead of its own
abbrev pub with_words : Words → Image → Image
with_words [] image = image
with_words (word ∷ words) image = with_words words (slice_set image word.0 word.1)

-- the image with these words and a superblock; the others are 0
abbrev pub image_with : Words → Image
image_with words = with_words ((0, superblock_word) ∷ (1, 1) ∷ (2, 4) ∷ (3, 2) ∷ (4, 8) ∷ (5, 104) ∷ words) (replicate 104 0)

-- the key and the row of the first commit
abbrev pub key_7 : Key
key_7 = record { table = 1; key = 7 }

-- a row of two bytes, the letters ab
abbrev pub ab : List ℕ
ab = 97 ∷ 98 ∷ []

-- the words of slot 0 when a version of key 7 was put in it
abbrev pub version_words : Words
version_words = (74, 7) ∷ (75, 131073) ∷ (76, 25185) ∷ []

-- after a format
abbrev pub formatted_image : Image
formatted_image = image_with ((40, 1) ∷ (42, 1) ∷ [])

-- after opening
abbrev pub opened_image : Image
opened_image = with_words ((8, 2) ∷ (10, 9) ∷ []) formatted_image

-- after the first commit was covered
abbrev pub covered_image : Image
covered_image = with_words ((72, 1) ∷ (40, 3) ∷ (41, 1) ∷ (42, 10) ∷ version_words) opened_image

-- after the next opening
abbrev pub opened_again_image : Image
opened_again_image = with_words ((8, 4) ∷ (9, 9) ∷ (10, 18) ∷ (11, 1) ∷ (12, 2) ∷ (13, 9) ∷ []) covered_image

-- with commit 1 stamped and not covered
abbrev pub stamped_image : Image
stamped_image = with_words ((72, 1) ∷ version_words) opened_image

-- the first commit
abbrev pub commit_1 : Commit
commit_1 = record { timestamp = 1; writes = (key_7, Some ab) ∷ [] }

-- a gap, and a record without long commits, in short
abbrev pub gap : ℕ → ℕ → Gap
gap first last = record { first = first; last = last }

-- a record without long commits
abbrev pub record_of : ℕ → ℕ → ℕ → List Gap → Record
record_of gate persisted dirty gaps = record { gate = gate; persisted = persisted; dirty = dirty; gaps = gaps; longs = [] }

-- which of the four slots are live
abbrev pub live_slots : Image → List Bool
live_slots image = map (is_live (is_committed (ruling image)) image) (range_with_len 0 4)

-- the images of a first run: sound, with these ruling records and this row, and the covered one stands for the history of one commit
pub record FirstRunImages : Type 0 where
  pub sound : map damage (formatted_image ∷ opened_image ∷ covered_image ∷ opened_again_image ∷ stamped_image ∷ []) ≡ None ∷ None ∷ None ∷ None ∷ None ∷ []
  pub ruled : map ruling (formatted_image ∷ opened_image ∷ covered_image ∷ opened_again_image ∷ stamped_image ∷ [])
      ≡ record_of 1 0 1 [] ∷ record_of 2 0 9 [] ∷ record_of 3 1 10 [] ∷ record_of 4 9 18 (gap 2 9 ∷ []) ∷ record_of 2 0 9 [] ∷ []
  pub record_words : map (record_word (ruling opened_again_image)) (range_with_len 0 32) ≡ place_words opened_again_image 0
  pub live : (live_slots opened_again_image ≡ true ∷ false ∷ false ∷ false ∷ []) × (live_slots stamped_image ≡ false ∷ false ∷ false ∷ false ∷ [])
  pub row : (key_of opened_again_image 0 ≡ key_7) × (row_of opened_again_image 0 ≡ ab)
  pub stands : Stands covered_image (commit_1 ∷ []) (commit_1 ∷ []) 10
  pub no_gap_due : IsOpenedGaps (ruling formatted_image) []
  pub gap_due : IsOpenedGaps (ruling covered_image) (gap 2 9 ∷ [])

-- changes of an image, each with a result
abbrev pub Table : Type 0
Table = List (Words × Option Fault)

-- the test returns these results
abbrev pub IsTable : (Image → Option Fault) → Image → Table → Type 0
IsTable test image table = map (λ row. test (with_words row.0 image)) table ≡ map (λ row. row.1) table

-- a formatted image, changed
abbrev pub changed_format : Table
changed_format =
    ((42, 0) ∷ [], Some (Damaged 1))
    ∷ ((43, 9) ∷ [], Some (Damaged 1))
    ∷ ((43, 4294967296) ∷ [], Some (Damaged 1))
    ∷ ((71, 1) ∷ [], Some (Damaged 1))
    ∷ ((72, 1) ∷ [], Some (Damaged 2))
    ∷ ((73, 1) ∷ [], Some (Damaged 2))
    ∷ ((9, 5) ∷ [], None)
    ∷ ((8, 4611686018427387904) ∷ [], Some (Damaged 0))
    ∷ ((8, 4) ∷ [], Some (Damaged 0))
    ∷ ((8, 3) ∷ [], Some (Damaged 0))
    ∷ ((42, 4611686018427387888) ∷ [], None)
    ∷ ((42, 4611686018427387887) ∷ [], None)
    ∷ ((40, 4611686018427387903) ∷ [], None)
    ∷ ((40, 0) ∷ [], Some (Damaged 1))
    ∷ ((1, 9) ∷ [], Some (Version 9))
    ∷ ((1, 9) ∷ (6, 1) ∷ [], Some (Version 9))
    ∷ ((0, 9) ∷ (1, 9) ∷ [], Some NotFormatted)
    ∷ ((5, 105) ∷ [], Some BadGeometry)
    ∷ ((6, 1) ∷ [], Some BadGeometry)
    ∷ ((7, 1) ∷ (40, 0) ∷ [], Some BadGeometry)
    ∷ ((4, 3) ∷ [], Some BadGeometry)
    ∷ ((2, 5) ∷ [], Some BadGeometry)
    ∷ []

-- with one row
abbrev pub one_row_image : Image
one_row_image = with_words ((41, 1) ∷ (42, 2) ∷ (72, 1) ∷ version_words) formatted_image

-- that image, changed
abbrev pub changed_row : Table
changed_row =
    ([], None)
    ∷ ((76, 65536) ∷ [], Some (Damaged 2))
    ∷ ((75, 2162689) ∷ [], Some (Damaged 2))
    ∷ ((75, 16908289) ∷ [], Some (Damaged 2))
    ∷ ((75, 21474967553) ∷ [], Some (Damaged 2))
    ∷ ((75, 17180000257) ∷ [], None)
    ∷ ((73, 1) ∷ [], None)
    ∷ ((80, 2) ∷ [], Some (Damaged 3))
    ∷ ((80, 1) ∷ (82, 7) ∷ (83, 131073) ∷ (84, 25185) ∷ [], Some (Damaged 3))
    ∷ []

-- the result of opening a formatted image, changed
abbrev pub changed_opening : Table
changed_opening =
    ([], None)
    ∷ ((42, 4611686018427387888) ∷ [], Some TimestampsOut)
    ∷ ((42, 4611686018427387887) ∷ [], None)
    ∷ ((40, 4611686018427387903) ∷ [], Some TimestampsOut)
    ∷ ((8, 4) ∷ (42, 4611686018427387888) ∷ [], Some (Damaged 0))
    ∷ []

-- a record of eight gaps of one timestamp each, from 1 to 15
abbrev pub eight_gaps : Words
eight_gaps = (43, 8) ∷ (44, 1) ∷ (45, 1) ∷ (46, 3) ∷ (47, 3) ∷ (48, 5) ∷ (49, 5) ∷ (50, 7) ∷ (51, 7) ∷ (52, 9) ∷ (53, 9) ∷ (54, 11) ∷ (55, 11) ∷ (56, 13) ∷ (57, 13) ∷ (58, 15) ∷ (59, 15) ∷ []

-- an image in which opening adds a ninth gap
abbrev pub ninth_gap_image : Image
ninth_gap_image = with_words ((41, 17) ∷ (42, 20) ∷ eight_gaps) formatted_image

-- the same, but the ninth gap is joined to the eighth
abbrev pub joined_gap_image : Image
joined_gap_image = with_words ((41, 15) ∷ (42, 20) ∷ eight_gaps) formatted_image

-- the same, but no timestamp is skipped
abbrev pub eight_gaps_image : Image
eight_gaps_image = with_words ((41, 17) ∷ (42, 18) ∷ eight_gaps) formatted_image

-- Slot 0 begins in the third gap, slot 1 begins at 2 and ends in the ninth, slot 2 begins at 4 and ends at 6, and slot 3
-- has both in gaps
abbrev pub marked_words : Words
marked_words = (72, 5) ∷ (74, 5) ∷ (80, 2) ∷ (81, 19) ∷ (82, 7) ∷ (88, 4) ∷ (89, 6) ∷ (96, 1) ∷ (97, 15) ∷ []

-- records 4 and 5 of three covered keys, with half of record 6 stored over the body of record 4, and key 4 stamped
abbrev pub half_written_image : Image
half_written_image = image_with ((8, 4) ∷ (9, 4) ∷ (10, 13) ∷ (40, 5) ∷ (41, 3) ∷ (42, 12)
    ∷ (72, 1) ∷ (74, 1) ∷ (75, 1) ∷ (80, 2) ∷ (82, 2) ∷ (83, 1) ∷ (88, 3) ∷ (90, 3) ∷ (91, 1) ∷ (96, 4) ∷ (98, 4) ∷ (99, 1) ∷ [])

-- the longest row under the greatest key
abbrev pub largest_image : Image
largest_image = with_words ((41, 1) ∷ (42, 2) ∷ (72, 1) ∷ (74, 18446744073709551615) ∷ (75, 2162687)
    ∷ (76, 18446744073709551615) ∷ (77, 18446744073709551615) ∷ (78, 18446744073709551615) ∷ (79, 18446744073709551615) ∷ []) formatted_image

-- which fault each damaged image gives
pub record DamagedImages : Type 0 where
  pub format : IsTable damage formatted_image changed_format
  pub row : IsTable damage one_row_image changed_row
  pub opening : IsTable opening_fault formatted_image changed_opening
  pub cut_short : map (λ n. damage (take n formatted_image)) (range_with_len 0 105) ≡ replicate 8 (Some NotFormatted) ++ replicate 96 (Some BadGeometry) ++ None ∷ []

-- An image with a ninth gap opens, and is swept: 0 is stored in the begins and the ends that are in a gap. With eight gaps
-- nothing is swept
pub record NinthGap : Type 0 where
  pub opens : map opening_fault (ninth_gap_image ∷ joined_gap_image ∷ eight_gaps_image ∷ []) ≡ None ∷ None ∷ None ∷ []
  pub sweeps : map needs_sweep (ninth_gap_image ∷ joined_gap_image ∷ eight_gaps_image ∷ []) ≡ true ∷ false ∷ false ∷ []
  pub swept : opened_slots (with_words marked_words ninth_gap_image) ≡ with_words ((72, 0) ∷ (81, 0) ∷ (96, 0) ∷ (97, 0) ∷ []) (with_words marked_words ninth_gap_image)
  pub words : words_swept (with_words marked_words ninth_gap_image) ≡ 4
  pub lines : lines_swept (with_words marked_words ninth_gap_image) ≡ 3
  pub kept : opened_slots (with_words marked_words joined_gap_image) ≡ with_words marked_words joined_gap_image
  pub gaps : map (λ image. length (gaps_kept (opened_gaps (ruling image)))) (ninth_gap_image ∷ joined_gap_image ∷ eight_gaps_image ∷ []) ≡ 0 ∷ 8 ∷ 8 ∷ []

-- words that are read, and words that aren't
pub record ReadImages : Type 0 where
  pub ended : live_slots (with_words ((73, 1) ∷ []) one_row_image) ≡ false ∷ false ∷ false ∷ false ∷ []
  pub half_written : (damage half_written_image ≡ None) × (ruling half_written_image ≡ record_of 5 3 12 []) × (live_slots half_written_image ≡ true ∷ true ∷ true ∷ false ∷ [])
  pub largest : (damage largest_image ≡ None) × (key_of largest_image 0 ≡ record { table = 65535; key = 18446744073709551615 }) × (row_of largest_image 0 ≡ replicate 32 255)

-- a record of version 2, with a long commit
abbrev pub with_long : Record
with_long = record { gate = 6; persisted = 7; dirty = 16; gaps = []; longs = 5 ∷ [] }

-- its words, the versions that allow it, and what it commits
pub record LongCommits : Type 0 where
  pub words : map (record_word with_long) (3 ∷ 20 ∷ 21 ∷ []) ≡ 4294967296 ∷ 5 ∷ 0 ∷ []
  pub versions : map (λ version. is_well_formed version with_long) (1 ∷ 2 ∷ []) ≡ false ∷ true ∷ []
  pub committed : map (is_committed with_long) (4 ∷ 5 ∷ 6 ∷ 7 ∷ 8 ∷ []) ≡ true ∷ false ∷ true ∷ true ∷ false ∷ []

-- a large image after the first commit was covered: the words are those of version 2, except for word 1
abbrev pub large_image : Image
large_image = with_words ((1, 260) ∷ []) covered_image

-- a large image whose slots have two lines, after the same
abbrev pub large_wide_image : Image
large_wide_image = with_words ((0, superblock_word) ∷ (1, 516) ∷ (2, 4) ∷ (3, 2) ∷ (4, 8) ∷ (5, 136) ∷ (8, 2) ∷ (10, 9) ∷ (40, 3) ∷ (41, 1) ∷ (42, 10)
    ∷ (72, 1) ∷ version_words) (replicate 136 0)

-- a large image whose slots have eight lines, after the same; behind the row words hold what they held
abbrev pub large_widest_image : Image
large_widest_image = with_words ((0, superblock_word) ∷ (1, 2052) ∷ (2, 4) ∷ (3, 2) ∷ (4, 8) ∷ (5, 328) ∷ (8, 2) ∷ (10, 9) ∷ (40, 3) ∷ (41, 1) ∷ (42, 10)
    ∷ (72, 1) ∷ (77, 5) ∷ (135, 6) ∷ version_words) (replicate 328 0)

-- words of its slots, changed: a byte behind the row in its last word; a word behind it; the longest row, and one byte more
abbrev pub changed_widest : Table
changed_widest =
    ((76, 6513249) ∷ [], Some (Damaged 2))
    ∷ ((77, 7) ∷ [], None)
    ∷ ((75, 31457281) ∷ [], None)
    ∷ ((75, 31522817) ∷ [], Some (Damaged 2))
    ∷ []

-- a large image, changed: no lines, 65 of them, nine, three and two with the length of one; 2^24 slots and one more with the length of
-- four; a word that is 0; and as version 2
abbrev pub changed_large : Table
changed_large =
    ((1, 4) ∷ [], Some (Version 4))
    ∷ ((1, 16644) ∷ [], Some (Version 16644))
    ∷ ((1, 2308) ∷ [], Some (Version 2308))
    ∷ ((1, 772) ∷ [], Some BadGeometry)
    ∷ ((1, 516) ∷ [], Some BadGeometry)
    ∷ ((2, 16777216) ∷ (5, 134217800) ∷ [], Some BadGeometry)
    ∷ ((2, 16777217) ∷ (5, 134217808) ∷ [], Some BadGeometry)
    ∷ ((6, 1) ∷ [], Some BadGeometry)
    ∷ ((1, 2) ∷ [], None)
    ∷ []

-- layouts within the limits and past them: each version's most slots, and one more
abbrev pub layouts_at_limits : List (Layout × Bool)
layouts_at_limits =
    (layout_with 260 16777216 2 1024, true)
    ∷ (layout_with 260 16777217 2 1024, false)
    ∷ (layout_with 516 16777216 64 1024, true)
    ∷ (layout_with 516 16777217 64 1024, false)
    ∷ (layout_with 2 65536 2 1024, true)
    ∷ (layout_with 2 65537 2 1024, false)
    ∷ (layout_with 3 65537 2 1024, false)
    ∷ (layout_with 4 1 2 1024, false)
    ∷ (layout_with 772 1 2 1024, true)
    ∷ (layout_with 2052 16777216 64 1024, true)
    ∷ (layout_with 2052 16777217 64 1024, false)
    ∷ (layout_with 2308 1 2 1024, false)
    ∷ []

-- Large images are sound, have their layouts, rows and rulings, and opening doesn't change their version. Others are refused, and there
-- are 2^24 slots at most
pub record LargeImages : Type 0 where
  pub sound : map damage (large_image ∷ large_wide_image ∷ []) ≡ None ∷ None ∷ []
  pub laid_out : map layout_of (large_image ∷ large_wide_image ∷ []) ≡ layout_with 260 4 2 8 ∷ layout_with 516 4 2 8 ∷ []
  pub ruled : map ruling (large_image ∷ large_wide_image ∷ []) ≡ record_of 3 1 10 [] ∷ record_of 3 1 10 [] ∷ []
  pub opens : map opening_fault (large_image ∷ large_wide_image ∷ []) ≡ None ∷ None ∷ []
  pub kept : map updates (large_image ∷ large_wide_image ∷ []) ≡ false ∷ false ∷ []
  pub live : (live_slots large_image ≡ true ∷ false ∷ false ∷ false ∷ []) × (live_slots large_wide_image ≡ true ∷ false ∷ false ∷ false ∷ [])
  pub row : (key_of large_image 0 ≡ key_7) × (row_of large_image 0 ≡ ab)
  pub wide_row : (key_of large_wide_image 0 ≡ key_7) × (row_of large_wide_image 0 ≡ ab)
  pub widest : (damage large_widest_image ≡ None) × (layout_of large_widest_image ≡ layout_with 2052 4 2 8) × (key_of large_widest_image 0 ≡ key_7) × (row_of large_widest_image 0 ≡ ab)
  pub changed : IsTable damage large_image changed_large
  pub widest_changed : IsTable damage large_widest_image changed_widest
  pub limits : map (λ row. is_in_limits row.0) layouts_at_limits ≡ map (λ row. row.1) layouts_at_limits
  pub longest : map total_words (layout_with 260 16777216 2 1024 ∷ layout_with 516 16777216 64 1024 ∷ []) ≡ 134217800 ∷ 268437512 ∷ []

-- The state after opening, and what the image stands for meanwhile.
use Rattle.std.specs.Prelude.{ℕ, ◌+◌, ◌-◌, ◌%◌, ◌≡◌, ◌⊎◌, Bool, false, not, ◌&&◌, ◌||◌, nat_eq, nat_lt, nat_le, if◌then◌else◌, List, [], ◌∷◌, length, map, slice_index, IsTrue, Option, Some, None}
use Rattle.std.specs.List.{list_any, list_all, range_with_len}
use Rattle.base.specs.declared.gap.Gap.{Gap}
use Rattle.base.specs.Commits.{Commit, last_writer}
use Rattle.base.specs.Layout.{Layout, opened_layout, opened_version, slot_start, slot_words}
use Rattle.base.specs.Search.{count_below}
use Rattle.base.specs.Records.{Record, is_in, are_apart, opened_gaps}
use Rattle.base.specs.Images.{Image, layout_of, ruling, is_shown, key_of, slot_word, needs_sweep}
use Rattle.base.specs.Stands.{Stands}
use Rattle.machine.specs.Machine.{State, Version, ByCommit}

-- The gaps cover this set of timestamps: those of the record, its long commits, and those
-- between its persisted and its dirty timestamp. There are as few gaps as possible
pub record IsOpenedGaps (r : Record) (gaps : List Gap) : Type 0 where
  pub ordered : IsTrue (list_all (λ gap. nat_le gap.first gap.last) gaps)
  pub apart : IsTrue (are_apart gaps)
  pub same : (t : ℕ) → is_in gaps t ≡ (is_in r.gaps t || list_any (nat_eq t) r.longs || (nat_lt r.persisted t && nat_lt t r.dirty))

-- the gaps that are kept on opening: none if there are more than eight, since these are swept first
abbrev pub gaps_kept : List Gap → List Gap
gaps_kept gaps = if nat_lt 8 (length gaps) then [] else gaps

-- the record that is written on opening over the one that ruled, with these gaps
abbrev pub opening_record : Layout → Record → List Gap → Record
opening_record a r gaps = record { gate = r.gate + 1; persisted = r.dirty - 1; dirty = r.dirty + a.window; gaps = gaps; longs = [] }

-- what takes a slot then: a live slot is taken by the last commit on its key
abbrev pub held_under : Layout → Record → Image → List Commit → ℕ → Option Version
held_under a r image history slot =
    if nat_lt slot a.slots && is_shown r image slot
    then Some (record { key = key_of image slot; writer = ByCommit (last_writer history (key_of image slot)) })
    else None

-- the state after opening, with this layout, over this record, and with these gaps
abbrev pub opened_under : Layout → Record → Image → List Commit → List ℕ → List Gap → State
opened_under a r image history lost gaps = record {
  layout = a;
  ruling = opening_record a r gaps;
  history = history;
  drawn = [];
  lost = lost;
  sessions = λ n. None;
  next = r.dirty;
  swept = false;
  place = 0;
  failed = false;
  hand = None;
  held = held_under a r image history;
}

-- the state after opening the image, with these gaps
abbrev pub opened : Image → List Commit → List ℕ → List Gap → State
opened image history lost gaps = opened_under (opened_layout (layout_of image)) (ruling image) image history lost (gaps_kept gaps)

-- opening the image, which stands for the history, gives this state
abbrev pub OpensAs : Image → List Commit → List ℕ → State → Type 0
OpensAs image history lost q = (gaps : List Gap) × IsOpenedGaps (ruling image) gaps × (q ≡ opened image history lost gaps)

-- ---- the version

-- the image has the version that opening leaves
abbrev pub IsUpToDate : Image → Type 0
IsUpToDate image = layout_of image ≡ opened_layout (layout_of image)

-- opening changes the version of the image first
abbrev pub updates : Image → Bool
updates image = not (nat_eq (layout_of image).version (opened_version (layout_of image).version))

-- the image with that version: its second word is the version
abbrev pub updated : Image → Image
updated [] = []
updated (first ∷ []) = first ∷ []
updated (first ∷ version ∷ words) = first ∷ opened_version version ∷ words

-- ---- the sweep, if there are more than eight gaps

-- the word is the begin or the end of a slot
abbrev pub is_mark : Layout → ℕ → Bool
is_mark a word = nat_le (slot_start a 0) word && nat_lt ((word - slot_start a 0) % slot_words a.version) 2

-- a sweep stores 0 in each begin and each end that is in one of the gaps, and in no other word
abbrev pub swept : Image → Image
swept image =
    map (λ word. if is_mark (layout_of image) word && is_in (opened_gaps (ruling image)) (slice_index image word) then 0 else slice_index image word)
    (range_with_len 0 (length image))

-- the image whose slots opening leaves
abbrev pub opened_slots : Image → Image
opened_slots image = if needs_sweep image then swept image else image

-- the begin or the end of a slot is in one of the gaps
abbrev pub lies_in_gap : Image → ℕ → ℕ → Bool
lies_in_gap image w slot = is_in (opened_gaps (ruling image)) (slot_word image slot w)

-- how many words a sweep stores
abbrev pub words_swept : Image → ℕ
words_swept image = count_below (layout_of image).slots (lies_in_gap image 0) + count_below (layout_of image).slots (lies_in_gap image 1)

-- and how many lines it flushes: those of the slots in which it stored
abbrev pub lines_swept : Image → ℕ
lines_swept image = count_below (layout_of image).slots (λ slot. lies_in_gap image 0 slot || lies_in_gap image 1 slot)

-- how many operations of each kind
pub record Counts : Type 0 where
  pub stores : ℕ
  pub flushes : ℕ
  pub fences : ℕ

-- the operations that change the version, if it isn't the one that opening leaves
abbrev pub update_counts : Image → Counts
update_counts image =
    if updates image then record { stores = 1; flushes = 1; fences = 1 }
    else record { stores = 0; flushes = 0; fences = 0 }

-- those of one record, after those of a sweep
abbrev pub record_counts : Image → Counts
record_counts image =
    if needs_sweep image then record { stores = 32 + words_swept image; flushes = 5 + lines_swept image; fences = 3 }
    else record { stores = 32; flushes = 5; fences = 2 }

-- the operations made on opening: a change of the version, a sweep, and one record
abbrev pub opening_counts : Image → Counts
opening_counts image = record {
  stores = (update_counts image).stores + (record_counts image).stores;
  flushes = (update_counts image).flushes + (record_counts image).flushes;
  fences = (update_counts image).fences + (record_counts image).fences;
}

-- ---- images meanwhile

-- Meanwhile the image stands for the same history with nothing drawn, under the record that ruled before or that of the
-- opened state, and has the earlier layout or that of the opened state
pub record StandsOpening (before : Image) (history : List Commit) (next : ℕ) (image : Image) : Type 0 where
  pub stands : Stands image history [] next
  pub ruled : (ruling image ≡ ruling before) ⊎ ((q : State) × OpensAs before history [] q × (ruling image ≡ q.ruling))
  pub laid_out : (layout_of image ≡ layout_of before) ⊎ (layout_of image ≡ opened_layout (layout_of before))

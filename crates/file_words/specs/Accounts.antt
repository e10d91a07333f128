-- What a word of a file may be, by the calls that were made on the file.
use Rattle.std.specs.Prelude.{◌≡◌, ◌⊎◌, ℕ, ◌+◌, ◌-◌, ◌*◌, ◌/◌, ◌<◌, ◌≤◌, ⊤, Bool, true, false, List, [], ◌∷◌, drop, slice_index}
use Rattle.std.proofs.Common.{inl, inr}
use Rattle.byteorder.specs.Endian.{little_number}
use Rattle.journal.specs.Files.{lines_in}
use Rattle.journal.specs.Kept.{is_put_at}

-- A call. Writing: from a word on, a number of words, which are the first of these bytes; whether it succeeded. Syncing: whether it
-- succeeded. Sizing: how many words the file was to have; whether it succeeded. Lengthening: how many words the file was cut to, and how
-- many it was to have then; whether both succeeded. Stopping: the process or the machine stopped, and the file was opened again. Reading:
-- how many words were read; how many an image has, and a journal behind it; and the words, with others behind those that were read.
pub data Call : Type 0 where
  Writing : ℕ → ℕ → List ℕ → Bool → Call
  Syncing : Bool → Call
  Sizing : ℕ → Bool → Call
  Lengthening : ℕ → ℕ → Bool → Call
  Stopping : Call
  Reading : ℕ → ℕ → ℕ → List ℕ → Call

-- a word as it was written last, or as it may be found once all has stopped
pub data View : Type 0 where
  Shown : View
  Held : View

-- of a file of which nothing is known, a word may be anything
abbrev pub Anything : ℕ → ℕ → Type 0
Anything word x = ⊤

-- the word is one of the `count` words from `start` on, and the bytes have x there
abbrev pub IsPut : ℕ → ℕ → List ℕ → ℕ → ℕ → Type 0
IsPut start count bytes word x = (start ≤ word) × (word < start + count) × (x ≡ little_number 8 (drop (8 * (word - start)) bytes))

-- the word is before or behind these
abbrev pub IsOutside : ℕ → ℕ → ℕ → Type 0
IsOutside start count word = (word < start) ⊎ (start + count ≤ word)

-- The word is one of those that were read, it is in place, and no line of the journal's entries has it. While a file has a journal,
-- nothing else is written in place than lines of its entries, and after a failed sync nothing at all, until they are written again. So a
-- word that may have been lost in a failed sync is none of these.
abbrev pub IsReadInPlace : ℕ → ℕ → ℕ → List ℕ → ℕ → Type 0
IsReadInPlace count words room file word = (word < count) × (word < words) × (is_put_at (lines_in words room file) (word / 8) ≡ false)

-- no sync of these failed
abbrev pub HaveSynced : List Call → Type 0
HaveSynced [] = ⊤
HaveSynced (Writing start count bytes ok ∷ calls) = HaveSynced calls
HaveSynced (Syncing true ∷ calls) = HaveSynced calls
HaveSynced (Syncing false ∷ calls) = ⊥
HaveSynced (Sizing count ok ∷ calls) = HaveSynced calls
HaveSynced (Lengthening from to ok ∷ calls) = HaveSynced calls
HaveSynced (Stopping ∷ calls) = HaveSynced calls
HaveSynced (Reading count words room file ∷ calls) = HaveSynced calls

-- What a word may be after these calls, the last one first, if `before` says what it might be when the file was opened. A write that failed
-- may have written any of its words. After a sync that failed each word may still be as it might be found before, and also when it is read:
-- the system may take for written what the disk does not have. So only writing again narrows what it may be. It is the same after a stop. A
-- change of the length leaves each word before the new end as it was; behind it a word may be anything. The words that a file gets by its
-- length alone are shown as 0; until a sync succeeds they may be found as anything. A word that was read in place (`IsReadInPlace`) is
-- shown as it was read, unless a sync of the account failed; it may be found as before until a sync succeeds.
-- Excluded: a sync that isn't made and counts as one; a write that is left out; a word that is known because it was read, while no sync
-- was made since.
abbrev pub HasAfter : (ℕ → ℕ → Type 0) → View → List Call → ℕ → ℕ → Type 0
HasAfter before view [] word x = before word x
HasAfter before Shown (Writing start count bytes true ∷ calls) word x = IsPut start count bytes word x ⊎ (IsOutside start count word × HasAfter before Shown calls word x)
HasAfter before Shown (Writing start count bytes false ∷ calls) word x = HasAfter before Shown calls word x ⊎ IsPut start count bytes word x
HasAfter before Held (Writing start count bytes ok ∷ calls) word x = HasAfter before Held calls word x ⊎ IsPut start count bytes word x
HasAfter before view (Syncing true ∷ calls) word x = HasAfter before Shown calls word x
HasAfter before view (Syncing false ∷ calls) word x = HasAfter before Held calls word x
HasAfter before view (Sizing count ok ∷ calls) word x = (count ≤ word) ⊎ HasAfter before view calls word x
HasAfter before Shown (Lengthening from to true ∷ calls) word x = ((from ≤ word) × (word < to → x ≡ 0)) ⊎ ((word < from) × HasAfter before Shown calls word x)
HasAfter before Shown (Lengthening from to false ∷ calls) word x = (from ≤ word) ⊎ HasAfter before Shown calls word x
HasAfter before Held (Lengthening from to ok ∷ calls) word x = (from ≤ word) ⊎ HasAfter before Held calls word x
HasAfter before view (Stopping ∷ calls) word x = HasAfter before Held calls word x
HasAfter before Shown (Reading count words room file ∷ calls) word x = HasAfter before Shown calls word x × (IsReadInPlace count words room file word → HaveSynced calls → x ≡ slice_index file word)
HasAfter before Held (Reading count words room file ∷ calls) word x = HasAfter before Held calls word x

-- what was written last may be found. (A law of an impl may cite lemmas of specs/ alone.)
pub shown_is_held : (before : ℕ → ℕ → Type 0) (calls : List Call) (word x : ℕ) → HasAfter before Shown calls word x → HasAfter before Held calls word x
shown_is_held before [] word x shown = shown
shown_is_held before (Writing start count bytes true ∷ calls) word x (inl put) = inr put
shown_is_held before (Writing start count bytes true ∷ calls) word x (inr shown) = inl (shown_is_held before calls word x shown.1)
shown_is_held before (Writing start count bytes false ∷ calls) word x (inl shown) = inl (shown_is_held before calls word x shown)
shown_is_held before (Writing start count bytes false ∷ calls) word x (inr put) = inr put
shown_is_held before (Syncing true ∷ calls) word x shown = shown
shown_is_held before (Syncing false ∷ calls) word x held = held
shown_is_held before (Sizing count ok ∷ calls) word x (inl behind) = inl behind
shown_is_held before (Sizing count ok ∷ calls) word x (inr shown) = inr (shown_is_held before calls word x shown)
shown_is_held before (Lengthening from to true ∷ calls) word x (inl behind) = inl behind.0
shown_is_held before (Lengthening from to true ∷ calls) word x (inr shown) = inr (shown_is_held before calls word x shown.1)
shown_is_held before (Lengthening from to false ∷ calls) word x (inl behind) = inl behind
shown_is_held before (Lengthening from to false ∷ calls) word x (inr shown) = inr (shown_is_held before calls word x shown)
shown_is_held before (Stopping ∷ calls) word x held = held
shown_is_held before (Reading count words room file ∷ calls) word x shown = shown_is_held before calls word x shown.0

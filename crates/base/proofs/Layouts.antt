-- What the versions of the format have in common.
use Rattle.std.proofs.Common.{◌≡◌, ℕ, zero, suc, ◌+◌, ◌*◌, ◌/◌, ◌%◌, ◌-◌, ◌<◌, ◌≤◌, Bool, true, false, cond, ◌&&◌, ◌||◌, refl, ◌∙◌, ap, arith, nat_eq, nat_le}
use Rattle.std.specs.Prelude.{IsTrue}
use Rattle.std.proofs.Math.Nat.{mul-le-mul, mul-le-mul_left}
use Rattle.std.proofs.lemmas.Bool.{and_parts, leb-true, lt-leb}
use Rattle.base.specs.Layout.{Layout, most_lines, most_slots, is_large, large_version, plain_version, wide_version, slot_lines, slot_words, slot_start, total_words, used_words, row_limit, most_longs, is_between, is_known_version, is_in_limits, opened_version, version_lines}

between-parts : (lo hi n : ℕ) → is_between lo hi n ≡ true → (lo ≤ n) × (n ≤ hi)
between-parts lo hi n e = let both = and_parts (nat_le lo n) (nat_le n hi) e in (leb-true lo n both.0, leb-true n hi both.1)

-- ---- versions of large images

-- word 1 of the superblock says how many lines a slot has
large_lines : (lines : ℕ) → is_large (large_version lines) ≡ is_between 1 most_lines lines
large_lines lines =
    let low : large_version lines % 256 ≡ 4 = omega arith in
    let high : large_version lines / 256 ≡ lines = omega arith in
    λ i. nat_eq (low i) 4 && is_between 1 most_lines (high i)

-- such an image opens if slots may have that many
pub known_large : (lines : ℕ) → is_known_version (large_version lines) ≡ is_between 1 most_lines lines
unfolding is_known_version
known_large lines =
    (λ i. (nat_le 1 (large_version lines) && lt-leb (large_version lines) wide_version (omega arith) i) || large_lines lines i)
    ∙ without (nat_le 1 (large_version lines)) (is_between 1 most_lines lines)
  where
    without : (a b : Bool) → ((a && false) || b) ≡ b
    without true b = refl
    without false b = refl

-- ---- the words of a slot

-- a slot has from one line to eight
pub some_lines : (version : ℕ) → (1 ≤ slot_lines version) × (slot_lines version ≤ 8)
unfolding slot_lines
some_lines version = grind (arith, and_parts, between-parts)

-- a slot has eight words or more
pub line-words : (version : ℕ) → 8 ≤ slot_words version
unfolding slot_words
line-words version = omega (arith, (some_lines version).0)

-- a slot has at most 64 words
pub few-words : (version : ℕ) → slot_words version ≤ 64
unfolding slot_words
few-words version = omega (arith, (some_lines version).1)

-- a slot has whole lines
pub lines-words : (a : Layout) → slot_words a.version ≡ 8 * version_lines a
unfolding slot_words
lines-words a = refl

-- the longest row fills the words that are left of a slot
pub row-fills : (version : ℕ) → row_limit version ≡ 8 * (slot_words version - 4)
row-fills version = refl

-- a row counts the first four words of its slot at least, and no word behind the slot
pub used-words : (version len : ℕ) → (4 ≤ used_words version len) × (used_words version len ≤ slot_words version)
unfolding used_words
used-words version len = grind (arith, line-words version)

-- its bytes are in the words that it counts, if it isn't too long
pub used-hold : (version len : ℕ) → len ≤ row_limit version → len ≤ 8 * (used_words version len - 4)
unfolding used_words
used-hold version len short = grind (arith, line-words version)

-- the versions up to the second have slots of one line
small-lines : (version : ℕ) → version ≤ 2 → slot_lines plain_version ≡ slot_lines version
unfolding slot_lines
small-lines zero small = refl
small-lines (suc zero) small = refl
small-lines (suc (suc zero)) small = refl
small-lines (suc (suc (suc n))) small = absurd (omega (arith, small))

small-used : (version len : ℕ) → version ≤ 2 → used_words plain_version len ≡ used_words version len
unfolding slot_lines slot_words used_words
small-used zero len small = refl
small-used (suc zero) len small = refl
small-used (suc (suc zero)) len small = refl
small-used (suc (suc (suc n))) len small = absurd (omega (arith, small))

-- an open image has slots as before
pub opened-lines : (version : ℕ) → slot_lines (opened_version version) ≡ slot_lines version
opened-lines version = by (nat_le version plain_version) refl
  where
    by : (b : Bool) → nat_le version plain_version ≡ b → slot_lines (cond b plain_version version) ≡ slot_lines version
    by true is = small-lines version (leb-true version plain_version is)
    by false is = refl

pub opened-words : (version : ℕ) → slot_words (opened_version version) ≡ slot_words version
unfolding slot_words
opened-words version = ap (λ (n : ℕ). 8 * n) (opened-lines version)

pub opened-used : (version len : ℕ) → used_words (opened_version version) len ≡ used_words version len
opened-used version len = by (nat_le version plain_version) refl
  where
    by : (b : Bool) → nat_le version plain_version ≡ b → used_words (cond b plain_version version) len ≡ used_words version len
    by true is = small-used version len (leb-true version plain_version is)
    by false is = refl

-- a record names at most twelve long commits
pub few_longs : (version : ℕ) → most_longs version ≤ 12
few_longs version = grind (arith)

-- there are few enough slots for a link
pub slots_limit : (version : ℕ) → most_slots version ≤ 16777216
unfolding most_slots
slots_limit version = grind (arith)

-- ---- a layout within the limits

pub record InLimits (layout : Layout) : Type 0 where
  pub known : is_known_version layout.version ≡ true
  pub slots : (1 ≤ layout.slots) × (layout.slots ≤ most_slots layout.version)
  pub places : (2 ≤ layout.places) × (layout.places ≤ 64)
  pub window : (4 ≤ layout.window) × (layout.window ≤ 1024)

pub in-limits : (layout : Layout) → is_in_limits layout ≡ true → InLimits layout
in-limits layout limits = grind (arith, and_parts, between-parts)

pub few_slots : (layout : Layout) → IsTrue (is_in_limits layout) → layout.slots ≤ 16777216
few_slots layout limits = omega (arith, (in-limits layout limits).slots.1, slots_limit layout.version)

pub has_window : (layout : Layout) → is_in_limits layout ≡ true → 0 < layout.window
has_window layout limits = omega (arith, (in-limits layout limits).window.0)

-- ---- the words of all slots

-- a slot begins with a line
pub slot_whole : (a : Layout) (slot : ℕ) → slot_start a slot ≡ 8 * (1 + 4 * a.places + version_lines a * slot)
slot_whole a slot = ap (λ (n : ℕ). 8 + 32 * a.places + n * slot) (lines-words a) ∙ omega arith

-- a slot is within the image
pub slot_within : (layout : Layout) (slot : ℕ) → slot < layout.slots → slot_start layout slot + slot_words layout.version ≤ total_words layout
slot_within layout slot lt = omega (arith, mul-le-mul_left {m = slot + 1} {n = layout.slots} (slot_words layout.version) (omega (arith, lt)))

-- all slots together have at most 2^30 words
pub few_slot_words : (layout : Layout) → IsTrue (is_in_limits layout) → slot_words layout.version * layout.slots ≤ 1073741824
few_slot_words layout limits = mul-le-mul (few-words layout.version) (few_slots layout limits)

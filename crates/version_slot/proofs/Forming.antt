-- Words that are well formed, and the version that they hold.
use Rattle.std.proofs.Common.{◌≡◌, ℕ, ◌+◌, ◌-◌, ◌*◌, ◌/◌, ◌^◌, ◌<◌, ◌≤◌, List, map, length, get_or, take, refl, sym, ◌∙◌, subst, arith}
use Rattle.std.specs.Prelude.{Option, Some, None, IfSome, IfNone}
use Rattle.std.specs.List.{range_with_len}
use Rattle.std.proofs.lemmas.List.{get_or-drop, get_or_past, length-drop}
use Rattle.std.proofs.lemmas.List.FromFn.{get_or-map-range_with_len, length-map-range_with_len}
use Rattle.base.specs.Layout.{Layout, slot_words, used_words}
use Rattle.base.proofs.Layouts.{few-words, line-words, row-fills, used-words}
use Rattle.base.specs.declared.key.Key.{Key}
use Rattle.version_slot.specs.declared.words.Version.{Version}
use Rattle.version_slot.specs.declared.words.Slot.{Slot}
use Rattle.version_slot.specs.Words.{slot_byte, key_in, length_in, IsVersion, IsSlot, IsWellFormed}
use Rattle.version_slot.proofs.Decoding.{byte_is, length_is, link_is, bytes_small, holds}
use Rattle.version_slot.proofs.ImageSlots.{previous_in, link-previous_in}

module _ (layout : Layout) (words : ℕ → ℕ) where
  -- words that hold a version are well formed
  pub forms : (v : Version) → IsVersion layout words v → IsWellFormed layout words
  forms v is = record {
    row = omega (arith, size, is.fits.row);
    link = omega (arith, link_is layout words v is short, is.fits.previous);
    padding = λ i from to.
        let counted : i < 8 * (used_words layout.version (length v.row) - 4) = subst (λ (m : ℕ). i < 8 * (used_words layout.version m - 4)) size to in
        byte_is layout words v is i (omega (arith, counted)) ∙ get_or_past v.row i 0 (omega (arith, from, size));
  }
    where
      short : length v.row < 2 ^ 16
      short = omega (arith, is.fits.row, few-words layout.version, row-fills layout.version)

      size : length_in words ≡ length v.row
      size = length_is layout words v is short

  module _ (fit : (w : ℕ) → words w < 2 ^ 64) (well : IsWellFormed layout words) where
    abbrev n : ℕ
    n = length_in words

    abbrev many : ℕ
    many = 8 * (used_words layout.version n - 4)

    abbrev bytes : List ℕ
    bytes = map (slot_byte words) (range_with_len 0 many)

    whole : length bytes ≡ many
    whole = length-map-range_with_len (slot_byte words) 0 many

    read : (i : ℕ) → i < many → get_or bytes i 0 ≡ slot_byte words i
    read i lt = get_or-map-range_with_len (slot_byte words) 0 many i i 0 lt (omega arith)

    abbrev version : Version
    version = record { key = key_in words; row = take n bytes; previous = previous_in (words 3 / 2 ^ 32) }

    -- and the other way round
    pub formed : (v : Version) × IsVersion layout words v × (v.key ≡ key_in words)
    formed = (
      version,
      holds layout words bytes n whole read version fit (bytes_small words bytes many whole read) refl well.row
          (λ i lt.
          let within : n + i < many = omega (arith, lt, whole, length-drop {A = ℕ} n bytes) in
          get_or-drop n bytes i 0 ∙ read (n + i) within ∙ well.padding (n + i) (omega arith) within)
          refl refl refl (link-previous_in (words 3 / 2 ^ 32)) well.link,
      refl,
    )

-- ---- words that are one

module _ (layout : Layout) (xs ys : ℕ → ℕ) where
  version-same : ((w : ℕ) → 2 ≤ w → w < slot_words layout.version → xs w ≡ ys w) → (v : Version) → IsVersion layout xs v → IsVersion layout ys v
  version-same same v is = record {
    each = λ w low high. sym (same w low (omega (arith, high, (used-words layout.version (length v.row)).1))) ∙ is.each w low high;
    fits = is.fits;
  }

  pub slot-same : ((w : ℕ) → w < slot_words layout.version → xs w ≡ ys w) → (s : Slot) → IsSlot layout xs s → IsSlot layout ys s
  slot-same same s is = record {
    begin = sym (same 0 (omega (arith, line-words layout.version))) ∙ is.begin;
    end = sym (same 1 (omega (arith, line-words layout.version))) ∙ is.end;
    version = version-same (λ w low high. same w high) s.version is.version;
  }

module _ (layout : Layout) (xs ys : ℕ → ℕ) (same : (w : ℕ) → w < slot_words layout.version → xs w ≡ ys w) where
  pub some-slot : (o : Option Slot) → IfSome o (IsSlot layout xs) → IfSome o (IsSlot layout ys)
  some-slot (Some s) is = slot-same layout xs ys same s is
  some-slot None is = is

  pub none-slot : (o : Option Slot) → IfNone o ((s : Slot) → ¬ IsSlot layout xs s) → IfNone o ((s : Slot) → ¬ IsSlot layout ys s)
  none-slot (Some s) none = none
  none-slot None none = λ s is. none s (slot-same layout ys xs (λ w lt. sym (same w lt)) s is)

module _ (layout : Layout) (xs ys : ℕ → ℕ) (same : (w : ℕ) → 2 ≤ w → w < slot_words layout.version → xs w ≡ ys w) where
  pub some-key : (o : Option Key) → IfSome o (λ key. (v : Version) × IsVersion layout xs v × (v.key ≡ key)) → IfSome o (λ key. (v : Version) × IsVersion layout ys v × (v.key ≡ key))
  some-key (Some key) is = (is.0, version-same layout xs ys same is.0 is.1, is.2)
  some-key None is = is

  pub none-key : (o : Option Key) → IfNone o ((v : Version) → ¬ IsVersion layout xs v) → IfNone o ((v : Version) → ¬ IsVersion layout ys v)
  none-key (Some key) none = none
  none-key None none = λ v is. none v (version-same layout ys xs (λ w low high. sym (same w low high)) v is)

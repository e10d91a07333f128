-- What the words of a place say about the record in it.
use Rattle.std.proofs.Common.{◌≡◌, ◌⊎◌, inl, inr, ℕ, ◌+◌, ◌*◌, ◌/◌, ◌%◌, ◌^◌, ◌<◌, ◌≤◌, true, List, [], ◌∷◌, length, get_or, drop, refl, sym, ◌∙◌, ap, arith, lit<}
use Rattle.std.proofs.lemmas.List.{ext_get_or, length-drop}
use Rattle.base.specs.declared.gap.Gap.{Gap}
use Rattle.base.specs.Records.{Record, IsRecord, no_gap, are_apart, are_rising}
use Rattle.base.proofs.Spelling.{record_word-first, record_word-last, same_gap, record_word-long, same_record, few_gaps}
use Rattle.base.proofs.Layouts.{few_longs}
use Rattle.log_area.specs.Codec.{IsReadFrom}

-- ---- the order of gaps

-- ---- the order of long commits

-- with at most one left there is nothing to test
pub rising_end : (ts : List ℕ) (i : ℕ) → length ts ≤ i + 1 → are_rising (drop i ts) ≡ true
rising_end ts i h = short (drop i ts) (omega (arith, length-drop i ts))
  where
    short : (ts : List ℕ) → length ts ≤ 1 → are_rising ts ≡ true
    short [] h = refl
    short (a ∷ []) h = refl
    short (a ∷ b ∷ ts) h = absurd (omega (arith, h))

-- ---- one record fits

module _ (version : ℕ) (words : List ℕ) (r : Record) (is : IsRecord version words r) where
  few : (length r.gaps ≤ 8) × (length r.longs ≤ 12)
  few = let both = few_gaps version r is.well_formed in (both.0, omega (arith, both.1, few_longs version))

  pub gap-count : get_or words 3 0 % 2 ^ 32 ≡ length r.gaps
  gap-count = omega (arith, is.each 3 (lit< tt), few.0)

  pub long-count : get_or words 3 0 / 2 ^ 32 ≡ length r.longs
  long-count = omega (arith, is.each 3 (lit< tt), few.0)

  -- words whose counts are too great hold none
  pub too-many : (8 < get_or words 3 0 % 2 ^ 32) ⊎ (12 < get_or words 3 0 / 2 ^ 32) → ⊥
  too-many (inl gaps) = omega (arith, gaps, gap-count, few.0)
  too-many (inr longs) = omega (arith, longs, long-count, few.1)

  pub unique : (c : Record) → IsReadFrom words c → r ≡ c
  unique c read =
      let gaps : length r.gaps ≡ length c.gaps = sym gap-count ∙ sym read.count in
      let longs : length r.longs ≡ length c.longs = sym long-count ∙ sym read.long_count in
      same_record r c
      (sym (is.each 0 (lit< tt)) ∙ sym read.gate) (sym (is.each 1 (lit< tt)) ∙ sym read.persisted) (sym (is.each 2 (lit< tt)) ∙ sym read.dirty)
      (ext_get_or no_gap r.gaps c.gaps gaps (λ k h.
      same_gap (get_or r.gaps k no_gap) (get_or c.gaps k no_gap)
      (sym (record_word-first r k (omega (arith, h, few.0))) ∙ sym (is.each (4 + 2 * k) (omega (arith, h, few.0))) ∙ sym (ap (λ (g : Gap). g.first) (read.gaps k (omega (arith, h, gaps)))))
      (sym (record_word-last r k (omega (arith, h, few.0))) ∙ sym (is.each (5 + 2 * k) (omega (arith, h, few.0))) ∙ sym (ap (λ (g : Gap). g.last) (read.gaps k (omega (arith, h, gaps)))))))
      (ext_get_or 0 r.longs c.longs longs (λ k h.
      sym (record_word-long r k) ∙ sym (is.each (20 + k) (omega (arith, h, few.1))) ∙ sym (read.longs k (omega (arith, h, longs)))))

-- with at most one gap left there is nothing to test
pub apart_end : (gaps : List Gap) (i : ℕ) → length gaps ≤ i + 1 → are_apart (drop i gaps) ≡ true
apart_end gaps i h = short (drop i gaps) (omega (arith, length-drop i gaps))
  where
    short : (gaps : List Gap) → length gaps ≤ 1 → are_apart gaps ≡ true
    short [] h = refl
    short (a ∷ []) h = refl
    short (a ∷ b ∷ gaps) h = absurd (omega (arith, h))

-- Lines that put what differs.
use Rattle.std.proofs.Common.{◌≡◌, ◌≢◌, ◌⊎◌, inl, inr, ℕ, ◌+◌, ◌*◌, ◌/◌, ◌%◌, ◌<◌, ◌≤◌, Bool, true, false, List, [], ◌∷◌, ◌++◌, length, get_or, refl, sym, ◌∙◌, ap, arith}
use Rattle.std.specs.Prelude.{All}
use Rattle.std.proofs.lemmas.List.{length-map, ext_get_or}
use Rattle.std.proofs.lemmas.List.Elements.{All-append, All-cons}
use Rattle.journal.specs.declared.line.Line.{Line}
use Rattle.journal.specs.Kept.{IsPut, is_put_at}
use Rattle.journal.specs.Entries.{marked, entry}
use Rattle.journal.specs.LinePayloads.{payloads_of_lines, IsLine}
use Rattle.journal.specs.InPlace.{put_over}
use Rattle.journal.specs.Opened.{AreLines}
use Rattle.journal.specs.Changes.{AreChanged, AreFound, DiffersIn, is_listed}
use Rattle.journal.proofs.LineRuns.{put-parts, at-more, at-last}
use Rattle.journal.proofs.Opened.{size}

-- a word that lines are put over is one that they put, or as it was
pub over_puts : (lines : List Line) (word v : ℕ) → IsPut lines word (put_over lines word v) ⊎ ((is_put_at lines (word / 8) ≡ false) × (put_over lines word v ≡ v))
over_puts [] word v = inr (refl, refl)
over_puts (line ∷ lines) word v = grind (arith, over_puts lines word (get_or line.words (word % 8) 0), over_puts lines word v)

-- so the lines of the numbers in which words differ make them of the durable ones
pub found-changed : (lines : List Line) (durable words numbers : List ℕ) → AreFound lines words numbers → DiffersIn numbers words durable → AreChanged lines durable words
found-changed lines durable words numbers found differs = grind (arith, over_puts lines)

-- ---- one number more

listed-cases : (numbers : List ℕ) (last number : ℕ) → is_listed (numbers ++ last ∷ []) number ≡ true → (is_listed numbers number ≡ true) ⊎ (last ≡ number)
listed-cases [] last number is = grind (arith)
listed-cases (first ∷ numbers) last number is = grind (arith, listed-cases numbers last number)

-- behind the words there is no line
pub found-stood : (lines : List Line) (words numbers : List ℕ) (number : ℕ) → AreFound lines words numbers → ((word : ℕ) → word < length words → word / 8 ≢ number) → AreFound lines words (numbers ++ number ∷ [])
found-stood lines words numbers number before none = grind (arith, listed-cases)

all_more : (P : Line → Type 0) (lines : List Line) (line : Line) → All P lines → P line → All P (lines ++ line ∷ [])
all_more P lines line all here = All-append P lines (line ∷ []) all (All-cons P line [] here (λ k d lt. absurd (omega (arith, lt))))

pub found-more : (lines : List Line) (line : Line) (words numbers : List ℕ) (number : ℕ) → AreFound lines words numbers → IsLine line → line.number ≡ number → 8 * number + 8 ≤ length words
    → ((place : ℕ) → place < 8 → get_or line.words place 0 ≡ get_or words (8 * number + place) 0) → AreFound (lines ++ line ∷ []) words (numbers ++ number ∷ [])
found-more lines line words numbers number before is at inside same = record {
  puts = λ word x put. elim (put-parts lines line word x put) [
    | inl among ↦ before.puts word x among
    | inr last ↦ last.1 ∙ same (word % 8) (omega arith) ∙ ap (λ (n : ℕ). get_or words n 0) (omega (arith, at, last.0))
  ];
  has = λ word lt is'. elim (listed-cases numbers number (word / 8) is') [
    | inl among ↦ at-more lines line (word / 8) (before.has word lt among)
    | inr last ↦ at-last lines line (word / 8) (at ∙ last)
  ];
  lines_are = all_more (λ l. IsLine l) lines line before.lines_are is;
  within = all_more (λ l. 8 * l.number + 8 ≤ length words) lines line before.within (omega (arith, at, inside));
}

-- without a line nothing changed
pub unchanged : (durable words : List ℕ) → AreChanged [] durable words → length words ≡ length durable → words ≡ durable
unchanged durable words changed same = ext_get_or 0 words durable same (λ word lt. sym (changed.makes word lt))

-- ---- as an entry

pub entry_size : (pass : Bool) (lines : List Line) → AreLines lines → length (entry pass (payloads_of_lines lines)) ≡ 1 + 9 * length lines
entry_size pass lines are = omega (arith, length-map (length (payloads_of_lines lines) ∷ payloads_of_lines lines) (marked pass), size lines are)

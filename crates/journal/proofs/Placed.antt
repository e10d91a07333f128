-- Lines are put over an image in memory.
use Rattle.std.proofs.Common.{◌≡◌, ℕ, zero, suc, ◌+◌, ◌*◌, ◌/◌, ◌%◌, ◌<◌, ◌≤◌, List, [], ◌∷◌, ◌++◌, length, take, drop, get_or, refl, sym, subst, arith}
use Rattle.std.proofs.Math.Seq.{take-suc}
use Rattle.std.proofs.lemmas.List.{drop-drop}
use Rattle.journal.specs.declared.line.Line.{Line}
use Rattle.journal.specs.LinePayloads.{line_of, lines_of}
use Rattle.journal.specs.InPlace.{put_over}

-- this many words of a line are put
pub record IsPlacing (old now : List ℕ) (line : Line) (place : ℕ) : Type 0 where
  pub size : length now ≡ length old
  pub own : (word : ℕ) → word / 8 ≡ line.number → word % 8 < place → get_or now word 0 ≡ get_or line.words (word % 8) 0
  pub others : (word : ℕ) → (word / 8 ≡ line.number → place ≤ word % 8) → get_or now word 0 ≡ get_or old word 0

-- ---- several

pub lines-more : (n : ℕ) (payloads : List ℕ) → lines_of (suc n) payloads ≡ lines_of n payloads ++ line_of (drop (9 * n) payloads) ∷ []
lines-more zero payloads = refl
lines-more (suc n) payloads = grind (arith, drop-drop (9 * n) 9 payloads, lines-more n (drop 9 payloads))

over-more : (lines : List Line) (line : Line) (word v : ℕ) → put_over (lines ++ line ∷ []) word v ≡ put_over (line ∷ []) word (put_over lines word v)
over-more [] line word v = refl
over-more (first ∷ lines) line word v = over-more lines line word _

-- these lines are put over the image, one after the other
pub record ArePlaced (old now : List ℕ) (lines : List Line) : Type 0 where
  pub size : length now ≡ length old
  pub each : (word : ℕ) → word < length old → get_or now word 0 ≡ put_over lines word (get_or old word 0)

pub placed-more : (old mid now : List ℕ) (lines : List Line) (line : Line) → ArePlaced old mid lines → length now ≡ length mid
    → ((word : ℕ) → word < length mid → get_or now word 0 ≡ put_over (line ∷ []) word (get_or mid word 0)) → ArePlaced old now (lines ++ line ∷ [])
placed-more old mid now lines line before size each = grind (arith, over-more)

-- the next line of these payloads
pub payloads-more : (old mid now payloads : List ℕ) (count : ℕ) (line : Line) → ArePlaced old mid (lines_of count payloads) → line ≡ line_of (drop (9 * count) payloads) → length now ≡ length mid
    → ((word : ℕ) → word < length mid → get_or now word 0 ≡ put_over (line ∷ []) word (get_or mid word 0)) → ArePlaced old now (lines_of (count + 1) payloads)
payloads-more old mid now payloads count line before is size each = grind (arith, lines-more count payloads, placed-more old mid now (lines_of count payloads) line before size each)

-- the next one of these lines
pub lines-placed : (old mid now : List ℕ) (lines : List Line) (count : ℕ) (d : Line) → count < length lines → ArePlaced old mid (take count lines) → length now ≡ length mid
    → ((word : ℕ) → word < length mid → get_or now word 0 ≡ put_over (get_or lines count d ∷ []) word (get_or mid word 0)) → ArePlaced old now (take (count + 1) lines)
lines-placed old mid now lines count d lt before size each =
    let next : count + 1 ≡ suc count = omega arith in
    subst (λ (m : ℕ). ArePlaced old now (take m lines)) (sym next)
    (subst (λ (l : List Line). ArePlaced old now l) (sym (take-suc lines count d lt)) (placed-more old mid now (take count lines) (get_or lines count d) before size each))

use Rattle.std.proofs.Common.{◌≡◌, ◌+◌, ◌-◌, ◌/◌, ◌<◌, ◌≤◌, ◌∙◌, ℕ, List, sym, ap, get_or, length, slice_index, take, drop, arith}
use Rattle.std.proofs.lemmas.Bool.{eqb-true, eq-eqb}
use Rattle.std.proofs.lemmas.List.{get_or-drop, get_or-take, length-drop, length-take-le}
use Rattle.version_slot.proofs.Padding.{clear-after, last-clear, rest-clear}
use Rattle.version_slot.proofs.bytes.is_padded.Goals as goal

-- the words after one, up to another
after-size : (words : List ℕ) (last count : ℕ) → count ≤ length words → length (take (count - (last + 1)) (drop (last + 1) words)) ≡ count - (last + 1)
after-size words last count fits = length-take-le (count - (last + 1)) (drop (last + 1) words) (omega (arith, fits, length-drop {A = ℕ} (last + 1) words))

after-at : (words : List ℕ) (last count k : ℕ) → k < count - (last + 1) → get_or (take (count - (last + 1)) (drop (last + 1) words)) k 0 ≡ get_or words (last + 1 + k) 0
after-at words last count k lt = get_or-take (count - (last + 1)) (drop (last + 1) words) k 0 lt ∙ get_or-drop (last + 1) words k 0

pub returns-then-words-last-eq0 : goal.returns-then-words-last-eq0
returns-then-words-last-eq0 c =
    let words = c.args.words.now in
    let count = c.args.count in
    let last : ℕ = 4 + c.args.size / 8 in
    let size = after-size words last count c.requires.few.1 in (
      (λ zero. clear-after (slice_index words) c.args.size count c.if-words-last-eq0.true (λ w after within.
          let k : ℕ = w - (last + 1) in
          let place : last + 1 + k ≡ w = omega (arith, after) in
          let lt : k < count - (last + 1) = omega (arith, after, within) in
          sym (after-at words last count k lt ∙ ap (slice_index words) place) ∙ c.are_zero.ensures.0 zero k (omega (arith, lt, size)))),
      (λ clear. c.are_zero.ensures.1 (λ k lt.
          let within : k < count - (last + 1) = omega (arith, lt, size) in
          after-at words last count k within ∙ rest-clear (slice_index words) c.args.size count (λ w. omega (arith, c.type_inv.words w)) clear (last + 1 + k) (omega arith) (omega (arith, within)))),
    )

pub returns-else-words-last-eq0 : goal.returns-else-words-last-eq0
returns-else-words-last-eq0 c = (
  (λ is. absurd (c.if-words-last-eq0.false (eqb-true _ 0 is))),
  (λ clear. eq-eqb _ 0 (last-clear (slice_index c.args.words.now) c.args.size c.args.count (λ w. omega (arith, c.type_inv.words w)) clear (omega (arith, c.requires.row, c.requires.few.0, c.if-last-count.false)))),
)

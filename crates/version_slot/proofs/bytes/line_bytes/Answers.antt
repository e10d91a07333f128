use Rattle.std.proofs.Common.{◌≡◌, ◌+◌, ◌-◌, ◌*◌, ◌/◌, ◌%◌, ◌≤◌, ℕ, List, ◌∙◌, ap, get_or, length, arith}
use Rattle.std.specs.Int.{to_le_bytes, w64}
use Rattle.version_slot.specs.Words.{slot_byte}
use Rattle.version_slot.proofs.Parts.{eight-length, eight-more}
use Rattle.version_slot.proofs.bytes.line_bytes.Goals as goal

pub loop-k-preserved : goal.loop-k-preserved
loop-k-preserved c =
    let k : ℕ = c.loop-k.k in
    let words : ℕ → ℕ = λ w. get_or c.args.words.now w 0 in
    let eight : 8 * k + 8 - 8 * k ≡ 8 = omega arith in
    let new = c.copy_from_slice.ensures.after ∙ c.to_le_bytes.ensures in
    let size : length c.copy_from_slice.new.self ≡ 8 = ap (λ (l : List ℕ). length l) new in
    let fits : 8 * k + 8 ≤ length c.loop-k.bytes = omega (arith, c.loop-k.invariant.size, c.loop-k-test.true) in
    record {
      size = eight-length c.loop-k.bytes c.copy_from_slice.new.self k (8 * k + 8 - 8 * k) eight size fits ∙ c.loop-k.invariant.size;
      copied =
          eight-more c.loop-k.bytes c.copy_from_slice.new.self k (8 * k + 8 - 8 * k) eight size fits (slot_byte words)
          (λ j lt.
          let place : k ≡ (8 * k + j) / 8 = omega (arith, lt) in
          let rest : j ≡ (8 * k + j) % 8 = omega (arith, lt) in
          ap (λ (l : List ℕ). get_or l j 0) new ∙ λ i. get_or (to_le_bytes w64 (words (4 + place i))) (rest i) 0)
          c.loop-k.invariant.copied;
    }

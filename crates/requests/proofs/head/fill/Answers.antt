use Rattle.std.proofs.Common.{◌≡◌, ℕ, ◌+◌, ◌-◌, ◌≤◌, List, ◌++◌, rules, length, take, drop, sym, ap, ◌∙◌, subst, le_refl, drop_at, length-take-le}
use Rattle.std.proofs.lemmas.Slice.{take-put_mid_below}
use Rattle.std.proofs.lemmas.List.{take-append-le}
use Rattle.std.proofs.Math.Seq.{take-add}
use Rattle.std.specs.Io.KnownBytes.{Consumes}
use Rattle.std.proofs.KnownBytes.{Consumes-trans}
use borrow.Rule.Slice.PartMut.{put_mid, post_of}
use Rattle.requests.proofs.head.fill.Goals as goal

-- what was there, and then the first bytes of what a read left behind it
filled-so : (f n k : ℕ) (xs ys : List ℕ) → f ≤ length xs → n ≤ length ys → take f xs ++ take n ys ≡ take (f + n) (put_mid f k xs ys)
filled-so f n k xs ys within fits =
    let after = post_of f k xs in
    let front : take f (put_mid f k xs ys) ≡ take f xs = take-put_mid_below _ _ _ _ _ (le_refl _) within in
    let behind : drop f (put_mid f k xs ys) ≡ ys ++ after = drop_at (take f xs) (ys ++ after) f (length-take-le f xs within) in
    sym (take-add f n (put_mid f k xs ys)
    ∙ ap (λ (l : List ℕ). l ++ take n (drop f (put_mid f k xs ys))) front
    ∙ ap (λ (l : List ℕ). take f xs ++ take n l) behind
    ∙ ap (λ (l : List ℕ). take f xs ++ l) (take-append-le n ys after fits))

pub loop-filled-preserved : goal.loop-filled-preserved
loop-filled-preserved g c =
    let from = c.loop-filled.filled in
    let joined = filled-so from c.in_ok-count.count (length c.loop-filled.buffer - from) c.loop-filled.buffer c.read.new.buf c.loop-filled.invariant.1 c.in_ok-count.ensures.bound.0 in (
      search rules,
      search rules,
      subst (Consumes _ _) joined (Consumes-trans _ _ _ _ _ c.loop-filled.invariant.2 c.in_ok-count.ensures.bytes.0),
    )

use borrow.Rule.Slice.PartMut.{put_mid, post_of}
use Rattle.std.proofs.Common.{◌≡◌, ℕ, ◌+◌, ◌-◌, ◌≤◌, List, ◌++◌, length, take, drop, replicate, refl, sym, ◌∙◌, ap, arith}
use Rattle.std.specs.Prelude.{max}
use Rattle.std.proofs.Math.Seq.{take-append_seam, drop-append_seam}
use Rattle.std.proofs.lemmas.List.{drop-drop, drop-replicate, length-append, length-drop, length-replicate, length-take-le, replicate-append-replicate}
use Rattle.base.proofs.row.Row.assign.Goals as goal

-- behind the new bytes there are as many 0 as the place has room for
rest : (old : List ℕ) (n l longer : ℕ) → n ≤ 480 → l ≤ 480 → drop l old ≡ replicate (480 - l) 0 → longer ≡ max n l → replicate (longer - n) 0 ++ drop (longer - n) (drop n old) ≡ replicate (480 - n) 0
rest old n l longer few short zeros is =
    let from : n + (longer - n) ≡ l + (longer - l) = omega (arith, is) in
    let same : drop (longer - n) (drop n old) ≡ replicate (480 - l - (longer - l)) 0 =
    drop-drop (longer - n) n old ∙ ap (λ (k : ℕ). drop k old) from ∙ sym (drop-drop (longer - l) l old) ∙ ap (drop (longer - l)) zeros ∙ drop-replicate (longer - l) (480 - l) 0 in
    ap (λ (t : List ℕ). replicate (longer - n) 0 ++ t) same ∙ replicate-append-replicate (longer - n) (480 - l - (longer - l)) 0
    ∙ ap (λ (k : ℕ). replicate k 0) (omega (arith, is, few, short))

whole : (bytes old : List ℕ) (l longer : ℕ) (filled : List ℕ) → length bytes ≤ 480 → l ≤ 480 → drop l old ≡ replicate (480 - l) 0 → longer ≡ max (length bytes) l → filled ≡ replicate (longer - length bytes) 0
    → put_mid (length bytes) (longer - length bytes) (bytes ++ post_of 0 (length bytes) old) filled ≡ bytes ++ replicate (480 - length bytes) 0
whole bytes old l longer filled few short zeros is fill =
    let behind = drop (length bytes) old in
    (λ i. take-append_seam bytes behind i ++ (fill i ++ drop (longer - length bytes) (drop-append_seam bytes behind i)))
    ∙ ap (λ (t : List ℕ). bytes ++ t) (rest old (length bytes) l longer few short zeros is)

fits : (bytes new : List ℕ) → length bytes ≤ 480 → new ≡ bytes ++ replicate (480 - length bytes) 0 → (length bytes ≤ 480) × (length new ≡ 480) × (drop (length bytes) new ≡ replicate (480 - length bytes) 0)
fits bytes new few is = (
  few,
  ap (λ (t : List ℕ). length t) is ∙ length-append bytes (replicate (480 - length bytes) 0) ∙ ap (λ (n : ℕ). length bytes + n) (length-replicate (480 - length bytes) 0) ∙ omega (arith, few),
  ap (λ (t : List ℕ). drop (length bytes) t) is ∙ drop-append_seam bytes (replicate (480 - length bytes) 0),
)

pub invariant_of-self : goal.invariant_of-self
invariant_of-self c =
    let n : ℕ = length c.args.bytes.now in
    let longer : ℕ = c.max-longer.result in
    let old : List ℕ = c.self.inside.bytes in
    let copied : List ℕ = c.copy_from_slice.new.self in
    let many : length (take (longer - n) (drop n (copied ++ post_of 0 n old))) ≡ longer - n =
    length-take-le (longer - n) _ (omega (arith, c.self.invariant.1, c.requires, c.self.invariant.0, c.max-longer.ensures, length-drop n (copied ++ post_of 0 n old), length-append copied (post_of 0 n old), length-drop n old, ap (λ (t : List ℕ). length t) c.copy_from_slice.ensures.after)) in
    let filled : c.fill.new.self ≡ replicate (longer - n) 0 = c.fill.ensures.after (λ y is. is) ∙ ap (λ (k : ℕ). replicate k 0) many in
    fits c.args.bytes.now (put_mid n (longer - n) (copied ++ post_of 0 n old) c.fill.new.self) c.requires
    (ap (λ (t : List ℕ). put_mid n (longer - n) (t ++ post_of 0 n old) c.fill.new.self) c.copy_from_slice.ensures.after
    ∙ whole c.args.bytes.now old c.self.inside.len longer c.fill.new.self c.requires c.self.invariant.0 c.self.invariant.2 c.max-longer.ensures filled)

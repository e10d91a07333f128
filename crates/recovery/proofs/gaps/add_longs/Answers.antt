use Rattle.std.proofs.Common.{refl, ◌≡◌, ◌∙◌, ◌+◌, ◌<◌, ℕ, List, length, get_or, ap, subst, sym, arith}
use Rattle.base.specs.declared.gap.Gap.{Gap}
use Rattle.base.proofs.Results.{on_err}
use Rattle.recovery.proofs.openings.Gaps.{Added, long-added, long-full, long-passed, all-added}
use Rattle.recovery.proofs.gaps.add_longs.Goals as goal
use Rattle.recovery.proofs.gaps.add_longs.Goals.{then-last-long+then-long-below+in_ok-add, else-last-long, else-last-long-via-then-last-long+else-long-below, else-last-long-via-else-last-long}

pub returns-in_err-add-clause-err : goal.returns-in_err-add-clause-err
returns-in_err-add-clause-err c =
    let r = c.args.ruling in
    let items : c.as_slice-long-items.result.now ≡ r.longs = c.as_slice-long-items.ensures.slice ∙ c.longs-longs.ensures in
    let k : ℕ = c.loop-long.long-index in
    on_err c.from_residual.result
    (long-full r c.requires.may_rule c.args.above c.args.below c.requires.between c.loop-long.gaps c.loop-long.last k c.loop-long.invariant (omega (arith, c.loop-long-test.true, ap (length {A = ℕ}) items))
    (get_or c.as_slice-long-items.result.now k 0) (ap (λ (l : List ℕ). get_or l k 0) items) c.if-last-long.true c.if-long-below.true (λ few. cc (c.in_err-add.ensures.fits.1 few)))

pub loop-long-preserved : goal.loop-long-preserved
loop-long-preserved c =
    let r = c.args.ruling in
    let items : c.as_slice-long-items.result.now ≡ r.longs = c.as_slice-long-items.ensures.slice ∙ c.longs-longs.ensures in
    let k : ℕ = c.loop-long.long-index in
    let here : ℕ = get_or c.as_slice-long-items.result.now k 0 in
    let within : k < length r.longs = omega (arith, c.loop-long-test.true, ap (length {A = ℕ}) items) in
    let at : here ≡ get_or r.longs k 0 = ap (λ (l : List ℕ). get_or l k 0) items in
    elim c.if-last-long.branch [
      | then-last-long+then-long-below+in_ok-add w ↦
          subst (λ (l : List Gap). Added r c.args.above c.args.below l c.if-last-long.last (k + 1)) (sym w.gaps-is)
          (subst (λ (n : ℕ). Added r c.args.above c.args.below w.add.new.self n (k + 1)) (sym w.last-is)
          (long-added r c.requires.may_rule c.args.above c.args.below c.requires.between c.loop-long.gaps c.loop-long.last k c.loop-long.invariant within here at w.if-last-long.true w.if-long-below.true
          w.add.new.self w.in_ok-add.ensures.ok (w.in_ok-add.ensures.fits.0 refl)))
      | else-last-long w ↦
          subst (λ (l : List Gap). Added r c.args.above c.args.below l c.if-last-long.last (k + 1)) (sym w.gaps-is)
          (subst (λ (n : ℕ). Added r c.args.above c.args.below c.loop-long.gaps n (k + 1)) (sym w.last-is)
          (long-passed r c.requires.may_rule c.args.above c.args.below c.requires.between c.loop-long.gaps c.loop-long.last k c.loop-long.invariant within here at
          (λ up down. elim w.else-last-long.branch [
            | else-last-long-via-then-last-long+else-long-below w' ↦ omega (arith, w'.if-long-below.false, down)
            | else-last-long-via-else-last-long w' ↦ omega (arith, w'.if-last-long.false, up)
          ])))
    ]

pub returns-clause-ok : goal.returns-clause-ok
returns-clause-ok c =
    let r = c.args.ruling in
    let items : c.as_slice-long-items.result.now ≡ r.longs = c.as_slice-long-items.ensures.slice ∙ c.longs-longs.ensures in
    let done : c.loop-long.long-index ≡ length r.longs = omega (arith, c.loop-long-test.false, c.loop-long.auto.long-index-end, ap (length {A = ℕ}) items) in
    all-added r c.requires.may_rule c.args.above c.args.below c.requires.between c.loop-long.gaps c.loop-long.last
    (subst (Added r c.args.above c.args.below c.loop-long.gaps c.loop-long.last) done c.loop-long.invariant)

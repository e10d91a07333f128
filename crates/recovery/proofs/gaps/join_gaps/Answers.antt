use Rattle.std.proofs.Common.{refl, ◌≡◌, ◌∙◌, ◌+◌, ◌-◌, ◌≤◌, ℕ, List, length, get_or, ap, subst, sym, arith}
use Rattle.base.specs.declared.gap.Gap.{Gap}
use Rattle.base.specs.Records.{no_gap, with_gap}
use Rattle.base.proofs.Results.{on_err}
use Rattle.recovery.specs.Gaps.{HasUpTo, HasLongsBetween}
use Rattle.recovery.proofs.openings.Gaps.{Joined, none-joined, own-above, own-between, own-goes, own-joined, own-full, all-above, all-between}
use Rattle.recovery.proofs.gaps.join_gaps.Goals as goal

pub loop-gap-init : goal.loop-gap-init
loop-gap-init c = subst (λ (l : List Gap). Joined c.args.ruling l 0 0) (sym c.none-gaps.ensures) (none-joined c.args.ruling c.requires)

pub add_longs-requires-clause-order : goal.add_longs-requires-clause-order
add_longs-requires-clause-order c = grind (arith, own-above, c.as_slice-gap-items.ensures.slice, c.gaps-own.ensures, c.loop-gap.invariant, c.loop-gap-test.true)

pub add_longs-requires-clause-between : goal.add_longs-requires-clause-between
add_longs-requires-clause-between c =
    let items : c.as_slice-gap-items.result.now ≡ c.args.ruling.gaps = c.as_slice-gap-items.ensures.slice ∙ c.gaps-own.ensures in
    let i : ℕ = c.loop-gap.gap-index in
    subst (λ (l : List Gap). HasLongsBetween c.args.ruling c.loop-gap.last (get_or l i no_gap).first) (sym items)
    (own-between c.args.ruling c.requires c.loop-gap.gaps c.loop-gap.last i c.loop-gap.invariant (omega (arith, c.loop-gap-test.true, ap (length {A = Gap}) items)))

pub add-requires-clause-from_one : goal.add-requires-clause-from_one
add-requires-clause-from_one c = grind (arith, own-goes, c.as_slice-gap-items.ensures.slice, c.gaps-own.ensures, c.loop-gap.invariant, c.loop-gap-test.true)

pub add-requires-clause-ordered : goal.add-requires-clause-ordered
add-requires-clause-ordered c = grind (arith, own-goes, c.as_slice-gap-items.ensures.slice, c.gaps-own.ensures, c.loop-gap.invariant, c.loop-gap-test.true)

pub returns-in_err-add-clause-err : goal.returns-in_err-add-clause-err
returns-in_err-add-clause-err c =
    let items : c.as_slice-gap-items.result.now ≡ c.args.ruling.gaps = c.as_slice-gap-items.ensures.slice ∙ c.gaps-own.ensures in
    let i : ℕ = c.loop-gap.gap-index in
    let mid = c.add_longs.new.gaps in
    let at : get_or c.as_slice-gap-items.result.now i no_gap ≡ get_or c.args.ruling.gaps i no_gap = ap (λ (l : List Gap). get_or l i no_gap) items in
    let before : HasUpTo c.args.ruling ((get_or c.args.ruling.gaps i no_gap).first - 1) mid = subst (λ (g : Gap). HasUpTo c.args.ruling (g.first - 1) mid) at c.in_ok-add_longs.ensures.ok in
    on_err c.from_residual-in_err-add.result
    (own-full c.args.ruling c.requires c.loop-gap.gaps c.loop-gap.last i c.loop-gap.invariant (omega (arith, c.loop-gap-test.true, ap (length {A = Gap}) items)) mid before
    (λ few. cc (c.in_err-add.ensures.fits.1 (subst (λ (g : Gap). length (with_gap g mid) ≤ 8) (sym at) few))))

pub loop-gap-preserved : goal.loop-gap-preserved
loop-gap-preserved c =
    let items : c.as_slice-gap-items.result.now ≡ c.args.ruling.gaps = c.as_slice-gap-items.ensures.slice ∙ c.gaps-own.ensures in
    let i : ℕ = c.loop-gap.gap-index in
    let mid = c.add_longs.new.gaps in
    let new = c.add.new.self in
    let at : get_or c.as_slice-gap-items.result.now i no_gap ≡ get_or c.args.ruling.gaps i no_gap = ap (λ (l : List Gap). get_or l i no_gap) items in
    let before : HasUpTo c.args.ruling ((get_or c.args.ruling.gaps i no_gap).first - 1) mid = subst (λ (g : Gap). HasUpTo c.args.ruling (g.first - 1) mid) at c.in_ok-add_longs.ensures.ok in
    subst (λ (g : Gap). Joined c.args.ruling new g.last (i + 1)) (sym at)
    (own-joined c.args.ruling c.requires c.loop-gap.gaps c.loop-gap.last i c.loop-gap.invariant (omega (arith, c.loop-gap-test.true, ap (length {A = Gap}) items)) mid before
    new (c.in_ok-add.ensures.ok ∙ ap (λ (g : Gap). with_gap g mid) at) (subst (λ (g : Gap). length (with_gap g mid) ≤ 8) at (c.in_ok-add.ensures.fits.0 refl)))

pub add_longs-requires-2-clause-order : goal.add_longs-requires-2-clause-order
add_longs-requires-2-clause-order c =
    let items : c.as_slice-gap-items.result.now ≡ c.args.ruling.gaps = c.as_slice-gap-items.ensures.slice ∙ c.gaps-own.ensures in
    let done : c.loop-gap.gap-index ≡ length c.args.ruling.gaps = omega (arith, c.loop-gap-test.false, c.loop-gap.auto.gap-index-end, ap (length {A = Gap}) items) in
    omega (arith, c.persisted.ensures, all-above c.args.ruling c.requires c.loop-gap.gaps c.loop-gap.last c.loop-gap.gap-index c.loop-gap.invariant done)

pub add_longs-requires-2-clause-between : goal.add_longs-requires-2-clause-between
add_longs-requires-2-clause-between c =
    let items : c.as_slice-gap-items.result.now ≡ c.args.ruling.gaps = c.as_slice-gap-items.ensures.slice ∙ c.gaps-own.ensures in
    let done : c.loop-gap.gap-index ≡ length c.args.ruling.gaps = omega (arith, c.loop-gap-test.false, c.loop-gap.auto.gap-index-end, ap (length {A = Gap}) items) in
    subst (λ (n : ℕ). HasLongsBetween c.args.ruling c.loop-gap.last (n + 1)) (sym c.persisted.ensures)
    (all-between c.args.ruling c.requires c.loop-gap.gaps c.loop-gap.last c.loop-gap.gap-index c.loop-gap.invariant done)

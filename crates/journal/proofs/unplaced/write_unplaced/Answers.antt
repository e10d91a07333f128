use Rattle.std.proofs.Common.{ℕ, suc, ◌≡◌, ◌-◌, ◌<◌, length, subst, arith}
use Rattle.journal.proofs.Placings.{IsPlacing, placing-none, placing-found, placing-others, placing-more, placing-written, placing-all}
use Rattle.journal.proofs.unplaced.write_unplaced.Goals as goal

pub loop-at-init : goal.loop-at-init
loop-at-init g c =
    (omega arith, placing-none (g.S.Storage.may_hold c.args.storage.now) (g.S.Storage.shows c.args.storage.now) c.args.image.now.value.items c.args.lines.now c.args.marks.now.items)

pub loop-at-preserved : goal.loop-at-preserved
loop-at-preserved g c =
    let lines = c.args.lines.now in
    let at : ℕ = c.loop-at.at - 1 in
    let next : c.loop-at.at ≡ suc at = omega (arith, c.loop-at-test.true) in
    let held = g.S.Storage.may_hold c.args.storage.now in
    let shown = g.S.Storage.shows c.args.storage.now in
    let P : ℕ → Type 0 = λ n. IsPlacing held shown (g.S.Storage.may_hold c.loop-at.storage) (g.S.Storage.shows c.loop-at.storage) c.args.image.now.value.items lines c.args.marks.now.items c.loop-at.marks.items n in
    let lt : at < length lines = omega (arith, next, c.loop-at.invariant.0) in (
      omega (arith, lt),
      placing-more held held shown _ _ _ _ c.args.image.now.value.items lines c.args.marks.now.items c.loop-at.marks.items c.write_line.new.marks.items at _ c.requires.placed lt (subst P next c.loop-at.invariant.1)
          c.write_line.ensures.found c.write_line.ensures.others c.in_ok-write_line.ensures.written c.write_line.ensures.size c.in_ok-write_line.ensures.none c.in_ok-write_line.ensures.rest,
    )

pub returns-in_err-write_line-clause-found : goal.returns-in_err-write_line-clause-found
returns-in_err-write_line-clause-found g c =
    let lines = c.args.lines.now in
    let at : ℕ = c.loop-at.at - 1 in
    let next : c.loop-at.at ≡ suc at = omega (arith, c.loop-at-test.true) in
    let held = g.S.Storage.may_hold c.args.storage.now in
    let shown = g.S.Storage.shows c.args.storage.now in
    let P : ℕ → Type 0 = λ n. IsPlacing held shown (g.S.Storage.may_hold c.loop-at.storage) (g.S.Storage.shows c.loop-at.storage) c.args.image.now.value.items lines c.args.marks.now.items c.loop-at.marks.items n in
    let lt : at < length lines = omega (arith, next, c.loop-at.invariant.0) in
    placing-found held held shown _ _ _ c.args.image.now.value.items lines c.args.marks.now.items c.loop-at.marks.items at _ c.requires.placed lt (subst P next c.loop-at.invariant.1) c.write_line.ensures.found

pub returns-in_err-write_line-clause-others : goal.returns-in_err-write_line-clause-others
returns-in_err-write_line-clause-others g c =
    let lines = c.args.lines.now in
    let at : ℕ = c.loop-at.at - 1 in
    let next : c.loop-at.at ≡ suc at = omega (arith, c.loop-at-test.true) in
    let held = g.S.Storage.may_hold c.args.storage.now in
    let shown = g.S.Storage.shows c.args.storage.now in
    let P : ℕ → Type 0 = λ n. IsPlacing held shown (g.S.Storage.may_hold c.loop-at.storage) (g.S.Storage.shows c.loop-at.storage) c.args.image.now.value.items lines c.args.marks.now.items c.loop-at.marks.items n in
    let lt : at < length lines = omega (arith, next, c.loop-at.invariant.0) in
    placing-others held held shown _ _ _ c.args.image.now.value.items lines c.args.marks.now.items c.loop-at.marks.items at _ c.requires.placed lt (subst P next c.loop-at.invariant.1) c.write_line.ensures.others

pub returns-clause-written : goal.returns-clause-written
returns-clause-written g c =
    let held = g.S.Storage.may_hold c.args.storage.now in
    let shown = g.S.Storage.shows c.args.storage.now in
    let P : ℕ → Type 0 = λ n. IsPlacing held shown (g.S.Storage.may_hold c.loop-at.storage) (g.S.Storage.shows c.loop-at.storage) c.args.image.now.value.items c.args.lines.now c.args.marks.now.items c.loop-at.marks.items n in
    let none : c.loop-at.at ≡ 0 = omega (arith, c.loop-at-test.false) in
    placing-written held held shown _ _ c.args.image.now.value.items c.args.lines.now c.args.marks.now.items c.loop-at.marks.items c.requires.placed (subst P none c.loop-at.invariant.1)

pub returns-clause-marks : goal.returns-clause-marks
returns-clause-marks g c =
    let held = g.S.Storage.may_hold c.args.storage.now in
    let shown = g.S.Storage.shows c.args.storage.now in
    let P : ℕ → Type 0 = λ n. IsPlacing held shown (g.S.Storage.may_hold c.loop-at.storage) (g.S.Storage.shows c.loop-at.storage) c.args.image.now.value.items c.args.lines.now c.args.marks.now.items c.loop-at.marks.items n in
    let none : c.loop-at.at ≡ 0 = omega (arith, c.loop-at-test.false) in
    placing-all held held shown _ _ c.args.image.now.value.items c.args.lines.now c.args.marks.now.items c.loop-at.marks.items c.requires.placed (subst P none c.loop-at.invariant.1)

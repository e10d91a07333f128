use Rattle.std.proofs.Common.{refl, ◌+◌, ◌-◌, ap, arith, ℕ}
use Rattle.base.proofs.Results.{on_err}
use Rattle.recovery.proofs.openings.Gaps.{skip-added, skip-full, none-skipped}
use Rattle.recovery.proofs.gaps.add_skipped.Goals as goal

pub returns-in_err-add-clause-err : goal.returns-in_err-add-clause-err
returns-in_err-add-clause-err c =
    on_err c.from_residual.result
    (skip-full c.args.ruling c.requires.may_rule c.args.gaps.now c.requires.before (c.persisted-first.result + 1) (c.dirty-last.result - 1)
    (ap (λ (n : ℕ). n + 1) c.persisted-first.ensures) (ap (λ (n : ℕ). n - 1) c.dirty-last.ensures) c.if-first-last.true (λ few. cc (c.in_err-add.ensures.fits.1 few)))

pub returns-in_ok-add-clause-ok : goal.returns-in_ok-add-clause-ok
returns-in_ok-add-clause-ok c =
    skip-added c.args.ruling c.requires.may_rule c.args.gaps.now c.requires.before (c.persisted-first.result + 1) (c.dirty-last.result - 1)
    (ap (λ (n : ℕ). n + 1) c.persisted-first.ensures) (ap (λ (n : ℕ). n - 1) c.dirty-last.ensures) c.if-first-last.true c.add.new.self c.in_ok-add.ensures.ok (c.in_ok-add.ensures.fits.0 refl)

pub returns-else-first-last-clause-ok : goal.returns-else-first-last-clause-ok
returns-else-first-last-clause-ok c = grind (arith, none-skipped)

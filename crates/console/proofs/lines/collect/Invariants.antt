use Rattle.std.proofs.Common.{◌≡◌, ℕ, ◌+◌, ◌-◌, ◌≤◌}
use Rattle.base.specs.declared.step.Step.TheVariants as step
use Rattle.console.specs.Kept.{LeadsBy}
use Rattle.console.specs.Obeyed.{Ticks, is_answered}
use Rattle.console.proofs.lines.collect.Given as goal

abbrev pub invariant-loop : goal.invariant-loop
invariant-loop g l = (more : ℕ) × (l.counter ≡ more + 1) × (more ≤ l.needed - 1) × LeadsBy g.D.Pmem.state l.fn.room l.room (λ q q'. Ticks step.Collect is_answered more q l.reply q')

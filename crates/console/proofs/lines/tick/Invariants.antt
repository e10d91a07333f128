use Rattle.std.proofs.Common.{◌≡◌, ℕ, ◌+◌, ◌-◌, ◌≤◌}
use Rattle.base.specs.declared.step.Step.TheVariants as step
use Rattle.console.specs.Kept.{LeadsBy}
use Rattle.console.specs.Obeyed.{Ticks, is_busy}
use Rattle.console.proofs.lines.tick.Given as goal

abbrev pub invariant-loop : goal.invariant-loop
invariant-loop g l = (more : ℕ) × (l.counter ≡ more + 1) × (more ≤ l.ticks - 1) × LeadsBy g.D.Pmem.state l.fn.room l.room (λ q q'. Ticks step.Commit is_busy more q l.reply q')

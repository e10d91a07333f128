-- The steps that have no row.
use Rattle.base.specs.declared.step.Step.{Step}
use Rattle.base.specs.declared.step.Step.TheVariants as whole
use Rattle.database.specs.declared.opened.SmallStep.{SmallStep}
use Rattle.database.specs.declared.opened.SmallStep.TheVariants as small

-- the same step, with the room for a row that it doesn't have
abbrev pub whole_step : SmallStep → Step
whole_step small.Begin = whole.Begin
whole_step (small.Delete s key) = whole.Delete s key
whole_step (small.Draw s) = whole.Draw s
whole_step (small.Stamp s) = whole.Stamp s
whole_step (small.Abort s) = whole.Abort s
whole_step (small.End s) = whole.End s
whole_step small.Commit = whole.Commit
whole_step small.Collect = whole.Collect

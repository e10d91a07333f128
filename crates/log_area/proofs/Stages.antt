-- The stage after each operation of a writing.
use Rattle.std.proofs.Common.{◌≡◌, ◌≢◌, ◌+◌, arith}
use Rattle.std.proofs.lemmas.Bool.{ltb-true, ltb-false}
use Rattle.log_area.specs.declared.stage.WritingStage.{WritingStage}
use Rattle.log_area.specs.declared.stage.WritingStage.TheVariants.{Done}
use Rattle.log_area.specs.Stages.{IsStage, next_stage, operations_before}

-- each operation is one
pub operations-next : (stage : WritingStage) → IsStage stage → stage ≢ Done → operations_before (next_stage stage) ≡ operations_before stage + 1
operations-next a is un = grind (arith, ltb-false)

pub staged-next : (stage : WritingStage) → IsStage stage → IsStage (next_stage stage)
staged-next a is = grind (arith, ltb-true)

use Rattle.std.proofs.Common.{ℕ, List, Option, IfSome, subst}
use Rattle.pmem_file.specs.declared.shape.Shape.{Shape}
use Rattle.pmem_file.specs.Shapes.{IsForMemory, KeepsNames}
use Rattle.pmem_file.proofs.shape.Found.shape.Goals as goal

pub returns-in-Err-clause-ours : goal.returns-in-Err-clause-ours
unfolding IsForMemory
returns-in-Err-clause-ours c sized few ours = c.in-Err.ensures.memory

pub returns-in-Ok-Some-clause-named : goal.returns-in-Ok-Some-clause-named
returns-in-Ok-Some-clause-named c =
    let named = subst (λ (found : Option Shape). IfSome found (λ shape. KeepsNames c.args.asked.now c.as_slice-file.result.now shape)) c.in-Ok-Some.field-0-is c.in-Ok-Some.ensures.named in
    subst (λ (file : List ℕ). KeepsNames c.args.asked.now file c.in-Ok-Some.shape) c.as_slice-file.ensures.value named

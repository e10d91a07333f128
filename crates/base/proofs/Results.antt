-- What holds of a result that failed.
use Rattle.std.proofs.Common.{◌≡◌, arith}
use Rattle.std.specs.Prelude.{Result, OnErr, IfErr, IsErrAnd}
use Rattle.base.specs.declared.fault.Fault.{Fault}

-- what holds, holds at an error
pub on_err : {T E P : Type 0} (r : Result T E) → P → OnErr r P
on_err a p = grind (arith)

-- the fault that a part failed with is the one that is reported
pub reported : {T : Type 0} (result : Result T Fault) (fault : Fault) (P : Fault → Type 0) → IsErrAnd result (λ told. told ≡ fault) → P fault → IfErr result P
reported a fault b is part = grind (arith)

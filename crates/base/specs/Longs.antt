-- Long commits in an array of fixed size are their list.
use Rattle.std.proofs.Common.{◌≡◌, ℕ, ◌-◌, ◌≤◌, List, ◌++◌, length, take, drop, replicate, ap, arith}
use Rattle.std.proofs.lemmas.List.{take-append-drop, length-take-le}
use Rattle.base.specs.declared.longs.Longs.TheInside.{Inside}

-- the list determines the fields, since what is past the length is 0
pub inverse_ok_lem : (n : ℕ) (timestamps : List ℕ) → n ≤ 12 → length timestamps ≡ 12 → drop n timestamps ≡ replicate (12 - n) 0
    → ◌≡◌ {A = Inside} (record { len = length (take n timestamps); timestamps = take n timestamps ++ replicate (12 - length (take n timestamps)) 0 }) (record { len = n; timestamps = timestamps })
inverse_ok_lem n timestamps h whole rest =
    let len : length (take n timestamps) ≡ n = length-take-le n timestamps (omega (arith, h, whole)) in
    let all : take n timestamps ++ replicate (12 - n) 0 ≡ timestamps = rw (← rest) (take-append-drop n timestamps) in
    rw len (ap (λ (l : List ℕ). let r : Inside = record { len = n; timestamps = l } in r) all)

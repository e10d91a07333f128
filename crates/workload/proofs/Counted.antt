-- How many timestamps receipts drew, and how many commits were acknowledged.
use Rattle.std.proofs.Common.{◌≡◌, ℕ, ◌+◌, ◌≤◌, Bool, true, false, List, [], ◌∷◌, ◌++◌, Option, Some, None, length, refl, sym, ap, ◌∙◌, arith}
use Rattle.std.specs.Prelude.{All, count_by, if◌then◌else◌, is_some}
use Rattle.std.proofs.lemmas.List.Elements.{All-head, All-tail}
use Rattle.std.proofs.lemmas.List.Sums.{count_by-le-length, sum_by-append, sum_by-cons}
use Rattle.std.proofs.lemmas.Bool.Decides.{nat_tests}
use Rattle.audited.specs.declared.receipt.Receipt.{Receipt}
use Rattle.workload.specs.Load.{acknowledged, draws, ended_of, has_drawn, is_acknowledged, is_same, reported_to}

-- how many ends were done
abbrev pub ends : List Receipt → ℕ
ends receipts = count_by (λ r. is_some (ended_of r.step r.note)) receipts

pub count-one : (p : Receipt → Bool) (r : Receipt) → count_by p (r ∷ []) ≡ (if p r then 1 else 0)
count-one p r = omega arith

pub count-cons : (p : Receipt → Bool) (r : Receipt) (rs : List Receipt) → count_by p (r ∷ rs) ≡ (if p r then 1 else 0) + count_by p rs
count-cons p r rs = sum_by-cons (λ (x : Receipt). if p x then 1 else 0) r rs

pub none-counted : (p : Receipt → Bool) (xs : List Receipt) → All (λ r. p r ≡ false) xs → count_by p xs ≡ 0
none-counted p [] all = refl
none-counted p (r ∷ rs) all =
    let first : ◌≡◌ {A = ℕ} (if p r then 1 else 0) 0 = ap {B = ℕ} (λ (b : Bool). if b then 1 else 0) (All-head (λ (s : Receipt). p s ≡ false) r rs all) in
    omega (arith, count-cons p r rs, first, none-counted p rs (All-tail (λ (s : Receipt). p s ≡ false) r rs all))

pub ends-append : (one two : List Receipt) → ends (one ++ two) ≡ ends one + ends two
ends-append one two = sum_by-append (λ (r : Receipt). if is_some (ended_of r.step r.note) then 1 else 0) one two

pub ends-cons : (r : Receipt) (rest : List Receipt) → ends (r ∷ rest) ≡ (if is_some (ended_of r.step r.note) then 1 else 0) + ends rest
ends-cons r rest = count-cons (λ s. is_some (ended_of s.step s.note)) r rest

pub draws-cons : (r : Receipt) (rest : List Receipt) → draws (r ∷ rest) ≡ (if has_drawn r.step r.note then 1 else 0) + draws rest
draws-cons r rest = count-cons (λ s. has_drawn s.step s.note) r rest

pub draws-append : (one two : List Receipt) → draws (one ++ two) ≡ draws one + draws two
draws-append one two = sum_by-append (λ (r : Receipt). if has_drawn r.step r.note then 1 else 0) one two

pub ends-short : (receipts : List Receipt) → ends receipts ≤ length receipts
ends-short receipts = count_by-le-length (λ (r : Receipt). is_some (ended_of r.step r.note)) receipts

-- ---- no end was done

none-first : (o : Option ℕ) (n : ℕ) → (if is_some o then 1 else 0) + n ≡ 0 → o ≡ None
none-first a n h = grind (arith)

none-rest : (b : Bool) (n : ℕ) → (if b then 1 else 0) + n ≡ 0 → n ≡ 0
none-rest a n h = grind (arith)

same-none : (o : Option ℕ) → is_same o None ≡ false
same-none a = grind (arith)

unacknowledged : (r : Receipt) (added : List Receipt) → ends added ≡ 0 → is_acknowledged r added ≡ false
unacknowledged r [] none = refl
unacknowledged r (e ∷ rest) none =
    ap (is_same (reported_to r.step r.note)) (none-first (ended_of e.step e.note) (ends rest) (sym (ends-cons e rest) ∙ none)) ∙ same-none (reported_to r.step r.note)

first-same : (r : Receipt) (old added : List Receipt) → ends added ≡ 0 → is_acknowledged r (old ++ added) ≡ is_acknowledged r old
first-same r [] added none = unacknowledged r added none
first-same r (x ∷ xs) added none = refl

-- then nothing more is acknowledged
pub acknowledged-none : (old added : List Receipt) → ends added ≡ 0 → acknowledged (old ++ added) ≡ acknowledged old
acknowledged-none [] [] none = refl
acknowledged-none [] (e ∷ rest) none =
    let rest-none : ends rest ≡ 0 = none-rest (is_some (ended_of e.step e.note)) (ends rest) (sym (ends-cons e rest) ∙ none) in
    let first : ◌≡◌ {A = ℕ} (if is_acknowledged e rest then 1 else 0) 0 = ap {B = ℕ} (λ (b : Bool). if b then 1 else 0) (unacknowledged e rest rest-none) in
    let others : acknowledged rest ≡ 0 = acknowledged-none [] rest rest-none in omega (arith, first, others)
acknowledged-none (r ∷ old) added none = grind (arith, first-same, acknowledged-none old added none)

-- ---- an end was done right after a poll

first-end : (x : Receipt) (xs : List Receipt) (poll end : Receipt) → is_acknowledged x (xs ++ poll ∷ end ∷ []) ≡ is_acknowledged x (xs ++ poll ∷ [])
first-end x [] poll end = refl
first-end x (y ∷ ys) poll end = refl

one-same : (n : ℕ) → is_same (Some n) (Some n) ≡ true
one-same n = grind (arith, nat_tests)

told-one : (one other : Option ℕ) (n : ℕ) → one ≡ Some n → other ≡ Some n → is_same one other ≡ true
told-one one other n first second = ap (λ (o : Option ℕ). is_same o other) first ∙ (ap (is_same (Some n)) second ∙ one-same n)

pub acknowledged-one : (xs : List Receipt) (poll end : Receipt) (n : ℕ) → reported_to poll.step poll.note ≡ Some n → ended_of end.step end.note ≡ Some n
    → acknowledged (xs ++ poll ∷ end ∷ []) ≡ acknowledged (xs ++ poll ∷ []) + 1
acknowledged-one [] poll end n told ended =
    ap (λ (b : Bool). (if b then 1 else 0) + 0) (told-one (reported_to poll.step poll.note) (ended_of end.step end.note) n told ended)
acknowledged-one (x ∷ xs) poll end n told ended = grind (arith, first-end, acknowledged-one xs poll end n told ended)

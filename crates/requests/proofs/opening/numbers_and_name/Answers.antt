use Rattle.std.proofs.Common.{◌≡◌, ℕ, List, ◌++◌, rules, arith, take, take_all, drop, subst, sym, ap, ◌∙◌}
use Rattle.std.proofs.lemmas.List.{take-append-drop, length-drop}
use Rattle.byteorder.specs.Endian.{little_number}
use Rattle.requests.proofs.Bytes.{AreBytes, read-two, take-bytes}
use Rattle.requests.proofs.opening.numbers_and_name.Goals as goal

pub returns : goal.returns
returns c =
    let front : c.in_ok-numbers.numbers.now ≡ take 16 c.args.payload.now = search rules in
    let back : c.in_ok-numbers.name.now ≡ drop 16 c.args.payload.now = search rules in
    let bytes : AreBytes c.in_ok-numbers.numbers.now = subst AreBytes (sym front) (take-bytes 16 c.args.payload.now (search rules)) in
    let second : c.read_u64-2.result ≡ little_number 8 (drop 8 c.in_ok-numbers.numbers.now) =
    c.read_u64-2.ensures ∙ ap (little_number 8) (take_all _ (drop 8 c.in_ok-numbers.numbers.now) (omega (arith, length-drop 8 c.in_ok-numbers.numbers.now))) in
    let numbers = read-two c.in_ok-numbers.numbers.now c.read_u64.result c.read_u64-2.result (search rules) bytes (search rules) second in
    (search rules, ap (λ (l : List ℕ). l ++ c.in_ok-numbers.name.now) numbers ∙ ap (λ (l : List ℕ). l ++ c.in_ok-numbers.name.now) front ∙ ap (λ (l : List ℕ). take 16 c.args.payload.now ++ l) back ∙ take-append-drop 16 c.args.payload.now)

use Rattle.std.proofs.Common.{◌≡◌, List, ℕ, ◌++◌, rules, take, take_all, drop, subst, sym, ap, ◌∙◌}
use Rattle.std.proofs.lemmas.List.{take-append-drop}
use Rattle.byteorder.specs.Endian.{little_bytes, little_number}
use Rattle.requests.proofs.Bytes.{AreBytes, read-8, take-bytes}
use Rattle.requests.proofs.opening.lines_and_rest.Goals as goal

pub returns : goal.returns
returns c =
    let lines = c.in_ok-lines.lines.now in
    let front : lines ≡ take 8 c.args.payload.now = search rules in
    let back : c.in_ok-lines.rest.now ≡ drop 8 c.args.payload.now = search rules in
    let bytes : AreBytes lines = subst AreBytes (sym front) (take-bytes 8 c.args.payload.now (search rules)) in
    let number : little_bytes 8 (little_number 8 lines) ≡ lines = read-8 lines (search rules) bytes ∙ take_all 8 lines (search rules) in
    ap (λ (n : ℕ). little_bytes 8 n ++ c.in_ok-lines.rest.now) c.read_u64.ensures ∙ ap (λ (l : List ℕ). l ++ c.in_ok-lines.rest.now) (number ∙ front)
    ∙ ap (λ (l : List ℕ). take 8 c.args.payload.now ++ l) back ∙ take-append-drop 8 c.args.payload.now

-- Lines as payloads, and back.
use Rattle.std.proofs.Common.{◌≡◌, ℕ, suc, ◌+◌, ◌*◌, ◌/◌, ◌%◌, ◌<◌, ◌≤◌, ◌^◌, List, [], ◌∷◌, ◌++◌, length, map, take, drop, set, get_or, refl, sym, ◌∙◌, ap, arith}
use Rattle.std.proofs.lemmas.List.{length-map, take_at, drop_at, take_more_set}
use Rattle.journal.specs.declared.line.Line.{Line}
use Rattle.journal.specs.LinePayloads.{low, packed, line_payloads, joined, number_in, line_of, payloads_of_lines, lines_of, IsLine, LinesReturn}

join_is : (number : ℕ) (words : List ℕ) → ((at : ℕ) → at < length words → get_or words at 0 < 2 ^ 64) → joined (map low words) (packed number words) ≡ words
join_is number [] fits = refl
join_is number (word ∷ words) fits =
    let rest = packed number words in
    let here : word < 2 ^ 64 = fits 0 (omega arith) in
    let first : low (low word) + 2 ^ 63 * ((word / 2 ^ 63 + 2 * rest) % 2) ≡ word = omega (arith, here) in
    let more : (word / 2 ^ 63 + 2 * rest) / 2 ≡ rest = omega (arith, here) in
    let tail = join_is number words (λ at lt. fits (suc at) (omega (arith, lt))) in
    (λ i. first i ∷ joined (map low words) (more i)) ∙ (λ i. word ∷ tail i)

one_back : (line : Line) (others : List ℕ) → IsLine line → line_of (line_payloads line ++ others) ≡ line
one_back line others is =
    let lows : List ℕ = map low line.words in
    let rest : ℕ = packed line.number line.words in
    grind (arith, length-map, take_at lows (rest ∷ others) 8, join_is)

behind : (line : Line) (others : List ℕ) → IsLine line → drop 9 (line_payloads line ++ others) ≡ others
behind line others is = drop_at (line_payloads line) others 9 (size_of line.words is.size)
  where
    count : (a : List ℕ) (x : ℕ) → length (a ++ x ∷ []) ≡ suc (length a)
    count [] x = refl
    count (y ∷ a) x = ap (λ (n : ℕ). suc n) (count a x)

    size_of : (words : List ℕ) → length words ≡ 8 → length (map low words ++ packed line.number line.words ∷ []) ≡ 9
    size_of words eight = count (map low words) (packed line.number line.words) ∙ ap (λ (n : ℕ). suc n) (length-map words low ∙ eight)

pub lines-return : LinesReturn
lines-return [] all = refl
lines-return (line ∷ lines) all =
    let is : IsLine line = all 0 line (omega arith) in
    let rest : lines_of (length lines) (payloads_of_lines lines) ≡ lines = lines-return lines (λ k d lt. all (suc k) d (omega (arith, lt))) in
    (λ i. one_back line (payloads_of_lines lines) is i ∷ lines_of (length lines) (behind line (payloads_of_lines lines) is i))
    ∙ (λ i. line ∷ rest i)

-- ---- the loop that takes a line apart

at_drop : (payloads : List ℕ) (place : ℕ) → place < 8 → 9 ≤ length payloads → drop place (take 8 payloads) ≡ get_or payloads place 0 ∷ drop (place + 1) (take 8 payloads)
at_drop payloads place lt long = grind (arith)

pub joined-more : (payloads words start : List ℕ) (place rest value : ℕ) → place < 8 → 9 ≤ length payloads → length words ≡ 8 → value ≡ get_or payloads place 0 % 2 ^ 63 + rest % 2 * 2 ^ 63
    → take place words ++ joined (drop place (take 8 payloads)) rest ≡ start
    → take (place + 1) (set words place value) ++ joined (drop (place + 1) (take 8 payloads)) (rest / 2) ≡ start
joined-more payloads words start place rest value lt long size is before = grind (arith, take_more_set)

pub number-more : (payloads : List ℕ) (place rest number : ℕ) → place < 8 → 9 ≤ length payloads → number_in (drop place (take 8 payloads)) rest ≡ number → number_in (drop (place + 1) (take 8 payloads)) (rest / 2) ≡ number
number-more payloads place rest number lt long before = sym (ap (λ (l : List ℕ). number_in l rest) (at_drop payloads place lt long)) ∙ before

use Rattle.std.proofs.Common.{◌≡◌, ℕ, ◌+◌, ◌<◌, List, [], ◌∷◌, ◌++◌, rules, length, take, get_or, sym, ap, ◌∙◌, append_assoc, add-one}
use Rattle.std.specs.List.{flat_map}
use Rattle.std.proofs.lemmas.List.{flat_map_more}
use Rattle.std.proofs.Math.Seq.{take-suc}
use Rattle.base.specs.declared.key.Key.{Key}
use Rattle.requests.specs.Frames.{row_bytes}
use Rattle.requests.proofs.sending.bytes_of_rows.Goals as goal

-- one more row behind those before it, of which three parts were added
one-more : (rows : List (Key × List ℕ)) (i : ℕ) (row : Key × List ℕ) (a b c d key size bytes : List ℕ) → i < length rows → row ≡ get_or rows i row
    → a ≡ flat_map row_bytes (take i rows) → b ≡ a ++ key → c ≡ b ++ size → d ≡ c ++ bytes → (key ++ size) ++ bytes ≡ row_bytes row
    → d ≡ flat_map row_bytes (take (i + 1) rows)
one-more rows i row a b c d key size bytes below is before first second third whole =
    let all = flat_map row_bytes (take i rows) in
    let parts : d ≡ ((all ++ key) ++ size) ++ bytes =
    third ∙ ap (λ (l : List ℕ). l ++ bytes) (second ∙ ap (λ (l : List ℕ). l ++ size) (first ∙ ap (λ (l : List ℕ). l ++ key) before)) in
    let together : ((all ++ key) ++ size) ++ bytes ≡ all ++ row_bytes row =
    ap (λ (l : List ℕ). l ++ bytes) (append_assoc all key size) ∙ append_assoc all (key ++ size) bytes ∙ ap (λ (l : List ℕ). all ++ l) whole in
    let taken : take i rows ++ row ∷ [] ≡ take (i + 1) rows =
    ap (λ (r : Key × List ℕ). take i rows ++ r ∷ []) is ∙ sym (take-suc rows i row below) ∙ ap (λ (n : ℕ). take n rows) (sym (add-one i)) in
    parts ∙ together ∙ flat_map_more row_bytes [] (take i rows) row ∙ ap (flat_map row_bytes) taken

pub loop-key-preserved : goal.loop-key-preserved
loop-key-preserved c =
    one-more c.args.rows.now c.loop-key.key-index c.loop-key-item.result _ _ _ _ _ _ _ (search rules) c.loop-key-item.is c.loop-key.invariant
    c.in_ok-extend_from_slice.ensures.items c.in_ok-extend_from_slice-2.ensures.items c.in_ok-extend_from_slice-3.ensures.items (search rules)

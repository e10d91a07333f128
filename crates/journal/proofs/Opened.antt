-- What is found of a file at each instant.
use Rattle.std.proofs.Common.{◌≡◌, ◌≢◌, ◌⊎◌, inl, inr, ℕ, suc, ◌*◌, Bool, not, List, [], ◌∷◌, ◌++◌, length, map, get_or, refl, sym, ◌∙◌, ap, arith}
use Rattle.std.proofs.lemmas.List.{length-map, length-append, append_assoc}
use Rattle.std.proofs.lemmas.List.Elements.{All-append}
use Rattle.journal.specs.declared.line.Line.{Line}
use Rattle.journal.specs.Entries.{NoneOf, entry, over, IsMixture}
use Rattle.journal.specs.Several.{read_all}
use Rattle.journal.specs.Passes.{joined, IsFilling, AllOf}
use Rattle.journal.specs.LinePayloads.{low, packed, line_payloads, payloads_of_lines, IsLine}
use Rattle.journal.specs.InPlace.{put_over}
use Rattle.journal.specs.Opened.{lines_found, all_lines, journal_of, AreLines, OpensTo, FileStates}
use Rattle.journal.proofs.Several.{append-is_whole, none-is_nothing}
use Rattle.journal.proofs.Passes.{joined-append, nil, filling-is_nothing, next-is_empty}
use Rattle.journal.proofs.LinePayloads.{lines-return}
use Rattle.journal.proofs.InPlace.{in_place-keeps}

nine : (line : Line) → IsLine line → length (line_payloads line) ≡ 9
nine line is = omega (arith, length-append (map low line.words) (packed line.number line.words ∷ []), length-map line.words low, is.size)

pub size : (lines : List Line) → AreLines lines → length (payloads_of_lines lines) ≡ 9 * length lines
size [] all = omega arith
size (line ∷ lines) all =
    omega (arith, length-append (line_payloads line) (payloads_of_lines lines), nine line (all 0 line (omega arith)), size lines (λ k d lt. all (suc k) d (omega (arith, lt))))

-- the lines are those of the payloads that are found
found-is : (pass : Bool) (words : List ℕ) (lines : List Line) → AreLines lines → joined (read_all pass words) ≡ payloads_of_lines lines → lines_found pass words ≡ lines
found-is pass words lines all is = grind (arith, size lines all, lines-return lines all)

flat : (a b : List Line) → payloads_of_lines (a ++ b) ≡ payloads_of_lines a ++ payloads_of_lines b
flat [] b = refl
flat (line ∷ a) b = ap (λ (l : List ℕ). line_payloads line ++ l) (flat a b) ∙ sym (append_assoc (line_payloads line) (payloads_of_lines a) (payloads_of_lines b))

entries-joined : (entries : List (List Line)) → joined (map payloads_of_lines entries) ≡ payloads_of_lines (all_lines entries)
entries-joined [] = refl
entries-joined (lines ∷ entries) = ap (λ (l : List ℕ). payloads_of_lines lines ++ l) (entries-joined entries) ∙ sym (flat lines (all_lines entries))

opens : (pass : Bool) (words : List ℕ) (lines : List Line) (image : List ℕ) → AreLines lines → joined (read_all pass words) ≡ payloads_of_lines lines → OpensTo pass image words lines image
opens pass words lines image all is word = ap (λ (l : List Line). put_over l word (get_or image word 0)) (found-is pass words lines all is)

ready : (pass : Bool) (entries : List (List Line)) (image old : List ℕ) → AreLines (all_lines entries) → NoneOf pass old → OpensTo pass image (journal_of pass entries old) (all_lines entries) image
ready pass entries image old all none =
    opens pass (journal_of pass entries old) (all_lines entries) image all (ap joined (none-is_nothing pass (map payloads_of_lines entries) old none) ∙ entries-joined entries)

appending : (pass : Bool) (entries : List (List Line)) (changed : List Line) (image old words : List ℕ) → AreLines (all_lines entries) → AreLines changed → NoneOf pass old
    → IsMixture old (entry pass (payloads_of_lines changed)) words
    → ((words ≡ over (entry pass (payloads_of_lines changed)) old) × OpensTo pass image (journal_of pass entries words) (all_lines entries ++ changed) image)
    ⊎ ((words ≢ over (entry pass (payloads_of_lines changed)) old) × OpensTo pass image (journal_of pass entries words) (all_lines entries) image)
appending pass entries changed image old words before new none mixed = elim (append-is_whole pass (map payloads_of_lines entries) old (payloads_of_lines changed) words none mixed) [
  | inl whole ↦ inl (
    whole.0,
    opens pass (journal_of pass entries words) (all_lines entries ++ changed) image (All-append (λ line. IsLine line) (all_lines entries) changed before new)
        (ap joined whole.1 ∙ joined-append (map payloads_of_lines entries) (payloads_of_lines changed ∷ [])
        ∙ (λ i. entries-joined entries i ++ nil (payloads_of_lines changed) i) ∙ sym (flat (all_lines entries) changed)),
  )
  | inr torn ↦ inr (torn.0, opens pass (journal_of pass entries words) (all_lines entries) image before (ap joined torn.1 ∙ entries-joined entries))
]

filling : (pass : Bool) (entries : List (List Line)) (image found old words : List ℕ) → AreLines (all_lines entries) → NoneOf pass old → IsFilling pass old words
    → ((word : ℕ) → (get_or found word 0 ≡ get_or image word 0) ⊎ (get_or found word 0 ≡ put_over (all_lines entries) word (get_or image word 0)))
    → OpensTo pass found (journal_of pass entries words) (all_lines entries) image
filling pass entries image found old words all none filled each word =
    opens pass (journal_of pass entries words) (all_lines entries) found all (filling-is_nothing pass (map payloads_of_lines entries) old words none filled ∙ entries-joined entries) word
    ∙ in_place-keeps (all_lines entries) word (get_or image word 0) (get_or found word 0) (each word)

next : (pass : Bool) (image words : List ℕ) → AllOf pass words → OpensTo (not pass) image words [] image
next pass image words all =
    opens (not pass) words [] image (λ k d lt. absurd (omega (arith, lt))) (ap joined (next-is_empty pass words all).1)

pub file_states : FileStates
file_states = record { ready = ready; appending = appending; filling = filling; next = next }

use Rattle.std.proofs.Common.{◌≡◌, inr, List, ℕ, sym, ◌∙◌, ap, subst, arith}
use Rattle.std.specs.Prelude.{is_some}
use Rattle.std.proofs.lemmas.List.{ext_get_or}
use Rattle.command_line.specs.ImageFile.{HoldsWords, IsFileOf}
use Rattle.program.specs.Journals.{IsJournaled, StandsFor}
use Rattle.program.proofs.image.image_bytes.Goals as goal

-- a file holds one list of words
same_words : (file one other : List ℕ) → HoldsWords file one → HoldsWords file other → one ≡ other
same_words file one other a b = ext_get_or 0 one other (omega (arith, a.size, b.size)) (λ k lt. a.each k lt ∙ sym (b.each k (omega (arith, lt, a.size, b.size))))

pub returns-in_ok-file_of_words-in-Some-clause-journal : goal.returns-in_ok-file_of_words-in-Some-clause-journal
returns-in_ok-file_of_words-in-Some-clause-journal c has =
    let words = c.in_ok-words.words.items in
    let image = c.in-Some.image.items in
    let bytes = c.in_ok-file_of_words-in-Some.field-0.items in
    record {
      words = words;
      image = image;
      holds = subst (λ (l : List ℕ). HoldsWords l words) c.as_slice-2.ensures.value c.in_ok-words.ensures;
      stands = subst (λ (l : List ℕ). StandsFor l image) c.as_slice-3.ensures.value (rw c.in-Some.is at c.in_ok-image.ensures.some);
      bytes_are = subst (λ (l : List ℕ). IsFileOf l bytes) c.as_slice-in-Some.ensures.value c.in_ok-file_of_words-in-Some.ensures;
    }

pub returns-in_ok-file_of_words-in-Some-clause-only : goal.returns-in_ok-file_of_words-in-Some-clause-only
returns-in_ok-file_of_words-in-Some-clause-only c =
    let words = c.in_ok-words.words.items in
    let image = c.in-Some.image.items in
    let bytes = c.in_ok-file_of_words-in-Some.field-0.items in
    inr (record {
      words = words;
      image = image;
      holds = subst (λ (l : List ℕ). HoldsWords l words) c.as_slice-2.ensures.value c.in_ok-words.ensures;
      stands = subst (λ (l : List ℕ). StandsFor l image) c.as_slice-3.ensures.value (rw c.in-Some.is at c.in_ok-image.ensures.some);
      bytes_are = subst (λ (l : List ℕ). IsFileOf l bytes) c.as_slice-in-Some.ensures.value c.in_ok-file_of_words-in-Some.ensures;
    })

pub returns-in-None-clause-journal : goal.returns-in-None-clause-journal
returns-in-None-clause-journal c has =
    let words = c.in_ok-words.words.items in
    let holds : HoldsWords c.args.file.items words = subst (λ (l : List ℕ). HoldsWords l words) c.as_slice-2.ensures.value c.in_ok-words.ensures in
    let same = same_words c.args.file.items has.words words has.holds holds in
    absurd (c.in_ok-image.ensures.none (ap is_some c.in-None.is) (subst IsJournaled (same ∙ sym c.as_slice-3.ensures.value) has.some))

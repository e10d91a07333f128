-- What may be found of an image that was read in a file, which was made longer and synced.
use Rattle.std.proofs.Common.{◌≡◌, inl, inr, ℕ, ◌/◌, ◌<◌, ◌≤◌, List, get_or, ap}
use Rattle.std.proofs.lemmas.Bool.{cases_lt, cases_Bool}
use Rattle.file_words.specs.Accounts.{IsReadInPlace}
use Rattle.journal.specs.Files.{lines_in}
use Rattle.journal.specs.InPlace.{put_over}
use Rattle.journal.specs.Kept.{is_put_at}
use Rattle.journal.specs.ReadBack.{StandsStill}
use Rattle.journal.proofs.Placings.{over_some}

-- each word that was read is shown as it was read, unless a line of the journal's entries has it; each other one was written as it is here
pub read_still : (begun grown held : ℕ → ℕ → Type 0) (count words room : ℕ) (file : List ℕ) → ((word x : ℕ) → IsReadInPlace count words room file word → begun word x → x ≡ get_or file word 0)
    → ((word x : ℕ) → word < count → grown word x → begun word x) → ((word x : ℕ) → count ≤ word → word < words → grown word x → x ≡ get_or file word 0)
    → ((word x : ℕ) → word < words → held word x → grown word x) → StandsStill held words room file
read_still begun grown held count words room file read others news synced word x lt h = elim (cases_lt word count) [
  | inl below ↦ elim (cases_Bool (is_put_at (lines_in words room file) (word / 8))) [
    | inl put ↦ over_some (lines_in words room file) word x (get_or file word 0) put
    | inr off ↦ ap (λ (v : ℕ). put_over (lines_in words room file) word v) (read word x (below, lt, off) (others word x below (synced word x lt h)))
  ]
  | inr above ↦ ap (λ (v : ℕ). put_over (lines_in words room file) word v) (news word x above lt (synced word x lt h))
]

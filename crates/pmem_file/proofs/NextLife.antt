-- From one life of a file to the next.
use Rattle.std.proofs.Common.{◌≡◌, inr, ℕ, ◌+◌, List, length, subst, sym}
use Rattle.journal.specs.Files.{IsFile, IsStoodFor, MayBe}
use Rattle.journal.specs.Lives.{IsLeft}

-- the words and the room are those of the last life
pub may_moved : (may_hold : ℕ → ℕ → Type 0) (words room room' : ℕ) (written image : List ℕ) → words ≡ length written → room ≡ room' → IsStoodFor may_hold words room image → MayBe may_hold room' written image
may_moved may_hold words room room' written image same_words same_room stood =
    inr (subst (λ (n : ℕ). IsStoodFor may_hold n room' image) same_words (subst (λ (n : ℕ). IsStoodFor may_hold words n image) same_room stood))

pub left_moved : (may_hold : ℕ → ℕ → Type 0) (words words' room room' : ℕ) → words ≡ words' → room ≡ room' → IsLeft may_hold words' room' → IsLeft may_hold words room
left_moved may_hold words words' room room' same_words same_room left =
    subst (λ (n : ℕ). IsLeft may_hold n room) (sym same_words) (subst (λ (n : ℕ). IsLeft may_hold words' n) (sym same_room) left)

pub file_moved : (words words' room room' count : ℕ) → words ≡ words' → room ≡ room' → count ≡ words + room + 8 → IsFile words' room' (words' + room' + 8) → IsFile words room count
file_moved words words' room room' count same_words same_room size is =
    let here : IsFile words room (words + room + 8) =
    subst (λ (n : ℕ). IsFile n room (n + room + 8)) (sym same_words) (subst (λ (n : ℕ). IsFile words' n (words' + n + 8)) (sym same_room) is) in
    record { whole = here.whole; fits = here.fits; size = size }

-- What a writing leaves of the words in place.
use Rattle.std.proofs.Common.{inl, inr, ℕ, ◌-◌, ◌≤◌, List, length, sym, ◌∙◌, arith}
use Rattle.std.proofs.Math.Logic.{∥∥₁_elim}
use Rattle.std.proofs.Math.Nat.{ℕ_set}
use Rattle.journal.specs.Places.{PlacesOnly, IsPart, HoldsPart, size_word}
use Rattle.journal.specs.States.{IsOff}
use Rattle.journal.proofs.Files.{Puts, along}

-- a run behind the image is written
pub places_behind : (old new : ℕ → ℕ → Type 0) (image : List ℕ) (start : ℕ) (news : List ℕ) → length image ≤ start → Puts old new start news → PlacesOnly old new image
places_behind old new image start news behind puts word x lt h = elim (puts word x h) [
  | inl held ↦ inl held
  | inr put ↦ absurd (omega (arith, put.0, behind, lt))
]

-- the image is
pub places_image : (old new : ℕ → ℕ → Type 0) (image : List ℕ) → Puts old new 0 image → PlacesOnly old new image
places_image old new image puts word x lt h = elim (puts word x h) [
  | inl held ↦ inl held
  | inr put ↦ inr (put.2 ∙ along image (word - 0) word (omega arith))
]

-- one after the other
pub places_then : (old mid new : ℕ → ℕ → Type 0) (image : List ℕ) → PlacesOnly old mid image → PlacesOnly mid new image → PlacesOnly old new image
places_then old mid new image first second word x lt h = elim (second word x lt h) [
  | inl held ↦ first word x lt held
  | inr put ↦ inr put
]

-- less may be found
pub places_within : (old new : ℕ → ℕ → Type 0) (image : List ℕ) → ((word x : ℕ) → new word x → old word x) → PlacesOnly old new image
places_within old new image within word x lt h = inl (within word x h)

-- the image is a part of the file
pub part_placed : (old new : ℕ → ℕ → Type 0) (room : ℕ) (image : List ℕ) → IsPart room image → PlacesOnly old new image → HoldsPart old (length image) room → HoldsPart new (length image) room
part_placed old new room image part places holds x h = elim (places size_word x part.has h) [
  | inl held ↦ holds x held
  | inr put ↦ (λ is. part.less (sym put ∙ is))
]

-- and so it is once it is in place
pub part_off : (hold : ℕ → ℕ → Type 0) (room : ℕ) (image : List ℕ) → IsPart room image → ∥ IsOff hold (length image) room image ∥₁ → HoldsPart hold (length image) room
part_off hold room image part off x h is =
    part.less (∥∥₁_elim off (ℕ_set _ _) (λ o. sym (o.place size_word x part.has h)) ∙ is)

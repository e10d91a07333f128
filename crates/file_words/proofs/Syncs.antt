-- What may be found after a sync, and after a change of the length.
use Rattle.std.proofs.Common.{◌≡◌, ℕ, ◌<◌, ◌≤◌, Bool, true, false, List, ◌∷◌, inl, inr, subst, arith}
use Rattle.file_words.specs.Accounts.{Call, Syncing, Sizing, Lengthening, Held, Shown, View, Anything, HasAfter, shown_is_held}

after : (calls : List Call) (ok : Bool) (word x : ℕ) → HasAfter Anything Held (Syncing ok ∷ calls) word x → HasAfter Anything Held calls word x
after calls true word x shown = shown_is_held Anything calls word x shown
after calls false word x held = held

pub sync-found : (calls calls' : List Call) (ok : Bool) → calls' ≡ Syncing ok ∷ calls → (word x : ℕ) → HasAfter Anything Held calls' word x → HasAfter Anything Held calls word x
sync-found calls calls' ok is word x held = after calls ok word x (subst (λ (c : List Call). HasAfter Anything Held c word x) is held)

-- a word before the new end
pub sized : (view : View) (calls calls' : List Call) (count : ℕ) (ok : Bool) → calls' ≡ Sizing count ok ∷ calls → (word x : ℕ) → word < count → HasAfter Anything view calls' word x → HasAfter Anything view calls word x
sized view calls calls' count ok is word x lt held = elim (subst (λ (c : List Call). HasAfter Anything view c word x) is held) [
  | inl behind ↦ absurd (omega (arith, behind, lt))
  | inr was ↦ was
]

-- a word before the end that the file was cut to
pub lengthened : (view : View) (calls calls' : List Call) (from to : ℕ) (ok : Bool) → calls' ≡ Lengthening from to ok ∷ calls → (word x : ℕ) → word < from → HasAfter Anything view calls' word x → HasAfter Anything view calls word x
lengthened view calls calls' from to ok is word x lt has = before view ok (subst (λ (c : List Call). HasAfter Anything view c word x) is has)
  where
    before : (v : View) (done : Bool) → HasAfter Anything v (Lengthening from to done ∷ calls) word x → HasAfter Anything v calls word x
    before Shown true (inl behind) = absurd (omega (arith, behind.0, lt))
    before Shown true (inr was) = was.1
    before Shown false (inl behind) = absurd (omega (arith, behind, lt))
    before Shown false (inr was) = was
    before Held done (inl behind) = absurd (omega (arith, behind, lt))
    before Held done (inr was) = was

-- and one behind it
pub lengthened-zero : (calls calls' : List Call) (from to : ℕ) → calls' ≡ Lengthening from to true ∷ calls → (word x : ℕ) → from ≤ word → word < to → HasAfter Anything Shown calls' word x → x ≡ 0
lengthened-zero calls calls' from to is word x le lt has = elim (subst (λ (c : List Call). HasAfter Anything Shown c word x) is has) [
  | inl behind ↦ behind.1 lt
  | inr was ↦ absurd (omega (arith, was.0, le))
]

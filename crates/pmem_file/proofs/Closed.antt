-- What is found of a file that was closed.
use Rattle.std.proofs.Common.{◌≡◌, ℕ, ◌<◌, List, Result, Ok, Err, IfOk, length, subst, sym}
use Rattle.std.proofs.Math.Logic.{∥∥₁_elim}
use Rattle.std.proofs.Math.Nat.{ℕ_set}
use Rattle.file_words.specs.Calls.{held_by}
use Rattle.file_words.specs.declared.account.Account.{Account}
use Rattle.journal.specs.Kept.{HoldsOnly}
use Rattle.journal.specs.States.{IsOff}

pub left-closed : {E : Type 0} (result : Result Account E) (held : ℕ → ℕ → Type 0) (count room : ℕ) (last : List ℕ) → ∥ IsOff held (length last) room last ∥₁ → count ≡ length last
    → IfOk result (λ account. (word x : ℕ) → word < count → held_by account word x → held word x) → IfOk result (λ account. HoldsOnly (held_by account) (length last) last)
left-closed (Ok account) held count room last known size found = λ word x lt h.
    ∥∥₁_elim known (ℕ_set _ _) (λ off. off.place word x lt (found word x (subst (λ (n : ℕ). word < n) (sym size) lt) h))
left-closed (Err error) held count room last known size found = tt

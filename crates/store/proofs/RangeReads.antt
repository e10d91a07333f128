-- A part of a range, in terms of where the range begins and ends.
use Rattle.std.proofs.Common.{◌≡◌, ℕ, ◌+◌, ◌-◌, ◌<◌, ◌≤◌, List, subst, arith}
use Rattle.std.specs.Prelude.{Result}
use Rattle.base.specs.declared.fault.Fault.{Fault}
use Rattle.base.specs.declared.key.Key.{Key}
use Rattle.base.specs.declared.step.Step.TheVariants.{Scan}
use Rattle.session_steps.specs.Reads.{of_rows}
use Rattle.database.specs.Reads.{ReadsReply}

pub read : {A : Type 0} (make : List (Key × List ℕ) → A) (session table least greatest start end : ℕ) (told : Result A Fault) → least ≡ start → greatest + 1 ≡ end → least ≤ greatest
    → ReadsReply (Scan session table least greatest) (of_rows make) told → (start < end) × ReadsReply (Scan session table start (end - 1)) (of_rows make) told
read make session table least greatest start end told first last below answers =
    let ends : greatest ≡ end - 1 = omega (arith, last) in (
      omega (arith, first, last, below),
      subst (λ (n : ℕ). ReadsReply (Scan session table start n) (of_rows make) told) ends (subst (λ (n : ℕ). ReadsReply (Scan session table n greatest) (of_rows make) told) first answers),
    )

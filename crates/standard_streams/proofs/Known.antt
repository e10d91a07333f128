-- What is known of bytes that are kept and then grow.
use Rattle.std.proofs.Common.{◌≡◌, ℕ, List, ◌++◌, ◌∙◌, sym, ap, append_assoc, arith}
use Rattle.std.specs.Prelude.{Option, Some, None}
use Rattle.std.specs.Io.KnownBytes.{Appends, Keeps, append_known}

pub keeps-same : (known : Option (List ℕ)) → Keeps known known
keeps-same a = grind (arith)

-- bytes that go behind those that are held go behind all
pub held-appends : (old : Option (List ℕ)) (output : Option (List ℕ)) (held new more : List ℕ) → Keeps old (append_known output held) → new ≡ held ++ more
    → Appends old (append_known output new) more
held-appends None output held new more kept grown = tt
held-appends (Some bytes) None held new more kept grown = absurd kept
held-appends (Some bytes) (Some out) held new more kept grown = ap (λ xs. out ++ xs) grown ∙ sym (append_assoc out held more) ∙ ap (λ xs. xs ++ more) kept

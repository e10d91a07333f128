-- The operations that make words persist: they are stored, their lines are flushed, and a fence waits.
use Rattle.std.specs.Prelude.{ℕ, ◌+◌, ◌/◌, List, [], ◌∷◌, ◌++◌, map}
use Rattle.std.specs.List.{range_with_len}
use Rattle.pmem.specs.Trace.{Operation, store_op, flush_op, fence_op}

-- n words from first on are stored, by rising number
abbrev pub store_operations : ℕ → (ℕ → ℕ) → ℕ → List Operation
store_operations first value n = map (λ k. store_op (first + k) (value k)) (range_with_len 0 n)

-- n lines from first on are flushed, by rising number
abbrev pub flush_operations : ℕ → ℕ → ℕ → List Operation
flush_operations actor first n = map (λ k. flush_op actor (first + k)) (range_with_len 0 n)

-- n words from first on are stored and this many lines from line on are flushed, and a fence waits for them
abbrev pub persist_operations : ℕ → ℕ → (ℕ → ℕ) → ℕ → ℕ → ℕ → List Operation
persist_operations actor first value n line lines = store_operations first value n ++ flush_operations actor line lines ++ fence_op actor ∷ []

-- one word is stored and its line flushed, and a fence waits for it
abbrev pub set_operations : ℕ → ℕ → ℕ → List Operation
set_operations actor word value = store_op word value ∷ flush_op actor (word / 8) ∷ fence_op actor ∷ []

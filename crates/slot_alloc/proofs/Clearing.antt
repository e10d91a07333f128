-- The operations that clear a slot's begin.
use Rattle.std.proofs.Common.{◌≡◌, ℕ, ◌/◌, List, [], ◌∷◌, ◌∙◌, ap, subst, arith}
use Rattle.pmem.specs.Device.{Device, IsOrderly, stored, flushed, failed}
use Rattle.pmem.specs.Trace.{Operation, store_op, flush_op, fence_op, StopsWithin}

-- 0 is stored in the word, and made to persist
abbrev pub operations : ℕ → ℕ → List Operation
operations word actor = store_op word 0 ∷ flush_op actor (word / 8) ∷ fence_op actor ∷ []

module _ (word actor : ℕ) (old : Device) (orderly : IsOrderly old) where
  -- the flush failed, or the fence did
  pub stops-flush : (one new : Device) → IsOrderly one → IsOrderly new → one ≡ stored word 0 old → new ≡ failed one → StopsWithin (operations word actor) old new
  stops-flush one new orderly1 orderly2 is is' = (1, omega arith, record { made = is' ∙ ap failed is; orderly = (orderly, (subst IsOrderly is orderly1, subst IsOrderly (is' ∙ ap failed is) orderly2)) })

  pub stops-fence : (one two new : Device) → IsOrderly one → IsOrderly two → IsOrderly new → one ≡ stored word 0 old → two ≡ flushed actor (word / 8) one → new ≡ failed two → StopsWithin (operations word actor) old new
  stops-fence one two new orderly1 orderly2 orderly3 is is' is'' = grind (arith)

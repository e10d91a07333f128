-- Lines that are flushed and not fenced.
use Rattle.std.proofs.Common.{◌≡◌, ℕ, List, ◌++◌, filter, Option, Some, arith}
use Rattle.std.specs.Prelude.{option_to_list}
use Rattle.std.proofs.lemmas.Bool.{eq-eqb}
use Rattle.std.proofs.lemmas.List.{append-nil}
use Rattle.std.proofs.lemmas.List.Elements.{filter-append}
use Rattle.pmem_file.specs.declared.flushed.Flushed.{Flushed}
use Rattle.pmem_file.specs.Flushes.{is_of_another}

-- what others flushed is left where the last was the actor's
pub others-left : (actor : ℕ) (old new : List Flushed) (popped : Option Flushed) (last : Flushed) → old ≡ new ++ option_to_list popped → popped ≡ Some last → last.actor ≡ actor → filter (is_of_another actor) new ≡ filter (is_of_another actor) old
others-left actor old new popped last is was own = grind (arith, filter-append, eq-eqb, append-nil)

-- How many operations puts and stamps make.
use Rattle.std.proofs.Common.{◌≡◌, ℕ, ◌+◌, ◌-◌, ◌≤◌, true, List, [], ◌∷◌, ◌++◌, map, length, refl, arith, Option, Some, None}
use Rattle.std.specs.List.{range_with_len}
use Rattle.std.proofs.lemmas.List.FromFn.{length-map-range_with_len}
use Rattle.base.specs.Layout.{slot_start, slot_words}
use Rattle.base.proofs.Layouts.{line-words}
use Rattle.machine.specs.Machine.{State, own_slot}
use Rattle.pmem.specs.Device.{Device}
use Rattle.pmem.specs.Trace.{Operation, store_op, Runs, StopsWithin}
use Rattle.version_slot.specs.declared.words.Version.{Version as Content}
use Rattle.version_slot.specs.Operations.{clear_operations, fill_operations}
use Rattle.version_slot.specs.Words.{filled_word}
use Rattle.simulation.specs.steps.Moves.{Takes, all_succeed, put_operations, stamp_operations, unless_own}
use Rattle.simulation.specs.steps.Laws.{PutsCount, StampsCount}
use Rattle.simulation.proofs.steps.Runs.{runs-count, stops-count}

-- runs of at most this many operations, all of which succeed
pub takes-run : (ops : List Operation) (most : ℕ) (old new : Device) → all_succeed ops ≡ true → length ops ≤ most → Runs ops old new → Takes most 0 old new
takes-run ops most old new succeed few run = grind (arith, runs-count ops old new succeed run)

pub takes-stopped : (ops : List Operation) (most : ℕ) (old new : Device) → all_succeed ops ≡ true → length ops ≤ most → StopsWithin ops old new → Takes most 1 old new
takes-stopped ops most old new succeed few stop = grind (arith, stops-count ops old new succeed stop)

-- ---- a put

-- stores don't fail
stores-succeed : (first : ℕ) (value : ℕ → ℕ) (ks : List ℕ) → all_succeed (map (λ k. store_op (first + k) (value k)) ks) ≡ true
stores-succeed first value [] = refl
stores-succeed first value (k ∷ ks) = stores-succeed first value ks

module _ (q : State) (n actor slot : ℕ) (v : Content) where
  abbrev count : ℕ
  count = slot_words q.layout.version - 1

  filled : length (fill_operations q.layout slot v) ≡ count
  filled = length-map-range_with_len (λ k. store_op (slot_start q.layout slot + 1 + k) (filled_word v (k + 1))) 0 count

  fill-succeeds : all_succeed (fill_operations q.layout slot v) ≡ true
  fill-succeeds = stores-succeed (slot_start q.layout slot + 1) (λ k. filled_word v (k + 1)) (range_with_len 0 count)

  succeeds-by : (own : Option ℕ) → all_succeed (unless_own own (clear_operations q.layout actor slot) ++ fill_operations q.layout slot v) ≡ true
  succeeds-by (Some own) = fill-succeeds
  succeeds-by None = fill-succeeds

  few-by : (own : Option ℕ) → length (unless_own own (clear_operations q.layout actor slot) ++ fill_operations q.layout slot v) ≤ slot_words q.layout.version + 2
  few-by (Some own) = omega (arith, filled)
  few-by None = omega (arith, filled, line-words q.layout.version)

  put-succeeds : all_succeed (put_operations q n actor slot v) ≡ true
  put-succeeds = succeeds-by (own_slot q n v.key)

  put-few : length (put_operations q n actor slot v) ≤ slot_words q.layout.version + 2
  put-few = few-by (own_slot q n v.key)

pub puts-count : PutsCount
puts-count = record {
  stored = λ q n actor slot v old new run. takes-run (put_operations q n actor slot v) (slot_words q.layout.version + 2) old new (put-succeeds q n actor slot v) (put-few q n actor slot v) run;
  stopped = λ q n actor slot v old new stop. takes-stopped (put_operations q n actor slot v) (slot_words q.layout.version + 2) old new (put-succeeds q n actor slot v) (put-few q n actor slot v) stop;
}

-- ---- a stamp

stamp-succeeds : (q : State) (own ended : Option ℕ) (t : ℕ) → all_succeed (stamp_operations q own ended t) ≡ true
stamp-succeeds q a b t = grind (arith)

stamp-few : (q : State) (own ended : Option ℕ) (t : ℕ) → length (stamp_operations q own ended t) ≤ 2
stamp-few q a b t = grind (arith)

pub stamps-count : StampsCount
stamps-count = record {
  stored = λ q n t own ended old new run. takes-run (stamp_operations q own ended t) 2 old new (stamp-succeeds q own ended t) (stamp-few q own ended t) run;
  stopped = λ q n t own ended old new stop. takes-stopped (stamp_operations q own ended t) 2 old new (stamp-succeeds q own ended t) (stamp-few q own ended t) stop;
}

-- From what holds before, between and after operations to what a step leads to.
use Rattle.std.proofs.Common.{zero, suc, ℕ, true, List, [], ◌∷◌, ◌++◌, take, refl, sym, subst}
use Rattle.machine.specs.Machine.{State, StandsWithin}
use Rattle.pmem.specs.Device.{Device, MayLeave, failed}
use Rattle.pmem.specs.Trace.{Operation, failure, applied, Along, Runs, StopsWithin}
use Rattle.pmem.proofs.Traces.{along-last, along-first}
use Rattle.state_invariant.specs.Kept.{Origin}
use Rattle.device_invariant.specs.Upholds.{Upholds}
use Rattle.device_invariant.proofs.Laws.{failures-keep}
use Rattle.simulation.specs.steps.Moves.{Leads}
use Rattle.simulation.proofs.steps.Runs.{prefixes-leave}
use Rattle.simulation.proofs.steps.Standing.{failed-within}

pub along-map : (P R : Device → Type 0) (ops : List Operation) (device : Device) → ((d : Device) → P d → R d) → Along P ops device → Along R ops device
along-map P R [] device f along = f device along
along-map P R (op ∷ ops) device f along = (f device along.0, along-map P R ops (applied op device) f along.1)

-- up to an operation that fails
along-stopped : (P : Device → Type 0) (k : ℕ) (ops : List Operation) (device : Device) → ((d : Device) → P d → P (failed d)) → Along P ops device → Along P (take k ops ++ failure ∷ []) device
along-stopped P zero ops device fails along = (along-first P ops device along, fails device (along-first P ops device along))
along-stopped P (suc k) [] device fails along = (along, fails device along)
along-stopped P (suc k) (op ∷ ops) device fails along = (along.0, along-stopped P k ops (applied op device) fails along.1)

module _ (o : Origin) (q : State) where
  abbrev down : State
  down = record q { failed = true }

  -- what the failed state has at each moment, and the next state at the last one
  pub leads-run : (q' : State) (ops : List Operation) (old new : Device) → Along (Upholds o down) ops old → Runs ops old new → Upholds o q' new → Leads o q q' old new
  leads-run q' ops old new along run u = record {
    upholds = u;
    images = prefixes-leave (StandsWithin q q') ops old new run (along-map (Upholds o down) (λ d. (image : List ℕ) → MayLeave d image → StandsWithin q q' image) ops old (λ d u. failed-within o q q' d u) along);
  }

  pub leads-stopped : (ops : List Operation) (old new : Device) → Along (Upholds o down) ops old → StopsWithin ops old new → Leads o q down old new
  leads-stopped ops old new along stop =
      let stopped = along-stopped (Upholds o down) stop.0 ops old (λ d u. failures-keep o down d (failed d) refl u) along in
      leads-run down (take stop.0 ops ++ failure ∷ []) old new stopped stop.2
      (subst (Upholds o down) (sym stop.2.made) (along-last (Upholds o down) (take stop.0 ops ++ failure ∷ []) old stopped))

-- Which steps of a session a device follows: what its operations make of it upholds the state after the step, or if one
-- fails, the failed state; and each image that a crash within the step might have left is consistent with it.
use Rattle.std.specs.Prelude.{◌≡◌, ℕ, ◌+◌, ◌<◌, true, List, length, Option, Some, None}
use Rattle.base.specs.declared.key.Key.{Key}
use Rattle.base.specs.declared.step.Step.{Step}
use Rattle.base.specs.declared.step.Step.TheVariants.{Put, Stamp}
use Rattle.base.specs.declared.step.Reply.{Reply}
use Rattle.machine.specs.Machine.{State, BySession, ByCommit, Stepped, refusal, next_state, held_after_put, stamped_write, timestamp_of, operates, most_operations}
use Rattle.pmem.specs.Device.{Device, IsOrderly}
use Rattle.pmem.specs.Words.{operations_of}
use Rattle.pmem.specs.Trace.{Operation, Runs, StopsWithin}
use Rattle.version_slot.specs.declared.words.Version.{Version as Content}
use Rattle.version_slot.specs.Words.{Fits}
use Rattle.state_invariant.specs.Kept.{Origin, Keeps, version_by}
use Rattle.device_invariant.specs.Slots.{newest_of}
use Rattle.device_invariant.specs.Upholds.{Upholds}
use Rattle.simulation.specs.steps.Moves.{Leads, Takes, IsSlotOf, is_quiet, all_succeed, put_operations, stamp_operations, LinksNewest}

-- ---- runs

-- a run makes as many operations as there are, and none fails
abbrev pub RunsCount : Type 0
RunsCount =
    (ops : List Operation) (old new : Device) → all_succeed ops ≡ true → Runs ops old new
    → (operations_of new ≡ operations_of old + length ops) × (new.failures ≡ old.failures)

-- a run that stops makes fewer, and one operation fails
abbrev pub StopsCount : Type 0
StopsCount =
    (ops : List Operation) (old new : Device) → all_succeed ops ≡ true → StopsWithin ops old new
    → (operations_of new < operations_of old + length ops) × (new.failures ≡ old.failures + 1)

-- ---- steps that store nothing

-- a refusal, also one for lack of memory: the state and the device stay
abbrev pub RefusalsLead : Type 0
RefusalsLead = (o : Origin) (q : State) (device : Device) → IsOrderly device → Upholds o q device → Leads o q q device device

-- a session's step that stores nothing, whatever it returns
abbrev pub QuietStepsLead : Type 0
QuietStepsLead =
    (o : Origin) (q : State) (step : Step) (reply : Reply) (q' : State) (device : Device) → IsOrderly device → is_quiet step ≡ true → Stepped q step reply q' → Upholds o q device
    → Leads o q q' device device

-- ---- a put

-- a put of a row as the format has them, whose version links to the newest one that is held, if no commit bars the session
-- from drawing; or a put that the device stopped
pub record PutsLead : Type 0 where
  pub stored : (o : Origin) (q : State) (n actor slot : ℕ) (v : Content) (old new : Device) → Fits q.layout v → refusal q (Put n v.key v.row) ≡ None
      → slot < q.layout.slots → held_after_put q n v.key slot ≡ Some (version_by v.key (BySession n)) → LinksNewest q n v
      → Runs (put_operations q n actor slot v) old new → Upholds o q old → Leads o q (next_state q (Put n v.key v.row)) old new
  pub stopped : (o : Origin) (q : State) (n actor slot : ℕ) (v : Content) (old new : Device) → refusal q (Put n v.key v.row) ≡ None
      → slot < q.layout.slots → held_after_put q n v.key slot ≡ Some (version_by v.key (BySession n))
      → StopsWithin (put_operations q n actor slot v) old new → Upholds o q old → Leads o q (record q { failed = true }) old new

-- a put makes no more operations than the machine allows
pub record PutsCount : Type 0 where
  pub stored : (q : State) (n actor slot : ℕ) (v : Content) (old new : Device) → Runs (put_operations q n actor slot v) old new → Takes (most_operations q (Put n v.key v.row)) 0 old new
  pub stopped : (q : State) (n actor slot : ℕ) (v : Content) (old new : Device) → StopsWithin (put_operations q n actor slot v) old new → Takes (most_operations q (Put n v.key v.row)) 1 old new

-- ---- a stamp

-- a stamp of the next write of the session's commit; or a stamp that the device stopped
pub record StampsLead : Type 0 where
  pub stored : (o : Origin) (q : State) (n : ℕ) (key : Key) (row : Option (List ℕ)) (own ended : Option ℕ) (old new : Device) → refusal q (Stamp n) ≡ None → stamped_write q n ≡ Some (key, row)
      → IsSlotOf q (version_by key (ByCommit (timestamp_of (q.sessions n)))) own → IsSlotOf q (newest_of q key) ended
      → Runs (stamp_operations q own ended (timestamp_of (q.sessions n))) old new → Upholds o q old → Leads o q (next_state q (Stamp n)) old new
  pub stopped : (o : Origin) (q : State) (n : ℕ) (key : Key) (row : Option (List ℕ)) (own ended : Option ℕ) (old new : Device) → refusal q (Stamp n) ≡ None → stamped_write q n ≡ Some (key, row)
      → IsSlotOf q (version_by key (ByCommit (timestamp_of (q.sessions n)))) own → IsSlotOf q (newest_of q key) ended
      → StopsWithin (stamp_operations q own ended (timestamp_of (q.sessions n))) old new → Upholds o q old → Leads o q (record q { failed = true }) old new

-- if a stamp makes an operation, the machine says so
abbrev pub StampsOperate : Type 0
StampsOperate =
    (o : Origin) (q : State) (n : ℕ) (key : Key) (row : Option (List ℕ)) (own ended : Option ℕ) → Keeps o q → stamped_write q n ≡ Some (key, row)
    → IsSlotOf q (version_by key (ByCommit (timestamp_of (q.sessions n)))) own → IsSlotOf q (newest_of q key) ended
    → 0 < length (stamp_operations q own ended (timestamp_of (q.sessions n))) → operates q (Stamp n) ≡ true

-- a stamp makes no more operations than the machine allows
pub record StampsCount : Type 0 where
  pub stored : (q : State) (n t : ℕ) (own ended : Option ℕ) (old new : Device) → Runs (stamp_operations q own ended t) old new → Takes (most_operations q (Stamp n)) 0 old new
  pub stopped : (q : State) (n t : ℕ) (own ended : Option ℕ) (old new : Device) → StopsWithin (stamp_operations q own ended t) old new → Takes (most_operations q (Stamp n)) 1 old new

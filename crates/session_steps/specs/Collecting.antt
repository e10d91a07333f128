-- What a visit of the collector leads to, and who may still read a version.
use Rattle.std.specs.Prelude.{◌≡◌, ◌≢◌, ◌⊎◌, ℕ, ◌+◌, ◌<◌, Bool, true, false, ◌&&◌, List, slice_get, Option, Some, None, Result, Ok, Err}
use Rattle.std.specs.List.{list_all}
use Rattle.base.specs.Actors.{collector}
use Rattle.base.specs.Layout.{Layout}
use Rattle.base.specs.declared.key.Key.{Key}
use Rattle.base.specs.declared.fault.Fault.{Fault}
use Rattle.base.specs.declared.step.Step.TheVariants.{Collect}
use Rattle.base.specs.declared.step.Reply.{Reply}
use Rattle.base.specs.declared.step.Reply.TheVariants.{Visited, SweepEnd as SweepEnded, Refused}
use Rattle.machine.specs.Machine.{State, Stepped, session_numbers, most_operations, StandsWithin}
use Rattle.pmem.specs.Device.{Device, IsOrderly}
use Rattle.snapshot.specs.Snapshots.{Seen, covers}
use Rattle.txn.specs.declared.transaction.Transaction.{Transaction}
use Rattle.txn.specs.declared.transaction.Transaction.TheVariants.{Active, Drawn, ReadOnly}
use Rattle.txn.specs.Transactions.{transaction_at}
use Rattle.version_slot.specs.Words.{key_in, slot_at}
use Rattle.slot_alloc.specs.Free.{is_free}
use Rattle.index.specs.declared.entry.Entry.{Entry}
use Rattle.index.specs.Entries.{entry_at, forgotten, Sets}
use Rattle.collector.specs.Sweeping.{is_due}
use Rattle.collector.specs.declared.visit.Visit.{Visit}
use Rattle.collector.specs.declared.visit.Visit.TheVariants.{Slot, SweepEnd}
use Rattle.session_steps.specs.declared.sessions.Sessions.{Sessions}
use Rattle.session_steps.specs.Shows.{Shows}
use Rattle.session_steps.specs.Steps.{HasEffect, Drawers}

-- ---- who may still read

-- the snapshot of the transaction covers the timestamp, if it is Active
abbrev pub is_covered_in : ℕ → Option Transaction → Bool
is_covered_in t None = true
is_covered_in t (Some (Active snapshot writes)) = covers snapshot t
is_covered_in t (Some (Drawn u)) = true
is_covered_in t (Some ReadOnly) = true

-- so does that of each session
abbrev pub each_covers : List (Option Transaction) → ℕ → Bool
each_covers transactions t = list_all (λ n. is_covered_in t (transaction_at transactions n)) session_numbers

-- what the ruling record covers does too
abbrev pub all_cover : Seen → List (Option Transaction) → ℕ → Bool
all_cover ruling transactions t = covers ruling t && each_covers transactions t

-- ---- a visit

-- the reply of the machine that it is
abbrev pub as_reply : Result Visit Fault → Reply
as_reply (Ok (Slot slot)) = Visited slot
as_reply (Ok SweepEnd) = SweepEnded
as_reply (Err fault) = Refused fault

-- the visit leads from q to q', which the sessions show then on the device as it is then
pub record CollectsTo (old new : Sessions) (before now : Device) (result : Result Visit Fault) (q q' : State) : Type 0 where
  pub stepped : Stepped q Collect (as_reply result) q'
  pub shows : Shows new now q'
  pub effect : HasEffect before now (StandsWithin q q') (most_operations q Collect) (Some collector) (λ fault. result ≡ Err fault)
  pub drawers : Drawers old new

-- so it does from every state that the sessions showed and that hadn't failed
abbrev pub Collects : Sessions → Sessions → Device → Device → Result Visit Fault → Type 0
Collects old new before now result = (q : State) → Shows old before q → q.failed ≡ false → (q' : State) × CollectsTo old new before now result q q'

-- ---- visits that pass

-- the state once the collector has passed this many places
abbrev pub passed : ℕ → State → State
passed count q = record q { place = q.place + count }

-- as many visits are the machine's steps, each of which moves the place on and changes nothing else, and the sessions show the state after
-- them
pub record PassesTo (new : Sessions) (device : Device) (count : ℕ) (q : State) : Type 0 where
  pub stepped : (k : ℕ) → k < count → Stepped (passed k q) Collect (Visited (q.place + k)) (passed (k + 1) q)
  pub shows : Shows new device (passed count q)

-- so they are from every state that the sessions showed and that hadn't failed; nothing is done to the device
abbrev pub Passes : Sessions → Sessions → ℕ → Type 0
Passes old new count = (device : Device) (q : State) → IsOrderly device → Shows old device q → q.failed ≡ false → PassesTo new device count q

-- after passing this many there is no more to pass: gaps are swept first, or the next place isn't a slot whose version stays
abbrev pub StopsAfter : Sessions → ℕ → Type 0
StopsAfter s count = (is_due s.collector.swept s.numbers.record.gaps ≡ true) ⊎ (slice_get s.replaced (s.collector.place + count) ≢ Some false)

-- ---- the index

-- What is done once a slot was visited: nothing if it is taken, or was free before; else the version in it is forgotten
pub data ForgetsFreed (a : Layout) (value : ℕ → ℕ) (slot : ℕ) (was_free : Bool) (free : List Bool) (old new : List (Key × Entry)) : Type 0 where
  taken : is_free free slot ≡ false → new ≡ old → ForgetsFreed a value slot was_free free old new
  known : was_free ≡ true → new ≡ old → ForgetsFreed a value slot was_free free old new
  gone : was_free ≡ false → is_free free slot ≡ true
      → Sets old new (key_in (slot_at a slot value)) (forgotten slot (entry_at old (key_in (slot_at a slot value)))) → ForgetsFreed a value slot was_free free old new

-- What is asked of the room under the lock.
use Rattle.std.specs.Prelude.{◌≡◌, ◌+◌, ◌-◌, ◌^◌, ℕ, ◌≤◌, min, nat_le, nat_lt, nat_eq, Bool, true, false, not, ◌&&◌, if◌then◌else◌, List, length, slice_get, Option, Some, None, IfSome, IfNone, MatchOption, Result, Ok, Err}
use Rattle.std.specs.List.{list_any}
use Rattle.std.specs.Option.{option_map_or}
use Rattle.base.specs.Records.{Record}
use Rattle.base.specs.declared.fault.Fault.TheVariants.{Device as DeviceFault, Failed, OutOfMemory}
use Rattle.base.specs.declared.step.Step.{Step}
use Rattle.base.specs.declared.step.Step.TheVariants.{Commit}
use Rattle.base.specs.declared.step.Note.{Note}
use Rattle.base.specs.declared.step.Note.TheVariants.{Refused}
use Rattle.base.specs.declared.step.Reply.{Reply}
use Rattle.base.specs.declared.step.Reply.TheVariants.{Refused as RefusedWith}
use Rattle.machine.specs.Machine.{State}
use Rattle.pmem.specs.Device.{Device}
use Rattle.pmem.specs.declared.device.Pmem.{Ghosts}
use Rattle.roles.specs.Dues.{is_too_often}
use Rattle.room.specs.Room.{Leads, Shows}
use Rattle.audited.specs.Audit.{IsLastOfRun, Keeps, Stays}
use Rattle.audited.specs.declared.audited.Audited.{Audited}
use Rattle.audited.specs.declared.receipt.Receipt.{Receipt}
use Rattle.engine.specs.declared.halt.Halt.{Halt}
use Rattle.engine.specs.declared.halt.Why.{Why}
use Rattle.engine.specs.declared.halt.Why.TheVariants.{Halted, Memory}

-- the room is there, and has made at least this many steps
abbrev pub HasMade : {D : Type 0} → {G : Ghosts D} → ℕ → Option (Audited D G) → Type 0
HasMade steps lent = MatchOption lent ⊥ (λ audited. steps ≤ length audited.entries.items)

-- the device failed at the step with this note, or had failed before
abbrev pub is_failure : Note → Bool
is_failure (Refused DeviceFault) = true
is_failure (Refused Failed) = true
is_failure _ = false

-- it had failed by the last of these steps
abbrev pub has_failed : List (Step × Note) → Bool
has_failed entries = option_map_or (λ entry. is_failure entry.1) (slice_get entries (length entries - 1)) false

-- ---- a worker's step

-- Nothing but the step was made: it is kept last, with its note, and the room made it with this reply. Or, for lack of memory, it was
-- neither kept nor made
pub record Makes {D : Type 0} {G : Ghosts D} (state : D → Device) (old new : Audited D G) (step : Step) (reply : Reply) (receipt : Option Receipt) : Type 0 where
  pub opening : new.opening ≡ old.opening
  pub kept : IfSome receipt (λ r. Keeps old.entries.items new.entries.items step reply r)
  pub run : IfSome receipt (λ r. ∥ IsLastOfRun r ∥₁)
  pub leads : IfSome receipt (λ r. Leads state old.room new.room step reply)
  pub refused : IfNone receipt ((reply ≡ RefusedWith OutOfMemory) × (new.entries.items ≡ old.entries.items))
  pub stays : IfNone receipt ((q : State) → Shows state old.room q → Stays state old.room new.room step q)

-- The room was there and is still, and nothing but the step was made in it.
-- Excluded: a turn that makes two steps, or drops an entry.
abbrev pub MakesOnly : {D : Type 0} → {G : Ghosts D} → (D → Device) → Option (Audited D G) → Option (Audited D G) → Step → Reply → Option Receipt → Type 0
MakesOnly state (Some old) (Some new) step reply receipt = Makes state old new step reply receipt
MakesOnly state _ _ step reply receipt = ⊥

-- How often in a row the committer was refused memory, after a step that was kept or wasn't. A step of its own that was kept starts the
-- count again, and the collector's steps don't count
abbrev pub refusals_after : ℕ → Step → Bool → ℕ
refusals_after refusals Commit true = 0
refusals_after refusals Commit false = min (refusals + 1) (2 ^ 64 - 1)
refusals_after refusals _ kept = refusals

-- ---- the committer's end

-- the step at this place, if it is a tick of the committer that was refused
abbrev pub halting : Step → Note → ℕ → Option Halt
halting Commit (Refused fault) place = Some (record { place = place; fault = fault })
halting _ _ place = None

-- the first of the two that is there
abbrev pub first_of : Option Halt → Option Halt → Option Halt
first_of (Some halt) other = Some halt
first_of None other = other

-- the tick of the committer that was last refused, after a step with this note at this place
abbrev pub halted_after : Option Halt → Step → Note → ℕ → Option Halt
halted_after halted step note place = first_of (halting step note place) halted

-- why nothing will be covered: the tick that ended the committer, or that it was refused memory more than a hundred times in a row
abbrev pub why_not : Option Halt → ℕ → Option Why
why_not (Some halt) refusals = Some (Halted halt)
why_not None refusals = if is_too_often refusals then Some Memory else None

-- ---- a wait for a timestamp

-- it is persisted, and isn't that of a long commit
abbrev pub is_covered_in : ℕ → List ℕ → ℕ → Bool
is_covered_in persisted longs timestamp = nat_le timestamp persisted && not (list_any (nat_eq timestamp) longs)

-- it is persisted under this record, and isn't that of a long commit
abbrev pub is_covered : Record → ℕ → Bool
is_covered ruling timestamp = is_covered_in ruling.persisted ruling.longs timestamp

-- How a wait ends: with Ok once the timestamp is covered, with why it won't be, and otherwise with Ok if the device has failed
abbrev pub waited : Bool → Option Why → Bool → Option (Result (Unit {0}) Why)
waited true why failed = Some (Ok tt)
waited false (Some why) failed = Some (Err why)
waited false None true = Some (Ok tt)
waited false None false = None

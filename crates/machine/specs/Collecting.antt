-- What a visit of the collector makes of a state. Its places are the slots, and after them a closing place.
use Rattle.std.specs.Prelude.{ℕ, ◌+◌, Bool, true, false, ◌&&◌, not, nat_eq, nat_lt, if◌then◌else◌, List, take, Option, Some, None}
use Rattle.std.specs.List.{list_all}
use Rattle.base.specs.declared.key.Key.{Key}
use Rattle.base.specs.declared.step.Reply.{Reply}
use Rattle.base.specs.declared.step.Reply.TheVariants.{Visited, SweepEnd}
use Rattle.base.specs.Commits.{Commit, last_writer}
use Rattle.base.specs.Stands.{has_timestamp}
use Rattle.base.specs.Lists.{is_nil, replaced}
use Rattle.machine.specs.State.{State, Session, Active, Drew, WroteNothing, Version, Writer, BySession, ByCommit, session_numbers}

-- ---- versions that nobody reads

-- the writer is one of the commits, and a later one of them is on the key
abbrev pub is_replaced_by : List Commit → Key → Writer → Bool
is_replaced_by commits key (BySession n) = false
is_replaced_by commits key (ByCommit t) = has_timestamp commits t && not (nat_eq (last_writer commits key) t)

-- the commits replace what holds a slot
abbrev pub replace : List Commit → Option Version → Bool
replace commits None = false
replace commits (Some v) = is_replaced_by commits v.key v.writer

-- an active session sees commits that do
abbrev pub sees_replaced : List Commit → Option Version → Option Session → Bool
sees_replaced history version None = true
sees_replaced history version (Some (Active begun writes)) = replace (take begun history) version
sees_replaced history version (Some (Drew t)) = true
sees_replaced history version (Some WroteNothing) = true

-- the slot's version is replaced in the history, and for each active session within the commits that it sees
abbrev pub is_garbage : State → ℕ → Bool
is_garbage q slot = replace q.history (q.held slot) && list_all (λ n. sees_replaced q.history (q.held slot) (q.sessions n)) session_numbers

-- ---- visits

-- the collector is at a slot, and not at the closing place
abbrev pub is_at_slot : State → Bool
is_at_slot q = nat_lt q.place q.layout.slots

-- what holds each slot after a visit of this one
abbrev pub held_after_visit : State → ℕ → ℕ → Option Version
held_after_visit q slot = if is_garbage q slot then replaced slot None q.held else q.held

-- the state after a visit of a slot: it is free if nobody reads its version
abbrev pub slot_visited : State → State
slot_visited q = record q { held = held_after_visit q q.place; place = q.place + 1 }

-- the state after the closing place, with which a sweep ends
abbrev pub sweep_ended : State → State
sweep_ended q = record q { swept = true; place = 0 }

-- the state after a visit
abbrev pub visited : State → State
visited q = if is_at_slot q then slot_visited q else sweep_ended q

-- what a visit replies: the slot of its place, or that the sweep ends
abbrev pub collected : State → Reply
collected q = if is_at_slot q then Visited q.place else SweepEnd

-- ---- operations

-- there are gaps that haven't been swept in this life, so the collector sweeps
abbrev pub is_sweeping : State → Bool
is_sweeping q = not q.swept && not (is_nil q.ruling.gaps)

-- The most device operations of a visit: at a slot, 0 is stored in the begin and in the end, and the line is flushed; at
-- the closing place there is a fence
abbrev pub most_operations_of_visit : State → ℕ
most_operations_of_visit q = if is_sweeping q then (if is_at_slot q then 3 else 1) else 0

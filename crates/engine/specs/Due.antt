-- What is due for the workers after a step, and who is to be notified.
use Rattle.std.specs.Prelude.{ℕ, ◌+◌, ◌*◌, ◌-◌, ◌^◌, nat_lt, min, Bool, true, false, not, ◌&&◌, ◌||◌, if◌then◌else◌, List, [], ◌∷◌, length}
use Rattle.base.specs.Records.{Record}
use Rattle.base.specs.declared.gap.Gap.{Gap}
use Rattle.base.specs.declared.fault.Fault.TheVariants.{Device as DeviceFault, Failed, OutOfMemory, SlotsOut, TimestampsOut, WindowFull}
use Rattle.base.specs.declared.step.Reply.{Reply}
use Rattle.base.specs.declared.step.Reply.TheVariants.{Covered, Drawn, Idle, Refused, Stamped, SweepEnd}
use Rattle.roles.specs.declared.due.Due.{Due}
use Rattle.roles.specs.declared.due.News.{News}
use Rattle.roles.specs.Dues.{falls_due, nobody}

-- A tick is due once all keys of a commit are stamped, if a step waits for timestamps, and if the device fails, since the committer is
-- to see that. After one that found nothing to do, none is due
abbrev pub tick_after : Bool → Reply → Bool
tick_after due Idle = false
tick_after due Stamped = true
tick_after due (Refused WindowFull) = true
tick_after due (Refused DeviceFault) = true
tick_after due (Refused Failed) = true
tick_after due _ = due

-- a session that waits for a commit is to look again: something was covered, or nothing may be any more
abbrev pub wakes_waiting : Reply → Bool
wakes_waiting (Covered batch) = true
wakes_waiting (Refused TimestampsOut) = true
wakes_waiting (Refused OutOfMemory) = true
wakes_waiting (Refused DeviceFault) = true
wakes_waiting (Refused Failed) = true
wakes_waiting _ = false

-- ---- a record that no stamp makes due

-- there are gaps
abbrev pub has_gaps : List Gap → Bool
has_gaps [] = false
has_gaps (gap ∷ gaps) = true

-- a draw left less than half a window of the reserved timestamps, or a sweep ended, whose gaps are to be dropped
abbrev pub wants_record_of : Reply → ℕ → List Gap → ℕ → ℕ → Bool
wants_record_of (Drawn timestamp) dirty gaps next window = nat_lt (2 * (dirty - next)) window
wants_record_of SweepEnd dirty gaps next window = has_gaps gaps
wants_record_of _ dirty gaps next window = false

-- the same, under the ruling record
abbrev pub wants_record : Reply → Record → ℕ → ℕ → Bool
wants_record reply ruling next window = wants_record_of reply ruling.dirty ruling.gaps next window

-- ---- rounds of the collector

-- how many commits were covered then, and enough of them make a round due
abbrev pub covered_after : ℕ → Reply → ℕ
covered_after covered (Covered batch) = min (covered + length batch.commits) (2 ^ 64 - 1)
covered_after covered _ = covered

-- a slot was needed since a round last fell due, and none was free
abbrev pub wanted_after : Bool → Reply → Bool
wanted_after wanted (Refused SlotsOut) = true
wanted_after wanted _ = wanted

-- the device fails, or has failed: the collector is to see that
abbrev pub fails : Reply → Bool
fails (Refused DeviceFault) = true
fails (Refused Failed) = true
fails _ = false

-- the reply says that a sweep has ended
abbrev pub ends_sweep : Reply → Bool
ends_sweep SweepEnd = true
ends_sweep _ = false

-- the round that was due goes on
abbrev pub goes_on : Due → Reply → Bool
goes_on old reply = old.visit && not (ends_sweep reply)

-- a round falls due after the reply; one must begin if the device fails, so that the collector sees that
abbrev pub begins_round : ℕ → Due → Reply → Bool
begins_round enough old reply = falls_due enough (fails reply) (goes_on old reply) (wanted_after old.is_slot_wanted reply) (covered_after old.covered reply)

-- ---- what a step leaves due

-- A worker that sleeps is to be notified of what is due since, and a session of what it waits for. Who was to be notified before still is
abbrev pub news_after : Due → Reply → Bool → ℕ → News
news_after old reply wants enough = record {
  committer = old.news.committer || (not old.tick && (tick_after old.tick reply || wants));
  collector = old.news.collector || begins_round enough old reply;
  waiting = old.news.waiting || wakes_waiting reply;
}

-- A record is needed or not, and this many covered commits are enough for a round. A tick is due if the reply or the record makes it due,
-- and a visit if a round goes on or falls due. What makes a further round due is counted from when one fell due.
-- Excluded: a commit that was stamped, or a refusal for lack of timestamps or slots, after which nobody works; covers that aren't counted,
-- or are counted for two rounds; a worker that is woken for nothing.
abbrev pub due_after : Due → Reply → Bool → ℕ → Due
due_after old reply wants enough = record {
  tick = tick_after old.tick reply || wants;
  visit = goes_on old reply || begins_round enough old reply;
  covered = if begins_round enough old reply then 0 else covered_after old.covered reply;
  is_slot_wanted = not (begins_round enough old reply) && wanted_after old.is_slot_wanted reply;
  news = news_after old reply wants enough;
}

-- the same is due, and all were notified
abbrev pub delivered : Due → Due
delivered due = record due { news = nobody }

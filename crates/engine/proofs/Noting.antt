-- What is due once a reply was noted.
use Rattle.std.proofs.Common.{◌≡◌, ℕ, Bool, true, false, not, ◌&&◌, ◌||◌, if◌then◌else◌, List, sym, subst, arith}
use Rattle.std.specs.Prelude.{MatchOption, Option, Some}
use Rattle.base.specs.declared.gap.Gap.{Gap}
use Rattle.base.specs.declared.step.Reply.{Reply}
use Rattle.machine.specs.Machine.{State}
use Rattle.room.specs.declared.status.Status.{Status}
use Rattle.room.specs.Room.{ShowsStatus}
use Rattle.roles.specs.declared.due.Due.{Due}
use Rattle.roles.specs.Dues.{falls_due}
use Rattle.engine.specs.Due.{covered_after, due_after, fails, goes_on, tick_after, wakes_waiting, wanted_after, wants_record, wants_record_of}

-- what was taken in of the reply
pub record IsTakenIn (old mid : Due) (reply : Reply) : Type 0 where
  pub tick : mid.tick ≡ tick_after old.tick reply
  pub visit : mid.visit ≡ goes_on old reply
  pub covered : mid.covered ≡ covered_after old.covered reply
  pub wanted : mid.is_slot_wanted ≡ wanted_after old.is_slot_wanted reply
  pub committer : mid.news.committer ≡ (old.news.committer || (not old.tick && tick_after old.tick reply))
  pub collector : mid.news.collector ≡ old.news.collector
  pub waiting : mid.news.waiting ≡ (old.news.waiting || wakes_waiting reply)

-- and a round fell due then, or didn't
pub record IsBegun (mid new : Due) (enough : ℕ) (must : Bool) : Type 0 where
  pub visit : new.visit ≡ (mid.visit || falls_due enough must mid.visit mid.is_slot_wanted mid.covered)
  pub collector : new.news.collector ≡ (mid.news.collector || falls_due enough must mid.visit mid.is_slot_wanted mid.covered)
  pub covered : new.covered ≡ (if falls_due enough must mid.visit mid.is_slot_wanted mid.covered then 0 else mid.covered)
  pub wanted : new.is_slot_wanted ≡ (not (falls_due enough must mid.visit mid.is_slot_wanted mid.covered) && mid.is_slot_wanted)
  pub tick : new.tick ≡ mid.tick
  pub others : (new.news.committer ≡ mid.news.committer) × (new.news.waiting ≡ mid.news.waiting)

-- what is due then, if no record is needed
pub noted-due : (old mid new : Due) (reply : Reply) (enough : ℕ) (must : Bool) → IsTakenIn old mid reply → must ≡ fails reply → IsBegun mid new enough must → new ≡ due_after old reply false enough
noted-due old mid new reply enough must taken failed begun = grind arith

-- a reply that makes a record due leaves a tick due or not, as it was
wants-same : (reply : Reply) (dirty : ℕ) (gaps : List Gap) (next window : ℕ) → wants_record_of reply dirty gaps next window ≡ true → (due : Bool) → tick_after due reply ≡ due
wants-same reply dirty gaps next window wants due = grind arith

-- if a record is needed
pub record-due : (old mid new : Due) (reply : Reply) (enough quarter : ℕ) (status : Status) (q : State) (window : ℕ) → ShowsStatus q status → window ≡ q.layout.window → quarter ≡ enough
    → wants_record_of reply status.dirty status.gaps status.next window ≡ true → mid ≡ due_after old reply false quarter
    → new.tick ≡ true → new.news.committer ≡ (mid.news.committer || not mid.tick) → (new.news.collector ≡ mid.news.collector) × (new.news.waiting ≡ mid.news.waiting) → new.visit ≡ mid.visit
    → (new.covered ≡ mid.covered) × (new.is_slot_wanted ≡ mid.is_slot_wanted) → new ≡ due_after old reply (wants_record reply q.ruling q.next q.layout.window) enough
record-due old mid new reply enough quarter status q window s width same wants noted tick committer others visit counts = grind (arith, wants-same)

-- the room is there
pub match-some : {A : Type 0} (N : Type 0) (P : A → Type 0) (o : Option A) (x : A) → o ≡ Some x → P x → MatchOption o N P
match-some {A} N P o x is p = subst (λ (a : Option A). MatchOption a N P) (sym is) p

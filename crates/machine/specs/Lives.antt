-- Lives on one device, each over the image that the one before it left.
use Rattle.std.specs.Prelude.{ℕ, ◌≡◌, ◌⊎◌, Bool, true, false, not, ◌||◌, List, [], ◌∷◌, ◌++◌, map, filter, IsTrue, Option, Some, None, Result, Ok, Err, Contains}
use Rattle.base.specs.declared.key.Key.{Key}
use Rattle.base.specs.declared.gap.Gap.{Gap}
use Rattle.base.specs.declared.fault.Fault.{Fault}
use Rattle.base.specs.declared.fault.Fault.TheVariants.{Device, OutOfMemory}
use Rattle.base.specs.declared.step.Step.{Step}
use Rattle.base.specs.declared.step.Reply.{Reply}
use Rattle.base.specs.Commits.{Commit, Tables, after, Lists}
use Rattle.base.specs.Images.{Image, log_damage, opening_fault}
use Rattle.base.specs.Stands.{Stands, has_timestamp}
use Rattle.base.specs.Replies.{is_failure}
use Rattle.machine.specs.Machine.{State, Stepped, final, Cover, StandsUnder, covers_at, covers_closing, closed, closing_fault, drawn_of}
use Rattle.machine.specs.Openings.{OpensAs, StandsOpening}

-- what a stop leaves: an image, and what it stands for
pub record World : Type 0 where
  pub image : Image
  pub history : List Commit
  pub drawn : List Commit
  pub next : ℕ
  pub lost : List ℕ  -- timestamps that some stop left out

-- the image stands for the history, the drawn commits and the next timestamp
abbrev pub IsWorld : World → Type 0
IsWorld w = Stands w.image w.history w.drawn w.next

-- timestamps of the commits outside the history
abbrev pub left_out : List Commit → List Commit → List ℕ
left_out history drawn = map (λ c. c.timestamp) (filter (λ c. not (has_timestamp history c.timestamp)) drawn)

-- What is reported about a life

-- a record's numbers
pub record Numbers : Type 0 where
  pub gate : ℕ
  pub persisted : ℕ
  pub dirty : ℕ

-- the outcome of opening: the numbers, the next timestamp, the gaps and the rows; or the fault
pub data Opening : Type 0 where
  Opens : Numbers → ℕ → List Gap → List (Key × List ℕ) → Opening
  Fails : Fault → Opening

-- what is reported about a life: its opening, the replies to its steps, and its close
pub record Report : Type 0 where
  pub opening : Opening
  pub replies : List Reply
  pub closed : Option (Result Numbers Fault)  -- the numbers after closing, or its fault; none if it wasn't asked for or not reached

-- what is requested of a life: steps, and whether it closes
pub record Asked : Type 0 where
  pub steps : List Step
  pub closes : Bool

-- What a life may be

-- the numbers of the state's record
abbrev pub numbers_of : State → Numbers
numbers_of q = record { gate = q.ruling.gate; persisted = q.ruling.persisted; dirty = q.ruling.dirty }

-- those of the record that closing writes last
abbrev pub closed_numbers : State → Numbers
closed_numbers q = record { gate = (closed q).ruled_by.gate; persisted = (closed q).ruled_by.persisted; dirty = (closed q).ruled_by.dirty }

-- the covered tables
abbrev pub tables_of : State → Tables
tables_of q = after q.history

-- the steps in order, up to the first in which the device fails
abbrev pub RunsUp : State → List Step → List Reply → List State → Type 0
RunsUp q [] [] [] = Unit {0}
RunsUp q (step ∷ steps) (reply ∷ replies) (q' ∷ states) =
    Stepped q step reply q'
    × (((is_failure reply ≡ true) × (replies ≡ []) × (states ≡ [])) ⊎ ((is_failure reply ≡ false) × RunsUp q' steps replies states))
RunsUp q _ _ _ = ⊥

-- a stop in the state q leaves the image, which one of the records rules; what is drawn and not covered by that record is lost
pub record StopsAt (q : State) (covers : List Cover) (lost : List ℕ) (after : World) : Type 0 where
  pub cover : Cover
  pub one : Contains covers cover
  pub stands : StandsUnder q cover after.image
  pub history : after.history ≡ cover.commits
  pub drawn : after.drawn ≡ drawn_of q
  pub next : after.next ≡ q.next
  pub loses : after.lost ≡ lost ++ left_out after.history after.drawn

-- if closing is refused, it does nothing; if the device stops it, what it had reached by then is left
abbrev pub FailsToClose : State → Fault → List ℕ → World → Type 0
FailsToClose q fault lost after =
    ((closing_fault q ≡ Some fault) × StopsAt q (covers_at q) lost after)
    ⊎ ((closing_fault q ≡ None) × (fault ≡ Device) × StopsAt q (covers_closing q) lost after)

-- How a life ends: without closing, if that wasn't requested or the device had failed before; while closing,
-- which failed; or after closing with success. Closing begins only on a device that hasn't failed
abbrev pub EndsAs : State → Bool → Option (Result Numbers Fault) → List ℕ → World → Type 0
EndsAs q closes None lost after = IsTrue (not closes || q.failed) × StopsAt q (covers_at q) lost after
EndsAs q closes (Some (Err fault)) lost after = IsTrue closes × (q.failed ≡ false) × FailsToClose q fault lost after
EndsAs q closes (Some (Ok numbers)) lost after =
    IsTrue closes × (q.failed ≡ false) × (closing_fault q ≡ None) × (numbers ≡ closed_numbers q) × StopsAt q (closed q ∷ []) lost after

-- if the device stops it, opening leaves an image as within the opening, the history and what was lost
pub record StopsOpening (before after : World) : Type 0 where
  pub opens : opening_fault before.image ≡ None
  pub stands : StandsOpening before.image before.history before.next after.image
  pub history : after.history ≡ before.history
  pub drawn : after.drawn ≡ []
  pub next : after.next ≡ before.next
  pub lost : after.lost ≡ before.lost

-- if opening is refused, nothing changes; it runs out of memory only once the log is found whole
abbrev pub FailsAs : Fault → World → World → Type 0
FailsAs fault before after =
    ((opening_fault before.image ≡ Some fault) × (after ≡ before))
    ⊎ ((fault ≡ OutOfMemory) × (log_damage before.image ≡ None) × (after ≡ before))
    ⊎ ((fault ≡ Device) × StopsOpening before after)

-- one life, from the opening of an image to what its stop leaves
abbrev pub LifeAs : World → Asked → Opening → List Reply → Option (Result Numbers Fault) → World → Type 0
LifeAs before asked (Fails fault) replies closed after = FailsAs fault before after × (replies ≡ []) × (closed ≡ None)
LifeAs before asked (Opens numbers next gaps rows) replies closed after =
    (opening_fault before.image ≡ None)
    × (start : State) × (states : List State) × OpensAs before.image before.history before.lost start
    × (numbers ≡ numbers_of start) × (next ≡ start.next) × (gaps ≡ start.ruling.gaps) × Lists rows (tables_of start)
    × RunsUp start asked.steps replies states × EndsAs (final start states) asked.closes closed before.lost after

-- the same of a report
abbrev pub Life : World → Asked → Report → World → Type 0
Life before asked report after = LifeAs before asked report.opening report.replies report.closed after

-- each life over what the one before it left
abbrev pub Lives : World → List Asked → List Report → World → Type 0
Lives before [] [] after = after ≡ before
Lives before (asked ∷ more) (report ∷ reports) after = (mid : World) × Life before asked report mid × Lives mid more reports after
Lives before _ _ after = ⊥

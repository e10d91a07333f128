-- Reads that return a part of what the step Scan does, or the rows of more than one table.
use Rattle.std.specs.Prelude.{◌≡◌, ◌⊎◌, ◌≤◌, ℕ, true, List, length, take, reverse, None, Result, Ok, Err, if◌then◌else◌}
use Rattle.base.specs.declared.key.Key.{Key}
use Rattle.base.specs.declared.fault.Fault.{Fault}
use Rattle.base.specs.declared.fault.Fault.TheVariants.{WrongState}
use Rattle.base.specs.declared.step.Step.{Step}
use Rattle.base.specs.declared.step.Step.TheVariants.{Scan}
use Rattle.base.specs.declared.step.Reply.{Reply}
use Rattle.base.specs.declared.step.Reply.TheVariants.{Rows, Refused}
use Rattle.base.specs.Commits.{Tables, Lists}
use Rattle.machine.specs.Machine.{State, Stepped, refusal, seen_by}
use Rattle.index.specs.Reading.{is_between}
use Rattle.session_steps.specs.declared.parts.Page.{Page}

-- ---- a part of a Scan

-- The machine makes this step in the state, and stays in it; what is returned is read off the reply to that step.
-- Excluded: a row that the step doesn't reply with, and a refusal that it doesn't have.
abbrev pub WouldReply : {A : Type 0} → State → Step → (Reply → Result A Fault) → Result A Fault → Type 0
WouldReply q step read result = (reply : Reply) × Stepped q step reply q × (result ≡ read reply)

-- what is made of the rows that a reply has
abbrev pub of_rows : {A : Type 0} → (List (Key × List ℕ) → A) → Reply → Result A Fault
of_rows make (Rows rows) = Ok (make rows)
of_rows make (Refused fault) = Err fault
of_rows make _ = Err WrongState

-- the first rows, at most this many
abbrev pub first_of : ℕ → Reply → Result (List (Key × List ℕ)) Fault
first_of limit = of_rows (λ rows. take limit rows)

-- the last rows, at most this many, the last one first
abbrev pub last_of : ℕ → Reply → Result (List (Key × List ℕ)) Fault
last_of limit = of_rows (λ rows. take limit (reverse rows))

-- ---- a page

-- the rows of the tables at the keys from the first to the last, both included, in all tables
abbrev pub between : Key → Key → Tables → Tables
between first last tables key = if is_between first last key then tables key else None

-- The page has all rows that the session sees from the first key up to the one that was reached, by rising key. That is the last
-- key; or it is a key of the range, and the page has as many rows as asked for, or more.
-- Excluded: a row that is left out; a page that ends early.
pub record IsPage (q : State) (n : ℕ) (first last : Key) (limit : ℕ) (page : Page) : Type 0 where
  pub rows : Lists page.rows (between first page.reached (seen_by q n))
  pub reached : (page.reached ≡ last) ⊎ ((is_between first last page.reached ≡ true) × (limit ≤ length page.rows))

-- Such a page; or the machine refuses, in this state, a Scan of the session
abbrev pub ReadsPage : State → ℕ → Key → Key → ℕ → Result Page Fault → Type 0
ReadsPage q n first last limit (Ok page) = (refusal q (Scan n first.table first.key last.key) ≡ None) × IsPage q n first last limit page
ReadsPage q n first last limit (Err fault) = Stepped q (Scan n first.table first.key last.key) (Refused fault) q

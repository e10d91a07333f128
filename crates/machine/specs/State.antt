-- The state of the machine: sessions, drawn commits, the batch being written, and what takes each slot.
use Rattle.std.specs.Prelude.{ℕ, Bool, List, Option, Some, None}
use Rattle.std.specs.List.{range_with_len}
use Rattle.base.specs.declared.key.Key.{Key}
use Rattle.base.specs.Lists.{replaced}
use Rattle.base.specs.Commits.{Writes, Commit}
use Rattle.base.specs.Layout.{Layout}
use Rattle.base.specs.Records.{Record}
pub use Rattle.base.specs.Choosing.{Drawn}

-- an open transaction: with the number of commits that it sees and its writes; or with its timestamp; or at its end, having written nothing
pub data Session : Type 0 where
  Active : ℕ → Writes → Session
  Drew : ℕ → Session
  WroteNothing : Session

-- a batch on its way to being covered, the record that covers it, and the ticks made for it
pub record Hand : Type 0 where
  pub commits : List Commit
  pub target : Record
  pub ticks : ℕ

-- who wrote a version: a session, or a commit by its timestamp
pub data Writer : Type 0 where
  BySession : ℕ → Writer
  ByCommit : ℕ → Writer

-- what takes a slot: a version of this key by this writer
pub record Version : Type 0 where
  pub key : Key
  pub writer : Writer

-- the state of the engine, without words and links
pub record State : Type 0 where
  pub layout : Layout
  pub ruling : Record  -- the last record that was covered
  pub history : List Commit  -- the covered commits, in log order
  pub drawn : List Drawn  -- by rising timestamp
  pub lost : List ℕ  -- timestamps that an earlier stop left out
  pub sessions : ℕ → Option Session
  pub next : ℕ  -- the timestamp that is drawn next
  pub swept : Bool  -- whether the gaps are swept in this life
  pub place : ℕ  -- the collector's
  pub failed : Bool
  pub hand : Option Hand
  pub held : ℕ → Option Version  -- what each slot is taken by

-- the function with another value at one number, if a number is given
abbrev pub held_at : {X : Type 0} → Option ℕ → X → (ℕ → Option X) → ℕ → Option X
held_at None value f = f
held_at (Some at) value f = replaced at (Some value) f

-- how many sessions may be open at once
unfoldable pub most_sessions : ℕ
most_sessions = 62

-- the numbers that sessions may have
abbrev pub session_numbers : List ℕ
session_numbers = range_with_len 2 most_sessions

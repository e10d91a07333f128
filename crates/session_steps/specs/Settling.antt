-- Which entries of the index say no more than a key without one, and what becomes of them.
use Rattle.std.specs.Prelude.{◌≡◌, ℕ, Bool, true, false, ◌&&◌, is_none, List}
use Rattle.std.specs.Option.{option_map_or}
use Rattle.base.specs.declared.key.Key.{Key}
use Rattle.index.specs.declared.entry.Entry.{Entry}
use Rattle.index.specs.Entries.{blank, entry_at, IsAt, Sets, LosesRoom}
use Rattle.state_invariant.specs.Kept.{Origin, Keeps}
use Rattle.session_steps.specs.declared.sessions.Sessions.{Sessions}
use Rattle.session_steps.specs.Shows.{Hidden, plain_of, Agrees}

-- the key has no version, and all who may ask cover the last commit that wrote it
abbrev pub is_settled : (ℕ → Bool) → Entry → Bool
is_settled covered entry = is_none entry.newest && is_none entry.drawn && option_map_or covered entry.last true

-- the entry at the place is taken out exactly if it is settled
pub data Settles (covered : ℕ → Bool) (place : ℕ) (old new : List (Key × Entry)) (is_out : Bool) : Type 0 where
  taken_out : (key : Key) → IsAt old place key → is_settled covered (entry_at old key) ≡ true → is_out ≡ true → Sets old new key blank → LosesRoom old new key → Settles covered place old new is_out
  stays : ((key : Key) → IsAt old place key → is_settled covered (entry_at old key) ≡ false) → is_out ≡ false → new ≡ old → Settles covered place old new is_out

-- the index alone changes, and the sessions agree with each state that they agreed with
pub record Tidies (old new : Sessions) : Type 0 where
  pub same : new ≡ record old { index = new.index; next_entry = new.next_entry }
  pub agrees : (o : Origin) (h : Hidden) → Keeps o (plain_of old h) → Agrees old o h.seen (plain_of old h) → Agrees new o h.seen (plain_of old h)

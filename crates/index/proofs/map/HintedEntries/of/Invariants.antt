use Rattle.std.specs.Prelude.{ℕ, ◌≡◌, ◌≤◌, List, take}
use Rattle.base.specs.declared.key.Key.{Key}
use Rattle.index.specs.declared.entry.Entry.{Entry}
use Rattle.index.specs.Counting.{live_number}
use Rattle.index.proofs.map.HintedEntries.of.Given as goal

pub record Counts (place live : ℕ) (entries : List (Key × Entry)) : Type 0 where
  pub counted : live ≡ live_number (take place entries)
  pub few : live ≤ place

abbrev pub invariant-loop-place : goal.invariant-loop-place
invariant-loop-place l = Counts l.place l.live l.entries.items

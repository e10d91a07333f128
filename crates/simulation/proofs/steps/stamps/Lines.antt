-- If a stamp makes an operation, there is a line to touch.
use Rattle.std.proofs.Common.{◌≡◌, ℕ, zero, suc, ◌<◌, Bool, true, false, List, [], ◌∷◌, length, refl, sym, ◌∙◌, ap, arith, Option, Some, is_some}
use Rattle.std.specs.Prelude.{slice_get}
use Rattle.std.specs.Option.{option_or, option_map}
use Rattle.std.proofs.lemmas.Bool.{or_left, or_right}
use Rattle.base.specs.declared.key.Key.{Key}
use Rattle.base.specs.Keys.{lookup_key, is_rising}
use Rattle.base.specs.Commits.{Commit, Writes, after}
use Rattle.base.specs.Records.{is_committed}
use Rattle.base.specs.Stands.{has_timestamp}
use Rattle.machine.specs.Machine.{State, Drawn, ByCommit, drawn_of, timestamp_of, operates_for}
use Rattle.base.proofs.Keys.{key_eq-true, key_eq-same, keys-rest}
use Rattle.base.proofs.Lists.{all-drop}
use Rattle.state_invariant.specs.Kept.{Origin, Keeps, version_by, wanted, commit_at, commits_of_life, covered_since}
use Rattle.state_invariant.proofs.Lookups.{find-all}
use Rattle.state_invariant.proofs.Commits.{commit_at-none, commit_at-append, commit_at-drawn, timestamp-all}
use Rattle.device_invariant.specs.Slots.{newest_of}
use Rattle.device_invariant.proofs.PresentValues.{drawn-bounds, wanted-newest}
use Rattle.simulation.specs.steps.Moves.{IsSlotOf, stamp_operations}
use Rattle.simulation.specs.steps.Laws.{StampsOperate}
use Rattle.simulation.proofs.steps.stamps.Writes.{IsNext, next-of, keys_of, less-later, less-apart}

-- the write has its key's row
lookup-at : (writes : Writes) (i : ℕ) (key : Key) (row : Option (List ℕ)) → is_rising (keys_of writes) ≡ true → slice_get writes i ≡ Some (key, row) → lookup_key writes key ≡ Some row
lookup-at [] i key row rising at = absurd (cc at)
lookup-at (write ∷ writes) zero key row rising at = grind (arith, key_eq-same)
lookup-at (write ∷ writes) (suc i) key row rising at = grind (arith, lookup-at writes i key row (keys-rest write.0 (keys_of writes) rising) at, keys-rest, keys_of, less-apart, less-later, key_eq-true)

module _ (o : Origin) (q : State) (kept : Keeps o q) (t : ℕ) (key : Key) (row : Option (List ℕ)) (next : IsNext q t key row) where
  uncovered : (b : Bool) → has_timestamp (covered_since o q) t ≡ b → b ≡ false
  uncovered false is = refl
  uncovered true is =
      let committed : is_committed q.ruling t ≡ true = timestamp-all (is_committed q.ruling) (covered_since o q) t (all-drop (λ (c : Commit). is_committed q.ruling c.timestamp) o.opened q.history kept.numbers.covered) is in
      sym committed ∙ (drawn-bounds o q kept t next.drawn next.found).0

  in_life : commit_at (commits_of_life o q) t ≡ Some next.drawn.commit
  in_life =
      commit_at-append (covered_since o q) (drawn_of q) t
      ∙ ap (λ (c : Option Commit). option_or c (commit_at (drawn_of q) t)) (commit_at-none (covered_since o q) t (uncovered (has_timestamp (covered_since o q) t) refl))
      ∙ commit_at-drawn q t ∙ ap (λ (f : Option Drawn). option_map (λ (d : Drawn). d.commit) f) next.found

  -- the version of the write has its row
  wanted-this : wanted o q (version_by key (ByCommit t)) ≡ row
  wanted-this = grind (arith, in_life, lookup-at, find-all, keys_of)

  has-row : (slot : ℕ) → IsSlotOf q (version_by key (ByCommit t)) (Some slot) → is_some row ≡ true
  has-row slot its = let has = kept.owns.has slot (version_by key (ByCommit t)) its.0 its.1 in ap (λ (r : Option (List ℕ)). is_some r) (sym wanted-this ∙ has.1)

  has-newest : (slot : ℕ) → IsSlotOf q (newest_of q key) (Some slot) → is_some (after q.history key) ≡ true
  has-newest slot its = let has = kept.owns.has slot (newest_of q key) its.0 its.1 in ap (λ (r : Option (List ℕ)). is_some r) (sym (wanted-newest o q kept key) ∙ has.1)

  touches : (own ended : Option ℕ) → IsSlotOf q (version_by key (ByCommit t)) own → IsSlotOf q (newest_of q key) ended → 0 < length (stamp_operations q own ended t) → operates_for q (Some (key, row)) ≡ true
  touches a ended owns ends some = grind (arith, or_left, has-row, or_right, has-newest)

pub stamps-operate : StampsOperate
stamps-operate o q n key row own ended kept write owns ends some =
    ap (operates_for q) write ∙ touches o q kept (timestamp_of (q.sessions n)) key row (next-of q n key row write) own ended owns ends some

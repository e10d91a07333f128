-- What the holders of slots say stays when one session takes slots and releases them.
use Rattle.std.proofs.Common.{◌≡◌, ◌⊎◌, ℕ, Bool, true, false, cond, List, [], ◌∷◌, map, sym, ◌∙◌, ap, arith}
use Rattle.std.specs.Prelude.{Option, Some, None, All}
use Rattle.std.specs.List.{range_with_len, flat_map}
use Rattle.base.specs.declared.key.Key.{Key}
use Rattle.base.specs.Commits.{Commit}
use Rattle.base.specs.Layout.{version_lines}
use Rattle.machine.specs.Machine.{State, Version, Writer, ByCommit, is_by}
use Rattle.txn.specs.declared.drawn.DrawnCommit.{DrawnCommit}
use Rattle.txn.specs.declared.write.Write.{Write}
use Rattle.dirty_table.specs.declared.sessions.SessionSet.{SessionSet}
use Rattle.state_invariant.specs.Kept.{version_by}
use Rattle.device_invariant.specs.Log.{is_own, is_ended, lines_in, line_at, line_number}
use Rattle.simulation.specs.steps.Moves.{IsSlotOf}
use Rattle.simulation.specs.cycles.Batches.{line_numbers}
use Rattle.session_steps.specs.Shows.{HasItsSlot, HasVersionOf, HoldsLines}

-- nobody holds it, or this session does
abbrev pub is_nobodys_or : ℕ → Option Version → Bool
is_nobodys_or n None = true
is_nobodys_or n (Some v) = is_by n v.writer

-- the holder of each slot stays, unless it was and is this session, or nobody
abbrev pub Moves : ℕ → (ℕ → Option Version) → (ℕ → Option Version) → Type 0
Moves n held new = (slot : ℕ) → (new slot ≡ held slot) ⊎ ((is_nobodys_or n (held slot) ≡ true) × (is_nobodys_or n (new slot) ≡ true))

-- one state is another with other holders
pub record SameBut (n : ℕ) (q q' : State) : Type 0 where
  pub layout : q'.layout ≡ q.layout
  pub history : q'.history ≡ q.history
  pub held : Moves n q.held q'.held

by-other : (n : ℕ) (o : Option Version) (v : Version) → o ≡ Some v → is_nobodys_or n o ≡ true → is_by n v.writer ≡ false → ⊥
by-other n o v at own other = absurd (cc (sym (ap (is_nobodys_or n) at) ∙ own, other))

-- a version that isn't of the session keeps its slot
pub slot-kept : (n : ℕ) (q q' : State) (v : Version) (o : Option ℕ) → SameBut n q q' → is_by n v.writer ≡ false → IsSlotOf q v o → IsSlotOf q' v o
slot-kept n q q' v a same other is = grind (arith, by-other)

-- a commit's version stays in its slot
pub version-kept : (n : ℕ) (q q' : State) (key : Key) (slot : ℕ) → SameBut n q q' → HasVersionOf q key slot → HasVersionOf q' key slot
version-kept n q q' key slot same has = grind (arith, slot-kept)

-- and was in it before
pub version-before : (n : ℕ) (q q' : State) (key : Key) (slot t : ℕ) → SameBut n q q' → q'.held slot ≡ Some (version_by key (ByCommit t)) → q.held slot ≡ Some (version_by key (ByCommit t))
version-before n q q' key slot t same at = grind (arith, by-other) steps 800000

pub write-kept : (n : ℕ) (q q' : State) (writer : Writer) (write : Write) → SameBut n q q' → is_by n writer ≡ false → HasItsSlot q writer write → HasItsSlot q' writer write
write-kept n q q' writer write same other has = record { slot = slot-kept n q q' (version_by write.key writer) write.slot same other has.slot; row = has.row }

pub writes-kept : (n : ℕ) (q q' : State) (writer : Writer) (writes : List Write) → SameBut n q q' → is_by n writer ≡ false → All (HasItsSlot q writer) writes → All (HasItsSlot q' writer) writes
writes-kept n q q' writer writes same other all = λ k d lt. write-kept n q q' writer _ same other (all k d lt)

-- ---- the lines of drawn commits

own-no-batch : (n : ℕ) (commits : List Commit) (o : Option Version) → is_nobodys_or n o ≡ true → is_own commits o ≡ false
own-no-batch n commits a own = grind (arith)

own-not-ended : (n : ℕ) (q : State) (commits : List Commit) (o : Option Version) → is_nobodys_or n o ≡ true → is_ended q commits o ≡ false
own-not-ended n q commits a own = grind (arith)

-- if the tests of each slot are the same, so are the lines
pub lines-by-tests : (q q' : State) (commits : List Commit) → q'.layout ≡ q.layout → ((slot : ℕ) → is_own commits (q'.held slot) ≡ is_own commits (q.held slot))
    → ((slot : ℕ) → is_ended q' commits (q'.held slot) ≡ is_ended q commits (q.held slot)) → lines_in q' commits ≡ lines_in q commits
lines-by-tests q q' commits layout own ended = λ i. flat_map (λ slot. cond (own slot i) (flat_map (λ part. line_at slot part ∷ []) (range_with_len 0 (version_lines (layout i)))) (cond (ended slot i) (line_at slot 0 ∷ []) [])) (range_with_len 0 (layout i).slots)

pub numbers-by-tests : (q q' : State) (commits : List Commit) → q'.layout ≡ q.layout → ((slot : ℕ) → is_own commits (q'.held slot) ≡ is_own commits (q.held slot))
    → ((slot : ℕ) → is_ended q' commits (q'.held slot) ≡ is_ended q commits (q.held slot)) → line_numbers q' commits ≡ line_numbers q commits
numbers-by-tests q q' commits layout own ended = λ i. map (line_number (layout i)) (lines-by-tests q q' commits layout own ended i)

pub lines-kept : (n : ℕ) (q q' : State) (commits : List Commit) → SameBut n q q' → line_numbers q' commits ≡ line_numbers q commits
lines-kept n q q' commits same = grind (arith, numbers-by-tests, own-no-batch, own-not-ended) steps 800000

pub table-kept : (n : ℕ) (q q' : State) (drawn : List DrawnCommit) (dirty : List SessionSet) → SameBut n q q' → HoldsLines q drawn dirty → HoldsLines q' drawn dirty
table-kept n q q' drawn dirty same holds = grind (arith, lines-kept)

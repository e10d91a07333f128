-- Slots whose versions are replaced, and those that have to be marked.
use Rattle.std.proofs.Common.{◌≡◌, ◌≢◌, ◌⊎◌, inl, inr, ℕ, suc, ◌<◌, ◌≤◌, Bool, true, false, ◌&&◌, cond, not, List, [], ◌∷◌, length, set, refl, sym, ◌∙◌, ap, subst, nat_eq, arith, Contains}
use Rattle.std.specs.Prelude.{Option, Some, None, slice_get, find}
use Rattle.std.proofs.lemmas.Bool.{cases_eq, cases_lt, eq-eqb, eqb-true}
use Rattle.std.proofs.lemmas.List.{length-set, get_or-set_other}
use Rattle.std.proofs.lemmas.Option.{slice_get-get_or, slice_get_past}
use Rattle.std.proofs.Math.Bool.{and-false}
use Rattle.base.specs.declared.key.Key.{Key}
use Rattle.base.specs.Keys.{key_eq}
use Rattle.base.specs.Commits.{Commit, last_writer}
use Rattle.base.specs.Stands.{has_timestamp}
use Rattle.base.proofs.Keys.{key_eq-true}
use Rattle.machine.specs.Machine.{State, Version, ByCommit, by_commit, is_by}
use Rattle.machine.specs.Collecting.{replace, is_replaced_by}
use Rattle.state_invariant.specs.Kept.{version_by}
use Rattle.state_invariant.proofs.collector.Kept.{OnlyFrees, stays, frees}
use Rattle.collector.specs.Replaced.{marked}
use Rattle.index.specs.declared.entry.Entry.{Entry}
use Rattle.index.specs.Entries.{entry_at, Sets}
use Rattle.session_steps.specs.Covering.{MarksReplaced}
use Rattle.session_steps.proofs.slots.Freed.{given-same}
use Rattle.session_steps.proofs.slots.Held.{is_nobodys_or}

-- ---- marks

pub set-other : (slots : List Bool) (slot other : ℕ) (b : Bool) → other ≢ slot → slice_get (set slots slot b) other ≡ slice_get slots other
set-other slots slot other b apart = grind (arith, cases_lt other (length slots), slice_get-get_or, length-set slots slot b, get_or-set_other slots slot other b false apart, slice_get_past)

-- a slot that is marked isn't left out
set-in : (slots : List Bool) (slot : ℕ) → slice_get (set slots slot true) slot ≡ Some false → ⊥
set-in slots slot out = by (cases_lt slot (length slots))
  where
    by : (slot < length slots) ⊎ (length slots ≤ slot) → ⊥
    by (inl lt) = absurd (cc (sym (given-same slots slot lt) ∙ out))
    by (inr past) = let size = length-set slots slot true in absurd (cc (sym (slice_get_past (set slots slot true) slot (omega (arith, size, past))) ∙ out))

marked-other : (o : Option ℕ) (slots : List Bool) (other : ℕ) → slice_get (marked o slots) other ≡ Some false → slice_get slots other ≡ Some false
marked-other None slots other out = out
marked-other (Some slot) slots other out = by (cases_eq other slot)
  where
    by : (other ≡ slot) ⊎ (other ≢ slot) → slice_get slots other ≡ Some false
    by (inl same) = absurd (set-in slots slot (subst (λ (k : ℕ). slice_get (set slots slot true) k ≡ Some false) same out))
    by (inr apart) = sym (set-other slots slot other true apart) ∙ out

-- ---- covering

pub marks-same : (slots : List Bool) (index : List (Key × Entry)) → MarksReplaced slots slots index index
marks-same slots index = record { others = λ slot out. out; entries = λ key slot at out. refl }

-- one entry changes, and its newest slot is marked
pub marks-one : (slots : List Bool) (old new : List (Key × Entry)) (key : Key) (entry : Entry) (newest : Option ℕ) → newest ≡ (entry_at old key).newest → Sets old new key entry → MarksReplaced slots (marked newest slots) old new
marks-one slots old new key entry newest is sets = record { others = marked-other newest slots; entries = λ other slot at out. sets other ∙ by other slot at out (key_eq key other) refl }
  where
    by : (other : Key) (slot : ℕ) → (entry_at old other).newest ≡ Some slot → slice_get (marked newest slots) slot ≡ Some false → (b : Bool) → key_eq key other ≡ b → cond b entry (entry_at old other) ≡ entry_at old other
    by other slot at out false apart = refl
    by other slot at out true same =
        let there : newest ≡ Some slot = is ∙ ap (λ (k : Key). (entry_at old k).newest) (key_eq-true key other same) ∙ at in
        absurd (set-in slots slot (subst (λ (o : Option ℕ). slice_get (marked o slots) slot ≡ Some false) there out))

-- one change after the other
pub marks-then : (first mid last : List Bool) (old then new : List (Key × Entry)) → MarksReplaced first mid old then → MarksReplaced mid last then new → MarksReplaced first last old new
marks-then first mid last old then new one two = record {
  others = λ slot out. one.others slot (two.others slot out);
  entries = λ key slot at out.
      let same = one.entries key slot at (two.others slot out) in
      two.entries key slot (ap (λ (e : Entry). e.newest) same ∙ at) out ∙ same;
}

-- ---- versions that aren't replaced

-- nobody's, or an open session's
pub nobodys-unreplaced : (n : ℕ) (history : List Commit) (o : Option Version) → is_nobodys_or n o ≡ true → replace history o ≡ false
nobodys-unreplaced n history a own = grind (arith)

pub moved-unreplaced : (n : ℕ) (history : List Commit) (old new : Option Version) → (new ≡ old) ⊎ ((is_nobodys_or n old ≡ true) × (is_nobodys_or n new ≡ true)) → replace history old ≡ false → replace history new ≡ false
moved-unreplaced n history old new (inl same) is = ap (replace history) same ∙ is
moved-unreplaced n history old new (inr own) is = nobodys-unreplaced n history new own.1

-- that of a commit that is drawn now
pub drawn-unreplaced : (n t : ℕ) (history : List Commit) (o : Option Version) → has_timestamp history t ≡ false → replace history o ≡ false → replace history (by_commit n t o) ≡ false
drawn-unreplaced n t history None fresh is = refl
drawn-unreplaced n t history (Some v) fresh is = by (is_by n v.writer)
  where
    by : (b : Bool) → is_replaced_by history v.key (cond b (ByCommit t) v.writer) ≡ false
    by true = ap (λ (b : Bool). b && not (nat_eq (last_writer history v.key) t)) fresh
    by false = is

-- the newest of its key
pub last-unreplaced : (history : List Commit) (key : Key) (t : ℕ) → last_writer history key ≡ t → is_replaced_by history key (ByCommit t) ≡ false
last-unreplaced history key t last = ap (λ (b : Bool). has_timestamp history t && not b) (eq-eqb (last_writer history key) t last) ∙ and-false (has_timestamp history t)

pub newest-unreplaced : (history : List Commit) (o : Option Version) → ((v : Version) → o ≡ Some v → v ≡ version_by v.key (ByCommit (last_writer history v.key))) → replace history o ≡ false
newest-unreplaced history None newest = refl
newest-unreplaced history (Some v) newest = ap (λ (w : Version). is_replaced_by history v.key w.writer) (newest v refl) ∙ last-unreplaced history v.key (last_writer history v.key) refl

-- one that is covered, and isn't replaced, is the newest of its key
pub unreplaced-last : (history : List Commit) (key : Key) (t : ℕ) → has_timestamp history t ≡ true → is_replaced_by history key (ByCommit t) ≡ false → last_writer history key ≡ t
unreplaced-last history key t has is = by (nat_eq (last_writer history key) t) refl
  where
    by : (b : Bool) → nat_eq (last_writer history key) t ≡ b → last_writer history key ≡ t
    by true same = eqb-true (last_writer history key) t same
    by false apart = absurd (cc (sym ((λ i. has i && not (apart i))) ∙ is))

-- in a slot that a visit may have freed
pub freed-unreplaced : (q : State) (held : ℕ → Option Version) (slot : ℕ) → OnlyFrees q held slot → replace q.history (q.held slot) ≡ false → replace q.history (held slot) ≡ false
freed-unreplaced q held slot (stays same) is = ap (replace q.history) same ∙ is
freed-unreplaced q held slot (frees g none) is = ap (replace q.history) none

-- ---- lists

-- what is found is one of them
pub found-contained : {X : Type 0} (p : X → Bool) (xs : List X) (x : X) → find p xs ≡ Some x → Contains xs x
found-contained p [] x found = absurd (cc found)
found-contained p (y ∷ xs) x found = by (p y) found (found-contained p xs x)
  where
    by : (b : Bool) → cond b (Some y) (find p xs) ≡ Some x → (find p xs ≡ Some x → Contains xs x) → Contains (y ∷ xs) x
    by true found rest = let same : y ≡ x = cc found in (0, omega arith, same)
    by false found rest = let (k, lt, is) = rest found in (suc k, omega (arith, lt), is)

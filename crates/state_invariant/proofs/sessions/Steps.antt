-- Sessions begin, put, delete, abort and end.
use Rattle.std.proofs.Common.{◌≡◌, ◌≢◌, ◌⊎◌, inl, inr, ℕ, suc, zero, ◌+◌, ◌<◌, Bool, true, false, cond, ◌&&◌, List, [], length, ◌≤◌, refl, sym, ◌∙◌, ap, arith, Option, Some, None, is_none, true≢false}
use Rattle.std.specs.Prelude.{nat_eq, unwrap_or, find}
use Rattle.std.specs.List.{range_with_len}
use Rattle.std.proofs.lemmas.Bool.{cases_eq, eq-eqb, eqb-true, eqb-false, and_parts, and_from}
use Rattle.base.specs.declared.key.Key.{Key}
use Rattle.base.specs.declared.step.Step.TheVariants.{Begin, Put, Delete, Abort, End}
use Rattle.base.specs.Keys.{key_eq, lookup_key}
use Rattle.base.specs.Commits.{Writes, with_write}
use Rattle.base.specs.Lists.{replaced}
use Rattle.machine.specs.Machine.{State, Session, Active, Version, BySession, ByCommit, held_with, held_after_put, held_after_delete, held_after_abort, writes_of, begun_of, is_own_at, is_held_by, own_slot, free_slot, free_session, next_state, refusal}
use Rattle.base.proofs.Keys.{key_eq-true, key_eq-same}
use Rattle.base.proofs.Search.{first_below-none}
use Rattle.base.proofs.Lists.{find-passes}
use Rattle.state_invariant.specs.Kept.{Origin, Keeps, IsSessionNumber, row_in, version_by}
use Rattle.state_invariant.proofs.Lookups.{cases-keys, lookup-with_write_same, lookup-with_write_other, first_below-some, replaced-same, replaced-other}
use Rattle.state_invariant.proofs.steps.Refusals.{allowed, active, ended-writes}
use Rattle.state_invariant.proofs.sessions.Changes.{SessionKeeps, HeldKeeps, keeps-held, keeps-session, session-keeps, each-set, numbered-set, sorted-with_write}

-- ---- versions

pub version-parts : {k l : Key} {m n : ℕ} → version_by k (BySession m) ≡ version_by l (BySession n) → (m ≡ n) × (k ≡ l)
version-parts {k} {l} {m} {n} e = grind (arith)

pub apart-writers : {k l : Key} {t n : ℕ} → version_by k (BySession n) ≡ version_by l (ByCommit t) → ⊥
apart-writers {k} {l} {t} {n} e = grind (arith)

-- ---- slots that a session holds

pub own-at : (n : ℕ) (key : Key) (o : Option Version) → is_own_at n key o ≡ true → o ≡ Some (version_by key (BySession n))
own-at n key a own = grind (arith)

pub own_slot-some : (q : State) (n : ℕ) (key : Key) (slot : ℕ) → own_slot q n key ≡ Some slot → (slot < q.layout.slots) × (q.held slot ≡ Some (version_by key (BySession n)))
own_slot-some q n key slot found = grind (arith, first_below-some)

pub own_slot-none : (q : State) (n : ℕ) (key : Key) → own_slot q n key ≡ None → (slot : ℕ) → slot < q.layout.slots → q.held slot ≡ Some (version_by key (BySession n)) → ⊥
own_slot-none q n key none slot lt own =
    let not_own : is_own_at n key (q.held slot) ≡ false = first_below-none q.layout.slots (λ s. is_own_at n key (q.held s)) none slot lt in
    true≢false (sym (and_from (nat_eq n n) (key_eq key key) (eq-eqb n n refl) (key_eq-same key)) ∙ ap (is_own_at n key) (sym own) ∙ not_own)

pub free_slot-some : (q : State) (slot : ℕ) → free_slot q ≡ Some slot → (slot < q.layout.slots) × (q.held slot ≡ None)
free_slot-some q slot found = grind (arith, first_below-some)

-- ---- the writes of sessions after one of them writes

abbrev pub with_active : State → ℕ → Key → Option (List ℕ) → ℕ → Option Session
with_active q n key value = replaced n (Some (Active (begun_of (q.sessions n)) (with_write key value (writes_of (q.sessions n))))) q.sessions

-- whether it is the version that is written
pub cases-own : (m n : ℕ) (other key : Key) → ((m ≡ n) × (other ≡ key)) ⊎ (m ≡ n → other ≡ key → ⊥)
cases-own m n other key = grind (arith, cases_eq, cases-keys)

pub lookup-here : (q : State) (n : ℕ) (key : Key) (value : Option (List ℕ)) (m : ℕ) (other : Key) → m ≡ n → other ≡ key → lookup_key (writes_of (with_active q n key value m)) other ≡ Some value
lookup-here q n key value m other e f = grind (arith, replaced-same, lookup-with_write_same)

pub lookup-there : (q : State) (n : ℕ) (key : Key) (value : Option (List ℕ)) (m : ℕ) (other : Key) → (m ≡ n → other ≡ key → ⊥) → lookup_key (writes_of (with_active q n key value m)) other ≡ lookup_key (writes_of (q.sessions m)) other
lookup-there q n key value m other apart = grind (arith, cases_eq, replaced-same, lookup-with_write_other, replaced-other)

-- the session is active and keeps its snapshot
active-keeps : (o : Origin) (q : State) (n : ℕ) (key : Key) (value : Option (List ℕ)) (begun : ℕ) (writes : Writes) → Keeps o q → q.sessions n ≡ Some (Active begun writes)
    → SessionKeeps o q (Some (Active (begun_of (q.sessions n)) (with_write key value (writes_of (q.sessions n)))))
active-keeps o q n key value begun writes kept is = grind (arith, sorted-with_write, session-keeps)

-- ---- a put that takes a slot

held-put : (q : State) (taken : ℕ) (v : Version) (slot : ℕ) (w : Version) → replaced taken (Some v) q.held slot ≡ Some w → ((slot ≡ taken) × (v ≡ w)) ⊎ ((slot ≢ taken) × (q.held slot ≡ Some w))
held-put q taken v slot w is = grind (arith, cases_eq, replaced-same, replaced-other)

held-stays : (q : State) (taken : ℕ) (v : Version) (slot : ℕ) (w : Version) → q.held taken ≡ None → q.held slot ≡ Some w → replaced taken (Some v) q.held slot ≡ Some w
held-stays q taken v slot w free is = grind (arith, replaced-other)

module _ (o : Origin) (q : State) (n : ℕ) (key : Key) (row : List ℕ) (kept : Keeps o q) where
  abbrev own : Version
  own = version_by key (BySession n)

  put-taken : (taken : ℕ) → taken < q.layout.slots → q.held taken ≡ None → ((slot : ℕ) → slot < q.layout.slots → q.held slot ≡ Some own → ⊥) → HeldKeeps q (with_active q n key (Some row)) (replaced taken (Some own) q.held)
  put-taken taken lt_taken free not_own = record {
    once = λ a b w lt_a lt_b at_a at_b. once a b w lt_a lt_b (held-put q taken own a w at_a) (held-put q taken own b w at_b);
    was = λ slot t k at. was slot t k (held-put q taken own slot (version_by k (ByCommit t)) at);
    stays = λ slot t k at. held-stays q taken own slot (version_by k (ByCommit t)) free at;
    has = λ slot m k lt at. has slot m k lt (held-put q taken own slot (version_by k (BySession m)) at);
    owns = λ m k r is. owns m k r is (cases-own m n k key);
  }
    where
      was : (slot t : ℕ) (k : Key) → ((slot ≡ taken) × (own ≡ version_by k (ByCommit t))) ⊎ ((slot ≢ taken) × (q.held slot ≡ Some (version_by k (ByCommit t)))) → q.held slot ≡ Some (version_by k (ByCommit t))
      was slot t k (inl new) = absurd (apart-writers new.1)
      was slot t k (inr old) = old.1

      once : (a b : ℕ) (w : Version) → a < q.layout.slots → b < q.layout.slots
          → ((a ≡ taken) × (own ≡ w)) ⊎ ((a ≢ taken) × (q.held a ≡ Some w)) → ((b ≡ taken) × (own ≡ w)) ⊎ ((b ≢ taken) × (q.held b ≡ Some w)) → a ≡ b
      once a b w lt_a lt_b (inl x) (inl y) = x.0 ∙ sym y.0
      once a b w lt_a lt_b (inl x) (inr y) = absurd (not_own b lt_b (y.1 ∙ ap (λ (u : Version). Some u) (sym x.1)))
      once a b w lt_a lt_b (inr x) (inl y) = absurd (not_own a lt_a (x.1 ∙ ap (λ (u : Version). Some u) (sym y.1)))
      once a b w lt_a lt_b (inr x) (inr y) = kept.owns.once a b w lt_a lt_b x.1 y.1

      has : (slot m : ℕ) (k : Key) → slot < q.layout.slots → ((slot ≡ taken) × (own ≡ version_by k (BySession m))) ⊎ ((slot ≢ taken) × (q.held slot ≡ Some (version_by k (BySession m))))
          → (r : List ℕ) × (row_in (writes_of (with_active q n key (Some row) m)) k ≡ Some r)
      has slot m k lt (inl new) =
          let same : (n ≡ m) × (key ≡ k) = version-parts new.1 in
          (row, ap (λ (v : Option (Option (List ℕ))). unwrap_or v None) (lookup-here q n key (Some row) m k (sym same.0) (sym same.1)))
      has slot m k lt (inr old) =
          let before = kept.owns.has slot (version_by k (BySession m)) lt old.1 in
          (before.0, ap (λ (v : Option (Option (List ℕ))). unwrap_or v None) (lookup-there q n key (Some row) m k (λ e f. not_own slot lt (old.1 ∙ ap (λ (j : ℕ). Some (version_by k (BySession j))) e ∙ ap (λ (j : Key). Some (version_by j (BySession n))) f))) ∙ before.1)

      owns : (m : ℕ) (k : Key) (r : List ℕ) → lookup_key (writes_of (with_active q n key (Some row) m)) k ≡ Some (Some r) → ((m ≡ n) × (k ≡ key)) ⊎ (m ≡ n → k ≡ key → ⊥)
          → (slot : ℕ) × (slot < q.layout.slots) × (replaced taken (Some own) q.held slot ≡ Some (version_by k (BySession m)))
      owns m k r is (inl same) = (taken, lt_taken, replaced-same taken (Some own) q.held taken refl ∙ ap (λ (j : ℕ). Some (version_by key (BySession j))) (sym same.0) ∙ ap (λ (j : Key). Some (version_by j (BySession m))) (sym same.1))
      owns m k r is (inr apart) =
          let old = kept.owns.by_session m k r (sym (lookup-there q n key (Some row) m k apart) ∙ is) in
          (old.0, old.1, held-stays q taken own old.0 (version_by k (BySession m)) free old.2)

  -- one that finds its slot
  put-own : (slot : ℕ) → slot < q.layout.slots → q.held slot ≡ Some own → HeldKeeps q (with_active q n key (Some row)) q.held
  put-own at lt_at held = record {
    once = kept.owns.once;
    was = λ slot t k at. at;
    stays = λ slot t k at. at;
    has = λ slot m k lt at. has slot m k lt at (cases-own m n k key);
    owns = λ m k r is. owns m k r is (cases-own m n k key);
  }
    where
      has : (slot m : ℕ) (k : Key) → slot < q.layout.slots → q.held slot ≡ Some (version_by k (BySession m)) → ((m ≡ n) × (k ≡ key)) ⊎ (m ≡ n → k ≡ key → ⊥)
          → (r : List ℕ) × (row_in (writes_of (with_active q n key (Some row) m)) k ≡ Some r)
      has slot m k lt at (inl same) = (row, ap (λ (v : Option (Option (List ℕ))). unwrap_or v None) (lookup-here q n key (Some row) m k same.0 same.1))
      has slot m k lt at (inr apart) =
          let before = kept.owns.has slot (version_by k (BySession m)) lt at in
          (before.0, ap (λ (v : Option (Option (List ℕ))). unwrap_or v None) (lookup-there q n key (Some row) m k apart) ∙ before.1)

      owns : (m : ℕ) (k : Key) (r : List ℕ) → lookup_key (writes_of (with_active q n key (Some row) m)) k ≡ Some (Some r) → ((m ≡ n) × (k ≡ key)) ⊎ (m ≡ n → k ≡ key → ⊥)
          → (slot : ℕ) × (slot < q.layout.slots) × (q.held slot ≡ Some (version_by k (BySession m)))
      owns m k r is (inl same) = (at, lt_at, held ∙ ap (λ (j : ℕ). Some (version_by key (BySession j))) (sym same.0) ∙ ap (λ (j : Key). Some (version_by j (BySession m))) (sym same.1))
      owns m k r is (inr apart) = kept.owns.by_session m k r (sym (lookup-there q n key (Some row) m k apart) ∙ is)

  put-held : (is_none (own_slot q n key) && is_none (free_slot q)) ≡ false → HeldKeeps q (with_active q n key (Some row)) (held_after_put q n key)
  put-held room = by_own (own_slot q n key) refl (free_slot q) refl room
    where
      by_own : (a : Option ℕ) → own_slot q n key ≡ a → (b : Option ℕ) → free_slot q ≡ b → (is_none a && is_none b) ≡ false → HeldKeeps q (with_active q n key (Some row)) (held_with q own (own_slot q n key))
      by_own (Some slot) found b is room = grind (arith, own_slot-some, put-own slot)
      by_own None none (Some taken) is room = grind (arith, free_slot-some, put-taken, own_slot-none)
      by_own None none None is room = cc room

  pub keeps-put : refusal q (Put n key row) ≡ None → Keeps o (next_state q (Put n key row))
  keeps-put none =
      let a = allowed q (Put n key row) none in
      let s = active q (Put n key row) (q.sessions n) refl refl refl a.there a.placed in
      keeps-held o q (with_active q n key (Some row)) (held_after_put q n key) kept
      (each-set (SessionKeeps o q) n _ q.sessions (active-keeps o q n key (Some row) s.0 s.1 kept s.2) (λ m. session-keeps o q m kept))
      (numbered-set o q n _ kept (inl (kept.numbers.numbered n _ s.2))) (put-held a.slot)

-- ---- slots that pass a test are freed

abbrev freed : (Option Version → Bool) → (ℕ → Option Version) → ℕ → Option Version
freed test held slot = cond (test (held slot)) None (held slot)

-- which slots may be freed: only those of sessions, and the sessions after it have no row there, and elsewhere what they had
pub record MayFree (q : State) (sessions : ℕ → Option Session) (test : Option Version → Bool) : Type 0 where
  pub commits : (key : Key) (t : ℕ) → test (Some (version_by key (ByCommit t))) ≡ false
  pub stays : (key : Key) (m : ℕ) → test (Some (version_by key (BySession m))) ≡ false → lookup_key (writes_of (sessions m)) key ≡ lookup_key (writes_of (q.sessions m)) key
  pub gone : (key : Key) (m : ℕ) (row : List ℕ) → test (Some (version_by key (BySession m))) ≡ true → lookup_key (writes_of (sessions m)) key ≡ Some (Some row) → ⊥

-- what holds a slot after it held it before
pub held-before : (test : Option Version → Bool) (o : Option Version) (v : Version) → cond (test o) None o ≡ Some v → (o ≡ Some v) × (test (Some v) ≡ false)
held-before test o v e = grind arith

held-left : (test : Option Version → Bool) (o : Option Version) (v : Version) → o ≡ Some v → test (Some v) ≡ false → cond (test o) None o ≡ Some v
held-left test o v e out = ap (λ (b : Bool). cond b None o) (ap test e ∙ out) ∙ e

held-freed : (o : Origin) (q : State) (sessions : ℕ → Option Session) (test : Option Version → Bool) → Keeps o q → MayFree q sessions test → HeldKeeps q sessions (freed test q.held)
held-freed o q sessions test kept may = record {
  once = λ a b v lt_a lt_b at_a at_b. kept.owns.once a b v lt_a lt_b (held-before test (q.held a) v at_a).0 (held-before test (q.held b) v at_b).0;
  was = λ slot t key at. (held-before test (q.held slot) (version_by key (ByCommit t)) at).0;
  stays = λ slot t key at. held-left test (q.held slot) (version_by key (ByCommit t)) at (may.commits key t);
  has = λ slot m key lt at.
      let was = held-before test (q.held slot) (version_by key (BySession m)) at in
      let old = kept.owns.has slot (version_by key (BySession m)) lt was.0 in
      (old.0, ap (λ (v : Option (Option (List ℕ))). unwrap_or v None) (may.stays key m was.1) ∙ old.1);
  owns = λ m key row has. owns m key row has (test (Some (version_by key (BySession m)))) refl;
}
  where
    owns : (m : ℕ) (key : Key) (row : List ℕ) → lookup_key (writes_of (sessions m)) key ≡ Some (Some row) → (b : Bool) → test (Some (version_by key (BySession m))) ≡ b
        → (slot : ℕ) × (slot < q.layout.slots) × (cond (test (q.held slot)) None (q.held slot) ≡ Some (version_by key (BySession m)))
    owns m key row has true is = absurd (may.gone key m row is has)
    owns m key row has false is =
        let old = kept.owns.by_session m key row (sym (may.stays key m is) ∙ has) in
        (old.0, old.1, held-left test (q.held old.0) (version_by key (BySession m)) old.2 is)

-- ---- a session deletes a key's row: its own slot is freed

pub may-give : (q : State) (n : ℕ) (key : Key) → MayFree q (with_active q n key None) (is_own_at n key)
may-give q n key = grind (arith, lookup-there, true≢false, and_from, eq-eqb, key_eq-same, and_parts, lookup-here, eqb-true, key_eq-true)

pub keeps-delete : (o : Origin) (q : State) (n : ℕ) (key : Key) → Keeps o q → refusal q (Delete n key) ≡ None → Keeps o (next_state q (Delete n key))
keeps-delete o q n key kept none =
    let a = allowed q (Delete n key) none in
    let s = active q (Delete n key) (q.sessions n) refl refl refl a.there a.placed in
    keeps-held o q (with_active q n key None) (held_after_delete q n key) kept
    (each-set (SessionKeeps o q) n _ q.sessions (active-keeps o q n key None s.0 s.1 kept s.2) (λ m. session-keeps o q m kept))
    (numbered-set o q n _ kept (inl (kept.numbers.numbered n _ s.2)))
    (held-freed o q (with_active q n key None) (is_own_at n key) kept (may-give q n key))

-- ---- a session ends without a commit: all of its slots are freed

pub may-abort : (q : State) (n : ℕ) → MayFree q (replaced n None q.sessions) (is_held_by n)
may-abort q n = grind (arith, replaced-other, eqb-false, replaced-same, eqb-true)

-- a session that has ended keeps all
pub none-keeps : (o : Origin) (q : State) → SessionKeeps o q None
none-keeps o q = record { sorted = refl; drew = λ t e. cc e; snapshot = λ begun writes e. cc e }

pub keeps-abort : (o : Origin) (q : State) (n : ℕ) → Keeps o q → Keeps o (next_state q (Abort n))
keeps-abort o q n kept =
    keeps-held o q (replaced n None q.sessions) (held_after_abort q n) kept (each-set (SessionKeeps o q) n None q.sessions (none-keeps o q) (λ m. session-keeps o q m kept))
    (numbered-set o q n None kept (inr refl)) (held-freed o q (replaced n None q.sessions) (is_held_by n) kept (may-abort q n))

-- ---- a session ends after its commit, or begins

pub keeps-end : (o : Origin) (q : State) (n : ℕ) → Keeps o q → refusal q (End n) ≡ None → Keeps o (next_state q (End n))
keeps-end o q n kept none = keeps-session o q n None kept (none-keeps o q) (inr refl) (sym (ended-writes q n (q.sessions n) (allowed q (End n) none).placed))

pub begun-keeps : (o : Origin) (q : State) → Keeps o q → SessionKeeps o q (Some (Active (length q.history) []))
begun-keeps o q kept = grind arith

-- the number that a session gets is free
pub free-session : (q : State) → is_none (free_session q) ≡ false → q.sessions (unwrap_or (free_session q) 0) ≡ None
free-session q has = grind (arith, find-passes)

-- and a session's
number-among : (test : ℕ → Bool) (from many n : ℕ) → find test (range_with_len from many) ≡ Some n → (from ≤ n) × (n < from + many)
number-among test from zero n is = absurd (cc is)
number-among test from (suc many) n is = grind (arith, number-among test (from + 1) many n)

free-number : (q : State) → is_none (free_session q) ≡ false → IsSessionNumber (unwrap_or (free_session q) 0)
free-number q has = grind (arith, number-among)

pub keeps-begin : (o : Origin) (q : State) → Keeps o q → refusal q Begin ≡ None → Keeps o (next_state q Begin)
keeps-begin o q kept none =
    keeps-session o q (unwrap_or (free_session q) 0) (Some (Active (length q.history) [])) kept (begun-keeps o q kept) (inl (free-number q (allowed q Begin none).room))
    (sym (ap writes_of (free-session q (allowed q Begin none).room)))

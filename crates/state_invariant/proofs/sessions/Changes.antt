-- One session changes, and with it what it holds.
use Rattle.std.proofs.Common.{◌≡◌, ◌⊎◌, inl, inr, ℕ, ◌<◌, ◌≤◌, true, List, [], ◌∷◌, map, length, refl, sym, ◌∙◌, ap, Option, Some, None, arith}
use Rattle.std.proofs.lemmas.Bool.{cases_eq, and_parts, and_from}
use Rattle.std.proofs.lemmas.Bool.Decides.{nat_tests}
use Rattle.base.specs.declared.key.Key.{Key}
use Rattle.base.specs.Keys.{key_lt, lookup_key, is_rising}
use Rattle.base.specs.Commits.{Writes, with_write}
use Rattle.base.specs.Stands.{has_timestamp}
use Rattle.base.specs.Lists.{replaced}
use Rattle.machine.specs.Machine.{State, Session, Active, Drew, Drawn, Version, Writer, BySession, ByCommit, drawn_at, writes_of, with_session}
use Rattle.base.proofs.Keys.{key_lt-swap}
use Rattle.state_invariant.specs.Kept.{Origin, IsSessionNumber, KeepsNumbers, DrawsInOrder, Owns, Keeps, IsInUse, wanted, row_in, version_by}
use Rattle.state_invariant.proofs.Lookups.{replaced-same, replaced-other}

-- the state with these sessions and with this in the slots
abbrev pub with_held : State → (ℕ → Option Session) → (ℕ → Option Version) → State
with_held q sessions held = record q { sessions = sessions; held = held }

-- what each session keeps
pub record SessionKeeps (o : Origin) (q : State) (s : Option Session) : Type 0 where
  pub sorted : is_rising (map (λ write. write.0) (writes_of s)) ≡ true
  pub drew : (t : ℕ) → s ≡ Some (Drew t) → (has_timestamp q.history t ≡ true) ⊎ ((d : Drawn) × (drawn_at q t ≡ Some d))
  pub snapshot : (begun : ℕ) (writes : Writes) → s ≡ Some (Active begun writes) → (o.opened ≤ begun) × (begun ≤ length q.history) × IsInUse q begun

-- each open one has a session's number
abbrev pub AreNumbered : (ℕ → Option Session) → Type 0
AreNumbered sessions = (n : ℕ) (session : Session) → sessions n ≡ Some session → IsSessionNumber n

-- what the slots keep when sessions change
pub record HeldKeeps (q : State) (sessions : ℕ → Option Session) (held : ℕ → Option Version) : Type 0 where
  pub once : (a b : ℕ) (v : Version) → a < q.layout.slots → b < q.layout.slots → held a ≡ Some v → held b ≡ Some v → a ≡ b
  -- commits hold what they did
  pub was : (slot t : ℕ) (key : Key) → held slot ≡ Some (version_by key (ByCommit t)) → q.held slot ≡ Some (version_by key (ByCommit t))
  pub stays : (slot t : ℕ) (key : Key) → q.held slot ≡ Some (version_by key (ByCommit t)) → held slot ≡ Some (version_by key (ByCommit t))
  -- sessions hold what they write
  pub has : (slot n : ℕ) (key : Key) → slot < q.layout.slots → held slot ≡ Some (version_by key (BySession n)) → (row : List ℕ) × (row_in (writes_of (sessions n)) key ≡ Some row)
  pub owns : (n : ℕ) (key : Key) (row : List ℕ) → lookup_key (writes_of (sessions n)) key ≡ Some (Some row) → (slot : ℕ) × (slot < q.layout.slots) × (held slot ≡ Some (version_by key (BySession n)))

module _ (o : Origin) (q : State) (sessions : ℕ → Option Session) (held : ℕ → Option Version) (kept : Keeps o q) (each : (n : ℕ) → SessionKeeps o q (sessions n)) (numbered : AreNumbered sessions) where
  abbrev then : State
  then = with_held q sessions held

  numbers-held : KeepsNumbers o then
  numbers-held = grind arith

  draws-held : DrawsInOrder o then
  draws-held = grind arith

  owns-held : HeldKeeps q sessions held → Owns o then
  owns-held h = record {
    once = h.once;
    has = λ slot v lt at. has slot v v.writer lt at refl;
    before = λ slot t key lt at. kept.owns.before slot t key lt (h.was slot t key at);
    by_session = h.owns;
    by_draw = λ t key d row found wrote. let old = kept.owns.by_draw t key d row found wrote in (old.0, old.1, h.stays old.0 t key old.2);
    since_snapshot = λ n in_use m key row since within is. let old = kept.owns.since_snapshot n (used n in_use) m key row since within is in (old.0, old.1, h.stays old.0 _ key old.2);
  }
    where
      used : (n : ℕ) → IsInUse then n → IsInUse q n
      used n (inl all) = inl all
      used n (inr (session, writes, active)) = ((each session).snapshot n writes active).2

      has : (slot : ℕ) (v : Version) (w : Writer) → slot < q.layout.slots → held slot ≡ Some v → v.writer ≡ w → (row : List ℕ) × (wanted o then v ≡ Some row)
      has slot v (BySession n) lt at is =
          let old = h.has slot n v.key lt (at ∙ ap (λ (w : Writer). Some (version_by v.key w)) is) in
          (old.0, ap (λ (w : Writer). wanted o then (version_by v.key w)) is ∙ old.1)
      has slot v (ByCommit t) lt at is =
          let old = kept.owns.has slot v lt (h.was slot t v.key (at ∙ ap (λ (w : Writer). Some (version_by v.key w)) is) ∙ ap (λ (w : Writer). Some (version_by v.key w)) (sym is)) in
          (old.0, same t is ∙ old.1)
        where
          same : (t : ℕ) → v.writer ≡ ByCommit t → wanted o then v ≡ wanted o q v
          same t is = ap (λ (w : Writer). wanted o then (version_by v.key w)) is ∙ ap (λ (w : Writer). wanted o q (version_by v.key w)) (sym is)

  pub keeps-held : HeldKeeps q sessions held → Keeps o then
  keeps-held h = record { numbers = numbers-held; draws = draws-held; owns = owns-held h }

-- ---- sessions as they are

pub session-keeps : (o : Origin) (q : State) (n : ℕ) → Keeps o q → SessionKeeps o q (q.sessions n)
session-keeps o q n kept = grind arith

-- what each has, each has after one is set that has it
pub each-set : (P : Option Session → Type 0) (n : ℕ) (s : Option Session) (sessions : ℕ → Option Session) → P s → ((m : ℕ) → P (sessions m)) → (m : ℕ) → P (replaced n s sessions m)
each-set P n s sessions this each m = grind (arith, cases_eq, replaced-same, replaced-other)

-- one that is set at a session's number, or that ends
pub numbered-set : (o : Origin) (q : State) (n : ℕ) (s : Option Session) → Keeps o q → IsSessionNumber n ⊎ (s ≡ None) → AreNumbered (replaced n s q.sessions)
numbered-set o q n s kept this m session is = grind (arith, cases_eq, replaced-same, replaced-other)

-- a session that writes is open
pub number-writing : (o : Origin) (q : State) (n : ℕ) (write : Key × Option (List ℕ)) (rest : Writes) → Keeps o q → writes_of (q.sessions n) ≡ write ∷ rest → IsSessionNumber n
number-writing o q n write rest kept has = grind arith

-- ---- a session that writes what it wrote

-- its writes are the same, no snapshot is new to the state, and it has drawn nothing
pub keeps-session : (o : Origin) (q : State) (n : ℕ) (s : Option Session) → Keeps o q → SessionKeeps o q s → IsSessionNumber n ⊎ (s ≡ None) → writes_of s ≡ writes_of (q.sessions n) → Keeps o (with_session n s q)
keeps-session o q n s kept its number same =
    keeps-held o q (replaced n s q.sessions) q.held kept (each-set (SessionKeeps o q) n s q.sessions its (λ m. session-keeps o q m kept)) (numbered-set o q n s kept number) record {
      once = kept.owns.once;
      was = λ slot t key at. at;
      stays = λ slot t key at. at;
      has = λ slot m key lt at. let old = kept.owns.has slot (version_by key (BySession m)) lt at in (old.0, ap (λ (ws : Writes). row_in ws key) (writes m) ∙ old.1);
      owns = λ m key row is. kept.owns.by_session m key row (ap (λ (ws : Writes). lookup_key ws key) (sym (writes m)) ∙ is);
    }
  where
    writes : (m : ℕ) → writes_of (replaced n s q.sessions m) ≡ writes_of (q.sessions m)
    writes m = grind (arith, cases_eq, replaced-same, replaced-other)

-- ---- a further write keeps the keys in order

abbrev keys_of : Writes → List Key
keys_of writes = map (λ write. write.0) writes

sorted-above : (a key : Key) (value : Option (List ℕ)) (writes : Writes) → key_lt a key ≡ true → is_rising (a ∷ keys_of writes) ≡ true → is_rising (a ∷ keys_of (with_write key value writes)) ≡ true
sorted-above a key value [] less rising = and_from (key_lt a key) true less refl
sorted-above a key value (write ∷ writes) less rising = grind (arith, and_parts, sorted-above write.0 key value writes, and_from, key_lt-swap, nat_tests)

pub sorted-with_write : (key : Key) (value : Option (List ℕ)) (writes : Writes) → is_rising (map (λ write. write.0) writes) ≡ true → is_rising (map (λ write. write.0) (with_write key value writes)) ≡ true
sorted-with_write key value [] rising = refl
sorted-with_write key value (write ∷ writes) rising = grind (arith, sorted-above, nat_tests)

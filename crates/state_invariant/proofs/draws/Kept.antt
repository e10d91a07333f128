-- A draw.
use Rattle.std.proofs.Common.{◌≡◌, ◌≢◌, ◌⊎◌, inl, inr, ℕ, ◌+◌, ◌*◌, ◌^◌, ◌<◌, ◌≤◌, Bool, true, false, cond, not, ◌&&◌, ◌||◌, List, [], ◌∷◌, ◌++◌, map, drop, length, refl, sym, ◌∙◌, ap, subst, arith, Option, Some, None, find, is_some, true≢false}
use Rattle.std.specs.Prelude.{nat_eq, nat_lt, nat_le}
use Rattle.std.specs.List.{list_any}
use Rattle.std.specs.Option.{option_or, option_map}
use Rattle.std.proofs.lemmas.Bool.{cases_eq, eq-eqb, eqb-false, ne_eqb, and_parts, and_from, lt-ltb, ltb-true, leb-false, le-leb, not_from_false, or_left}
use Rattle.std.proofs.lemmas.List.{map-append}
use Rattle.std.proofs.lemmas.List.Folds.{find-append, list_all-map, list_any-append}
use Rattle.base.specs.declared.key.Key.{Key}
use Rattle.base.specs.declared.step.Step.TheVariants.{Draw}
use Rattle.base.specs.Keys.{lookup_key, is_rising}
use Rattle.base.specs.Commits.{Writes, Commit, writes_key, last_writer}
use Rattle.base.specs.Records.{is_committed, are_rising}
use Rattle.base.specs.Stands.{has_timestamp}
use Rattle.machine.specs.Machine.{State, Session, Active, Drew, WroteNothing, Drawn, Hand, Version, Writer, BySession, ByCommit, drawn_at, drawn_of, writes_of, begun_of, is_by, by_commit, state_drawn, next_state, refusal, unseen_by, conflict_of}
use Rattle.base.proofs.Keys.{key_eq-true}
use Rattle.base.proofs.Lists.{all-drop}
use Rattle.base.proofs.Options.{option_or-none}
use Rattle.state_invariant.specs.Kept.{Origin, KeepsHand, KeepsOrigin, KeepsNumbers, DrawsInOrder, Owns, Keeps, IsInUse, HasSlot, wanted, row_in, row_by, commit_at, commits_of_life, covered_since, version_by, last_of}
use Rattle.state_invariant.proofs.Lookups.{replaced-same, replaced-other, find-all}
use Rattle.state_invariant.proofs.Lists.{all-weaken, all-one_more, rising-one_more, find-map}
use Rattle.state_invariant.proofs.Commits.{commit_at-none, commit_at-some, commit_at-has, timestamp-all, commit_at-append, drawn_at-timestamp, uncommitted-above}
use Rattle.state_invariant.proofs.Log.{writer-bounded}
use Rattle.state_invariant.proofs.steps.Refusals.{allowed, active}
use Rattle.state_invariant.proofs.sessions.Changes.{numbered-set, number-writing, keeps-session, each-set}

-- the commit that is drawn
abbrev pub drawn_now : State → Writes → Drawn
drawn_now q writes = record { commit = record { timestamp = q.next; writes = writes }; stamped = 0 }

-- ---- the drawn commits after it

-- none was drawn yet at the next timestamp
pub drawn_at-next : (o : Origin) (q : State) → KeepsNumbers o q → drawn_at q q.next ≡ None
drawn_at-next o q kept = grind (arith, and_parts, find-all, ltb-true, drawn_at-timestamp)

pub found-new : (o : Origin) (q : State) (writes : Writes) → KeepsNumbers o q → find (λ d. nat_eq d.commit.timestamp q.next) (q.drawn ++ drawn_now q writes ∷ []) ≡ Some (drawn_now q writes)
found-new o q writes kept = grind (arith, find-append, drawn_at-next, eq-eqb)

pub found-old : (q : State) (writes : Writes) (t : ℕ) → t ≢ q.next → find (λ d. nat_eq d.commit.timestamp t) (q.drawn ++ drawn_now q writes ∷ []) ≡ drawn_at q t
found-old q writes t apart = grind (arith, find-append, ne_eqb, option_or-none)

-- ---- the slots that its session held

turned : (n t : ℕ) (k : Key) (x : Writer) (w : Version) → Some (version_by k (cond (is_by n x) (ByCommit t) x)) ≡ Some w
    → ((Some (version_by k x) ≡ Some (version_by w.key (BySession n))) × (w.writer ≡ ByCommit t)) ⊎ ((Some (version_by k x) ≡ Some w) × (is_by n w.writer ≡ false))
turned n t k a w e = grind (arith)

-- what holds a slot after it was its session's, or held it before
pub held-drawn : (n t : ℕ) (o : Option Version) (w : Version) → by_commit n t o ≡ Some w
    → ((o ≡ Some (version_by w.key (BySession n))) × (w.writer ≡ ByCommit t)) ⊎ ((o ≡ Some w) × (is_by n w.writer ≡ false))
held-drawn n t a w e = grind (arith)

pub held-stays : (n t : ℕ) (o : Option Version) (w : Version) → o ≡ Some w → is_by n w.writer ≡ false → by_commit n t o ≡ Some w
held-stays n t o w e other = ap (by_commit n t) e ∙ ap (λ (b : Bool). Some (version_by w.key (cond b (ByCommit t) w.writer))) other

pub held-turns : (n t : ℕ) (o : Option Version) (k : Key) → o ≡ Some (version_by k (BySession n)) → by_commit n t o ≡ Some (version_by k (ByCommit t))
held-turns n t o k e = ap (by_commit n t) e ∙ ap (λ (b : Bool). Some (version_by k (cond b (ByCommit t) (BySession n)))) (eq-eqb n n refl)

-- ---- no commit that is drawn writes a key of the session

pub key-found : (key : Key) (writes : Writes) (p : Key → Bool) → is_some (lookup_key writes key) ≡ true → find p (map (λ write. write.0) writes) ≡ None → p key ≡ false
key-found key [] p has none = cc has
key-found key (write ∷ writes) p has none = grind (arith, key-found key writes p, key_eq-true)

no-any : {X : Type 0} (p : X → Bool) (xs : List X) (test : X → Bool) (x : X) → list_any p xs ≡ false → find test xs ≡ Some x → p x ≡ false
no-any p [] test x none found = cc found
no-any p (y ∷ ys) test x none found = grind (arith, no-any p ys test x)

-- if the draw meets no conflict, what is drawn already writes none of the session's keys
pub unlike-drawn : (q : State) (n : ℕ) (key : Key) (u : ℕ) (e : Drawn) → conflict_of q n ≡ None → is_some (lookup_key (writes_of (q.sessions n)) key) ≡ true → drawn_at q u ≡ Some e → writes_key key e.commit ≡ false
unlike-drawn q n key u e alone has found =
    let none : list_any (writes_key key) (unseen_by q n) ≡ false = key-found key (writes_of (q.sessions n)) (λ key. list_any (writes_key key) (unseen_by q n)) has alone in
    let parts : (list_any (writes_key key) (drop (begun_of (q.sessions n)) q.history) || list_any (writes_key key) (drawn_of q)) ≡ false = sym (list_any-append (writes_key key) (drop (begun_of (q.sessions n)) q.history) (drawn_of q)) ∙ none in
    no-any (writes_key key) (drawn_of q) (λ (c : Commit). nat_eq c.timestamp u) e.commit (second _ _ parts) (find-map (λ (c : Commit). nat_eq c.timestamp u) (λ (d : Drawn). d.commit) q.drawn ∙ ap (λ (o : Option Drawn). option_map (λ (d : Drawn). d.commit) o) found)
  where
    second : (a b : Bool) → (a || b) ≡ false → b ≡ false
    second true b e = cc e
    second false b e = e

-- ---- what is kept

module _ (o : Origin) (q : State) (n : ℕ) (write : Key × Option (List ℕ)) (rest : Writes) (has_writes : writes_of (q.sessions n) ≡ write ∷ rest)
    (below : q.next < q.ruling.dirty) (room : q.next + 2 * q.layout.window < 2 ^ 62) (alone : conflict_of q n ≡ None) (kept : Keeps o q) where
  abbrev then : State
  then = state_drawn q n (write ∷ rest)

  abbrev newest : Drawn
  newest = drawn_now q (write ∷ rest)

  found-old_still : (t : ℕ) (d : Drawn) → drawn_at q t ≡ Some d → drawn_at then t ≡ Some d
  found-old_still t d found = grind (arith, found-old, drawn_at-next)

  -- ---- the commits of the life

  life-drawn : (t : ℕ) → t ≢ q.next → commit_at (commits_of_life o then) t ≡ commit_at (commits_of_life o q) t
  life-drawn t apart =
      commit_at-append (covered_since o q) (drawn_of then) t
      ∙ ap (λ (c : Option Commit). option_or (commit_at (covered_since o q) t) c)
      (find-map (λ (c : Commit). nat_eq c.timestamp t) (λ (d : Drawn). d.commit) then.drawn ∙ ap (λ (d : Option Drawn). option_map (λ (d : Drawn). d.commit) d) (found-old q (write ∷ rest) t apart)
      ∙ sym (find-map (λ (c : Commit). nat_eq c.timestamp t) (λ (d : Drawn). d.commit) q.drawn))
      ∙ sym (commit_at-append (covered_since o q) (drawn_of q) t)

  life-new : commit_at (commits_of_life o then) q.next ≡ Some newest.commit
  life-new =
      commit_at-append (covered_since o q) (drawn_of then) q.next
      ∙ ap (λ (c : Option Commit). option_or c (commit_at (drawn_of then) q.next)) (commit_at-none (covered_since o q) q.next (unlike (has_timestamp (covered_since o q) q.next) refl))
      ∙ find-map (λ (c : Commit). nat_eq c.timestamp q.next) (λ (d : Drawn). d.commit) then.drawn
      ∙ ap (λ (d : Option Drawn). option_map (λ (d : Drawn). d.commit) d) (found-new o q (write ∷ rest) kept.numbers)
    where
      unlike : (b : Bool) → has_timestamp (covered_since o q) q.next ≡ b → b ≡ false
      unlike false is = refl
      unlike true is =
          let counts = timestamp-all (is_committed q.ruling) (covered_since o q) q.next (all-drop (λ c. is_committed q.ruling c.timestamp) o.opened q.history kept.numbers.covered) is in
          absurd (true≢false (sym counts ∙ uncommitted-above q.ruling q.next kept.numbers.persisted))

  drawn-more : (t : ℕ) → has_timestamp (drawn_of q) t ≡ true → has_timestamp (drawn_of then) t ≡ true
  drawn-more t has = ap (λ (cs : List Commit). has_timestamp cs t) (map-append (λ (d : Drawn). d.commit) q.drawn (newest ∷ [])) ∙ list_any-append (λ (c : Commit). nat_eq c.timestamp t) (drawn_of q) (newest.commit ∷ [])
      ∙ or_left (has_timestamp (drawn_of q) t) (has_timestamp (newest.commit ∷ []) t) has

  hand-drawn : (hand : Hand) → KeepsHand q hand → KeepsHand then hand
  hand-drawn hand k = record {
    extends = k.extends;
    persisted = omega (arith, k.persisted);
    window = omega (arith, k.window);
    gaps = k.gaps;
    longs = λ t any. let l = k.longs t any in (drawn-more t l.0, l.1);
    drawn = λ t commit found. let d = k.drawn t commit found in (d.0, found-old_still t d.0 d.1, d.2, d.3);
  }

  origin-drawn : KeepsOrigin o then
  origin-drawn = let k = kept.numbers.origin in record {
    covered = k.covered;
    drawn = all-one_more (λ d. nat_lt o.ruling.persisted d.commit.timestamp) q.drawn newest k.drawn (lt-ltb o.ruling.persisted q.next (omega (arith, k.further, kept.numbers.persisted)));
    each = λ t above below. each t above below (cases_eq t q.next);
    gaps = k.gaps;
  }
    where
      each : (t : ℕ) → o.ruling.persisted < t → t < q.next + 1 → (t ≡ q.next) ⊎ (t ≢ q.next) → has_timestamp (commits_of_life o then) t ≡ true
      each t above below (inl now) = commit_at-some (commits_of_life o then) t newest.commit (ap (commit_at (commits_of_life o then)) now ∙ life-new)
      each t above below (inr apart) =
          let found = commit_at-has (commits_of_life o q) t (kept.numbers.origin.each t above (omega arith)) in
          commit_at-some (commits_of_life o then) t found.0 (life-drawn t apart ∙ found.1)

  numbers-drawn : KeepsNumbers o then
  numbers-drawn = let k = kept.numbers in record {
    ruling = record {
      layout = k.layout;
      formed = k.formed;
      persisted = omega (arith, k.persisted);
      reserved = omega (arith, below);
      window = omega (arith, k.window);
      room = omega (arith, room);
      covered = k.covered;
    };
    longs = λ t any. drawn-more t (k.longs t any);
    drawn = all-one_more (λ d. not (is_committed q.ruling d.commit.timestamp) && nat_lt d.commit.timestamp (q.next + 1)) q.drawn newest
        (all-weaken (λ d. not (is_committed q.ruling d.commit.timestamp) && nat_lt d.commit.timestamp q.next) (λ d. not (is_committed q.ruling d.commit.timestamp) && nat_lt d.commit.timestamp (q.next + 1)) q.drawn further k.drawn)
        (and_from (not (is_committed q.ruling q.next)) (nat_lt q.next (q.next + 1)) (not_from_false (is_committed q.ruling q.next) (uncommitted-above q.ruling q.next k.persisted)) (lt-ltb q.next (q.next + 1) (omega arith)));
    hand = λ hand is. hand-drawn hand (k.hand hand is);
    origin = origin-drawn;
    snapshots = λ m begun writes is. each-set (λ (s : Option Session). s ≡ Some (Active begun writes) → (o.opened ≤ begun) × (begun ≤ length q.history)) n (Some (Drew q.next)) q.sessions (λ e. cc e) (λ m e. k.snapshots m begun writes e) m is;
    numbered = numbered-set o q n (Some (Drew q.next)) kept (inl (number-writing o q n write rest kept has_writes));
  }
    where
      further : (d : Drawn) → (not (is_committed q.ruling d.commit.timestamp) && nat_lt d.commit.timestamp q.next) ≡ true → (not (is_committed q.ruling d.commit.timestamp) && nat_lt d.commit.timestamp (q.next + 1)) ≡ true
      further d e = grind (arith, and_parts, ltb-true, and_from, lt-ltb)

  is-new : (d : Drawn) → drawn_at then q.next ≡ Some d → newest ≡ d
  is-new d found = let same : Some newest ≡ Some d = sym (found-new o q (write ∷ rest) kept.numbers) ∙ found in cc same

  draws-drawn : DrawsInOrder o then
  draws-drawn = let k = kept.draws in record {
    rising = ap are_rising (map-append (λ d. d.commit.timestamp) q.drawn (newest ∷ []))
        ∙ rising-one_more (map (λ d. d.commit.timestamp) q.drawn) q.next k.rising
        (list_all-map (λ x. nat_lt x q.next) (λ d. d.commit.timestamp) q.drawn
        ∙ all-weaken (λ d. not (is_committed q.ruling d.commit.timestamp) && nat_lt d.commit.timestamp q.next) (λ d. nat_lt d.commit.timestamp q.next) q.drawn (λ d both. (and_parts (not (is_committed q.ruling d.commit.timestamp)) (nat_lt d.commit.timestamp q.next) both).1) kept.numbers.drawn);
    apart = λ t u d e key found_d found_e writes_d writes_e. apart t u d e key (cases_eq t q.next) (cases_eq u q.next) found_d found_e writes_d writes_e;
    counted = all-one_more (λ d. nat_le d.stamped (length d.commit.writes)) q.drawn newest k.counted (le-leb 0 (length (write ∷ rest)) (omega arith));
    in_order = all-one_more (λ d. is_rising (map (λ write. write.0) d.commit.writes)) q.drawn newest k.in_order (ap (λ (ws : Writes). is_rising (map (λ (w : Key × Option (List ℕ)). w.0) ws)) (sym has_writes) ∙ k.sorted n);
    sorted = each-set (λ (s : Option Session). is_rising (map (λ write. write.0) (writes_of s)) ≡ true) n (Some (Drew q.next)) q.sessions refl k.sorted;
    drew = λ m t is. each-set (λ (s : Option Session). s ≡ Some (Drew t) → (has_timestamp q.history t ≡ true) ⊎ ((d : Drawn) × (drawn_at then t ≡ Some d))) n (Some (Drew q.next)) q.sessions (drew_now t) (λ m e. drew_before t (k.drew m t e)) m is;
    rises = record { covered = k.rises.covered; drawn = λ t d key found writes. rises t d key found writes (cases_eq t q.next) };
  }
    where
      apart : (t u : ℕ) (d e : Drawn) (key : Key) → (t ≡ q.next) ⊎ (t ≢ q.next) → (u ≡ q.next) ⊎ (u ≢ q.next) → drawn_at then t ≡ Some d → drawn_at then u ≡ Some e → writes_key key d.commit ≡ true → writes_key key e.commit ≡ true → t ≡ u
      apart t u d e key (inl a) (inl b) found_d found_e writes_d writes_e = a ∙ sym b
      apart t u d e key (inl a) (inr b) found_d found_e writes_d writes_e = grind (arith, is-new, unlike-drawn, found-old)
      apart t u d e key (inr a) (inl b) found_d found_e writes_d writes_e = grind (arith, is-new, unlike-drawn, found-old)
      apart t u d e key (inr a) (inr b) found_d found_e writes_d writes_e = kept.draws.apart t u d e key (sym (found-old q (write ∷ rest) t a) ∙ found_d) (sym (found-old q (write ∷ rest) u b) ∙ found_e) writes_d writes_e

      rises : (t : ℕ) (d : Drawn) (key : Key) → drawn_at then t ≡ Some d → writes_key key d.commit ≡ true → (t ≡ q.next) ⊎ (t ≢ q.next) → last_writer q.history key < t
      rises t d key found writes (inl same) = omega (arith, same, writer-bounded q.ruling key q.history kept.numbers.covered, kept.numbers.persisted)
      rises t d key found writes (inr other) = kept.draws.rises.drawn t d key (sym (found-old q (write ∷ rest) t other) ∙ found) writes

      drew_now : (t : ℕ) → Some (Drew q.next) ≡ Some (Drew t) → (has_timestamp q.history t ≡ true) ⊎ ((d : Drawn) × (drawn_at then t ≡ Some d))
      drew_now t e = let same : q.next ≡ t = cc e in inr (newest, ap (drawn_at then) (sym same) ∙ found-new o q (write ∷ rest) kept.numbers)

      drew_before : (t : ℕ) → (has_timestamp q.history t ≡ true) ⊎ ((d : Drawn) × (drawn_at q t ≡ Some d)) → (has_timestamp q.history t ≡ true) ⊎ ((d : Drawn) × (drawn_at then t ≡ Some d))
      drew_before t (inl covered) = inl covered
      drew_before t (inr (d, found)) = inr (d, found-old_still t d found)

  -- those of commits have the rows that they had
  pub wanted-old : (key : Key) (t : ℕ) → t < q.next → wanted o then (version_by key (ByCommit t)) ≡ wanted o q (version_by key (ByCommit t))
  wanted-old key t lt = grind (arith, life-drawn)

  -- those that its session wrote too
  pub wanted-new : (key : Key) → wanted o then (version_by key (ByCommit q.next)) ≡ wanted o q (version_by key (BySession n))
  wanted-new key = ap (row_by o then key q.next) life-new ∙ ap (λ (ws : Writes). row_in ws key) (sym has_writes)

  writes-others : (m : ℕ) → m ≢ n → writes_of (then.sessions m) ≡ writes_of (q.sessions m)
  writes-others m apart = ap writes_of (replaced-other n (Some (Drew q.next)) q.sessions m apart)

  writes-drew : (m : ℕ) → m ≡ n → writes_of (then.sessions m) ≡ []
  writes-drew m is = ap writes_of (replaced-same n (Some (Drew q.next)) q.sessions m is)

  owns-drawn : Owns o then
  owns-drawn = record {
    once = λ a b w lt_a lt_b at_a at_b. once a b w lt_a lt_b (held-drawn n q.next (q.held a) w at_a) (held-drawn n q.next (q.held b) w at_b);
    has = λ slot v lt at. has slot v lt (held-drawn n q.next (q.held slot) v at);
    before = λ slot t k lt at. before slot t k lt (held-drawn n q.next (q.held slot) (version_by k (ByCommit t)) at);
    by_session = λ m k r is. by_session m k r is (cases_eq m n);
    by_draw = λ t k d r found wrote. by_draw t k d r found wrote (cases_eq t q.next);
    since_snapshot = λ m in_use more k r since within is. let old = kept.owns.since_snapshot m (used m in_use) more k r since within is in (old.0, old.1, held-stays n q.next (q.held old.0) (last_of q more k) old.2 refl);
  }
    where
      used : (m : ℕ) → IsInUse then m → IsInUse q m
      used m (inl all) = inl all
      used m (inr (session, writes, active)) = grind (arith, cases_eq, replaced-same, active, replaced-other)

      old_version : (a : ℕ) (w : Version) → w.writer ≡ ByCommit q.next → q.held a ≡ Some w → q.held a ≡ Some (version_by w.key (ByCommit q.next))
      old_version a w is at = at ∙ ap (λ (x : Writer). Some (version_by w.key x)) is

      not_next : (slot t : ℕ) (k : Key) → slot < q.layout.slots → q.held slot ≡ Some (version_by k (ByCommit t)) → t ≡ q.next → ⊥
      not_next slot t k lt at is = let le : t < q.next = kept.owns.before slot t k lt at in omega arith

      once : (a b : ℕ) (w : Version) → a < q.layout.slots → b < q.layout.slots
          → ((q.held a ≡ Some (version_by w.key (BySession n))) × (w.writer ≡ ByCommit q.next)) ⊎ ((q.held a ≡ Some w) × (is_by n w.writer ≡ false))
          → ((q.held b ≡ Some (version_by w.key (BySession n))) × (w.writer ≡ ByCommit q.next)) ⊎ ((q.held b ≡ Some w) × (is_by n w.writer ≡ false))
          → a ≡ b
      once a b w lt_a lt_b (inl x) (inl y) = kept.owns.once a b (version_by w.key (BySession n)) lt_a lt_b x.0 y.0
      once a b w lt_a lt_b (inl x) (inr y) = absurd (not_next b q.next w.key lt_b (old_version b w x.1 y.0) refl)
      once a b w lt_a lt_b (inr x) (inl y) = absurd (not_next a q.next w.key lt_a (old_version a w y.1 x.0) refl)
      once a b w lt_a lt_b (inr x) (inr y) = kept.owns.once a b w lt_a lt_b x.0 y.0

      has : (slot : ℕ) (v : Version) → slot < q.layout.slots
          → ((q.held slot ≡ Some (version_by v.key (BySession n))) × (v.writer ≡ ByCommit q.next)) ⊎ ((q.held slot ≡ Some v) × (is_by n v.writer ≡ false))
          → (row : List ℕ) × (wanted o then v ≡ Some row)
      has slot v lt (inl (own, is)) =
          let old = kept.owns.has slot (version_by v.key (BySession n)) lt own in
          (old.0, ap (λ (w : Writer). wanted o then (version_by v.key w)) is ∙ wanted-new v.key ∙ old.1)
      has slot v lt (inr (at, other)) = by_writer v.writer refl
        where
          by_writer : (w : Writer) → v.writer ≡ w → (row : List ℕ) × (wanted o then v ≡ Some row)
          by_writer (BySession m) is =
              let apart : nat_eq m n ≡ false = ap (is_by n) (sym is) ∙ other in
              let old = kept.owns.has slot v lt at in
              (old.0, ap (λ (w : Writer). wanted o then (version_by v.key w)) is ∙ ap (λ (ws : Writes). row_in ws v.key) (writes-others m (eqb-false m n apart)) ∙ ap (λ (w : Writer). wanted o q (version_by v.key w)) (sym is) ∙ old.1)
          by_writer (ByCommit t) is =
              let lt_next = kept.owns.before slot t v.key lt (at ∙ ap (λ (w : Writer). Some (version_by v.key w)) is) in
              let old = kept.owns.has slot v lt at in
              (old.0, ap (λ (w : Writer). wanted o then (version_by v.key w)) is ∙ wanted-old v.key t lt_next ∙ ap (λ (w : Writer). wanted o q (version_by v.key w)) (sym is) ∙ old.1)

      before : (slot t : ℕ) (k : Key) → slot < q.layout.slots
          → ((q.held slot ≡ Some (version_by k (BySession n))) × (ByCommit t ≡ ByCommit q.next)) ⊎ ((q.held slot ≡ Some (version_by k (ByCommit t))) × (false ≡ false))
          → t < q.next + 1
      before slot t k lt (inl new) = let now : t ≡ q.next = cc new.1 in omega arith
      before slot t k lt (inr old) = let le : t < q.next = kept.owns.before slot t k lt old.0 in omega arith

      by_session : (m : ℕ) (k : Key) (r : List ℕ) → lookup_key (writes_of (then.sessions m)) k ≡ Some (Some r) → (m ≡ n) ⊎ (m ≢ n) → HasSlot then (version_by k (BySession m))
      by_session m k r is (inl same) = let none : None ≡ Some (Some r) = sym (ap (λ (ws : Writes). lookup_key ws k) (writes-drew m same)) ∙ is in absurd (cc none)
      by_session m k r is (inr apart) =
          let old = kept.owns.by_session m k r (sym (ap (λ (ws : Writes). lookup_key ws k) (writes-others m apart)) ∙ is) in
          (old.0, old.1, held-stays n q.next (q.held old.0) (version_by k (BySession m)) old.2 (ne_eqb m n apart))

      by_draw : (t : ℕ) (k : Key) (d : Drawn) (r : List ℕ) → drawn_at then t ≡ Some d → lookup_key d.commit.writes k ≡ Some (Some r) → (t ≡ q.next) ⊎ (t ≢ q.next) → HasSlot then (version_by k (ByCommit t))
      by_draw t k d r found wrote (inl now) =
          let same : newest ≡ d = is-new d (ap (drawn_at then) (sym now) ∙ found) in
          let old = kept.owns.by_session n k r (ap (λ (ws : Writes). lookup_key ws k) has_writes ∙ ap (λ (d : Drawn). lookup_key d.commit.writes k) same ∙ wrote) in
          (old.0, old.1, held-turns n q.next (q.held old.0) k old.2 ∙ ap (λ (u : ℕ). Some (version_by k (ByCommit u))) (sym now))
      by_draw t k d r found wrote (inr apart) =
          let old = kept.owns.by_draw t k d r (sym (found-old q (write ∷ rest) t apart) ∙ found) wrote in
          (old.0, old.1, held-stays n q.next (q.held old.0) (version_by k (ByCommit t)) old.2 refl)

  pub keeps-drawn : Keeps o then
  keeps-drawn = record { numbers = numbers-drawn; draws = draws-drawn; owns = owns-drawn }

-- ---- the step

-- what is known if a draw isn't refused
pub draw-facts : (o : Origin) (q : State) (n : ℕ) (write : Key × Option (List ℕ)) (rest : Writes) → Keeps o q → refusal q (Draw n) ≡ None → writes_of (q.sessions n) ≡ write ∷ rest
    → (q.next < q.ruling.dirty) × (q.next + 2 * q.layout.window < 2 ^ 62) × (conflict_of q n ≡ None)
draw-facts o q n write rest kept none is = grind (arith, allowed, eqb-false, leb-false)

pub keeps-draw : (o : Origin) (q : State) (n : ℕ) → Keeps o q → refusal q (Draw n) ≡ None → Keeps o (next_state q (Draw n))
keeps-draw o q n kept none = by (writes_of (q.sessions n)) refl
  where
    nothing : writes_of (q.sessions n) ≡ [] → Keeps o (state_drawn q n [])
    nothing is =
        let a = allowed q (Draw n) none in
        let s = active q (Draw n) (q.sessions n) refl refl refl a.there a.placed in
        keeps-session o q n (Some WroteNothing) kept record { sorted = refl; drew = λ t e. cc e; snapshot = λ begun writes e. cc e } (inl (kept.numbers.numbered n _ s.2)) (sym is)

    by : (ws : Writes) → writes_of (q.sessions n) ≡ ws → Keeps o (next_state q (Draw n))
    by [] is = subst (λ (ws : Writes). Keeps o (state_drawn q n ws)) (sym is) (nothing is)
    by (write ∷ rest) is = grind (arith, draw-facts o q n write rest kept none is, keeps-drawn o q n write rest is)

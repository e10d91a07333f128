-- Which versions are garbage: those replaced by a commit that each snapshot in use sees.
use Rattle.std.proofs.Common.{◌≡◌, ◌≢◌, ◌⊎◌, inl, inr, ℕ, zero, suc, ◌+◌, ◌<◌, ◌≤◌, Bool, true, false, cond, List, [], ◌∷◌, length, take, drop, refl, sym, ◌∙◌, ap, subst, arith, Option, Some, None, slice_get, true≢false}
use Rattle.std.specs.Prelude.{nat_eq, nat_le, unwrap_or}
use Rattle.std.specs.List.{list_all, range_with_len}
use Rattle.std.proofs.lemmas.Bool.{cases_eq, eq-eqb, ne_eqb, and_parts, and_from, or_left, or_right, leb-true, leb-false, false≢true}
use Rattle.std.proofs.lemmas.List.{take_all}
use Rattle.base.specs.declared.key.Key.{Key}
use Rattle.base.specs.Commits.{Commit, after, last_writer}
use Rattle.base.specs.Records.{is_committed}
use Rattle.base.specs.Stands.{has_timestamp}
use Rattle.machine.specs.Machine.{most_sessions, State, Active, Drawn, Version, Writer, BySession, ByCommit, drawn_at, session_numbers}
use Rattle.machine.specs.Collecting.{is_replaced_by, replace, sees_replaced, is_garbage}
use Rattle.state_invariant.specs.Kept.{Origin, Keeps, IsInUse, wanted, version_by}
use Rattle.state_invariant.specs.Shown.{word_of, counts_at, Newest, Replaced, IsWaiting, IsNewest, IsReplaced, ShowsAs, SlotShows, class_of_version, class_of_drawn, is_key_stamped, Begun, Waiting}
use Rattle.state_invariant.proofs.Commits.{timestamp-all, committed-bounds, uncommitted-above}
use Rattle.state_invariant.proofs.openings.Kept.{passes-last_writer}
use Rattle.state_invariant.proofs.Log.{stays-or_replaced, IsReplaced as IsChanged, IsPlaced, placed, has-place, one-place, has-here}
use Rattle.state_invariant.proofs.reads.Tables.{Started, started, snapshot-bounds, above-origin, counts-placed, never-counts, drawn_on-counts, drawn-facts}
use Rattle.state_invariant.proofs.Places.{all-placed, front-fact}

-- ---- lists

pub range-all : (p : ℕ → Bool) (from many k : ℕ) → list_all p (range_with_len from many) ≡ true → from ≤ k → k < from + many → p k ≡ true
range-all p from zero k all low high = absurd (omega (arith, low, high))
range-all p from (suc many) k all low high = grind (arith, range-all p (from + 1) many k)

pub all-each : {X : Type 0} (p : X → Bool) (xs : List X) → ((x : X) → p x ≡ true) → list_all p xs ≡ true
all-each p [] each = refl
all-each p (x ∷ xs) each = and_from (p x) (list_all p xs) (each x) (all-each p xs each)

has-more : (cs : List Commit) (m n t : ℕ) → m ≤ n → has_timestamp (take m cs) t ≡ true → has_timestamp (take n cs) t ≡ true
has-more cs zero n t le has = grind (arith, false≢true)
has-more [] (suc m) n t le has = absurd (false≢true has)
has-more (c ∷ cs) (suc m) zero t le has = absurd (omega (arith, le))
has-more (c ∷ cs) (suc m) (suc n) t le has = grind (arith, has-more cs m n t)

-- if a row is there, the last commit on its key is among the commits
has-last : (cs : List Commit) (key : Key) (row : List ℕ) → after cs key ≡ Some row → has_timestamp cs (last_writer cs key) ≡ true
has-last cs key row there = passes-last_writer (has_timestamp cs) key row cs (all-placed (λ c. has_timestamp cs c.timestamp) cs (λ i c at. has-here cs i c at)) there

-- ---- what the test says

-- the slot has a version of a commit that each snapshot in use sees, and after it one on its key
pub record IsGarbage (q : State) (slot : ℕ) : Type 0 where
  pub key : Key
  pub timestamp : ℕ
  pub held : q.held slot ≡ Some (version_by key (ByCommit timestamp))
  pub among : (n : ℕ) → IsInUse q n → has_timestamp (take n q.history) timestamp ≡ true
  pub later : (n : ℕ) → IsInUse q n → last_writer (take n q.history) key ≢ timestamp

replaced-parts : (cs : List Commit) (key : Key) (t : ℕ) → replace cs (Some (version_by key (ByCommit t))) ≡ true → (has_timestamp cs t ≡ true) × (last_writer cs key ≢ t)
replaced-parts cs key t is = grind (arith)

whole : (q : State) → take (length q.history) q.history ≡ q.history
whole q = take_all (length q.history) q.history (omega arith)

pub garbage-is : (o : Origin) (q : State) (slot : ℕ) → Keeps o q → is_garbage q slot ≡ true → IsGarbage q slot
garbage-is o q slot kept is =
    let both = and_parts (replace q.history (q.held slot)) (list_all (λ n. sees_replaced q.history (q.held slot) (q.sessions n)) session_numbers) is in
    by (q.held slot) refl both.0 both.1
  where
    by_writer : (v : Version) (w : Writer) → v.writer ≡ w → q.held slot ≡ Some v → is_replaced_by q.history v.key w ≡ true → list_all (λ n. sees_replaced q.history (Some (version_by v.key w)) (q.sessions n)) session_numbers ≡ true → IsGarbage q slot
    by_writer v (BySession n) same held first each = absurd (false≢true first)
    by_writer v (ByCommit t) same held first each = record {
      key = v.key;
      timestamp = t;
      held = held ∙ ap (λ (w : Writer). Some (version_by v.key w)) same;
      among = λ n in_use. (replaced-parts (take n q.history) v.key t (at n in_use)).0;
      later = λ n in_use. (replaced-parts (take n q.history) v.key t (at n in_use)).1;
    }
      where
        at : (n : ℕ) → IsInUse q n → replace (take n q.history) (Some (version_by v.key (ByCommit t))) ≡ true
        at n (inl all) = ap (λ (m : ℕ). replace (take m q.history) (Some (version_by v.key (ByCommit t)))) all ∙ ap (λ (cs : List Commit). replace cs (Some (version_by v.key (ByCommit t)))) (whole q) ∙ first
        at n (inr (session, writes, active)) =
            let number = kept.numbers.numbered session (Active n writes) active in
            ap (sees_replaced q.history (Some (version_by v.key (ByCommit t)))) (sym active)
            ∙ range-all (λ n. sees_replaced q.history (Some (version_by v.key (ByCommit t))) (q.sessions n)) 2 most_sessions session each number.0 number.1

    by : (x : Option Version) → q.held slot ≡ x → replace q.history x ≡ true → list_all (λ n. sees_replaced q.history x (q.sessions n)) session_numbers ≡ true → IsGarbage q slot
    by None held first each = absurd (false≢true first)
    by (Some v) held first each = by_writer v v.writer refl held first each

pub is-garbage : (q : State) (slot : ℕ) → IsGarbage q slot → is_garbage q slot ≡ true
is-garbage q slot g = grind (arith, whole q, all-each)

-- ---- what a garbage version is to the state

module _ (o : Origin) (q : State) (kept : Keeps o q) (slot : ℕ) (g : IsGarbage q slot) where
  committed : is_committed q.ruling g.timestamp ≡ true
  committed =
      timestamp-all (is_committed q.ruling) q.history g.timestamp kept.numbers.covered
      (ap (λ (cs : List Commit). has_timestamp cs g.timestamp) (sym (whole q)) ∙ g.among (length q.history) (inl refl))

  pub garbage-undrawn : drawn_at q g.timestamp ≡ None
  garbage-undrawn = by (drawn_at q g.timestamp) refl
    where
      by : (d : Option Drawn) → drawn_at q g.timestamp ≡ d → d ≡ None
      by None found = refl
      by (Some d) found = absurd (true≢false (sym committed ∙ (drawn-facts o q kept g.timestamp d found).1))

  pub garbage-replaced : g.timestamp ≢ last_writer q.history g.key
  garbage-replaced same = g.later (length q.history) (inl refl) (ap (λ (cs : List Commit). last_writer cs g.key) (whole q) ∙ sym same)

-- ---- what the words say

module _ (o : Origin) (q : State) (kept : Keeps o q) (value : ℕ → ℕ) (slot : ℕ) (lt : slot < q.layout.slots) where
  abbrev begin : ℕ
  begin = value (word_of q.layout slot 0)

  abbrev end : ℕ
  end = value (word_of q.layout slot 1)

  -- a replaced version, with its row and its place
  module _ (key : Key) (t : ℕ) (held : q.held slot ≡ Some (version_by key (ByCommit t))) (undrawn : drawn_at q t ≡ None) (row : List ℕ) (shows : IsReplaced o q value slot t key row) where
    has : (row : List ℕ) × (wanted o q (version_by key (ByCommit t)) ≡ Some row)
    has = kept.owns.has slot (version_by key (ByCommit t)) lt held

    s : Started o q key has.0 t begin
    s = started o q kept key has.0 t begin undrawn has.1 shows.begin

    follows : (n : ℕ) (r : IsChanged q.history key t s.place n) → end ≡ r.commit.timestamp
    follows n r = shows.ended r.commit.timestamp record { place = r.place; since = omega (arith, s.since, r.low); commit = r.commit; at = r.at; writes = r.writes; stamped = refl; last = r.last }

    -- its begin counts if its commit is seen
    begins : (n : ℕ) → o.opened ≤ n → has_timestamp (take n q.history) t ≡ true → counts_at o q n begin ≡ true
    begins n low among = by (nat_le t o.ruling.persisted) refl
      where
        own : o.ruling.persisted < t → IsPlaced q.history 0 n t → counts_at o q n begin ≡ true
        own above p = at (nat_le o.opened p.place) refl
          where
            at : (b : Bool) → nat_le o.opened p.place ≡ b → counts_at o q n begin ≡ true
            at true le =
                or_right (is_committed o.ruling begin) (has_timestamp (drop o.opened (take n q.history)) begin)
                (ap (has_timestamp (drop o.opened (take n q.history))) (shows.begin.own above ∙ sym p.is) ∙ has-place q.history o.opened n p.place p.commit (leb-true o.opened p.place le) p.high p.at)
            at false before =
                let early : is_committed o.ruling p.commit.timestamp ≡ true = front-fact (λ c. is_committed o.ruling c.timestamp) q.history o.opened p.place p.commit kept.numbers.origin.before (leb-false o.opened p.place before) p.at in
                absurd (omega (arith, above, p.is, (committed-bounds o.ruling p.commit.timestamp early).1))

        first : (cs : List Commit) → has_timestamp cs t ≡ true → has_timestamp (drop 0 cs) t ≡ true
        first [] has = has
        first (c ∷ cs) has = has

        by : (b : Bool) → nat_le t o.ruling.persisted ≡ b → counts_at o q n begin ≡ true
        by true le = or_left (is_committed o.ruling begin) (has_timestamp (drop o.opened (take n q.history)) begin) (shows.begin.earlier (leb-true t o.ruling.persisted le))
        by false above = own (leb-false t o.ruling.persisted above) (placed q.history 0 n t (first (take n q.history) among))

    -- if a later commit is seen, its end counts
    ends : (n : ℕ) → o.opened ≤ n → n ≤ length q.history → has_timestamp (take n q.history) t ≡ true → last_writer (take n q.history) key ≢ t → counts_at o q n end ≡ true
    ends n low within among later =
        by (stays-or_replaced q.history key t (Some has.0) s.place n s.last s.there (s.seen n low (begins n low among)) within)
      where
        by : ((last_writer (take n q.history) key ≡ t) × (after (take n q.history) key ≡ Some has.0)) ⊎ IsChanged q.history key t s.place n → counts_at o q n end ≡ true
        by (inl stays) = absurd (later stays.0)
        by (inr r) =
            or_right (is_committed o.ruling end) (has_timestamp (drop o.opened (take n q.history)) end)
            (ap (has_timestamp (drop o.opened (take n q.history))) (follows n r) ∙ has-place q.history o.opened n r.place r.commit (omega (arith, s.since, r.low)) r.high r.at)

    -- a commit of the life replaced it
    change : last_writer q.history key ≢ t → IsChanged q.history key t s.place (length q.history)
    change old = by (stays-or_replaced q.history key t (Some has.0) s.place (length q.history) s.last s.there s.within (omega arith))
      where
        by : ((last_writer (take (length q.history) q.history) key ≡ t) × (after (take (length q.history) q.history) key ≡ Some has.0)) ⊎ IsChanged q.history key t s.place (length q.history) → IsChanged q.history key t s.place (length q.history)
        by (inl stays) = absurd (old (ap (λ (cs : List Commit). last_writer cs key) (sym (whole q)) ∙ stays.0))
        by (inr r) = r

    pub replaced-above : last_writer q.history key ≢ t → o.ruling.persisted < end
    replaced-above old =
        let r = change old in
        omega (arith, follows (length q.history) r, above-origin o q kept r.place r.commit (omega (arith, s.since, r.low)) r.at)

    -- and only there
    module _ (old : last_writer q.history key ≢ t) (n : ℕ) (low : o.opened ≤ n) (within : n ≤ length q.history) (counts : counts_at o q n end ≡ true) where
      last : IsChanged q.history key t s.place (length q.history)
      last = change old

      -- each commit of the life with the end's timestamp is seen
      seen : (place : ℕ) (c : Commit) → o.opened ≤ place → slice_get q.history place ≡ Some c → end ≡ c.timestamp → place < n
      seen place c since at is =
          let out : is_committed o.ruling end ≡ false = uncommitted-above o.ruling end (omega (arith, is, above-origin o q kept place c since at)) in
          let p = counts-placed o q kept n end out counts in
          let same : place ≡ p.place = one-place q.history o.opened place p.place c p.commit kept.numbers.origin.distinct since p.low at p.at (sym is ∙ sym p.is) in
          omega (arith, same, p.high)

      begun : s.place ≤ n
      begun = omega (arith, last.low, seen last.place last.commit (omega (arith, s.since, last.low)) last.at (follows (length q.history) last))

      pub sees-own : has_timestamp (take n q.history) t ≡ true
      sees-own = has-more q.history s.place n t begun (ap (has_timestamp (take s.place q.history)) (sym s.last) ∙ has-last (take s.place q.history) key has.0 s.there)

      pub sees-later : last_writer (take n q.history) key ≢ t
      sees-later same = by (stays-or_replaced q.history key t (after (take n q.history) key) n (length q.history) same refl within (omega arith))
        where
          by : ((last_writer (take (length q.history) q.history) key ≡ t) × (after (take (length q.history) q.history) key ≡ after (take n q.history) key)) ⊎ IsChanged q.history key t n (length q.history) → ⊥
          by (inl stays) = old (ap (λ (cs : List Commit). last_writer cs key) (sym (whole q)) ∙ stays.0)
          by (inr r) =
              let is : end ≡ r.commit.timestamp = shows.ended r.commit.timestamp record { place = r.place; since = omega (arith, low, r.low); commit = r.commit; at = r.at; writes = r.writes; stamped = refl; last = r.last } in
              omega (arith, r.low, seen r.place r.commit (omega (arith, low, r.low)) r.at is)

  -- ---- garbage has an end that counts

  pub garbage-ended : IsGarbage q slot → SlotShows o q value slot → (n : ℕ) → IsInUse q n → counts_at o q n end ≡ true
  garbage-ended g shows n in_use =
      let bounds = snapshot-bounds o q kept n in_use in
      ends g.key g.timestamp g.held (garbage-undrawn o q kept slot g) _ replaced n bounds.0 bounds.1 (g.among n in_use) (g.later n in_use)
    where
      row : List ℕ
      row = unwrap_or (wanted o q (version_by g.key (ByCommit g.timestamp))) []

      replaced : IsReplaced o q value slot g.timestamp g.key row
      replaced =
          subst (λ (b : Bool). ShowsAs o q value slot (cond b (Newest g.timestamp g.key row) (Replaced g.timestamp g.key row))) (ne_eqb (last_writer q.history g.key) g.timestamp (λ same. garbage-replaced o q kept slot g (sym same)))
          (subst (λ (d : Option Drawn). ShowsAs o q value slot (class_of_drawn q g.key g.timestamp row d)) (garbage-undrawn o q kept slot g)
          (subst (λ (x : Option Version). ShowsAs o q value slot (class_of_version o q x)) g.held shows))

  -- ---- a version whose end counts at each snapshot in use is garbage

  pub ended-garbage : q.failed ≡ false → (v : Version) → q.held slot ≡ Some v → SlotShows o q value slot → ((n : ℕ) → IsInUse q n → counts_at o q n end ≡ true) → IsGarbage q slot
  ended-garbage up v held shows counts = by_writer v.writer refl
    where
      counted : counts_at o q (length q.history) end ≡ true
      counted = counts (length q.history) (inl refl)

      uncounted : end ≡ 0 → ⊥
      uncounted none = true≢false (sym counted ∙ never-counts o q kept (length q.history) end (inl none))

      row : Writer → List ℕ
      row w = unwrap_or (wanted o q (version_by v.key w)) []

      replaced : (t : ℕ) → q.held slot ≡ Some (version_by v.key (ByCommit t)) → drawn_at q t ≡ None → last_writer q.history v.key ≢ t → IsReplaced o q value slot t v.key (row (ByCommit t)) → IsGarbage q slot
      replaced t here undrawn old r = record {
        key = v.key;
        timestamp = t;
        held = here;
        among = λ n in_use. let bounds = snapshot-bounds o q kept n in_use in sees-own v.key t here undrawn (row (ByCommit t)) r old n bounds.0 bounds.1 (counts n in_use);
        later = λ n in_use. let bounds = snapshot-bounds o q kept n in_use in sees-later v.key t here undrawn (row (ByCommit t)) r old n bounds.0 bounds.1 (counts n in_use);
      }

      open_end : (t : ℕ) → IsNewest o q value slot t v.key (row (ByCommit t)) → ⊥
      open_end t w = grind (arith, true≢false, counted, never-counts, drawn_on-counts)

      by_newest : (t : ℕ) → q.held slot ≡ Some (version_by v.key (ByCommit t)) → drawn_at q t ≡ None → (last_writer q.history v.key ≡ t) ⊎ (last_writer q.history v.key ≢ t)
          → ShowsAs o q value slot (cond (nat_eq (last_writer q.history v.key) t) (Newest t v.key (row (ByCommit t))) (Replaced t v.key (row (ByCommit t)))) → IsGarbage q slot
      by_newest t here undrawn (inl newest) w =
          absurd (open_end t (subst (λ (b : Bool). ShowsAs o q value slot (cond b (Newest t v.key (row (ByCommit t))) (Replaced t v.key (row (ByCommit t))))) (eq-eqb (last_writer q.history v.key) t newest) w))
      by_newest t here undrawn (inr old) w =
          replaced t here undrawn old (subst (λ (b : Bool). ShowsAs o q value slot (cond b (Newest t v.key (row (ByCommit t))) (Replaced t v.key (row (ByCommit t))))) (ne_eqb (last_writer q.history v.key) t old) w)

      stamped : (t : ℕ) (b : Bool) → ShowsAs o q value slot (cond b (Begun t v.key (row (ByCommit t))) (Waiting v.key (row (ByCommit t)))) → ⊥
      stamped t true w = uncounted w.end
      stamped t false w = uncounted (w.end up)

      by_drawn : (t : ℕ) → q.held slot ≡ Some (version_by v.key (ByCommit t)) → (d : Option Drawn) → drawn_at q t ≡ d → ShowsAs o q value slot (class_of_drawn q v.key t (row (ByCommit t)) d) → IsGarbage q slot
      by_drawn t here None undrawn w = by_newest t here undrawn (cases_eq (last_writer q.history v.key) t) w
      by_drawn t here (Some d) drawn w = absurd (stamped t (is_key_stamped d v.key) w)

      at : (w : Writer) → v.writer ≡ w → q.held slot ≡ Some (version_by v.key w)
      at w is = held ∙ ap (λ (w : Writer). Some (version_by v.key w)) is

      by_writer : (w : Writer) → v.writer ≡ w → IsGarbage q slot
      by_writer (BySession n) is =
          let w : IsWaiting q value slot v.key (row (BySession n)) = subst (λ (x : Option Version). ShowsAs o q value slot (class_of_version o q x)) (at (BySession n) is) shows in
          absurd (uncounted (w.end up))
      by_writer (ByCommit t) is = by_drawn t (at (ByCommit t) is) (drawn_at q t) refl (subst (λ (x : Option Version). ShowsAs o q value slot (class_of_version o q x)) (at (ByCommit t) is) shows)

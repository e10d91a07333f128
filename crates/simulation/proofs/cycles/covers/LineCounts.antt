-- Drawn commits touch as many lines as the machine counts for them.
use Rattle.std.proofs.Common.{◌≡◌, inl, ℕ, zero, suc, ◌+◌, ◌<◌, Bool, true, false, cond, ◌&&◌, List, [], ◌∷◌, length, map, take, refl, sym, ◌∙◌, ap, arith}
use Rattle.std.specs.Prelude.{Option, Some, None, is_some, nat_eq, sum_by}
use Rattle.std.specs.List.{list_any, range_with_len, flat_map}
use Rattle.std.specs.Option.{option_map, option_or}
use Rattle.std.proofs.lemmas.Bool.{and_parts, and_from, eqb-true, eq-eqb}
use Rattle.std.proofs.lemmas.List.{take_all}
use Rattle.std.proofs.lemmas.List.Concat.{length-flat_map}
use Rattle.base.specs.declared.key.Key.{Key}
use Rattle.base.specs.Keys.{key_eq, lookup_key, is_rising}
use Rattle.base.specs.Commits.{Commit, after, writes_key, last_writer}
use Rattle.base.specs.Records.{is_committed}
use Rattle.base.specs.Stands.{has_timestamp}
use Rattle.base.specs.Layout.{version_lines}
use Rattle.machine.specs.Machine.{State, Drawn, Hand, Version, Writer, BySession, ByCommit, drawn_at, drawn_of, lines_of_write, lines_of}
use Rattle.base.proofs.Keys.{key_eq-true, key_eq-same}
use Rattle.base.proofs.Lists.{all-drop}
use Rattle.state_invariant.specs.Kept.{Origin, Keeps, KeepsHand, commit_at, commits_of_life, covered_since, version_by}
use Rattle.state_invariant.proofs.Lookups.{find-all}
use Rattle.state_invariant.proofs.Commits.{commit_at-some, commit_at-has, commit_at-none, commit_at-append, commit_at-drawn, timestamp-all, found-any}
use Rattle.device_invariant.specs.Slots.{newest_of}
use Rattle.device_invariant.specs.Log.{Line, line_at, lines_at, lines_in, is_one_of, is_last_on, is_own, is_ended}
use Rattle.device_invariant.proofs.PresentValues.{drawn-bounds, last-undrawn, wanted-newest}
use Rattle.device_invariant.proofs.stamps.Stamped.{writes-held}
use Rattle.simulation.specs.cycles.Batches.{AreDrawn}
use Rattle.simulation.specs.cycles.Laws.{LinesAreCounted}
use Rattle.simulation.proofs.cycles.covers.LineSums.{sum-same, sum-zero, sum-plus, sum-swap, sum-flat, sum-range, sum-one, sum-nowhere, sum-writes, sum-of_key, sum-commits, sum-of_writer}

abbrev Wrote : Type 0
Wrote = Key × Option (List ℕ)

abbrev is_at : Key → Option Version → Bool
is_at key None = false
is_at key (Some v) = key_eq v.key key

-- the lines of a slot that a version has
abbrev of_version : State → List Commit → ℕ → Option Version → List Line
of_version q commits slot v =
    cond (is_own commits v) (flat_map (λ part. line_at slot part ∷ []) (range_with_len 0 (version_lines q.layout))) (cond (is_ended q commits v) (line_at slot 0 ∷ []) [])

parts-length : (slot from n : ℕ) → length (flat_map (λ part. line_at slot part ∷ []) (range_with_len from n)) ≡ n
parts-length slot from zero = refl
parts-length slot from (suc n) = ap suc (parts-length slot (from + 1) n)

-- those that a write of the key owns and ends
abbrev owned : State → List Commit → Key → Option Version → ℕ
owned q commits key v = cond (is_own commits v && is_at key v) (version_lines q.layout) 0

abbrev ended : State → List Commit → Key → Option Version → ℕ
ended q commits key v = cond (is_ended q commits v && is_at key v) 1 0

module _ (o : Origin) (q : State) (commits : List Commit) (kept : Keeps o q) (drawn : AreDrawn q commits) where
  lines : ℕ
  lines = version_lines q.layout

  -- ---- drawn commits

  -- a commit of the batch writes its keys in order
  rising-writes : (t : ℕ) (c : Commit) → commit_at commits t ≡ Some c → is_rising (map (λ (w : Wrote). w.0) c.writes) ≡ true
  rising-writes t c found = grind (arith, find-all)

  -- no two of them write one key
  alone : (key : Key) (t u : ℕ) (c e : Commit) → commit_at commits t ≡ Some c → commit_at commits u ≡ Some e → writes_key key c ≡ true → writes_key key e ≡ true → t ≡ u
  alone key t u c e found_c found_e writes_c writes_e = grind arith

  in_life : (t : ℕ) (d : Drawn) → drawn_at q t ≡ Some d → commit_at (commits_of_life o q) t ≡ Some d.commit
  in_life t d found =
      commit_at-append (covered_since o q) (drawn_of q) t
      ∙ ap (λ (c : Option Commit). option_or c (commit_at (drawn_of q) t)) (commit_at-none (covered_since o q) t (uncovered (has_timestamp (covered_since o q) t) refl))
      ∙ commit_at-drawn q t ∙ ap (λ (f : Option Drawn). option_map (λ (d : Drawn). d.commit) f) found
    where
      uncovered : (b : Bool) → has_timestamp (covered_since o q) t ≡ b → b ≡ false
      uncovered false is = refl
      uncovered true is =
          let committed : is_committed q.ruling t ≡ true = timestamp-all (is_committed q.ruling) (covered_since o q) t (all-drop (λ (c : Commit). is_committed q.ruling c.timestamp) o.opened q.history kept.numbers.covered) is in
          sym committed ∙ (drawn-bounds o q kept t d found).0

  -- a version of the batch's own: its commit is of the batch, and writes its key
  record IsOwner (key : Key) (t : ℕ) : Type 0 where
    pub commit : Commit
    pub at : commit_at commits t ≡ Some commit
    pub writes : writes_key key commit ≡ true

  owner : (slot t : ℕ) (key : Key) → slot < q.layout.slots → q.held slot ≡ Some (version_by key (ByCommit t)) → has_timestamp commits t ≡ true → IsOwner key t
  owner slot t key lt held has =
      let c = commit_at-has commits t has in
      let d = drawn.each t c.0 c.1 in
      record { commit = c.0; at = c.1; writes = sym (ap (writes_key key) d.2) ∙ writes-held o q kept slot t key d.0 lt held d.1 }

  -- ---- one slot

  -- each key is written once
  once : (key : Key) (m : ℕ) → sum_by (λ (c : Commit). sum_by (λ (w : Wrote). cond (key_eq key w.0) m 0) c.writes) commits ≡ cond (list_any (writes_key key) commits) m 0
  once key m =
      sum-commits (λ (c : Commit). sum_by (λ (w : Wrote). cond (key_eq key w.0) m 0) c.writes) (λ (c : Commit). cond (writes_key key c) m 0) commits drawn.rising
      (λ t c found. sum-of_key key m c.writes (rising-writes t c found))
      ∙ sum-of_writer key m commits drawn.rising (alone key)

  once-if : (b : Bool) (key : Key) (m : ℕ) → (b ≡ true → list_any (writes_key key) commits ≡ true) → sum_by (λ (c : Commit). sum_by (λ (w : Wrote). cond (b && key_eq key w.0) m 0) c.writes) commits ≡ cond b m 0
  once-if true key m has = once key m ∙ ap (λ (b : Bool). cond b m 0) (has refl)
  once-if false key m has = sum-zero (λ (c : Commit). sum_by (λ (w : Wrote). cond (false && key_eq key w.0) m 0) c.writes) commits (λ c. sum-zero (λ (w : Wrote). cond (false && key_eq key w.0) m 0) c.writes (λ w. refl))

  abbrev per_write : Option Version → ℕ
  per_write v = sum_by (λ (c : Commit). sum_by (λ (w : Wrote). owned q commits w.0 v + ended q commits w.0 v) c.writes) commits

  split : (v : Option Version) → per_write v ≡ sum_by (λ (c : Commit). sum_by (λ (w : Wrote). owned q commits w.0 v) c.writes) commits + sum_by (λ (c : Commit). sum_by (λ (w : Wrote). ended q commits w.0 v) c.writes) commits
  split v =
      sum-same (λ (c : Commit). sum_by (λ (w : Wrote). owned q commits w.0 v + ended q commits w.0 v) c.writes) (λ (c : Commit). sum_by (λ (w : Wrote). owned q commits w.0 v) c.writes + sum_by (λ (w : Wrote). ended q commits w.0 v) c.writes) commits
      (λ c. sum-plus (λ (w : Wrote). owned q commits w.0 v) (λ (w : Wrote). ended q commits w.0 v) c.writes)
      ∙ sum-plus (λ (c : Commit). sum_by (λ (w : Wrote). owned q commits w.0 v) c.writes) (λ (c : Commit). sum_by (λ (w : Wrote). ended q commits w.0 v) c.writes) commits

  none-lines : (slot : ℕ) → length (of_version q commits slot None) ≡ per_write None
  none-lines slot = sym (sum-zero (λ (c : Commit). sum_by (λ (w : Wrote). owned q commits w.0 None + ended q commits w.0 None) c.writes) commits (λ c. sum-zero (λ (w : Wrote). owned q commits w.0 None + ended q commits w.0 None) c.writes (λ w. refl)))

  some-lines : (slot : ℕ) (v : Version) → (is_own commits (Some v) ≡ true → list_any (writes_key v.key) commits ≡ true) → (is_own commits (Some v) ≡ true → is_ended q commits (Some v) ≡ false)
      → length (of_version q commits slot (Some v)) ≡ per_write (Some v)
  some-lines slot v writes apart =
      by_tests (is_own commits (Some v)) refl (is_ended q commits (Some v)) refl
      ∙ sym (split (Some v) ∙ ap (λ (n : ℕ). n + sum_by (λ (c : Commit). sum_by (λ (w : Wrote). ended q commits w.0 (Some v)) c.writes) commits) (once-if (is_own commits (Some v)) v.key (version_lines q.layout) writes)
      ∙ ap (λ (n : ℕ). cond (is_own commits (Some v)) (version_lines q.layout) 0 + n)
      (once-if (is_ended q commits (Some v)) v.key 1 (λ is. (and_parts (is_last_on q v.key v.writer) (list_any (writes_key v.key) commits) is).1)))
    where
      by_tests : (a : Bool) → is_own commits (Some v) ≡ a → (b : Bool) → is_ended q commits (Some v) ≡ b
          → length (of_version q commits slot (Some v)) ≡ cond (is_own commits (Some v)) (version_lines q.layout) 0 + cond (is_ended q commits (Some v)) 1 0
      by_tests true own b is = grind (arith, parts-length slot 0 (version_lines q.layout))
      by_tests false own true is = grind (arith)
      by_tests false own false is = grind (arith)

  slot-lines : (slot : ℕ) → slot < q.layout.slots → length (lines_at q commits slot) ≡ per_write (q.held slot)
  slot-lines slot lt = by_held (q.held slot) refl
    where
      own-writes : (key : Key) (w : Writer) → q.held slot ≡ Some (version_by key w) → is_own commits (Some (version_by key w)) ≡ true → list_any (writes_key key) commits ≡ true
      own-writes key (BySession n) held is = absurd (cc is)
      own-writes key (ByCommit t) held is = let own = owner slot t key lt held is in found-any (writes_key key) commits t own.commit own.at own.writes

      own-apart : (key : Key) (w : Writer) → q.held slot ≡ Some (version_by key w) → is_own commits (Some (version_by key w)) ≡ true → is_ended q commits (Some (version_by key w)) ≡ false
      own-apart key (BySession n) held is = absurd (cc is)
      own-apart key (ByCommit t) held is = by_last (nat_eq (last_writer q.history key) t) refl
        where
          by_last : (b : Bool) → nat_eq (last_writer q.history key) t ≡ b → (b && list_any (writes_key key) commits) ≡ false
          by_last false last = refl
          by_last true last =
              let own = owner slot t key lt held is in
              let d = drawn.each t own.commit own.at in
              let clash : None ≡ Some d.0 = sym (last-undrawn o q kept key) ∙ ap (drawn_at q) (eqb-true (last_writer q.history key) t last) ∙ d.1 in
              absurd (cc clash)

      by_held : (v : Option Version) → q.held slot ≡ v → length (of_version q commits slot v) ≡ per_write v
      by_held None held = none-lines slot
      by_held (Some v) held = some-lines slot v (own-writes v.key v.writer held) (own-apart v.key v.writer held)

  -- ---- one write

  module _ (t : ℕ) (c : Commit) (found : commit_at commits t ≡ Some c) (key : Key) (r : Option (List ℕ)) (wrote : lookup_key c.writes key ≡ Some r) where
    writes-it : writes_key key c ≡ true
    writes-it = ap (λ (v : Option (Option (List ℕ))). is_some v) wrote

    -- a slot of the batch's own on the key is of this commit
    own-here : (slot : ℕ) (v : Option Version) → slot < q.layout.slots → q.held slot ≡ v → (is_own commits v && is_at key v) ≡ true → q.held slot ≡ Some (version_by key (ByCommit t))
    own-here slot None lt held is = absurd (cc is)
    own-here slot (Some v) lt held is = by_writer v.writer refl (and_parts (is_own commits (Some v)) (key_eq v.key key) is)
      where
        by_writer : (w : Writer) → v.writer ≡ w → (is_own commits (Some v) ≡ true) × (key_eq v.key key ≡ true) → q.held slot ≡ Some (version_by key (ByCommit t))
        by_writer (BySession n) by_it both = let own : is_one_of commits (BySession n) ≡ true = ap (is_one_of commits) (sym by_it) ∙ both.0 in absurd (cc own)
        by_writer (ByCommit u) by_it both =
            let has : has_timestamp commits u ≡ true = ap (is_one_of commits) (sym by_it) ∙ both.0 in
            grind (arith, key_eq-true v.key key both.1, owner slot u key lt, alone key u t, writes-it)

    -- one that is ended on the key is its newest
    ended-here : (slot : ℕ) (v : Option Version) → q.held slot ≡ v → (is_ended q commits v && is_at key v) ≡ true → q.held slot ≡ Some (newest_of q key)
    ended-here slot None held is = absurd (cc is)
    ended-here slot (Some v) held is = grind (arith, and_parts, key_eq-true, eqb-true)

    owned-sum : (row : Option (List ℕ)) → r ≡ row → sum_by (λ slot. owned q commits key (q.held slot)) (range_with_len 0 q.layout.slots) ≡ cond (is_some row) (version_lines q.layout) 0
    owned-sum (Some row) is =
        let d = drawn.each t c found in
        let has = kept.owns.by_draw t key d.0 row d.1 (ap (λ (c : Commit). lookup_key c.writes key) d.2 ∙ wrote ∙ ap (λ (x : Option (List ℕ)). Some x) is) in
        let here : (is_own commits (q.held has.0) && is_at key (q.held has.0)) ≡ true =
        ap (λ (v : Option Version). is_own commits v && is_at key v) has.2 ∙ and_from (has_timestamp commits t) (key_eq key key) (commit_at-some commits t c found) (key_eq-same key) in
        sum-one (λ slot. is_own commits (q.held slot) && is_at key (q.held slot)) (version_lines q.layout) has.0 q.layout.slots has.1 here
        (λ slot lt own. kept.owns.once slot has.0 (version_by key (ByCommit t)) lt has.1 (own-here slot (q.held slot) lt refl own) has.2)
    owned-sum None is = sum-nowhere (λ slot. is_own commits (q.held slot) && is_at key (q.held slot)) (version_lines q.layout) q.layout.slots (λ slot lt own. never slot lt (own-here slot (q.held slot) lt refl own))
      where
        never : (slot : ℕ) → slot < q.layout.slots → q.held slot ≡ Some (version_by key (ByCommit t)) → ⊥
        never slot lt held =
            let d = drawn.each t c found in
            let row = kept.owns.has slot (version_by key (ByCommit t)) lt held in
            grind (arith, in_life t d.0 d.1)

    whole : take (length q.history) q.history ≡ q.history
    whole = take_all (length q.history) q.history (omega arith)

    ended-sum : (row : Option (List ℕ)) → after q.history key ≡ row → sum_by (λ slot. ended q commits key (q.held slot)) (range_with_len 0 q.layout.slots) ≡ cond (is_some row) 1 0
    ended-sum (Some row) is =
        let has = kept.owns.since_snapshot (length q.history) (inl refl) (length q.history) key row (omega arith) (omega arith) (ap (λ (cs : List Commit). after cs key) whole ∙ is) in
        let held : q.held has.0 ≡ Some (newest_of q key) = has.2 ∙ ap (λ (cs : List Commit). Some (version_by key (ByCommit (last_writer cs key)))) whole in
        let here : (is_ended q commits (q.held has.0) && is_at key (q.held has.0)) ≡ true =
        ap (λ (v : Option Version). is_ended q commits v && is_at key v) held
        ∙ and_from (nat_eq (last_writer q.history key) (last_writer q.history key) && list_any (writes_key key) commits) (key_eq key key)
        (and_from (nat_eq (last_writer q.history key) (last_writer q.history key)) (list_any (writes_key key) commits) (eq-eqb (last_writer q.history key) (last_writer q.history key) refl) (found-any (writes_key key) commits t c found writes-it)) (key_eq-same key) in
        sum-one (λ slot. is_ended q commits (q.held slot) && is_at key (q.held slot)) 1 has.0 q.layout.slots has.1 here
        (λ slot lt end. kept.owns.once slot has.0 (newest_of q key) lt has.1 (ended-here slot (q.held slot) refl end) held)
    ended-sum None is = sum-nowhere (λ slot. is_ended q commits (q.held slot) && is_at key (q.held slot)) 1 q.layout.slots (λ slot lt end. never slot lt (ended-here slot (q.held slot) refl end))
      where
        never : (slot : ℕ) → slot < q.layout.slots → q.held slot ≡ Some (newest_of q key) → ⊥
        never slot lt held =
            let row = kept.owns.has slot (newest_of q key) lt held in
            let clash : None ≡ Some row.0 = sym is ∙ sym (wanted-newest o q kept key) ∙ row.1 in
            cc clash

    write-lines : sum_by (λ slot. owned q commits key (q.held slot) + ended q commits key (q.held slot)) (range_with_len 0 q.layout.slots) ≡ lines_of_write q (key, r)
    write-lines =
        sum-plus (λ slot. owned q commits key (q.held slot)) (λ slot. ended q commits key (q.held slot)) (range_with_len 0 q.layout.slots)
        ∙ ap (λ (n : ℕ). n + sum_by (λ slot. ended q commits key (q.held slot)) (range_with_len 0 q.layout.slots)) (owned-sum r refl)
        ∙ ap (λ (n : ℕ). cond (is_some r) (version_lines q.layout) 0 + n) (ended-sum (after q.history key) refl)

  -- ---- all

  pub lines-counted : length (lines_in q commits) ≡ lines_of q commits
  lines-counted =
      let slots : List ℕ = range_with_len 0 q.layout.slots in
      length-flat_map (lines_at q commits) slots
      ∙ sum-range (λ slot. length (lines_at q commits slot)) (λ slot. per_write (q.held slot)) 0 q.layout.slots (λ slot le lt. slot-lines slot (omega (arith, lt)))
      ∙ sum-swap (λ (slot : ℕ) (c : Commit). sum_by (λ (w : Wrote). owned q commits w.0 (q.held slot) + ended q commits w.0 (q.held slot)) c.writes) slots commits
      ∙ sum-commits (λ (c : Commit). sum_by (λ (slot : ℕ). sum_by (λ (w : Wrote). owned q commits w.0 (q.held slot) + ended q commits w.0 (q.held slot)) c.writes) slots) (λ (c : Commit). sum_by (lines_of_write q) c.writes) commits drawn.rising
      (λ t c found.
      sum-swap (λ (slot : ℕ) (w : Wrote). owned q commits w.0 (q.held slot) + ended q commits w.0 (q.held slot)) slots c.writes
      ∙ sum-writes (λ (w : Wrote). sum_by (λ (slot : ℕ). owned q commits w.0 (q.held slot) + ended q commits w.0 (q.held slot)) slots) (lines_of_write q) c.writes (rising-writes t c found) (λ k r wrote. write-lines t c found k r wrote))
      ∙ sym (sum-flat (lines_of_write q) (λ (c : Commit). c.writes) commits)

pub lines-in_hand : (o : Origin) (q : State) (hand : Hand) → Keeps o q → q.hand ≡ Some hand → length (lines_in q hand.commits) ≡ lines_of q hand.commits
lines-in_hand o q hand kept is =
    let k : KeepsHand q hand = kept.numbers.hand hand is in
    lines-counted o q hand.commits kept (record { each = λ t c found. let d = k.drawn t c found in (d.0, d.1, d.2); rising = k.rising })

pub lines-are_counted : LinesAreCounted
lines-are_counted = record { drawn = λ o q commits kept drawn. lines-counted o q commits kept drawn; in_hand = lines-in_hand }

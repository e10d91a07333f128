-- Which version each one names, over a draw.
use Rattle.std.proofs.Common.{◌≡◌, ◌≢◌, ◌⊎◌, inl, inr, ℕ, zero, suc, ◌+◌, ◌<◌, ◌≤◌, Bool, true, false, cond, List, [], ◌∷◌, length, take, drop, sym, ◌∙◌, ap, arith, Option, Some, None, slice_get}
use Rattle.std.specs.Prelude.{nat_eq, is_some}
use Rattle.std.specs.List.{list_any, list_all}
use Rattle.std.proofs.lemmas.List.Folds.{list_any-append}
use Rattle.std.proofs.lemmas.Bool.{or_parts}
use Rattle.base.specs.declared.key.Key.{Key}
use Rattle.base.specs.Keys.{lookup_key}
use Rattle.base.specs.Commits.{Commit, Writes, writes_key}
use Rattle.base.specs.Records.{is_committed}
use Rattle.machine.specs.Machine.{State, Drew, Drawn, Version, BySession, ByCommit, drawn_at, begun_of, writes_of, state_drawn, conflict_of}
use Rattle.base.proofs.Lists.{all-take}
use Rattle.state_invariant.specs.Kept.{Origin, Keeps, version_by}
use Rattle.state_invariant.specs.Links.{last_row, IsFreeToDraw, ComesAfter, by_session, by_draw, by_commit, LinksTo, Links}
use Rattle.state_invariant.proofs.Commits.{committed-bounds}
use Rattle.state_invariant.proofs.Log.{at-fact}
use Rattle.state_invariant.proofs.LastRows.{row-all}
use Rattle.state_invariant.proofs.draws.Kept.{drawn_now, drawn_at-next, found-new, found-old, held-drawn, unlike-drawn, key-found}

-- ---- the conflict test

none-at : (p : Commit → Bool) (cs : List Commit) (from place : ℕ) (c : Commit) → list_any p (drop from cs) ≡ false → from ≤ place → slice_get cs place ≡ Some c → p c ≡ false
none-at p [] from place c none low at = absurd (cc at)
none-at p (x ∷ cs) zero zero c none low at = let same : x ≡ c = cc at in ap p (sym same) ∙ (or_parts (p x) (list_any p cs) none).0
none-at p (x ∷ cs) zero (suc place) c none low at = none-at p cs zero place c (or_parts (p x) (list_any p cs) none).1 (omega arith) at
none-at p (x ∷ cs) (suc from) zero c none low at = absurd (omega (arith, low))
none-at p (x ∷ cs) (suc from) (suc place) c none low at = none-at p cs from place c none (omega (arith, low)) at

-- a session that meets no conflict may draw each key that it writes
pub free-to-draw : (q : State) (n : ℕ) (key : Key) → conflict_of q n ≡ None → is_some (lookup_key (writes_of (q.sessions n)) key) ≡ true → IsFreeToDraw q n key
free-to-draw q n key alone has = grind (arith, key-found, or_parts, list_any-append, none-at, unlike-drawn)

-- the last row's timestamp was drawn
last-before : (o : Origin) (q : State) (t : ℕ) (key : Key) (commits : List Commit) → Keeps o q → list_all (λ c. is_committed q.ruling c.timestamp) commits ≡ true → last_row commits key ≡ Some t → t < q.next
last-before o q t key commits kept all last =
    let committed : is_committed q.ruling t ≡ true = row-all (is_committed q.ruling) key None commits all (λ t e. absurd (cc e)) t last in
    omega (arith, (committed-bounds q.ruling t committed).1, kept.numbers.persisted)

pub row-before : (o : Origin) (q : State) (kept : Keeps o q) (place t : ℕ) (key : Key) → last_row (take place q.history) key ≡ Some t → t < q.next
row-before o q kept place t key last = last-before o q t key (take place q.history) kept (all-take (λ (c : Commit). is_committed q.ruling c.timestamp) place q.history kept.numbers.covered) last

pub last_row-before : (o : Origin) (q : State) (kept : Keeps o q) (t : ℕ) (key : Key) → last_row q.history key ≡ Some t → t < q.next
last_row-before o q kept t key last = last-before o q t key q.history kept kept.numbers.covered last

-- ---- the draw

module _ (o : Origin) (q : State) (n : ℕ) (write : Key × Option (List ℕ)) (rest : Writes) (kept : Keeps o q) (works : q.failed ≡ false)
    (alone : (key : Key) → writes_key key (drawn_now q (write ∷ rest)).commit ≡ true → IsFreeToDraw q n key) where
  abbrev then : State
  then = state_drawn q n (write ∷ rest)

  commit-below : (place : ℕ) (c : Commit) → slice_get q.history place ≡ Some c → c.timestamp < q.next
  commit-below place c at =
      let committed : is_committed q.ruling c.timestamp ≡ true = at-fact (λ (c : Commit). is_committed q.ruling c.timestamp) q.history 0 place c kept.numbers.covered (omega arith) at in
      omega (arith, (committed-bounds q.ruling c.timestamp committed).1, kept.numbers.persisted)

  same-writer : (t u : ℕ) → ByCommit t ≡ ByCommit u → t ≡ u
  same-writer t u e = cc e

  -- a version of an earlier commit held its slot before
  held-was : (slot t : ℕ) (key : Key) → t < q.next → then.held slot ≡ Some (version_by key (ByCommit t)) → q.held slot ≡ Some (version_by key (ByCommit t))
  held-was slot t key before held = grind (arith, held-drawn, same-writer)

  apart-next : (t : ℕ) (d : Drawn) → drawn_at q t ≡ Some d → t ≢ q.next
  apart-next t d found same = let clash : Some d ≡ None = sym found ∙ ap (drawn_at q) same ∙ drawn_at-next o q kept.numbers in absurd (cc clash)

  module _ (value : ℕ → ℕ) (links : Links o q value) where
    each : (slot : ℕ) (v : Version) → slot < q.layout.slots → then.held slot ≡ Some v → (place t earlier : ℕ) → ComesAfter o then v place → last_row (take place q.history) v.key ≡ Some t
        → earlier < q.layout.slots → q.held earlier ≡ Some (version_by v.key (ByCommit t)) → LinksTo q.layout value slot (earlier + 1)
    each slot v lt held place t earlier (by_session m key up free) last low there = by (held-drawn n q.next (q.held slot) (version_by key (BySession m)) held)
      where
        by : ((q.held slot ≡ Some (version_by key (BySession n))) × (BySession m ≡ ByCommit q.next)) ⊎ ((q.held slot ≡ Some (version_by key (BySession m))) × (nat_eq m n ≡ false)) → LinksTo q.layout value slot (earlier + 1)
        by (inl (was, writer)) = absurd (cc writer)
        by (inr (was, other)) =
            let still : then.sessions m ≡ q.sessions m = ap (λ (b : Bool). cond b (Some (Drew q.next)) (q.sessions m)) other in
            links.each slot (version_by key (BySession m)) lt was (length q.history) t earlier
            (by_session m key works record {
              covered = λ place c from at. free.covered place c (omega (arith, from, ap begun_of still)) at;
              drawn = λ t d found. free.drawn t d (found-old q (write ∷ rest) t (apart-next t d found) ∙ found);
            })
            last low there
    each slot v lt held place t earlier (by_draw u key d found writes) last low there = by (held-drawn n q.next (q.held slot) (version_by key (ByCommit u)) held)
      where
        by : ((q.held slot ≡ Some (version_by key (BySession n))) × (ByCommit u ≡ ByCommit q.next)) ⊎ ((q.held slot ≡ Some (version_by key (ByCommit u))) × (false ≡ false)) → LinksTo q.layout value slot (earlier + 1)
        by (inl (was, writer)) =
            let is : u ≡ q.next = same-writer u q.next writer in
            let both : Some (drawn_now q (write ∷ rest)) ≡ Some d = sym (found-new o q (write ∷ rest) kept.numbers) ∙ ap (drawn_at then) (sym is) ∙ found in
            let same : drawn_now q (write ∷ rest) ≡ d = cc both in
            links.each slot (version_by key (BySession n)) lt was (length q.history) t earlier (by_session n key works (alone key (ap (λ (d : Drawn). writes_key key d.commit) same ∙ writes))) last low there
        by (inr (was, other)) =
            let before : u < q.next = kept.owns.before slot u key lt was in
            links.each slot (version_by key (ByCommit u)) lt was (length q.history) t earlier (by_draw u key d (sym (found-old q (write ∷ rest) u (λ same. absurd (omega (arith, before, same)))) ∙ found) writes) last low there
    each slot v lt held place t earlier (by_commit u at key c since found is writes) last low there =
        links.each slot (version_by key (ByCommit u)) lt (held-was slot u key (omega (arith, commit-below at c found, is)) held) at t earlier (by_commit u at key c since found is writes) last low there

    pub links-drawn : Links o then value
    links-drawn = record {
      each = λ slot v lt held place t earlier after last low there. let l = each slot v lt held place t earlier after last low (held-was earlier t v.key (row-before o q kept place t v.key last) there) in record { read = l.read };
    }

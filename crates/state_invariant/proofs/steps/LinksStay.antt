-- Which version each one names: over stores, and over steps that fill no slot.
use Rattle.std.proofs.Common.{◌≡◌, ◌⊎◌, inl, inr, ℕ, ◌+◌, ◌<◌, true, false, List, [], length, take, sym, ◌∙◌, ap, subst, arith, Option, Some, None, slice_get, true≢false}
use Rattle.std.specs.Prelude.{find, nat_eq}
use Rattle.std.proofs.lemmas.Option.{slice_get_within}
use Rattle.base.specs.declared.key.Key.{Key}
use Rattle.base.specs.Commits.{Commit, writes_key}
use Rattle.base.specs.Layout.{Layout}
use Rattle.machine.specs.Machine.{State, Session, Drawn, Version, BySession, ByCommit, drawn_at, begun_of, writes_of}
use Rattle.state_invariant.specs.Kept.{Origin, Keeps, version_by, row_in, origin_of}
use Rattle.state_invariant.specs.Links.{last_row, ComesAfter, by_session, by_draw, by_commit, LinksTo, Links, SameRows}
use Rattle.state_invariant.specs.Laws.{OpenedLinks, StoresLink}
use Rattle.state_invariant.proofs.openings.Kept.{keeps-opened}

-- ---- words

pub links-same : (a : Layout) (value new : ℕ → ℕ) (slot link : ℕ) → SameRows a value new slot → LinksTo a value slot link → LinksTo a new slot link
links-same a value new slot link same links = record { read = λ image laid size words. links.read image laid size (λ w low high. words w low high ∙ same.each w low high) }

-- if the device failed, nothing is claimed about a session's version
pub links-stores : StoresLink
links-stores o q value new same links = record { each = λ slot v lt held place t earlier after last low there. by slot v held place after (same slot v lt held) (links.each slot v lt held place t earlier after last low there) }
  where
    failed : (v : Version) (place : ℕ) → ComesAfter o q v place → q.failed ≡ true → (n : ℕ) → v.writer ≡ BySession n → ⊥
    failed v place (by_session m key up free) down n is = true≢false (sym down ∙ up)
    failed v place (by_draw t key d found writes) down n is = let clash : ByCommit t ≡ BySession n = is in cc clash
    failed v place (by_commit t at key c since found timed writes) down n is = let clash : ByCommit t ≡ BySession n = is in cc clash

    by : (slot : ℕ) (v : Version) → q.held slot ≡ Some v → (place : ℕ) → ComesAfter o q v place → SameRows q.layout value new slot ⊎ ((q.failed ≡ true) × (n : ℕ) × (v.writer ≡ BySession n)) → {link : ℕ} → LinksTo q.layout value slot link → LinksTo q.layout new slot link
    by slot v held place after (inl rows) {link} l = links-same q.layout value new slot link rows l
    by slot v held place after (inr (down, n, is)) l = absurd (failed v place after down n is)

-- ---- opening

-- a session holds slots only for what it writes
pub session-writes : (o : Origin) (q : State) (slot n : ℕ) (key : Key) → Keeps o q → slot < q.layout.slots → q.held slot ≡ Some (version_by key (BySession n)) → (row : List ℕ) × (row_in (writes_of (q.sessions n)) key ≡ Some row)
session-writes o q slot n key kept lt held = kept.owns.has slot (version_by key (BySession n)) lt held

no-row : {R : Type 0} (s : Option Session) (key : Key) (row : List ℕ) → s ≡ None → row_in (writes_of s) key ≡ Some row → R
no-row s key row none wrote = let clash : None ≡ Some row = sym (ap (λ (x : Option Session). row_in (writes_of x) key) none) ∙ wrote in absurd (cc clash)

-- nothing is drawn, and every version is of a commit that was covered before: any words do
pub links-opened : OpenedLinks
links-opened image history drawn next lost q value opens up stands opened_as = record { each = λ slot v lt held place t earlier after last low there. absurd (nowhere slot v lt held place after) }
  where
    kept : Keeps (origin_of q) q
    kept = keeps-opened image history drawn next lost q opens up stands opened_as

    undrawn : q.drawn ≡ []
    undrawn = ap (λ (p : State). p.drawn) opened_as.2

    nowhere : (slot : ℕ) (v : Version) → slot < q.layout.slots → q.held slot ≡ Some v → (place : ℕ) → ComesAfter (origin_of q) q v place → ⊥
    nowhere slot v lt held place (by_session n key works free) =
        let wrote = session-writes (origin_of q) q slot n key kept lt held in no-row (q.sessions n) key wrote.0 (ap (λ (p : State). p.sessions n) opened_as.2) wrote.1
    nowhere slot v lt held place (by_draw t key d found writes) =
        let clash : ◌≡◌ {A = Option Drawn} None (Some d) = sym (ap (λ (ds : List Drawn). find (λ (d : Drawn). nat_eq d.commit.timestamp t) ds) undrawn) ∙ found in cc clash
    nowhere slot v lt held place (by_commit t at key c since found is writes) = omega (arith, since, slice_get_within q.history at c found)

-- ---- steps that fill no slot

-- the same commits, no more versions than before, and their sessions' snapshots as they were
pub record FillsNone (q q' : State) : Type 0 where
  pub layout : q'.layout ≡ q.layout
  pub history : q'.history ≡ q.history
  pub drawn : (t : ℕ) (d : Drawn) → drawn_at q' t ≡ Some d → (e : Drawn) × (drawn_at q t ≡ Some e) × (e.commit ≡ d.commit)
  pub still : (t : ℕ) (d : Drawn) → drawn_at q t ≡ Some d → (e : Drawn) × (drawn_at q' t ≡ Some e) × (e.commit ≡ d.commit)
  pub works : q'.failed ≡ false → q.failed ≡ false
  pub held : (slot : ℕ) (v : Version) → q'.held slot ≡ Some v → q.held slot ≡ Some v
  pub begun : (slot n : ℕ) (key : Key) → slot < q'.layout.slots → q'.held slot ≡ Some (version_by key (BySession n)) → begun_of (q'.sessions n) ≡ begun_of (q.sessions n)

module _ (o : Origin) (q q' : State) (c : FillsNone q q') where
  place-was : (place : ℕ) (commit : Commit) → slice_get q'.history place ≡ Some commit → slice_get q.history place ≡ Some commit
  place-was place commit at = ap (λ (cs : List Commit). slice_get cs place) (sym c.history) ∙ at

  place-is : (place : ℕ) (commit : Commit) → slice_get q.history place ≡ Some commit → slice_get q'.history place ≡ Some commit
  place-is place commit at = ap (λ (cs : List Commit). slice_get cs place) c.history ∙ at

  length-is : length q'.history ≡ length q.history
  length-is = ap (λ (cs : List Commit). length cs) c.history

  came : (slot : ℕ) (v : Version) (place : ℕ) → slot < q'.layout.slots → q'.held slot ≡ Some v → ComesAfter o q' v place → ComesAfter o q v place
  came slot v place lt held (by_session n key up free) =
      subst (ComesAfter o q (version_by key (BySession n))) (sym length-is) (by_session n key (c.works up) record {
        covered = λ place commit low at. free.covered place commit (omega (arith, low, c.begun slot n key lt held)) (place-is place commit at);
        drawn = λ t d found. let e = c.still t d found in ap (writes_key key) (sym e.2) ∙ free.drawn t e.0 e.1;
      })
  came slot v place lt held (by_draw t key d found writes) =
      let e = c.drawn t d found in
      subst (ComesAfter o q (version_by key (ByCommit t))) (sym length-is) (by_draw t key e.0 e.1 (ap (writes_key key) e.2 ∙ writes))
  came slot v place lt held (by_commit t at key commit since found is writes) = by_commit t at key commit since (place-was at commit found) is writes

  pub links-carried : (value : ℕ → ℕ) → Links o q value → Links o q' value
  links-carried value links = record {
    each = λ slot v lt held place t earlier after last low there.
        let lt_then : slot < q.layout.slots = omega (arith, lt, ap (λ (l : Layout). l.slots) c.layout) in
        let low_then : earlier < q.layout.slots = omega (arith, low, ap (λ (l : Layout). l.slots) c.layout) in
        subst (λ (l : Layout). LinksTo l value slot (earlier + 1)) (sym c.layout)
        (links.each slot v lt_then (c.held slot v held) place t earlier (came slot v place lt held after) (ap (λ (cs : List Commit). last_row (take place cs) v.key) (sym c.history) ∙ last) low_then (c.held earlier (version_by v.key (ByCommit t)) there));
  }

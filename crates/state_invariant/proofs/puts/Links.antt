-- Which version each one names, over a put.
use Rattle.std.proofs.Common.{◌≡◌, ◌≢◌, ◌⊎◌, inl, inr, ℕ, ◌+◌, ◌<◌, true, List, length, take, refl, sym, ◌∙◌, ap, subst, arith, Some, None, slice_get}
use Rattle.std.specs.Prelude.{find, nat_eq}
use Rattle.std.proofs.lemmas.Bool.{cases_eq}
use Rattle.std.proofs.lemmas.List.{take_all}
use Rattle.base.specs.declared.key.Key.{Key}
use Rattle.base.specs.declared.step.Step.TheVariants.{Put}
use Rattle.base.specs.Commits.{Commit}
use Rattle.base.specs.Layout.{Layout}
use Rattle.machine.specs.Machine.{State, Drawn, Version, BySession, ByCommit, drawn_at, begun_of, held_after_put, next_state, refusal}
use Rattle.state_invariant.specs.Kept.{Origin, Keeps, version_by}
use Rattle.state_invariant.specs.Links.{last_row, IsFreeToDraw, ComesAfter, by_session, by_draw, by_commit, LinksTo, Links, NamesNewest, SameRows}
use Rattle.state_invariant.specs.Shown.{SameWords, StoresPut, StopsPut}
use Rattle.state_invariant.specs.Laws.{PutLinks}
use Rattle.state_invariant.proofs.Lookups.{replaced-same, replaced-other}
use Rattle.state_invariant.proofs.sessions.Steps.{free_slot-some}
use Rattle.state_invariant.proofs.puts.Shown.{held-other}
use Rattle.state_invariant.proofs.steps.LinksStay.{links-same, links-stores}
use Rattle.state_invariant.proofs.steps.Links.{links-failed}

-- a put of a version by a session in a slot; the other slots, their words and all else that links speak of are as before
pub record Puts (q q' : State) (value new : ℕ → ℕ) (slot n : ℕ) (key : Key) : Type 0 where
  layout : q'.layout ≡ q.layout
  history : q'.history ≡ q.history
  drawn : q'.drawn ≡ q.drawn
  failed : q'.failed ≡ q.failed
  begun : (m : ℕ) → begun_of (q'.sessions m) ≡ begun_of (q.sessions m)
  here : q'.held slot ≡ Some (version_by key (BySession n))
  others : (other : ℕ) → other ≢ slot → q'.held other ≡ q.held other
  words : (other : ℕ) → other < q.layout.slots → other ≢ slot → SameWords q.layout value new other
  names : NamesNewest q new slot n key

module _ (o : Origin) (q q' : State) (value new : ℕ → ℕ) (slot n : ℕ) (key : Key) (p : Puts q q' value new slot n key) (links : Links o q value) where
  free-was : (m : ℕ) (k : Key) → IsFreeToDraw q' m k → IsFreeToDraw q m k
  free-was m k free = grind arith

  found-was : (t : ℕ) (d : Drawn) → drawn_at q' t ≡ Some d → drawn_at q t ≡ Some d
  found-was t d found = ap (λ (ds : List Drawn). find (λ (d : Drawn). nat_eq d.commit.timestamp t) ds) (sym p.drawn) ∙ found

  length-put : length q'.history ≡ length q.history
  length-put = ap (λ (cs : List Commit). length cs) p.history

  came-put : (v : Version) (place : ℕ) → ComesAfter o q' v place → ComesAfter o q v place
  came-put v place (by_session m k up free) = subst (ComesAfter o q (version_by k (BySession m))) (sym length-put) (by_session m k (sym p.failed ∙ up) (free-was m k free))
  came-put v place (by_draw t k d found writes) = subst (ComesAfter o q (version_by k (ByCommit t))) (sym length-put) (by_draw t k d (found-was t d found) writes)
  came-put v place (by_commit t at k c since found is writes) = by_commit t at k c since (ap (λ (cs : List Commit). slice_get cs at) (sym p.history) ∙ found) is writes

  -- the versions of commits are where they were
  commit-was : (earlier t : ℕ) (k : Key) → q'.held earlier ≡ Some (version_by k (ByCommit t)) → (earlier ≢ slot) × (q.held earlier ≡ Some (version_by k (ByCommit t)))
  commit-was earlier t k held = grind arith

  own : (place t earlier : ℕ) (v : Version) → v ≡ version_by key (BySession n) → ComesAfter o q' v place → last_row (take place q'.history) v.key ≡ Some t → earlier < q.layout.slots → q.held earlier ≡ Some (version_by v.key (ByCommit t)) → LinksTo q.layout new slot (earlier + 1)
  own place t earlier v is (by_session m k up free) last low there = grind (arith, free-was, take_all, length-put)
  own place t earlier v is (by_draw u k d found writes) last low there = let writers : ByCommit u ≡ BySession n = ap (λ (v : Version). v.writer) is in absurd (cc writers)
  own place t earlier v is (by_commit u at k c since found is_at writes) last low there = let writers : ByCommit u ≡ BySession n = ap (λ (v : Version). v.writer) is in absurd (cc writers)

  links-put : Links o q' new
  links-put = record {
    each = λ s v lt held place t earlier after last low there. subst (λ (l : Layout). LinksTo l new s (earlier + 1)) (sym p.layout)
        (by s v (omega (arith, lt, ap (λ (l : Layout). l.slots) p.layout)) held place t earlier after last (omega (arith, low, ap (λ (l : Layout). l.slots) p.layout)) there);
  }
    where
      by : (s : ℕ) (v : Version) → s < q.layout.slots → q'.held s ≡ Some v → (place t earlier : ℕ) → ComesAfter o q' v place → last_row (take place q'.history) v.key ≡ Some t → earlier < q.layout.slots → q'.held earlier ≡ Some (version_by v.key (ByCommit t))
          → LinksTo q.layout new s (earlier + 1)
      by s v lt held place t earlier after last low there =
          let was = commit-was earlier t v.key there in
          elim (cases_eq s slot) [
            | inl same ↦ grind (arith, own)
            | inr other ↦
                links-same q.layout value new s (earlier + 1) record { each = λ w low high. (p.words s lt other).each w high }
                (links.each s v lt (sym (p.others s other) ∙ held) place t earlier (came-put v place after) (ap (λ (cs : List Commit). last_row (take place cs) v.key) (sym p.history) ∙ last) low was.1)
          ]

-- ---- a put in its slot

module _ (o : Origin) (q : State) (n : ℕ) (key : Key) (row : List ℕ) (kept : Keeps o q) (none : refusal q (Put n key row) ≡ None) (slot : ℕ) (value new : ℕ → ℕ) (lt : slot < q.layout.slots)
    (held : held_after_put q n key slot ≡ Some (version_by key (BySession n))) where
  abbrev then : State
  then = next_state q (Put n key row)

  begun-same : (m : ℕ) → begun_of (then.sessions m) ≡ begun_of (q.sessions m)
  begun-same m = grind (arith, cases_eq, replaced-same, replaced-other)

  links-stored : StoresPut q.layout value new slot key row → NamesNewest q new slot n key → Links o q value → Links o then new
  links-stored stores names links = links-put o q then value new slot n key record {
    layout = refl;
    history = refl;
    drawn = refl;
    failed = refl;
    begun = begun-same;
    here = held;
    others = λ other apart. held-other o q n key row kept none slot lt held other apart;
    words = stores.others;
    names = names;
  } links

  -- whatever held the slot before is the session's
  own-version : (v : Version) → q.held slot ≡ Some v → v.writer ≡ BySession n
  own-version v at = grind (arith, own, free_slot-some, replaced-other, cases_eq)

  links-stopped : StopsPut q.layout value new slot → Links o q value → Links o (record q { failed = true }) new
  links-stopped stops links = links-stores o (record q { failed = true }) value new (λ s v lt_s at. by s v lt_s at (cases_eq s slot)) (links-failed o q value links)
    where
      by : (s : ℕ) (v : Version) → s < q.layout.slots → q.held s ≡ Some v → (s ≡ slot) ⊎ (s ≢ slot) → SameRows q.layout value new s ⊎ ((true ≡ true) × (m : ℕ) × (v.writer ≡ BySession m))
      by s v lt_s at (inl same) = inr (refl, n, own-version v (ap q.held (sym same) ∙ at))
      by s v lt_s at (inr apart) = inl record { each = λ w low high. (stops.others s lt_s apart).each w high }

pub put-links : PutLinks
put-links = record {
  stored = λ o q n key row slot value new kept none lt held stores names links. links-stored o q n key row kept none slot value new lt held stores names links;
  stopped = λ o q n key row slot value new kept none lt held stops links. links-stopped o q n key row kept none slot value new lt held stops links;
}

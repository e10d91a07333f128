-- What a commit has stamped, and what it writes.
use Rattle.std.proofs.Common.{◌≡◌, ◌⊎◌, inl, inr, ℕ, ◌<◌, Bool, true, false, cond, ◌&&◌, List, [], ◌∷◌, refl, sym, ◌∙◌, ap, arith, Option, Some, None, is_some, true≢false, nat_eq}
use Rattle.std.specs.Prelude.{unwrap_or, nat_lt, map}
use Rattle.std.specs.List.{list_any, list_all, find}
use Rattle.std.proofs.lemmas.Bool.{eqb-true, or_cases, and_parts, ltb-true}
use Rattle.base.specs.declared.key.Key.{Key}
use Rattle.base.specs.Keys.{lookup_key}
use Rattle.base.specs.Commits.{Commit, writes_key}
use Rattle.base.specs.Stands.{has_timestamp}
use Rattle.machine.specs.Machine.{State, Drawn, ByCommit, drawn_at, drawn_of}
use Rattle.base.specs.Records.{is_committed, are_rising}
use Rattle.base.proofs.Lists.{all-drop, rising-rest}
use Rattle.state_invariant.specs.Kept.{Origin, Keeps, DrawsInOrder, version_by, row_by, commit_at, commits_of_life, covered_since}
use Rattle.state_invariant.specs.Shown.{is_key_stamped, is_drawn_on}
use Rattle.state_invariant.proofs.Lists.{rising-above}
use Rattle.state_invariant.proofs.Commits.{commit_at-none, commit_at-append, commit_at-drawn, timestamp-all}
use Rattle.state_invariant.proofs.stamps.Stamped.{stamped-among}
use Rattle.device_invariant.proofs.PresentValues.{drawn-bounds}

-- ---- stamps

pub stamped-writes : (d : Drawn) (key : Key) → is_key_stamped d key ≡ true → writes_key key d.commit ≡ true
stamped-writes d key is = stamped-among key d.stamped d.commit.writes is

-- ---- drawn commits

-- if all are above a number, so is one that is found
above-on : (low t : ℕ) (key : Key) (drawn : List Drawn) → list_all (nat_lt low) (map (λ (d : Drawn). d.commit.timestamp) drawn) ≡ true
    → list_any (λ d. nat_eq d.commit.timestamp t && writes_key key d.commit) drawn ≡ true → low < t
above-on low t key [] all any = absurd (cc any)
above-on low t key (d ∷ drawn) all any = grind (arith, and_parts, or_cases, eqb-true, ltb-true, above-on low t key drawn)

found-on : (t : ℕ) (key : Key) (drawn : List Drawn) → are_rising (map (λ (d : Drawn). d.commit.timestamp) drawn) ≡ true → list_any (λ d. nat_eq d.commit.timestamp t && writes_key key d.commit) drawn ≡ true
    → (d : Drawn) × (find (λ (d : Drawn). nat_eq d.commit.timestamp t) drawn ≡ Some d) × (writes_key key d.commit ≡ true)
found-on t key [] rising any = absurd (cc any)
found-on t key (d ∷ drawn) rising any = by_test (nat_eq d.commit.timestamp t) refl (or_cases (nat_eq d.commit.timestamp t && writes_key key d.commit) (list_any (λ d. nat_eq d.commit.timestamp t && writes_key key d.commit) drawn) any)
    (found-on t key drawn (rising-rest d.commit.timestamp (map (λ (d : Drawn). d.commit.timestamp) drawn) rising))
  where
    by_test : (b : Bool) → nat_eq d.commit.timestamp t ≡ b → ((nat_eq d.commit.timestamp t && writes_key key d.commit) ≡ true) ⊎ (list_any (λ d. nat_eq d.commit.timestamp t && writes_key key d.commit) drawn ≡ true)
        → (list_any (λ d. nat_eq d.commit.timestamp t && writes_key key d.commit) drawn ≡ true → (d : Drawn) × (find (λ (d : Drawn). nat_eq d.commit.timestamp t) drawn ≡ Some d) × (writes_key key d.commit ≡ true))
        → (e : Drawn) × (cond b (Some d) (find (λ (d : Drawn). nat_eq d.commit.timestamp t) drawn) ≡ Some e) × (writes_key key e.commit ≡ true)
    by_test true is (inl here) rest = (d, refl, (and_parts (nat_eq d.commit.timestamp t) (writes_key key d.commit) here).1)
    by_test true is (inr later) rest =
        let more : d.commit.timestamp < t = above-on d.commit.timestamp t key drawn (rising-above d.commit.timestamp (map (λ (d : Drawn). d.commit.timestamp) drawn) rising) later in
        absurd (omega (arith, more, eqb-true d.commit.timestamp t is))
    by_test false is (inl here) rest = absurd (true≢false (sym (and_parts (nat_eq d.commit.timestamp t) (writes_key key d.commit) here).0 ∙ is))
    by_test false is (inr later) rest = rest later

-- a commit on a key is found by its timestamp
pub drawn-on : {o : Origin} (q : State) (key : Key) (t : ℕ) → DrawsInOrder o q → is_drawn_on q key t ≡ true → (d : Drawn) × (drawn_at q t ≡ Some d) × (writes_key key d.commit ≡ true)
drawn-on q key t order any = found-on t key q.drawn order.rising any

-- a drawn commit writes the keys of the slots that it holds
pub writes-held : (o : Origin) (q : State) (kept : Keeps o q) (slot t : ℕ) (key : Key) (d : Drawn) → slot < q.layout.slots → q.held slot ≡ Some (version_by key (ByCommit t)) → drawn_at q t ≡ Some d → writes_key key d.commit ≡ true
writes-held o q kept slot t key d lt held found =
    let has = kept.owns.has slot (version_by key (ByCommit t)) lt held in
    by_row (lookup_key d.commit.writes key) has.0 (sym (ap (row_by o q key t) in_life) ∙ has.1)
  where
    uncovered : (b : Bool) → has_timestamp (covered_since o q) t ≡ b → b ≡ false
    uncovered false is = refl
    uncovered true is =
        let committed : is_committed q.ruling t ≡ true = timestamp-all (is_committed q.ruling) (covered_since o q) t (all-drop (λ (c : Commit). is_committed q.ruling c.timestamp) o.opened q.history kept.numbers.covered) is in
        sym committed ∙ (drawn-bounds o q kept t d found).0

    in_life : commit_at (commits_of_life o q) t ≡ Some d.commit
    in_life = grind (arith, commit_at-append (covered_since o q) (drawn_of q) t, commit_at-none (covered_since o q) t (uncovered (has_timestamp (covered_since o q) t) refl), commit_at-drawn q t)

    by_row : (w : Option (Option (List ℕ))) → (row : List ℕ) → unwrap_or w None ≡ Some row → is_some w ≡ true
    by_row None row is = absurd (cc is)
    by_row (Some value) row is = refl

-- A stamp.
use Rattle.std.proofs.Common.{◌||◌, ◌≡◌, ◌≢◌, ◌⊎◌, inl, inr, ℕ, ◌+◌, Bool, true, false, cond, not, ◌&&◌, List, [], ◌∷◌, ◌++◌, map, length, refl, sym, ◌∙◌, ap, arith, Option, Some, None, find}
use Rattle.std.specs.Prelude.{nat_eq, nat_lt, nat_le}
use Rattle.std.specs.List.{list_any, list_all}
use Rattle.std.specs.Option.{option_map}
use Rattle.std.proofs.lemmas.Bool.{eq-eqb, ne_eqb}
use Rattle.base.specs.declared.step.Step.TheVariants.{Stamp}
use Rattle.base.specs.Keys.{lookup_key, is_rising}
use Rattle.base.specs.Commits.{Commit, writes_key}
use Rattle.base.specs.Records.{is_committed, are_rising}
use Rattle.base.specs.Stands.{has_timestamp}
use Rattle.machine.specs.Machine.{State, Drew, Drawn, Hand, Version, drawn_at, drawn_of, timestamp_of, counted, is_stamped, next_state, refusal}
use Rattle.machine.proofs.stamps.Drawn.{counted-commit}
use Rattle.state_invariant.specs.Kept.{Origin, KeepsHand, KeepsOrigin, Keeps, wanted, covered_since}
use Rattle.state_invariant.proofs.steps.Refusals.{allowed, stamping}

-- the state after the stamp of the commit with this timestamp
abbrev pub with_stamp : State → ℕ → State
with_stamp q t = record q { drawn = map (counted t) q.drawn }

-- ---- the drawn commits after it

pub counted-this : (t : ℕ) (d : Drawn) → d.commit.timestamp ≡ t → counted t d ≡ record { commit = d.commit; stamped = d.stamped + 1 }
counted-this t d is = ap (λ (b : Bool). cond b (record { commit = d.commit; stamped = d.stamped + 1 }) d) (eq-eqb d.commit.timestamp t is)

pub counted-other : (t : ℕ) (d : Drawn) → d.commit.timestamp ≢ t → counted t d ≡ d
counted-other t d apart = ap (λ (b : Bool). cond b (record { commit = d.commit; stamped = d.stamped + 1 }) d) (ne_eqb d.commit.timestamp t apart)

pub found-counted : (t u : ℕ) (ds : List Drawn) → find (λ d. nat_eq d.commit.timestamp u) (map (counted t) ds) ≡ option_map (counted t) (find (λ d. nat_eq d.commit.timestamp u) ds)
found-counted t u [] = refl
found-counted t u (d ∷ ds) = grind (arith, found-counted t u ds, counted-commit)

timestamps-counted : (t : ℕ) (ds : List Drawn) → map (λ d. d.commit.timestamp) (map (counted t) ds) ≡ map (λ d. d.commit.timestamp) ds
timestamps-counted t [] = refl
timestamps-counted t (d ∷ ds) = λ i. (counted-commit t d i).timestamp ∷ timestamps-counted t ds i

pub commits-counted : (t : ℕ) (ds : List Drawn) → map (λ d. d.commit) (map (counted t) ds) ≡ map (λ d. d.commit) ds
commits-counted t [] = refl
commits-counted t (d ∷ ds) = λ i. counted-commit t d i ∷ commits-counted t ds i

pub any-counted : (t : ℕ) (p : Commit → Bool) (ds : List Drawn) → list_any (λ d. p d.commit) (map (counted t) ds) ≡ list_any (λ d. p d.commit) ds
any-counted t p [] = refl
any-counted t p (d ∷ ds) = λ i. p (counted-commit t d i) || any-counted t p ds i

all-counted : (t : ℕ) (p : Commit → Bool) (ds : List Drawn) → list_all (λ d. p d.commit) (map (counted t) ds) ≡ list_all (λ d. p d.commit) ds
all-counted t p [] = refl
all-counted t p (d ∷ ds) = λ i. p (counted-commit t d i) && all-counted t p ds i

-- none is counted past its end
within-counted : (t : ℕ) (ds : List Drawn) → list_all (λ d. nat_le d.stamped (length d.commit.writes)) ds ≡ true → list_any (λ d. nat_eq d.commit.timestamp t && is_stamped d) ds ≡ false
    → list_all (λ d. nat_le d.stamped (length d.commit.writes)) (map (counted t) ds) ≡ true
within-counted t [] all none = refl
within-counted t (d ∷ ds) all none = grind (arith, within-counted t ds)

-- ---- what is kept

module _ (o : Origin) (q : State) (t : ℕ) (unfinished : list_any (λ d. nat_eq d.commit.timestamp t && is_stamped d) q.drawn ≡ false) (kept : Keeps o q) where
  abbrev then : State
  then = with_stamp q t

  -- those that are found were there, with the same commit
  pub found-before : (u : ℕ) (d : Drawn) → drawn_at then u ≡ Some d → (e : Drawn) × (drawn_at q u ≡ Some e) × (d ≡ counted t e)
  found-before u d found = grind (arith, found-counted)

  pub found-after : (u : ℕ) (d : Drawn) → drawn_at q u ≡ Some d → drawn_at then u ≡ Some (counted t d)
  found-after u d found = found-counted t u q.drawn ∙ ap (λ (x : Option Drawn). option_map (counted t) x) found

  -- the commit isn't stamped as a whole
  not-stamped : (ds : List Drawn) (u : ℕ) (d : Drawn) → list_any (λ d. nat_eq d.commit.timestamp t && is_stamped d) ds ≡ false → find (λ (d : Drawn). nat_eq d.commit.timestamp u) ds ≡ Some d → is_stamped d ≡ true → d.commit.timestamp ≢ t
  not-stamped [] u d none found stamped is = cc found
  not-stamped (x ∷ ds) u d none found stamped is = grind (arith, not-stamped ds u d, eq-eqb)

  life-stamped : drawn_of then ≡ drawn_of q
  life-stamped = commits-counted t q.drawn

  hand-stamped : (hand : Hand) → KeepsHand q hand → KeepsHand then hand
  hand-stamped hand k = record {
    extends = k.extends;
    persisted = k.persisted;
    window = k.window;
    gaps = k.gaps;
    longs = λ u any. let l = k.longs u any in (ap (λ (cs : List Commit). has_timestamp cs u) life-stamped ∙ l.0, l.1);
    drawn = λ u commit found. drawn u commit (k.drawn u commit found);
  }
    where
      drawn : (u : ℕ) (commit : Commit) → (d : Drawn) × (drawn_at q u ≡ Some d) × (d.commit ≡ commit) × (is_stamped d ≡ true) → (d : Drawn) × (drawn_at then u ≡ Some d) × (d.commit ≡ commit) × (is_stamped d ≡ true)
      drawn u commit (d, found, is, stamped) = (d, found-after u d found ∙ ap (λ (x : Drawn). Some x) (counted-other t d (not-stamped q.drawn u d unfinished found stamped)), is, stamped)

  origin-stamped : KeepsOrigin o then
  origin-stamped = let k = kept.numbers.origin in record {
    covered = k.covered;
    drawn = all-counted t (λ (c : Commit). nat_lt o.ruling.persisted c.timestamp) q.drawn ∙ k.drawn;
    each = λ u above below. ap (λ (cs : List Commit). has_timestamp (covered_since o q ++ cs) u) life-stamped ∙ k.each u above below;
    gaps = k.gaps;
  }

  pub wanted-stamped : (v : Version) → wanted o then v ≡ wanted o q v
  wanted-stamped v = grind (arith, life-stamped)

  pub keeps-stamped : Keeps o then
  keeps-stamped = let n = kept.numbers in let k = kept.draws in record {
    numbers = record {
      ruling = n.ruling;
      drawn = all-counted t (λ (c : Commit). not (is_committed q.ruling c.timestamp) && nat_lt c.timestamp q.next) q.drawn ∙ n.drawn;
      longs = λ u any. ap (λ (cs : List Commit). has_timestamp cs u) life-stamped ∙ n.longs u any;
      hand = λ hand is. hand-stamped hand (n.hand hand is);
      origin = origin-stamped;
      snapshots = n.snapshots;
      numbered = n.numbered;
    };
    draws = record {
      rising = ap are_rising (timestamps-counted t q.drawn) ∙ k.rising;
      apart = λ u w d e key found_d found_e writes_d writes_e.
          let a = found-before u d found_d in
          let b = found-before w e found_e in
          k.apart u w a.0 b.0 key a.1 b.1 (sym (ap (λ (c : Commit). writes_key key c) (ap (λ (x : Drawn). x.commit) a.2 ∙ counted-commit t a.0)) ∙ writes_d) (sym (ap (λ (c : Commit). writes_key key c) (ap (λ (x : Drawn). x.commit) b.2 ∙ counted-commit t b.0)) ∙ writes_e);
      counted = within-counted t q.drawn k.counted unfinished;
      in_order = all-counted t (λ (c : Commit). is_rising (map (λ write. write.0) c.writes)) q.drawn ∙ k.in_order;
      sorted = k.sorted;
      drew = λ m u is. drew u (k.drew m u is);
      rises = record {
        covered = k.rises.covered;
        drawn = λ u d key found writes. let a = found-before u d found in k.rises.drawn u a.0 key a.1 (sym (ap (λ (c : Commit). writes_key key c) (ap (λ (x : Drawn). x.commit) a.2 ∙ counted-commit t a.0)) ∙ writes);
      };
    };
    owns = let w = kept.owns in record {
      once = w.once;
      has = λ slot v lt at. let old = w.has slot v lt at in (old.0, wanted-stamped v ∙ old.1);
      before = w.before;
      by_session = w.by_session;
      by_draw = λ u key d row found wrote. let a = found-before u d found in w.by_draw u key a.0 row a.1 (sym (ap (λ (c : Commit). lookup_key c.writes key) (ap (λ (x : Drawn). x.commit) a.2 ∙ counted-commit t a.0)) ∙ wrote);
      since_snapshot = w.since_snapshot;
    };
  }
    where
      drew : (u : ℕ) → (has_timestamp q.history u ≡ true) ⊎ ((d : Drawn) × (drawn_at q u ≡ Some d)) → (has_timestamp q.history u ≡ true) ⊎ ((d : Drawn) × (drawn_at then u ≡ Some d))
      drew u (inl covered) = inl covered
      drew u (inr (d, found)) = inr (counted t d, found-after u d found)

-- what is known if a stamp isn't refused
pub stamp-facts : (q : State) (n : ℕ) → refusal q (Stamp n) ≡ None
    → (q.sessions n ≡ Some (Drew (timestamp_of (q.sessions n)))) × (has_timestamp q.history (timestamp_of (q.sessions n)) ≡ false) × (list_any (λ d. nat_eq d.commit.timestamp (timestamp_of (q.sessions n)) && is_stamped d) q.drawn ≡ false)
stamp-facts q n none = grind (arith, allowed, stamping)

pub keeps-stamp : (o : Origin) (q : State) (n : ℕ) → Keeps o q → refusal q (Stamp n) ≡ None → Keeps o (next_state q (Stamp n))
keeps-stamp o q n kept none = keeps-stamped o q (timestamp_of (q.sessions n)) (stamp-facts q n none).2 kept

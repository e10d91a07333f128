-- What is known of the write that a stamp deals with.
use Rattle.std.proofs.Common.{◌≡◌, ◌≢◌, ◌⊎◌, inl, inr, ℕ, zero, suc, ◌<◌, true, false, ◌||◌, List, [], ◌∷◌, map, take, refl, sym, ◌∙◌, ap, arith, add-one}
use Rattle.std.specs.Prelude.{Option, Some, nat_eq, slice_get}
use Rattle.std.specs.List.{list_any}
use Rattle.std.proofs.lemmas.Bool.{and_parts, cases_eq, or_parts}
use Rattle.base.specs.declared.key.Key.{Key}
use Rattle.base.specs.Keys.{key_eq, is_rising}
use Rattle.base.specs.Commits.{Writes}
use Rattle.machine.specs.Machine.{State, Drawn, drawn_at, timestamp_of, counted, stamped_write}
use Rattle.base.proofs.Keys.{keys-rest}
use Rattle.state_invariant.specs.Kept.{Origin, Keeps}
use Rattle.state_invariant.specs.Shown.{is_key_stamped}
use Rattle.state_invariant.proofs.Lookups.{find-all}
use Rattle.state_invariant.proofs.Lists.{any-take_more}
use Rattle.state_invariant.proofs.Commits.{drawn_at-timestamp}
use Rattle.state_invariant.proofs.stamps.Kept.{counted-this, counted-other}

-- ---- keys in order

abbrev pub Less : Key → Key → Type 0
Less a b = (a.table < b.table) ⊎ ((a.table ≡ b.table) × (a.key < b.key))

pub less-apart : (a b : Key) → Less a b → a ≡ b → ⊥
less-apart a b d same = grind (arith)

abbrev pub keys_of : Writes → List Key
keys_of writes = map (λ write. write.0) writes

pub less-later : (a : Key) (writes : Writes) (i : ℕ) (key : Key) (row : Option (List ℕ)) → is_rising (a ∷ keys_of writes) ≡ true → slice_get writes i ≡ Some (key, row) → Less a key
less-later a [] i key row rising at = absurd (cc at)
less-later a (write ∷ writes) zero key row rising at = grind (arith)
less-later a (write ∷ writes) (suc i) key row rising at = grind (arith, and_parts, less-later write.0 writes i key row)

-- the key of a write isn't one of those before it
pub none-before : (writes : Writes) (i : ℕ) (key : Key) (row : Option (List ℕ)) → is_rising (keys_of writes) ≡ true → slice_get writes i ≡ Some (key, row) → list_any (λ write. key_eq write.0 key) (take i writes) ≡ false
none-before [] i key row rising at = absurd (cc at)
none-before (write ∷ writes) zero key row rising at = refl
none-before (write ∷ writes) (suc i) key row rising at = grind (arith, none-before writes i key row, keys-rest, less-later)

-- ---- the write

pub record IsNext (q : State) (t : ℕ) (key : Key) (row : Option (List ℕ)) : Type 0 where
  pub drawn : Drawn
  pub found : drawn_at q t ≡ Some drawn
  pub at : slice_get drawn.commit.writes drawn.stamped ≡ Some (key, row)

pub next-of : (q : State) (n : ℕ) (key : Key) (row : Option (List ℕ)) → stamped_write q n ≡ Some (key, row) → IsNext q (timestamp_of (q.sessions n)) key row
next-of q n key row write = grind (arith)

module _ (o : Origin) (q : State) (kept : Keeps o q) (t : ℕ) (key : Key) (row : Option (List ℕ)) (next : IsNext q t key row) where
  pub not_stamped : is_key_stamped next.drawn key ≡ false
  not_stamped =
      none-before next.drawn.commit.writes next.drawn.stamped key row
      (find-all (λ (d : Drawn). nat_eq d.commit.timestamp t) (λ (d : Drawn). is_rising (keys_of d.commit.writes)) q.drawn next.drawn kept.draws.in_order next.found) next.at

  -- what isn't stamped after it wasn't stamped before, and isn't a write of its key
  pub unstamped-before : (u : ℕ) (e : Drawn) (other : Key) → drawn_at q u ≡ Some e → is_key_stamped (counted t e) other ≡ false → (is_key_stamped e other ≡ false) × (u ≡ t → key_eq key other ≡ false)
  unstamped-before u e other found not_yet = by (cases_eq u t)
    where
      by : (u ≡ t) ⊎ (u ≢ t) → (is_key_stamped e other ≡ false) × (u ≡ t → key_eq key other ≡ false)
      by (inr apart) = (
        ap (λ (x : Drawn). is_key_stamped x other) (sym (counted-other t e (λ same. apart (sym (drawn_at-timestamp q u e found) ∙ same)))) ∙ not_yet,
        λ same. absurd (apart same),
      )
      by (inl same) =
          let one : Some e ≡ Some next.drawn = sym found ∙ ap (drawn_at q) same ∙ next.found in
          let is : e ≡ next.drawn = cc one in
          let d : Drawn = next.drawn in
          let more : is_key_stamped (counted t d) other ≡ (is_key_stamped d other || key_eq key other) =
          ap (λ (x : Drawn). is_key_stamped x other) (counted-this t d (drawn_at-timestamp q t d next.found))
          ∙ ap (λ (n : ℕ). list_any (λ write. key_eq write.0 other) (take n d.commit.writes)) (add-one d.stamped)
          ∙ any-take_more (λ write. key_eq write.0 other) d.commit.writes d.stamped (key, row) next.at in
          let both = or_parts (is_key_stamped d other) (key_eq key other) (sym more ∙ ap (λ (x : Drawn). is_key_stamped (counted t x) other) (sym is) ∙ not_yet) in
          (ap (λ (x : Drawn). is_key_stamped x other) is ∙ both.0, λ same. both.1)

-- What the index has of a key once commits are covered.
use Rattle.std.proofs.Common.{◌≡◌, ◌⊎◌, inl, inr, ℕ, ◌+◌, ◌<◌, Bool, true, false, ◌||◌, cond, List, [], ◌∷◌, ◌++◌, length, take, map, refl, sym, ◌∙◌, ap, subst, arith}
use Rattle.std.specs.Prelude.{Option, Some, None, is_some, unwrap_or, fold, slice_get, slice_index_or, All}
use Rattle.std.specs.List.{list_any}
use Rattle.std.proofs.lemmas.List.{take_more}
use Rattle.std.proofs.lemmas.List.Sums.{fold-append}
use Rattle.std.proofs.lemmas.Option.{get_or_from_slice_get}
use Rattle.std.proofs.lemmas.List.Elements.{All-head, All-tail}
use Rattle.base.specs.declared.key.Key.{Key}
use Rattle.base.specs.Keys.{key_eq, lookup_key}
use Rattle.base.specs.Commits.{Commit, writes_key}
use Rattle.machine.specs.Machine.{State, Version, Writer, ByCommit, Drawn as PlainDrawn}
use Rattle.base.proofs.Keys.{key_eq-true}
use Rattle.txn.specs.declared.drawn.DrawnCommit.{DrawnCommit}
use Rattle.txn.specs.declared.write.Write.{Write}
use Rattle.txn.specs.WriteSets.{plain_writes}
use Rattle.index.specs.declared.entry.Entry.{Entry}
use Rattle.index.specs.Entries.{entry_at, covered, live_of, Sets, KeepsRoom}
use Rattle.simulation.specs.steps.Moves.{IsSlotOf}
use Rattle.state_invariant.specs.Kept.{Origin, Keeps, row_in, version_by}
use Rattle.state_invariant.specs.Links.{last_row}
use Rattle.session_steps.specs.Shows.{plain_drawn, HasItsSlot, HasVersionOf}
use Rattle.session_steps.specs.Covering.{covered_by, covered_by_all, covered_by_commits, CoversWrites}

-- ---- which keys are written

-- one of the writes is under the key
abbrev pub has_key : Key → List Write → Bool
has_key key writes = list_any (λ w. key_eq w.key key) writes

pub written-plain : (key : Key) (writes : List Write) → is_some (lookup_key (plain_writes writes) key) ≡ has_key key writes
written-plain key [] = refl
written-plain key (w ∷ writes) = grind (arith, written-plain key writes) steps 800000

-- one of the commits writes the key
pub written-commits : (key : Key) (ds : List DrawnCommit) → list_any (writes_key key) (map (λ (d : PlainDrawn). d.commit) (map plain_drawn ds)) ≡ list_any (λ (d : DrawnCommit). has_key key d.writes) ds
written-commits key [] = refl
written-commits key (d ∷ ds) = λ i. written-plain key d.writes i || written-commits key ds i

-- ---- the entry

-- one write more
pub covers-next : (items : List Write) (i : ℕ) (w : Write) (old mid new : List (Key × Entry)) → i < length items → slice_get items i ≡ Some w → CoversWrites (take i items) old mid → Sets mid new w.key (covered w.slot (entry_at mid w.key)) → KeepsRoom mid new
    → CoversWrites (take (i + 1) items) old new
covers-next items i w old mid new lt at covers sets room = subst (λ (ws : List Write). CoversWrites ws old new) (sym one_more) record {
  entries = λ key. sets key ∙ by key (key_eq w.key key) refl ∙ sym (fold-append (covered_by key) (entry_at old key) (take i items) (w ∷ []));
  room = λ key. room key ∙ covers.room key;
}
  where
    one_more : take (i + 1) items ≡ take i items ++ w ∷ []
    one_more = take_more items i w lt ∙ ap (λ (x : Write). take i items ++ x ∷ []) (get_or_from_slice_get items i w w at)

    by : (key : Key) (b : Bool) → key_eq w.key key ≡ b
        → cond b (covered w.slot (entry_at mid w.key)) (entry_at mid key) ≡ cond b (covered w.slot (covered_by_all key (entry_at old key) (take i items))) (covered_by_all key (entry_at old key) (take i items))
    by key true is = ap (λ (k : Key). covered w.slot (entry_at mid k)) (key_eq-true w.key key is) ∙ ap (covered w.slot) (covers.entries key)
    by key false is = covers.entries key

-- the slots of the entry are the state's, the newest has a version of the key, and it has this last timestamp
pub record Within (q : State) (key : Key) (last : Option ℕ) (e : Entry) : Type 0 where
  pub last_is : e.last ≡ last
  pub only : (slot : ℕ) → e.newest ≡ Some slot → HasVersionOf q key slot
  pub drawn : (slot : ℕ) → e.drawn ≡ Some slot → slot < q.layout.slots

-- the slot of a write under the key is the version's
abbrev pub IsOwn : State → Version → Key → Write → Type 0
IsOwn q v key w = key_eq w.key key ≡ true → IsSlotOf q v w.slot

module _ (q : State) (v : Version) (key : Key) (last : Option ℕ) (t : ℕ) (written : v ≡ version_by key (ByCommit t)) where
  within-covered : (slot : Option ℕ) (e : Entry) → IsSlotOf q v slot → Within q key last e → Within q key last (covered slot e)
  within-covered (Some slot) e is within = record {
    last_is = within.last_is;
    only = λ other at. let same : slot ≡ other = cc at in subst (HasVersionOf q key) same (record { within = is.0; timestamp = t; held = is.1 ∙ ap (λ (x : Version). Some x) written });
    drawn = λ other at. absurd (cc at);
  }
  within-covered None e is within = record { last_is = within.last_is; only = within.only; drawn = λ other at. absurd (cc at) }

  within-one : (w : Write) (e : Entry) → IsOwn q v key w → Within q key last e → Within q key last (covered_by key e w)
  within-one w e own within = grind (arith, within-covered) steps 800000

  within-writes : (writes : List Write) (e : Entry) → All (IsOwn q v key) writes → Within q key last e → Within q key last (covered_by_all key e writes)
  within-writes [] e own within = within
  within-writes (w ∷ writes) e own within = within-writes writes (covered_by key e w) (All-tail (IsOwn q v key) w writes own) (within-one w e (All-head (IsOwn q v key) w writes own) within)

  pub within-commits : (ds : List DrawnCommit) (e : Entry) → All (λ (d : DrawnCommit). All (IsOwn q v key) d.writes) ds → Within q key last e → Within q key last (covered_by_commits key e ds)
  within-commits [] e own within = within
  within-commits (d ∷ ds) e own within =
      within-commits ds (covered_by_all key e d.writes) (All-tail (λ (d : DrawnCommit). All (IsOwn q v key) d.writes) d ds own) (within-writes d.writes e (All-head (λ (d : DrawnCommit). All (IsOwn q v key) d.writes) d ds own) within)

  live-covered : (slot : Option ℕ) (e : Entry) → IsSlotOf q v slot → IsSlotOf q v (live_of (covered slot e))
  live-covered a e is = grind (arith)

  -- the live slot is the version's, or one of the writes is under the key
  abbrev pub IsLiveOr : Entry → Bool → Type 0
  IsLiveOr e written = IsSlotOf q v (live_of e) ⊎ (written ≡ true)

  live-one : (w : Write) (e : Entry) (rest : Bool) → IsOwn q v key w → IsLiveOr e (key_eq w.key key || rest) → IsLiveOr (covered_by key e w) rest
  live-one w e rest own either = grind (arith, live-covered) steps 800000

  live-writes : (writes : List Write) (e : Entry) (rest : Bool) → All (IsOwn q v key) writes → IsLiveOr e (has_key key writes || rest) → IsLiveOr (covered_by_all key e writes) rest
  live-writes [] e rest own either = either
  live-writes (w ∷ writes) e rest own either =
      live-writes writes (covered_by key e w) rest (All-tail (IsOwn q v key) w writes own)
      (live-one w e (has_key key writes || rest) (All-head (IsOwn q v key) w writes own) (subst (λ (b : Bool). IsLiveOr e b) (grouped (key_eq w.key key) (has_key key writes) rest) either))
    where
      grouped : (a b c : Bool) → ((a || b) || c) ≡ (a || (b || c))
      grouped true b c = refl
      grouped false b c = refl

  pub live-commits : (ds : List DrawnCommit) (e : Entry) → All (λ (d : DrawnCommit). All (IsOwn q v key) d.writes) ds → IsLiveOr e (list_any (λ (d : DrawnCommit). has_key key d.writes) ds) → IsSlotOf q v (live_of (covered_by_commits key e ds))
  live-commits [] e own (inl is) = is
  live-commits [] e own (inr none) = absurd (cc none)
  live-commits (d ∷ ds) e own either =
      live-commits ds (covered_by_all key e d.writes) (All-tail (λ (d : DrawnCommit). All (IsOwn q v key) d.writes) d ds own)
      (live-writes d.writes e (list_any (λ (d : DrawnCommit). has_key key d.writes) ds) (All-head (λ (d : DrawnCommit). All (IsOwn q v key) d.writes) d ds own) either)

-- ---- the drawn version

-- it has none, or one of the writes is under the key
abbrev pub IsNoneOr : Entry → Bool → Type 0
IsNoneOr e written = (e.drawn ≡ None) ⊎ (written ≡ true)

none-covered : (slot : Option ℕ) (e : Entry) → (covered slot e).drawn ≡ None
none-covered a e = grind (arith)

none-writes : (key : Key) (writes : List Write) (e : Entry) (rest : Bool) → IsNoneOr e (has_key key writes || rest) → IsNoneOr (covered_by_all key e writes) rest
none-writes key [] e rest either = either
none-writes key (w ∷ writes) e rest either = grind (arith, none-writes key writes (covered_by key e w) rest, none-covered)

-- once a write under the key is covered, none is drawn
pub none-commits : (key : Key) (ds : List DrawnCommit) (e : Entry) → IsNoneOr e (list_any (λ (d : DrawnCommit). has_key key d.writes) ds) → (covered_by_commits key e ds).drawn ≡ None
none-commits key [] e (inl none) = none
none-commits key [] e (inr written) = absurd (cc written)
none-commits key (d ∷ ds) e either = none-commits key ds (covered_by_all key e d.writes) (none-writes key d.writes e (list_any (λ (d : DrawnCommit). has_key key d.writes) ds) either)

-- if no write is under the key, the entry stays
stays-all : (key : Key) (writes : List Write) (e : Entry) → has_key key writes ≡ false → covered_by_all key e writes ≡ e
stays-all key [] e none = refl
stays-all key (w ∷ writes) e none = grind (arith, stays-all key writes e) steps 800000

pub stays-commits : (key : Key) (ds : List DrawnCommit) (e : Entry) → list_any (λ (d : DrawnCommit). has_key key d.writes) ds ≡ false → covered_by_commits key e ds ≡ e
stays-commits key [] e none = refl
stays-commits key (d ∷ ds) e none = grind (arith, stays-all, stays-commits key ds e) steps 800000

-- ---- the newest row version

-- the slot that a version holds is the one that it has
slot-of : (o : Origin) (q : State) (v : Version) (x : Option ℕ) (slot : ℕ) → Keeps o q → slot < q.layout.slots → q.held slot ≡ Some v → IsSlotOf q v x → x ≡ Some slot
slot-of o q v None slot kept lt held none = absurd (none slot lt held)
slot-of o q v (Some other) slot kept lt held has = ap (λ (k : ℕ). Some k) (kept.owns.once other slot v has.0 lt has.1 held)

module _ (o : Origin) (q : State) (kept : Keeps o q) (key : Key) where
  -- of these commits the last that wrote a row at the key
  abbrev row_after : Option ℕ → DrawnCommit → Option ℕ
  row_after last d = cond (is_some (row_in (plain_writes d.writes) key)) (Some d.timestamp) last

  -- the entry has the slot of the version with this timestamp, if a slot holds that version
  abbrev IsNewestAt : Option ℕ → Entry → Type 0
  IsNewestAt last e = (t slot : ℕ) → last ≡ Some t → slot < q.layout.slots → q.held slot ≡ Some (version_by key (ByCommit t)) → e.newest ≡ Some slot

  -- a slot of the version of a write that is covered is the newest
  newest-writes : (v : Version) (slot : ℕ) (writes : List Write) (e : Entry) → slot < q.layout.slots → q.held slot ≡ Some v → All (IsOwn q v key) writes → (e.newest ≡ Some slot) ⊎ (has_key key writes ≡ true) → (covered_by_all key e writes).newest ≡ Some slot
  newest-writes v slot [] e lt held own (inl is) = is
  newest-writes v slot [] e lt held own (inr has) = absurd (cc has)
  newest-writes v slot (w ∷ writes) e lt held own either =
      newest-writes v slot writes (covered_by key e w) lt held (All-tail (IsOwn q v key) w writes own) (by (key_eq w.key key) refl either)
    where
      by : (b : Bool) → key_eq w.key key ≡ b → (e.newest ≡ Some slot) ⊎ ((b || has_key key writes) ≡ true) → ((cond b (covered w.slot e) e).newest ≡ Some slot) ⊎ (has_key key writes ≡ true)
      by true is either = inl (ap (λ (x : Option ℕ). (covered x e).newest) (slot-of o q v w.slot slot kept lt held (All-head (IsOwn q v key) w writes own is)))
      by false is either = either

  -- if the version has no slot, the newest one stays
  same-writes : (v : Version) (writes : List Write) (e : Entry) → IsSlotOf q v None → All (IsOwn q v key) writes → (covered_by_all key e writes).newest ≡ e.newest
  same-writes v [] e none own = refl
  same-writes v (w ∷ writes) e none own = same-writes v writes (covered_by key e w) none (All-tail (IsOwn q v key) w writes own) ∙ by (key_eq w.key key) refl
    where
      by_slot : (x : Option ℕ) → IsSlotOf q v x → (covered x e).newest ≡ e.newest
      by_slot None has = refl
      by_slot (Some slot) has = absurd (none slot has.0 has.1)

      by : (b : Bool) → key_eq w.key key ≡ b → (cond b (covered w.slot e) e).newest ≡ e.newest
      by true is = by_slot w.slot (All-head (IsOwn q v key) w writes own is)
      by false is = refl

  -- a deletion has no slot
  deletion-none : (writer : Writer) (writes : List Write) → All (HasItsSlot q writer) writes → lookup_key (plain_writes writes) key ≡ Some None → IsSlotOf q (version_by key writer) None
  deletion-none writer [] own wrote = absurd (cc wrote)
  deletion-none writer (w ∷ writes) own wrote = by (key_eq w.key key) refl wrote (deletion-none writer writes (All-tail (HasItsSlot q writer) w writes own))
    where
      no-slot : (x : Option ℕ) → is_some x ≡ false → IsSlotOf q (version_by key writer) x → IsSlotOf q (version_by key writer) None
      no-slot None is has = has
      no-slot (Some slot) is has = absurd (cc is)

      here : key_eq w.key key ≡ true → w.row ≡ None → IsSlotOf q (version_by key writer) None
      here is deleted =
          let has = All-head (HasItsSlot q writer) w writes own in
          no-slot w.slot (has.row ∙ ap (λ (r : Option (List ℕ)). is_some r) deleted) (subst (λ (k : Key). IsSlotOf q (version_by k writer) w.slot) (key_eq-true w.key key is) has.slot)

      by : (b : Bool) → key_eq w.key key ≡ b → cond b (Some w.row) (lookup_key (plain_writes writes) key) ≡ Some None
          → (lookup_key (plain_writes writes) key ≡ Some None → IsSlotOf q (version_by key writer) None) → IsSlotOf q (version_by key writer) None
      by true is wrote rest = here is (let same : w.row ≡ None = cc wrote in same)
      by false is wrote rest = rest wrote

  own-writes : (writer : Writer) (writes : List Write) → All (HasItsSlot q writer) writes → All (IsOwn q (version_by key writer) key) writes
  own-writes writer writes own = λ k d lt is. subst (λ (x : Key). IsSlotOf q (version_by x writer) (slice_index_or writes k d).slot) (key_eq-true (slice_index_or writes k d).key key is) (own k d lt).slot

  newest-one : (d : DrawnCommit) (last : Option ℕ) (e : Entry) → All (HasItsSlot q (ByCommit d.timestamp)) d.writes → IsNewestAt last e → IsNewestAt (row_after last d) (covered_by_all key e d.writes)
  newest-one d last e own newest = by (lookup_key (plain_writes d.writes) key) refl
    where
      v : Version
      v = version_by key (ByCommit d.timestamp)

      has : (b : Bool) → is_some (lookup_key (plain_writes d.writes) key) ≡ b → has_key key d.writes ≡ b
      has b is = sym (written-plain key d.writes) ∙ is

      as-last : (x : Option (Option (List ℕ))) → lookup_key (plain_writes d.writes) key ≡ x → row_after last d ≡ cond (is_some (unwrap_or x None)) (Some d.timestamp) last
      as-last x is = ap (λ (y : Option (Option (List ℕ))). cond (is_some (unwrap_or y None)) (Some d.timestamp) last) is

      by : (x : Option (Option (List ℕ))) → lookup_key (plain_writes d.writes) key ≡ x → IsNewestAt (row_after last d) (covered_by_all key e d.writes)
      by None is = λ t slot at lt held.
          ap (λ (x : Entry). x.newest) (stays-all key d.writes e (has false (ap (λ (x : Option (Option (List ℕ))). is_some x) is))) ∙ newest t slot (sym (as-last None is) ∙ at) lt held
      by (Some None) is = λ t slot at lt held.
          same-writes v d.writes e (deletion-none (ByCommit d.timestamp) d.writes own is) (own-writes (ByCommit d.timestamp) d.writes own) ∙ newest t slot (sym (as-last (Some None) is) ∙ at) lt held
      by (Some (Some row)) is = grind (arith, newest-writes v, has true)

  newest-commits : (ds : List DrawnCommit) (last : Option ℕ) (e : Entry) → All (λ (d : DrawnCommit). All (HasItsSlot q (ByCommit d.timestamp)) d.writes) ds → IsNewestAt last e → IsNewestAt (fold row_after last ds) (covered_by_commits key e ds)
  newest-commits [] last e own newest = newest
  newest-commits (d ∷ ds) last e own newest =
      newest-commits ds (row_after last d) (covered_by_all key e d.writes) (All-tail (λ (d : DrawnCommit). All (HasItsSlot q (ByCommit d.timestamp)) d.writes) d ds own)
      (newest-one d last e (All-head (λ (d : DrawnCommit). All (HasItsSlot q (ByCommit d.timestamp)) d.writes) d ds own) newest)

  rows-after : (ds : List DrawnCommit) (last : Option ℕ)
      → fold (λ (last : Option ℕ) (commit : Commit). cond (is_some (row_in commit.writes key)) (Some commit.timestamp) last) last (map (λ (d : PlainDrawn). d.commit) (map plain_drawn ds)) ≡ fold row_after last ds
  rows-after [] last = refl
  rows-after (d ∷ ds) last = rows-after ds (row_after last d)

  -- the newest after the history with these commits behind it
  pub newest-after : (history : List Commit) (ds : List DrawnCommit) (e : Entry) → All (λ (d : DrawnCommit). All (HasItsSlot q (ByCommit d.timestamp)) d.writes) ds
      → ((t slot : ℕ) → last_row history key ≡ Some t → slot < q.layout.slots → q.held slot ≡ Some (version_by key (ByCommit t)) → e.newest ≡ Some slot)
      → (t slot : ℕ) → last_row (history ++ map (λ (d : PlainDrawn). d.commit) (map plain_drawn ds)) key ≡ Some t → slot < q.layout.slots → q.held slot ≡ Some (version_by key (ByCommit t)) → (covered_by_commits key e ds).newest ≡ Some slot
  newest-after history ds e own newest t slot last lt held =
      newest-commits ds (last_row history key) e own newest t slot
      (sym (fold-append (λ (last : Option ℕ) (commit : Commit). cond (is_some (row_in commit.writes key)) (Some commit.timestamp) last) None history (map (λ (d : PlainDrawn). d.commit) (map plain_drawn ds)) ∙ rows-after ds (last_row history key)) ∙ last) lt held

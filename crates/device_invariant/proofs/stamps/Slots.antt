-- A drawn commit stamps a write: its timestamp is stored in the begin of its version, and in the end of the version that it replaces.
use Rattle.std.proofs.Common.{◌≡◌, ◌≢◌, ◌⊎◌, inl, inr, ℕ, ◌<◌, Bool, true, false, cond, List, [], refl, sym, ◌∙◌, ap, subst, arith, true≢false, nat_eq}
use Rattle.std.specs.Prelude.{Option, Some, None, IsTrue, unwrap_or}
use Rattle.std.specs.List.{list_any}
use Rattle.std.proofs.lemmas.Bool.{and_left, and_right, eq-eqb, ne_eqb}
use Rattle.base.specs.declared.key.Key.{Key}
use Rattle.base.specs.Commits.{last_writer, writes_key}
use Rattle.base.specs.Layout.{slot_words}
use Rattle.base.specs.Records.{is_in, is_committed}
use Rattle.base.specs.Stands.{has_timestamp}
use Rattle.machine.specs.Machine.{State, Hand, Drawn, Version, BySession, ByCommit, drawn_at}
use Rattle.pmem.specs.Words.{Survives, value_of, OnlyShrinks}
use Rattle.pmem.proofs.Changes.{stored-survives, stored-value}
use Rattle.state_invariant.specs.Kept.{Origin, Keeps, KeepsHand, version_by, wanted}
use Rattle.state_invariant.specs.Shown.{word_of, HasBegun, is_drawn_on, is_key_stamped, SlotShows, ShowsAs, class_of_version, class_of_drawn, Newest, Replaced, IsWaiting, IsNewest}
use Rattle.state_invariant.proofs.Lists.{find-any}
use Rattle.state_invariant.proofs.covers.Kept.{no_gap-above, batch-drawn}
use Rattle.device_invariant.specs.Slots.{newest_of, NeverCounts, IsLive, SlotHolds}
use Rattle.device_invariant.specs.Log.{is_own, is_ended}
use Rattle.device_invariant.specs.Laws.{StampsBegin, StampsEnd}
use Rattle.pmem.proofs.Changes.{each-shrinks}
use Rattle.state_invariant.proofs.stamps.Stamped.{all-stamped}
use Rattle.device_invariant.proofs.Words.{within-slot}
use Rattle.device_invariant.proofs.covers.Batches.{IsLastOf, WritesNone, last-of}
use Rattle.device_invariant.proofs.PresentValues.{drawn-bounds, last-undrawn, says-newest, wanted-newest}
use Rattle.device_invariant.proofs.stamps.Stamped.{stamped-writes, writes-held}
use Rattle.device_invariant.proofs.covers.Slots.{own-of}
use Rattle.device_invariant.proofs.moves.Stores.{IsUntouched, rest-stored, holds-stored}
use Rattle.device_invariant.proofs.moves.Links.{links-but_one}
use Rattle.device_invariant.proofs.Laws.{shows-but_one}

-- ---- what a stamp meets

module _ (o : Origin) (q : State) (kept : Keeps o q) (t : ℕ) (d : Drawn) (key : Key) (found : drawn_at q t ≡ Some d) (writes : writes_key key d.commit ≡ true) (not_stamped : is_key_stamped d key ≡ false) where
  pub no_gap : is_in q.ruling.gaps t ≡ false
  no_gap = no_gap-above o q t kept.numbers.origin (drawn-bounds o q kept t d found).2

  pub drawn_on : is_drawn_on q key t ≡ true
  drawn_on = find-any (λ (e : Drawn). nat_eq e.commit.timestamp t) (λ (e : Drawn). writes_key key e.commit) q.drawn d found writes

  -- no drawn commit is the last covered one on a key
  pub not-last : (other : Key) → t ≢ last_writer q.history other
  not-last other same = let none : ◌≡◌ {A = Option Drawn} None (Some d) = sym (last-undrawn o q kept other) ∙ ap (drawn_at q) (sym same) ∙ found in cc none

  -- the pending batch has stamped all that it writes, so the commit isn't one of its commits
  not-in_batch : (hand : Hand) → KeepsHand q hand → (b : Bool) → has_timestamp hand.commits t ≡ b → b ≡ false
  not-in_batch hand k a is = grind (arith, batch-drawn, all-stamped)

  -- and no commit of it writes the key
  not-written : (hand : Hand) → KeepsHand q hand → list_any (writes_key key) hand.commits ≡ false
  not-written hand k = by_last (last-of q.history hand.commits key)
    where
      by_last : IsLastOf q.history hand.commits key ⊎ WritesNone q.history hand.commits key → list_any (writes_key key) hand.commits ≡ false
      by_last (inr n) = n.none
      by_last (inl l) =
          let own = own-of o q hand kept k key l in
          grind (arith)

  pub untouched-begin : (hand : Hand) (slot : ℕ) → KeepsHand q hand → q.held slot ≡ Some (version_by key (ByCommit t)) → IsUntouched q hand.commits slot
  untouched-begin hand slot k held = record {
    not_own = ap (is_own hand.commits) held ∙ not-in_batch hand k (has_timestamp hand.commits t) refl;
    not_ended = ap (is_ended q hand.commits) held ∙ and_left (nat_eq (last_writer q.history key) t) (list_any (writes_key key) hand.commits) (ne_eqb (last_writer q.history key) t (λ same. not-last key (sym same)));
  }

  pub untouched-end : (hand : Hand) (slot : ℕ) → KeepsHand q hand → q.held slot ≡ Some (newest_of q key) → IsUntouched q hand.commits slot
  untouched-end hand slot k held = record {
    not_own = ap (is_own hand.commits) held ∙ covered (has_timestamp hand.commits (last_writer q.history key)) refl;
    not_ended = ap (is_ended q hand.commits) held ∙ and_right (nat_eq (last_writer q.history key) (last_writer q.history key)) (list_any (writes_key key) hand.commits) (not-written hand k);
  }
    where
      covered : (b : Bool) → has_timestamp hand.commits (last_writer q.history key) ≡ b → b ≡ false
      covered false is = refl
      covered true is =
          let drawn = batch-drawn o q hand kept k (last_writer q.history key) is in
          let none : ◌≡◌ {A = Option Drawn} None (Some drawn.0) = sym (last-undrawn o q kept key) ∙ drawn.1 in
          absurd (cc none)

-- a slot has one holder
pub same-key : (q : State) (slot t u : ℕ) (key other : Key) → q.held slot ≡ Some (version_by key (ByCommit t)) → q.held slot ≡ Some (version_by other (ByCommit u)) → (other ≡ key) × (u ≡ t)
same-key q slot t u key other a b = grind arith

pub not-session : (q : State) (slot t n : ℕ) (key other : Key) → q.held slot ≡ Some (version_by key (ByCommit t)) → q.held slot ≡ Some (version_by other (BySession n)) → ⊥
not-session q slot t n key other a b = grind arith

pub not-free : (q : State) (slot t : ℕ) (key : Key) → q.held slot ≡ Some (version_by key (ByCommit t)) → q.held slot ≡ None → ⊥
not-free q slot t key a b = let both : ◌≡◌ {A = Option Version} None (Some (version_by key (ByCommit t))) = sym b ∙ a in cc both

-- ---- the begin

-- in a failed state
pub stamps-begin : StampsBegin
stamps-begin o q slot t key d old new down lt held found not_stamped is u = record {
  keeps = u.keeps;
  shows = shows-but_one o q old new slot 0 t low is shown u.shows;
  links = links-but_one o q old new slot 0 t low is (inl (omega arith)) u.links;
  holds = holds-stored q old new slot 0 t low is (λ two. no_gap o q u.keeps t d key found writes not_stamped)
      (λ hand in_hand. untouched-begin o q u.keeps t d key found writes not_stamped hand slot (u.keeps.numbers.hand hand in_hand) held) this u.holds;
}
  where
    low : 0 < slot_words q.layout.version
    low = within-slot q.layout.version 0 (omega arith)

    writes : writes_key key d.commit ≡ true
    writes = writes-held o q u.keeps slot t key d lt held found

    was : SlotHolds q old slot
    was = u.holds.slots.each slot lt

    end : OnlyShrinks old new (word_of q.layout slot 1)
    end = rest-stored q.layout old new slot 0 t 1 (λ e. cc e) is

    before : (x : ℕ) → ((word_of q.layout slot 0 ≡ word_of q.layout slot 0) × (x ≡ t)) ⊎ Survives old (word_of q.layout slot 0) x → x < q.next
    before x (inl this) = subst (λ (y : ℕ). y < q.next) (sym this.1) (drawn-bounds o q u.keeps t d found).1
    before x (inr there) = was.begin_before.each x there

    either : (v : ℕ) (other : Key) (e : Drawn) → q.held slot ≡ Some (version_by other (ByCommit v)) → drawn_at q v ≡ Some e → (x : ℕ) → ((word_of q.layout slot 0 ≡ word_of q.layout slot 0) × (x ≡ t)) ⊎ Survives old (word_of q.layout slot 0) x → (x ≡ 0) ⊎ (x ≡ v)
    either v other e at drawn x (inl this) = inr (this.1 ∙ sym (same-key q slot t v key other held at).1)
    either v other e at drawn x (inr there) = (was.drawn v other e at drawn).each x there

    this : SlotHolds q new slot
    this = record {
      begin_before = record { each = λ x there. before x (stored-survives old new (word_of q.layout slot 0) t is (word_of q.layout slot 0) x there) };
      end_before = each-shrinks end (λ x is. is) was.end_before;
      free = λ none. absurd (not-free q slot t key held none);
      own = λ n other at. absurd (not-session q slot t n key other held at);
      drawn = λ v other e at drawn. record { each = λ x there. either v other e at drawn x (stored-survives old new (word_of q.layout slot 0) t is (word_of q.layout slot 0) x there) };
      unstamped = λ v other e at drawn not_yet up. absurd (true≢false (sym down ∙ up));
      newest = λ other at. absurd (not-last o q u.keeps t d key found writes not_stamped other (sym (same-key q slot t (last_writer q.history other) key other held at).1));
      replaced = λ v other at none apart. absurd (let both : ◌≡◌ {A = Option Drawn} None (Some d) = sym none ∙ ap (drawn_at q) (same-key q slot t v key other held at).1 ∙ found in cc both);
    }

    begin : value_of new (word_of q.layout slot 0) ≡ t
    begin = stored-value old new (word_of q.layout slot 0) t is

    waits : (row : List ℕ) → IsWaiting q (value_of new) slot key row
    waits row = grind (arith, begin, drawn_on, writes)

    shown : SlotShows o q (value_of new) slot
    shown = grind (arith, waits)

-- ---- the end

pub stamps-end : StampsEnd
stamps-end o q slot t key d old new lt held found writes not_stamped is u = record {
  keeps = u.keeps;
  shows = shows-but_one o q old new slot 1 t low is shown u.shows;
  links = links-but_one o q old new slot 1 t low is (inl (omega arith)) u.links;
  holds = holds-stored q old new slot 1 t low is (λ two. no_gap o q u.keeps t d key found writes not_stamped)
      (λ hand in_hand. untouched-end o q u.keeps t d key found writes not_stamped hand slot (u.keeps.numbers.hand hand in_hand) held) this u.holds;
}
  where
    low : 1 < slot_words q.layout.version
    low = within-slot q.layout.version 1 (omega arith)

    was : SlotHolds q old slot
    was = u.holds.slots.each slot lt

    others : (w : ℕ) → w ≢ 1 → OnlyShrinks old new (word_of q.layout slot w)
    others w apart = rest-stored q.layout old new slot 1 t w apart is

    begin : OnlyShrinks old new (word_of q.layout slot 0)
    begin = others 0 (λ e. cc e)

    -- the one drawn commit that writes the key
    only : (v : ℕ) (e : Drawn) → drawn_at q v ≡ Some e → writes_key key e.commit ≡ true → v ≡ t
    only v e at wrote = u.keeps.draws.apart v t e d key at found wrote writes

    undrawn : (v : ℕ) (other : Key) (e : Drawn) → q.held slot ≡ Some (version_by other (ByCommit v)) → drawn_at q v ≡ Some e → ⊥
    undrawn v other e at drawn = grind (arith, last-undrawn o q)

    before : (x : ℕ) → ((word_of q.layout slot 1 ≡ word_of q.layout slot 1) × (x ≡ t)) ⊎ Survives old (word_of q.layout slot 1) x → x < q.next
    before x (inl this) = subst (λ (y : ℕ). y < q.next) (sym this.1) (drawn-bounds o q u.keeps t d found).1
    before x (inr there) = was.end_before.each x there

    by_end : (other : Key) → other ≡ key → (x : ℕ) → IsLive q old slot other → ((word_of q.layout slot 1 ≡ word_of q.layout slot 1) × (x ≡ t)) ⊎ Survives old (word_of q.layout slot 1) x → NeverCounts q x ⊎ IsTrue (is_drawn_on q other x)
    by_end other same x live (inl this) =
        inr (subst (λ (k : Key). is_drawn_on q k x ≡ true) (sym same) (subst (λ (y : ℕ). is_drawn_on q key y ≡ true) (sym this.1) (drawn_on o q u.keeps t d key found writes not_stamped)))
    by_end other same x live (inr there) = live.end.each x there

    live-now : (other : Key) → other ≡ key → IsLive q old slot other → IsLive q new slot other
    live-now other same live = record {
      begin = begin.settled live.begin;
      counted = subst (λ (x : ℕ). is_committed q.ruling x ≡ true) (sym begin.value) live.counted;
      end = record { each = λ x there. by_end other same x live (stored-survives old new (word_of q.layout slot 1) t is (word_of q.layout slot 1) x there) };
      settled = λ w two in_slot. (others w (λ e. omega (arith, e, two))).settled (live.settled w two in_slot);
    }

    this : SlotHolds q new slot
    this = record {
      begin_before = each-shrinks begin (λ x is. is) was.begin_before;
      end_before = record { each = λ x there. before x (stored-survives old new (word_of q.layout slot 1) t is (word_of q.layout slot 1) x there) };
      free = λ none. absurd (not-free q slot (last_writer q.history key) key held none);
      own = λ n other at. absurd (not-session q slot (last_writer q.history key) n key other held at);
      drawn = λ v other e at drawn. absurd (undrawn v other e at drawn);
      unstamped = λ v other e at drawn not_yet up. absurd (undrawn v other e at drawn);
      newest = λ other at. live-now other (same-key q slot (last_writer q.history key) (last_writer q.history other) key other held at).0 (was.newest other at);
      replaced = λ v other at none apart. grind (arith);
    }

    value : value_of new (word_of q.layout slot 1) ≡ t
    value = stored-value old new (word_of q.layout slot 1) t is

    newest : (row : List ℕ) → IsNewest o q (value_of old) slot (last_writer q.history key) key row → IsNewest o q (value_of new) slot (last_writer q.history key) key row
    newest row h = record {
      begin = subst (HasBegun o (last_writer q.history key)) (sym begin.value) h.begin;
      end = inr (subst (λ (x : ℕ). is_drawn_on q key x ≡ true) (sym value) (drawn_on o q u.keeps t d key found writes not_stamped));
      ended = λ v e at stamped. value ∙ sym (only v e at (stamped-writes e key stamped));
      spells = record { read = λ image is_laid size words. h.spells.read image is_laid size (λ w two in_slot. words w two in_slot ∙ (others w (λ e. omega (arith, e, two))).value) };
    }

    shown : SlotShows o q (value_of new) slot
    shown =
        let says = says-newest o q u.keeps (value_of old) u.shows slot key lt held in
        let row : List ℕ = says.0 in
        let now : IsNewest o q (value_of new) slot (last_writer q.history key) key row = newest row says.2 in
        let wanted_is : wanted o q (newest_of q key) ≡ Some row = wanted-newest o q u.keeps key ∙ says.1 in
        subst (λ (v : Option Version). ShowsAs o q (value_of new) slot (class_of_version o q v)) (sym held)
        (subst (λ (f : Option Drawn). ShowsAs o q (value_of new) slot (class_of_drawn q key (last_writer q.history key) (unwrap_or (wanted o q (newest_of q key)) []) f)) (sym (last-undrawn o q u.keeps key))
        (subst (λ (r : Option (List ℕ)). ShowsAs o q (value_of new) slot (class_of_drawn q key (last_writer q.history key) (unwrap_or r []) None)) (sym wanted_is)
        (subst (λ (b : Bool). ShowsAs o q (value_of new) slot (cond b (Newest (last_writer q.history key) key row) (Replaced (last_writer q.history key) key row))) (sym (eq-eqb (last_writer q.history key) (last_writer q.history key) refl)) now)))

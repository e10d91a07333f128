-- The collector makes 0 of a begin or an end that is in a gap.
use Rattle.std.proofs.Common.{◌≡◌, ◌≢◌, ◌⊎◌, inl, inr, ℕ, zero, suc, ◌<◌, true, false, List, [], refl, sym, ◌∙◌, ap, subst, arith, true≢false, nat_eq}
use Rattle.std.specs.Prelude.{Option, Some, None, IsTrue, unwrap_or}
use Rattle.std.specs.List.{list_any}
use Rattle.std.proofs.lemmas.Bool.{cases_eq, eq-eqb, ne_eqb, and_right, leb-true, leb-false}
use Rattle.base.specs.declared.key.Key.{Key}
use Rattle.base.specs.Commits.{after, last_writer, writes_key}
use Rattle.base.specs.Layout.{slot_words}
use Rattle.base.specs.Records.{is_in, is_committed}
use Rattle.machine.specs.Machine.{State, Hand, Drawn, Version, Writer, BySession, ByCommit, drawn_at}
use Rattle.pmem.specs.Device.{Device, stored}
use Rattle.pmem.specs.Words.{Survives, value_of, OnlyShrinks}
use Rattle.pmem.proofs.Changes.{stored-survives, stored-value, each-shrinks}
use Rattle.state_invariant.specs.Kept.{Origin, version_by, wanted}
use Rattle.state_invariant.specs.Shown.{word_of, HasBegun, IsNever, IsHidden, is_drawn_on, is_key_stamped, SlotShows, ShowsAs, class_of_version, class_of_drawn, IsNewest, IsReplaced}
use Rattle.state_invariant.proofs.Commits.{uncommitted-gap}
use Rattle.state_invariant.proofs.covers.Kept.{no_gap-above}
use Rattle.state_invariant.proofs.reads.Tables.{never-counts}
use Rattle.device_invariant.specs.Slots.{newest_of, NeverCounts, IsDead, IsLive, SlotHolds}
use Rattle.device_invariant.specs.Log.{is_own, is_ended}
use Rattle.device_invariant.specs.Upholds.{Upholds}
use Rattle.device_invariant.specs.Laws.{ZeroingKeeps}
use Rattle.device_invariant.proofs.Words.{within-slot}
use Rattle.device_invariant.proofs.covers.Batches.{IsLastOf, WritesNone, last-of}
use Rattle.device_invariant.proofs.PresentValues.{drawn-bounds, last-undrawn, says-newest, wanted-newest}
use Rattle.device_invariant.proofs.covers.Slots.{own-of}
use Rattle.device_invariant.proofs.moves.Holders.{uncovered-hand}
use Rattle.device_invariant.proofs.moves.Stores.{IsUntouched, rest-stored, holds-stored}
use Rattle.device_invariant.proofs.puts.Slots.{undrawn-holds, untouched-undrawn, zero-facts}
use Rattle.device_invariant.proofs.stamps.Slots.{same-key, not-session, not-free}
use Rattle.device_invariant.proofs.moves.Links.{links-but_one}
use Rattle.device_invariant.proofs.Laws.{shows-but_one, clearing-keeps}

module _ (o : Origin) (q : State) (slot : ℕ) (old : Device) (up : q.failed ≡ false) (unswept : q.swept ≡ false) (lt : slot < q.layout.slots) (u : Upholds o q old) where
  abbrev begin : ℕ
  begin = value_of old (word_of q.layout slot 0)

  abbrev end : ℕ
  end = value_of old (word_of q.layout slot 1)

  was : SlotHolds q old slot
  was = u.holds.slots.each slot lt

  -- ---- what is in no gap

  not-zero : (x : ℕ) → is_in q.ruling.gaps x ≡ true → x ≡ 0 → ⊥
  not-zero x gap none = true≢false (sym gap ∙ ap (is_in q.ruling.gaps) none ∙ (zero-facts o q u.keeps).1)

  not-above : (x : ℕ) → is_in q.ruling.gaps x ≡ true → o.ruling.persisted < x → ⊥
  not-above x gap above = true≢false (sym gap ∙ no_gap-above o q x u.keeps.numbers.origin above)

  not-drawn : (x : ℕ) (d : Drawn) → is_in q.ruling.gaps x ≡ true → drawn_at q x ≡ Some d → ⊥
  not-drawn x d gap found = not-above x gap (drawn-bounds o q u.keeps x d found).2

  not-counted : (x : ℕ) → is_in q.ruling.gaps x ≡ true → is_committed q.ruling x ≡ true → ⊥
  not-counted x gap counts = true≢false (sym counts ∙ uncommitted-gap q.ruling x gap)

  not-begun : (t x : ℕ) → is_in q.ruling.gaps x ≡ true → HasBegun o t x → ⊥
  not-begun t x gap begun = grind (arith, not-counted, leb-true, leb-false, not-above)

  -- ---- what holds the slot

  abbrev row : Key → Writer → List ℕ
  row key w = unwrap_or (wanted o q (version_by key w)) []

  shows-held : (v : Version) → q.held slot ≡ Some v → ShowsAs o q (value_of old) slot (class_of_version o q (Some v))
  shows-held v held = subst (λ (x : Option Version). ShowsAs o q (value_of old) slot (class_of_version o q x)) held (u.shows.each slot lt)

  shows-drawn : (key : Key) (t : ℕ) (d : Option Drawn) → q.held slot ≡ Some (version_by key (ByCommit t)) → drawn_at q t ≡ d → ShowsAs o q (value_of old) slot (class_of_drawn q key t (unwrap_or (wanted o q (version_by key (ByCommit t))) []) d)
  shows-drawn key t d held found = subst (λ (x : Option Drawn). ShowsAs o q (value_of old) slot (class_of_drawn q key t (unwrap_or (wanted o q (version_by key (ByCommit t))) []) x)) found (shows-held (version_by key (ByCommit t)) held)

  shows-replaced : (key : Key) (t : ℕ) → q.held slot ≡ Some (version_by key (ByCommit t)) → drawn_at q t ≡ None → t ≢ last_writer q.history key → IsReplaced o q (value_of old) slot t key (unwrap_or (wanted o q (version_by key (ByCommit t))) [])
  shows-replaced key t held undrawn apart = grind (arith, ne_eqb, shows-drawn)

  -- a begin in a gap is of no version
  begin-free : Survives old (word_of q.layout slot 0) begin → (v : Version) (w : Writer) → v.writer ≡ w → q.held slot ≡ Some (version_by v.key w) → is_in q.ruling.gaps begin ≡ true → ⊥
  begin-free there v (BySession n) same held gap = not-zero begin gap (was.own n v.key held).holds
  begin-free there v (ByCommit t) same held gap = by (drawn_at q t) refl
    where
      either : (d : Drawn) → drawn_at q t ≡ Some d → (begin ≡ 0) ⊎ (begin ≡ t) → ⊥
      either d found (inl none) = not-zero begin gap none
      either d found (inr own) = not-drawn begin d gap (ap (drawn_at q) own ∙ found)

      by : (d : Option Drawn) → drawn_at q t ≡ d → ⊥
      by (Some d) found = either d found ((was.drawn t v.key d held found).each begin there)
      by None undrawn = elim (cases_eq t (last_writer q.history v.key)) [
        | inl last ↦ not-counted begin gap (was.newest v.key (held ∙ ap (λ (x : ℕ). Some (version_by v.key (ByCommit x))) last)).counted
        | inr apart ↦ not-begun t begin gap (shows-replaced v.key t held undrawn apart).begin
      ]

  -- an end in a gap is of a free slot, or of the newest version of a key
  end-newest : Survives old (word_of q.layout slot 1) end → (v : Version) (w : Writer) → v.writer ≡ w → q.held slot ≡ Some (version_by v.key w) → is_in q.ruling.gaps end ≡ true → q.held slot ≡ Some (newest_of q v.key)
  end-newest there v (BySession n) same held gap = grind (arith, shows-held, not-zero)
  end-newest there v (ByCommit t) same held gap = grind (arith, not-zero, shows-drawn, cases_eq, not-counted, was)

  -- ---- the end is made 0

  module _ (there : Survives old (word_of q.layout slot 1) end) (gap : is_in q.ruling.gaps end ≡ true) (new : Device) (is : new ≡ stored (word_of q.layout slot 1) 0 old) where
    low : 1 < slot_words q.layout.version
    low = within-slot q.layout.version 1 (omega arith)

    others : (w : ℕ) → w ≢ 1 → OnlyShrinks old new (word_of q.layout slot w)
    others w apart = rest-stored q.layout old new slot 1 0 w apart is

    first : OnlyShrinks old new (word_of q.layout slot 0)
    first = others 0 (λ e. cc e)

    zeroed : value_of new (word_of q.layout slot 1) ≡ 0
    zeroed = stored-value old new (word_of q.layout slot 1) 0 is

    before : (x : ℕ) → ((word_of q.layout slot 1 ≡ word_of q.layout slot 1) × (x ≡ 0)) ⊎ Survives old (word_of q.layout slot 1) x → x < q.next
    before x (inl this) = omega (arith, this.1, (zero-facts o q u.keeps).0)
    before x (inr old_one) = was.end_before.each x old_one

    begins-before : (x : ℕ) → Survives new (word_of q.layout slot 0) x → x < q.next
    begins-before x survives = was.begin_before.each x (first.survives x survives)

    -- of a free slot, which its begin keeps dead
    dead : q.held slot ≡ None → IsDead q new slot
    dead free = by (was.free free)
      where
        by : IsDead q old slot → IsDead q new slot
        by (inl never) = inl (each-shrinks first (λ x n. n) never)
        by (inr counts) = absurd (not-counted end gap (counts.each end there))

    hidden : IsHidden o q begin end → IsNever o q begin
    hidden (inl never) = never
    hidden (inr ended) = absurd (true≢false (sym (ended _ (inl refl)) ∙ never-counts o q u.keeps _ end (inr (unswept, inside))))
      where
        inside : is_in o.ruling.gaps end ≡ true
        inside = grind (arith)

    free-end : q.held slot ≡ None → Upholds o q new
    free-end free = record {
      keeps = u.keeps;
      shows = shows-but_one o q old new slot 1 0 low is
          (subst (λ (x : Option Version). ShowsAs o q (value_of new) slot (class_of_version o q x)) (sym free)
          (inl (subst (IsNever o q) (sym first.value) (hidden (subst (λ (x : Option Version). ShowsAs o q (value_of old) slot (class_of_version o q x)) free (u.shows.each slot lt)))))) u.shows;
      links = links-but_one o q old new slot 1 0 low is (inl (omega arith)) u.links;
      holds = holds-stored q old new slot 1 0 low is (λ two. (zero-facts o q u.keeps).1) (λ hand in_hand. untouched-undrawn q hand slot (inl free))
          (undrawn-holds q new slot (inl free)
          (record { each = begins-before })
          (record { each = λ x survives. before x (stored-survives old new (word_of q.layout slot 1) 0 is (word_of q.layout slot 1) x survives) })
          dead
          (λ n key held. let none : ◌≡◌ {A = Option Version} None (Some (version_by key (BySession n))) = sym free ∙ held in absurd (cc none)))
          u.holds;
    }

    -- of the newest version of a key, which nothing ends
    module _ (key : Key) (held : q.held slot ≡ Some (newest_of q key)) where
      says : (r : List ℕ) × (after q.history key ≡ Some r) × IsNewest o q (value_of old) slot (last_writer q.history key) key r
      says = says-newest o q u.keeps (value_of old) u.shows slot key lt held

      unended : (v : ℕ) (d : Drawn) → drawn_at q v ≡ Some d → is_key_stamped d key ≡ true → ⊥
      unended v d found stamped = not-drawn end d gap (ap (drawn_at q) (says.2.ended v d found stamped) ∙ found)

      untouched : (hand : Hand) → q.hand ≡ Some hand → IsUntouched q hand.commits slot
      untouched hand in_hand = record {
        not_own = ap (is_own hand.commits) held ∙ uncovered-hand o q u.keeps hand in_hand (last_writer q.history key) (last-undrawn o q u.keeps key);
        not_ended = ap (is_ended q hand.commits) held ∙ and_right (nat_eq (last_writer q.history key) (last_writer q.history key)) (list_any (writes_key key) hand.commits) (by_last (last-of q.history hand.commits key));
      }
        where
          by_last : IsLastOf q.history hand.commits key ⊎ WritesNone q.history hand.commits key → list_any (writes_key key) hand.commits ≡ false
          by_last (inr none) = none.none
          by_last (inl l) = let own = own-of o q hand u.keeps (u.keeps.numbers.hand hand in_hand) key l in absurd (unended l.commit.timestamp own.drawn own.found own.stamped)

      undrawn : (v : ℕ) (other : Key) (d : Drawn) → q.held slot ≡ Some (version_by other (ByCommit v)) → drawn_at q v ≡ Some d → ⊥
      undrawn v other d at found =
          let same : v ≡ last_writer q.history key = (same-key q slot (last_writer q.history key) v key other held at).1 in
          let both : ◌≡◌ {A = Option Drawn} None (Some d) = sym (last-undrawn o q u.keeps key) ∙ ap (drawn_at q) (sym same) ∙ found in
          cc both

      by_end : (other : Key) (x : ℕ) → IsLive q old slot other → ((word_of q.layout slot 1 ≡ word_of q.layout slot 1) × (x ≡ 0)) ⊎ Survives old (word_of q.layout slot 1) x → NeverCounts q x ⊎ IsTrue (is_drawn_on q other x)
      by_end other x live (inl this) = inl (inl this.1)
      by_end other x live (inr old_one) = live.end.each x old_one

      live-now : (other : Key) → IsLive q old slot other → IsLive q new slot other
      live-now other live = record {
        begin = first.settled live.begin;
        counted = subst (λ (x : ℕ). is_committed q.ruling x ≡ true) (sym first.value) live.counted;
        end = record { each = λ x survives. by_end other x live (stored-survives old new (word_of q.layout slot 1) 0 is (word_of q.layout slot 1) x survives) };
        settled = λ w two in_slot. (others w (λ e. omega (arith, e, two))).settled (live.settled w two in_slot);
      }

      this : SlotHolds q new slot
      this = record {
        begin_before = record { each = begins-before };
        end_before = record { each = λ x survives. before x (stored-survives old new (word_of q.layout slot 1) 0 is (word_of q.layout slot 1) x survives) };
        free = λ none. absurd (not-free q slot (last_writer q.history key) key held none);
        own = λ n other at. absurd (not-session q slot (last_writer q.history key) n key other held at);
        drawn = λ v other d at found. absurd (undrawn v other d at found);
        unstamped = λ v other d at found not_yet working. absurd (undrawn v other d at found);
        newest = λ other at. live-now other (was.newest other at);
        replaced = λ v other at none apart. grind (arith);
      }

      newest : (r : List ℕ) → IsNewest o q (value_of old) slot (last_writer q.history key) key r → IsNewest o q (value_of new) slot (last_writer q.history key) key r
      newest r h = grind (arith, first, zeroed, unended, others)

      shown : SlotShows o q (value_of new) slot
      shown =
          let wanted_is : wanted o q (newest_of q key) ≡ Some says.0 = wanted-newest o q u.keeps key ∙ says.1 in
          grind (arith, last-undrawn o q, eq-eqb, newest says.0 says.2)

      newest-end : Upholds o q new
      newest-end = record {
        keeps = u.keeps;
        shows = shows-but_one o q old new slot 1 0 low is shown u.shows;
        links = links-but_one o q old new slot 1 0 low is (inl (omega arith)) u.links;
        holds = holds-stored q old new slot 1 0 low is (λ two. (zero-facts o q u.keeps).1) untouched this u.holds;
      }

    ends : (x : Option Version) → q.held slot ≡ x → Upholds o q new
    ends None free = free-end free
    ends (Some v) held = newest-end v.key (end-newest there v v.writer refl held gap)

  pub zeroes : (w : ℕ) (new : Device) → w < 2 → Survives old (word_of q.layout slot w) (value_of old (word_of q.layout slot w)) → is_in q.ruling.gaps (value_of old (word_of q.layout slot w)) ≡ true
      → new ≡ stored (word_of q.layout slot w) 0 old → Upholds o q new
  zeroes zero new low there gap is = by (q.held slot) refl
    where
      by : (x : Option Version) → q.held slot ≡ x → Upholds o q new
      by None free = clearing-keeps o q slot old new lt free is u
      by (Some v) held = absurd (begin-free there v v.writer refl held gap)
  zeroes (suc zero) new low there gap is = ends there gap new is (q.held slot) refl
  zeroes (suc (suc w)) new low there gap is = absurd (omega (arith, low))

pub zeroing-keeps : ZeroingKeeps
zeroing-keeps o q slot w old new up unswept lt low there gap is u = zeroes o q slot old up unswept lt u w new low there gap is

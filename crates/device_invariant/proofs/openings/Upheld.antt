-- A device that opening left upholds the opened state.
use Rattle.std.proofs.Common.{◌≡◌, ◌≢◌, ◌⊎◌, inl, inr, ℕ, ◌<◌, ◌≤◌, true, List, [], length, take, drop, refl, sym, ◌∙◌, ap, subst, arith, true≢false, nat_eq}
use Rattle.std.specs.Prelude.{Option, Some, None, IsTrue, slice_index}
use Rattle.std.specs.List.{find}
use Rattle.std.proofs.lemmas.Bool.{ne_eqb, or_cases}
use Rattle.std.proofs.lemmas.List.{take_all, length-drop, nil_from_length}
use Rattle.base.specs.declared.key.Key.{Key}
use Rattle.base.specs.Commits.{Commit, last_writer}
use Rattle.base.specs.Layout.{Layout, slot_words}
use Rattle.base.specs.Records.{is_committed}
use Rattle.base.specs.Images.{layout_of, ruling, begin_of, end_of}
use Rattle.machine.specs.Machine.{State, Drawn, Version, BySession, ByCommit, drawn_at}
use Rattle.machine.specs.Openings.{gaps_kept, opened_slots}
use Rattle.base.specs.Records.{opened_gaps}
use Rattle.machine.proofs.openings.States.{IsOpening, ruled_before, opening-of, opened-below}
use Rattle.pmem.specs.Device.{Device}
use Rattle.pmem.specs.Words.{value_of, IsSettled, EachSurvivor}
use Rattle.state_invariant.specs.Kept.{origin_of, Keeps, version_by}
use Rattle.state_invariant.specs.Shown.{IsNever, word_of, IsHidden, is_drawn_on, SlotsShow, ShowsAs, class_of_version}
use Rattle.state_invariant.proofs.Commits.{committed-bounds}
use Rattle.state_invariant.proofs.steps.LinksStay.{links-opened}
use Rattle.state_invariant.proofs.openings.Kept.{keeps-opened, shows-opened}
use Rattle.device_invariant.specs.Slots.{newest_of, NeverCounts, IsDead, IsLive, SlotHolds}
use Rattle.device_invariant.specs.Log.{HoldsHand}
use Rattle.device_invariant.specs.Laws.{OpenedUpholds}
use Rattle.pmem.proofs.Changes.{each-settled, each-weaken}
use Rattle.device_invariant.proofs.Words.{within-slot}
use Rattle.device_invariant.proofs.PresentValues.{says-newest, last-committed}
use Rattle.device_invariant.proofs.moves.Shown.{shows-same}

-- ---- lists

drop-whole : (xs : List Commit) (n : ℕ) → length xs ≤ n → drop n xs ≡ []
drop-whole xs n le = nil_from_length (drop n xs) (omega (arith, length-drop n xs, le))

-- ---- a state at rest

-- nothing is open or drawn, and each begin and end was drawn before
record IsFresh (q : State) (device : Device) : Type 0 where
  drawn : q.drawn ≡ []
  sessions : (n : ℕ) → q.sessions n ≡ None
  settled : (slot w : ℕ) → slot < q.layout.slots → w < slot_words q.layout.version → IsSettled device (word_of q.layout slot w)
  begins : (slot : ℕ) → slot < q.layout.slots → value_of device (word_of q.layout slot 0) < q.next
  ends : (slot : ℕ) → slot < q.layout.slots → value_of device (word_of q.layout slot 1) < q.next

module _ (q : State) (device : Device) (fresh : IsFresh q device) (kept : Keeps (origin_of q) q) (shows : SlotsShow (origin_of q) q (value_of device)) (slot : ℕ) (lt : slot < q.layout.slots) where
  abbrev first : ℕ
  first = word_of q.layout slot 0

  abbrev second : ℕ
  second = word_of q.layout slot 1

  begin : EachSurvivor device first (λ x. x ≡ value_of device first)
  begin = each-settled record { settled = fresh.settled slot 0 lt (within-slot q.layout.version 0 (omega arith)); holds = refl }

  end : EachSurvivor device second (λ x. x ≡ value_of device second)
  end = each-settled record { settled = fresh.settled slot 1 lt (within-slot q.layout.version 1 (omega arith)); holds = refl }

  undrawn : (t : ℕ) (d : Drawn) → drawn_at q t ≡ Some d → ⊥
  undrawn t d found = let none : ◌≡◌ {A = Option Drawn} None (Some d) = sym (ap (find (λ (d : Drawn). nat_eq d.commit.timestamp t)) fresh.drawn) ∙ found in cc none

  -- when an image is opened, the gaps are the record's own
  never-counts : (t : ℕ) → IsNever (origin_of q) q t → NeverCounts q t
  never-counts t a = grind (arith)

  dead : q.held slot ≡ None → IsDead q device slot
  dead held = by_hidden (subst (λ (v : Option Version). ShowsAs (origin_of q) q (value_of device) slot (class_of_version (origin_of q) q v)) held (shows.each slot lt))
    where
      -- the whole history is what opening found
      none-since : drop (length q.history) (take (length q.history) q.history) ≡ []
      none-since = drop-whole (take (length q.history) q.history) (length q.history) (omega (arith, ap (λ (cs : List Commit). length cs) (take_all (length q.history) q.history (omega arith))))

      by_hidden : IsHidden (origin_of q) q (value_of device first) (value_of device second) → IsDead q device slot
      by_hidden (inl never) = inl (each-weaken (λ x is. subst (NeverCounts q) (sym is) (never-counts (value_of device first) never)) begin)
      by_hidden (inr counted) = grind (arith, or_cases, end, none-since)

  -- a session has no version
  no-session : (n : ℕ) (key : Key) → q.held slot ≡ Some (version_by key (BySession n)) → ⊥
  no-session n key held = grind arith

  -- only the last commits have versions
  only-last : (t : ℕ) (key : Key) → q.held slot ≡ Some (version_by key (ByCommit t)) → t ≢ last_writer q.history key → ⊥
  only-last t key held other = grind (arith, drop-whole, take_all, ne_eqb)

  live : (key : Key) → q.held slot ≡ Some (newest_of q key) → IsLive q device slot key
  live key held =
      let says = (says-newest (origin_of q) q kept (value_of device) shows slot key lt held).2 in
      record {
        begin = fresh.settled slot 0 lt (within-slot q.layout.version 0 (omega arith));
        counted = says.begin.earlier (low (last-committed (origin_of q) q kept key));
        end = each-weaken (λ x is. subst (λ (y : ℕ). NeverCounts q y ⊎ IsTrue (is_drawn_on q key y)) (sym is) (open_end says.end)) end;
        settled = λ w two in_slot. fresh.settled slot w lt in_slot;
      }
    where
      open_end : IsNever (origin_of q) q (value_of device second) ⊎ IsTrue (is_drawn_on q key (value_of device second)) → NeverCounts q (value_of device second) ⊎ IsTrue (is_drawn_on q key (value_of device second))
      open_end (inl never) = inl (never-counts (value_of device second) never)
      open_end (inr drawn) = inr drawn

      low : (last_writer q.history key ≡ 0) ⊎ (is_committed q.ruling (last_writer q.history key) ≡ true) → last_writer q.history key ≤ q.ruling.persisted
      low (inl none) = omega (arith, none)
      low (inr committed) = (committed-bounds q.ruling (last_writer q.history key) committed).1

  fresh-holds : SlotHolds q device slot
  fresh-holds = record {
    begin_before = each-weaken (λ x is. subst (λ (y : ℕ). y < q.next) (sym is) (fresh.begins slot lt)) begin;
    end_before = each-weaken (λ x is. subst (λ (y : ℕ). y < q.next) (sym is) (fresh.ends slot lt)) end;
    free = dead;
    own = λ n key held. absurd (no-session n key held);
    drawn = λ t key d held found. absurd (undrawn t d found);
    unstamped = λ t key d held found not_stamped up. absurd (undrawn t d found);
    newest = live;
    replaced = λ t key held none other. absurd (only-last t key held other);
  }

-- ---- an opened state

pub opened-upholds : OpenedUpholds
opened-upholds image history drawn next lost q device opens up stands opened_as rests record_holds = record {
  keeps = kept;
  shows = shows;
  links = links-opened image history drawn next lost q (value_of device) opens up stands opened_as;
  holds = record {
    slots = record { each = λ slot lt. fresh-holds q device fresh kept shows slot lt };
    log = subst (HoldsHand q device) (sym (ap (λ (p : State). p.hand) opened_as.2)) record_holds;
    sweeping = record {
      over = λ swept. absurd (true≢false (sym swept ∙ ap (λ (p : State). p.swept) opened_as.2));
      under_way = λ unswept slot lt before. absurd (omega (arith, before, ap (λ (p : State). p.place) opened_as.2));
    };
  };
}
  where
    kept : Keeps (origin_of q) q
    kept = keeps-opened image history drawn next lost q opens up stands opened_as

    shows : SlotsShow (origin_of q) q (value_of device)
    shows = record {
      each = λ slot lt.
          shows-same (origin_of q) q (slice_index (opened_slots image)) (value_of device) slot (λ w low. (rests.each slot w lt low).holds)
          ((shows-opened image history drawn next lost q opens up stands opened_as).each slot lt);
    }

    laid_out : q.layout ≡ layout_of image
    laid_out = ap (λ (p : State). p.layout) opened_as.2 ∙ sym up

    opening : IsOpening (layout_of image) (ruled_before image) (opened_slots image) history (gaps_kept (opened_gaps (ruling image)))
    opening = opening-of image history drawn next opens stands

    good : (slot : ℕ) → slot < q.layout.slots → (begin_of (opened_slots image) slot < (ruling image).dirty) × (end_of (opened_slots image) slot < (ruling image).dirty)
    good slot lt = opened-below image stands.sound slot (subst (λ (a : Layout). slot < a.slots) laid_out lt)

    below : (slot w x : ℕ) → slot < q.layout.slots → w < slot_words q.layout.version → slice_index (opened_slots image) (word_of (layout_of (opened_slots image)) slot w) ≡ x → x < (ruling image).dirty → value_of device (word_of q.layout slot w) < q.next
    below slot w x lt low is less =
        let there : value_of device (word_of q.layout slot w) ≡ x = (rests.each slot w lt low).holds ∙ ap (λ (a : Layout). slice_index (opened_slots image) (word_of a slot w)) (laid_out ∙ sym opening.layout) ∙ is in
        let at : q.next ≡ (ruling image).dirty = ap (λ (p : State). p.next) opened_as.2 in
        omega (arith, there, at, less)

    fresh : IsFresh q device
    fresh = record {
      drawn = ap (λ (p : State). p.drawn) opened_as.2;
      sessions = λ n. ap (λ (p : State). p.sessions n) opened_as.2;
      settled = λ slot w lt low. (rests.each slot w lt low).settled;
      begins = λ slot lt. below slot 0 (begin_of (opened_slots image) slot) lt (within-slot q.layout.version 0 (omega arith)) refl (good slot lt).0;
      ends = λ slot lt. below slot 1 (end_of (opened_slots image) slot) lt (within-slot q.layout.version 1 (omega arith)) refl (good slot lt).1;
    }

-- From a key's newest version links lead to the one that a snapshot sees.
use Rattle.std.proofs.Common.{◌≡◌, ◌⊎◌, inl, inr, ℕ, zero, suc, ◌+◌, ◌-◌, ◌^◌, ◌<◌, ◌≤◌, Bool, true, false, cond, not, List, [], length, take, refl, sym, ◌∙◌, ap, subst, arith, Option, Some, None, slice_get, true≢false}
use Rattle.std.specs.Prelude.{nat_eq, nat_lt, unwrap_or, slice_index, is_some}
use Rattle.std.proofs.lemmas.Bool.{and_parts, and_from, lt-ltb, false_from_ne_true, not_from_false, cases_eq, cases_lt, not-true}
use Rattle.std.proofs.lemmas.List.{take_all}
use Rattle.base.specs.declared.key.Key.{Key}
use Rattle.base.specs.Keys.{lookup_key}
use Rattle.base.specs.Commits.{Commit, after, writes_key, last_writer}
use Rattle.base.specs.Layout.{Layout, total_words}
use Rattle.base.specs.Records.{is_committed, is_in}
use Rattle.base.specs.Images.{Image, layout_of, begin_of, end_of, link_of}
use Rattle.machine.specs.Machine.{State, Drawn, Version, ByCommit, drawn_at}
use Rattle.base.proofs.Lists.{all-take}
use Rattle.pmem.specs.Words.{image_of}
use Rattle.state_invariant.specs.Kept.{Origin, Keeps, HasSlot, IsWhole, wanted, version_by, last_of}
use Rattle.state_invariant.specs.Shown.{word_of, Spells, counts_at, Newest, Replaced, class_of_version, class_of_drawn, HasBegun, ShowsAs, SlotsShow, CanBeRead}
use Rattle.state_invariant.specs.Links.{last_row, by_commit, Links, HoldsNewest}
use Rattle.state_invariant.proofs.Commits.{committed-bounds, uncommitted-above}
use Rattle.state_invariant.proofs.Records.{above-gaps}
use Rattle.state_invariant.proofs.openings.Kept.{passes-last_writer}
use Rattle.state_invariant.proofs.Log.{IsReplaced, stays-or_replaced, place-within, written-place, at-fact, one-place, writer-place}
use Rattle.state_invariant.proofs.LastRows.{row-place, row-there}
use Rattle.state_invariant.proofs.reads.Tables.{above-origin, counts-placed, drawn-facts, slot-seen-at, can-be-read}
use Rattle.snapshot.specs.Snapshots.{Seen, covers}
use Rattle.snapshot.specs.Walks.{IsOfKey, IsSeenAt, IsLinked, is_counted, Leads, arrives, passes}
use Rattle.simulation.specs.sessions.Sees.{SeesBegins, CoversFreed}
use Rattle.simulation.specs.sessions.Laws.{ChainsLead, LinksLead}
use Rattle.simulation.proofs.sessions.Reading.{begins-seen, size, ruled, shows, links}

-- ---- from the version that a snapshot sees, commit by commit

module _ (o : Origin) (q : State) (image : Image) (s : Seen) (n : ℕ) (key : Key) (layout : layout_of image ≡ q.layout) (size : length image ≡ total_words q.layout) (kept : Keeps o q) (shows : SlotsShow o q (slice_index image))
    (links : Links o q (slice_index image)) (can : CanBeRead o q (slice_index image) n) (sees : SeesBegins o q s n image) (target : ℕ) (seen : IsSeenAt s image key target) where
  bounds : (o.opened ≤ n) × (n ≤ length q.history)
  bounds = (can.since, can.within)

  begin-is : (slot : ℕ) → begin_of image slot ≡ slice_index image (word_of q.layout slot 0)
  begin-is slot = ap (λ (l : Layout). slice_index image (word_of l slot 0)) layout

  end-is : (slot : ℕ) → end_of image slot ≡ slice_index image (word_of q.layout slot 1)
  end-is slot = ap (λ (l : Layout). slice_index image (word_of l slot 1)) layout

  -- a covered version's slot has its begin and its row
  record Covers (slot t : ℕ) : Type 0 where
    begun : HasBegun o t (slice_index image (word_of q.layout slot 0))
    version : IsOfKey image slot key

  of-key : (slot : ℕ) (row : List ℕ) → slot < q.layout.slots → Spells q.layout (slice_index image) slot key row → IsOfKey image slot key
  of-key slot row lt spells =
      let v = spells.read image layout size (λ w low high. refl) in
      record { within = subst (λ (l : Layout). slot < l.slots) (sym layout) lt; fits = v.fits; at = v.at }

  covered-slot : (slot t : ℕ) → slot < q.layout.slots → q.held slot ≡ Some (version_by key (ByCommit t)) → is_committed q.ruling t ≡ true → Covers slot t
  covered-slot slot t lt held committed =
      by_drawn (drawn_at q t) refl (subst (λ (x : Option Version). ShowsAs o q (slice_index image) slot (class_of_version o q x)) held (shows.each slot lt))
    where
      row : List ℕ
      row = unwrap_or (wanted o q (version_by key (ByCommit t))) []

      by_newest : (b : Bool) → ShowsAs o q (slice_index image) slot (cond b (Newest t key row) (Replaced t key row)) → Covers slot t
      by_newest true there = record { begun = there.begin; version = of-key slot row lt there.spells }
      by_newest false there = record { begun = there.begin; version = of-key slot row lt there.spells }

      by_drawn : (x : Option Drawn) → drawn_at q t ≡ x → ShowsAs o q (slice_index image) slot (class_of_drawn q key t row x) → Covers slot t
      by_drawn (Some d) found there = absurd (true≢false (sym committed ∙ (drawn-facts o q kept t d found).1))
      by_drawn None found there = by_newest (nat_eq (last_writer q.history key) t) there

  -- how far links lead, of the first m commits
  record Reaches (m : ℕ) : Type 0 where
    timestamp : ℕ
    slot : ℕ
    last : last_row (take m q.history) key ≡ Some timestamp
    within : slot < q.layout.slots
    held : q.held slot ≡ Some (version_by key (ByCommit timestamp))
    begun : begin_of image slot < q.next
    low : (begin_of image slot ≤ o.ruling.persisted) ⊎ (begin_of image slot ≤ last_writer (take m q.history) key)
    leads : (bound : ℕ) → begin_of image slot < bound → Leads s image key target bound slot

  next-above : o.ruling.persisted < q.next
  next-above = omega (arith, kept.numbers.origin.further, kept.numbers.persisted)

  -- it begins with what the snapshot sees
  starts : Reaches n
  starts = by (slot-seen-at o q kept (slice_index image) n target bounds lt (can.freed target lt) (shows.each target lt) (ap (counts_at o q n) (sym (begin-is target)) ∙ both.0) (ap (counts_at o q n) (sym (end-is target)) ∙ not-true (counts_at o q n (end_of image target)) both.1))
    where
      lt : target < q.layout.slots
      lt = subst (λ (l : Layout). target < l.slots) layout seen.version.within

      both : (counts_at o q n (begin_of image target) ≡ true) × (not (counts_at o q n (end_of image target)) ≡ true)
      both = and_parts (counts_at o q n (begin_of image target)) (not (counts_at o q n (end_of image target))) (sym (sees.live target lt) ∙ seen.live)

      at-key : (k : Key) (row : List ℕ) → k ≡ key → q.held target ≡ Some (last_of q n k) → after (take n q.history) k ≡ Some row → Reaches n
      at-key k row same held there =
          let held_key : q.held target ≡ Some (last_of q n key) = subst (λ (x : Key). q.held target ≡ Some (last_of q n x)) same held in
          let there_key : after (take n q.history) key ≡ Some row = subst (λ (x : Key). after (take n q.history) x ≡ Some row) same there in
          let committed : is_committed q.ruling (last_writer (take n q.history) key) ≡ true = passes-last_writer (is_committed q.ruling) key row (take n q.history) (all-take (λ (c : Commit). is_committed q.ruling c.timestamp) n q.history kept.numbers.covered) there_key in
          let c = covered-slot target (last_writer (take n q.history) key) lt held_key committed in
          elim (cases_lt o.ruling.persisted (last_writer (take n q.history) key)) [
            | inl later ↦ record {
              timestamp = last_writer (take n q.history) key;
              slot = target;
              last = row-there q.history n key row bounds.1 there_key;
              within = lt;
              held = held_key;
              begun = omega (arith, begin-is target, c.begun.own later, (committed-bounds q.ruling (last_writer (take n q.history) key) committed).1, kept.numbers.persisted);
              low = inr (omega (arith, begin-is target, c.begun.own later));
              leads = λ bound below. arrives bound target refl below;
            }
            | inr earlier ↦ record {
              timestamp = last_writer (take n q.history) key;
              slot = target;
              last = row-there q.history n key row bounds.1 there_key;
              within = lt;
              held = held_key;
              begun = omega (arith, begin-is target, (committed-bounds o.ruling (slice_index image (word_of q.layout target 0)) (c.begun.earlier earlier)).1, next-above);
              low = inl (omega (arith, begin-is target, (committed-bounds o.ruling (slice_index image (word_of q.layout target 0)) (c.begun.earlier earlier)).1));
              leads = λ bound below. arrives bound target refl below;
            }
          ]

      by : (k : Key) × (row : List ℕ) × ((q.held target ≡ Some (last_of q n k)) × (after (take n q.history) k ≡ Some row) × Spells q.layout (slice_index image) target k row) → Reaches n
      by (k, row, (held, there, spells)) = at-key k row (sym (spells.read image layout size (λ w low high. refl)).at ∙ seen.version.at) held there

  -- and goes on over each commit
  module _ (m : ℕ) (since : n ≤ m) (c : Commit) (at : slice_get q.history m ≡ Some c) (inside : m < length q.history) (r : Reaches m) where
    above : o.ruling.persisted < c.timestamp
    above = above-origin o q kept m c (omega (arith, since, bounds.0)) at

    committed : is_committed q.ruling c.timestamp ≡ true
    committed = at-fact (λ (c : Commit). is_committed q.ruling c.timestamp) q.history 0 m c kept.numbers.covered (omega arith) at

    -- the last row version stays, if the commit writes none
    stays : last_row (take (suc m) q.history) key ≡ last_row (take m q.history) key → (begin_of image r.slot ≤ o.ruling.persisted) ⊎ (begin_of image r.slot ≤ last_writer (take (suc m) q.history) key) → Reaches (suc m)
    stays same low = record { timestamp = r.timestamp; slot = r.slot; last = same ∙ r.last; within = r.within; held = r.held; begun = r.begun; low = low; leads = r.leads }

    below : writes_key key c ≡ true → begin_of image r.slot < c.timestamp
    below writes = elim r.low [
      | inl early ↦ omega (arith, early, above)
      | inr late ↦ omega (arith, late, kept.draws.rises.covered m c key (omega (arith, since, bounds.0)) at writes)
    ]

    uncounted : counts_at o q n c.timestamp ≡ false
    uncounted = false_from_ne_true (counts_at o q n c.timestamp) (λ counts.
        let p = counts-placed o q kept n c.timestamp (uncommitted-above o.ruling c.timestamp above) counts in
        omega (arith, p.high, since, one-place q.history o.opened p.place m p.commit c kept.numbers.origin.distinct p.low (omega (arith, since, bounds.0)) p.at at p.is))

    out-of-gaps : is_in s.gaps c.timestamp ≡ false
    out-of-gaps = false_from_ne_true (is_in s.gaps c.timestamp) (λ inside. true≢false (sym (sees.gaps c.timestamp inside) ∙ above-gaps q.layout.version o.ruling c.timestamp kept.numbers.origin.formed above))

    -- it wrote a row: its version links to the one before
    writes-row : (row : List ℕ) → lookup_key c.writes key ≡ Some (Some row) → Reaches (suc m)
    writes-row row wrote = by (can.whole (suc m) key row (omega (arith, since)) (omega (arith, inside)) here.1)
      where
        here : (last_writer (take (suc m) q.history) key ≡ c.timestamp) × (after (take (suc m) q.history) key ≡ Some row)
        here = written-place q.history m c key row at wrote

        writes : writes_key key c ≡ true
        writes = ap (λ (x : Option (Option (List ℕ))). is_some x) wrote

        with_slot : (slot : ℕ) → slot < q.layout.slots → q.held slot ≡ Some (version_by key (ByCommit c.timestamp)) → Reaches (suc m)
        with_slot slot lt held =
            let v = covered-slot slot c.timestamp lt held committed in
            let begin : begin_of image slot ≡ c.timestamp = begin-is slot ∙ v.begun.own above in
            let link : link_of image slot ≡ r.slot + 1 = (links.each slot (version_by key (ByCommit c.timestamp)) lt held m r.timestamp r.slot (by_commit c.timestamp m key c (omega (arith, since, bounds.0)) at refl writes) r.last r.within r.held).read image layout size (λ w low high. refl) in
            let unseen : covers s (begin_of image slot) ≡ false = ap (covers s) begin ∙ sees.covered c.timestamp (inr (above, omega (arith, (committed-bounds q.ruling c.timestamp committed).1, kept.numbers.persisted))) ∙ uncounted in
            let counted : is_counted s (begin_of image slot) ≡ true = ap (is_counted s) begin ∙ and_from (nat_lt 0 c.timestamp) (not (is_in s.gaps c.timestamp)) (lt-ltb 0 c.timestamp (omega (arith, above))) (not_from_false (is_in s.gaps c.timestamp) out-of-gaps) in
            record {
              timestamp = c.timestamp;
              slot = slot;
              last = row-place q.history m c key at ∙ ap (λ (x : Option (Option (List ℕ))). cond (is_some (unwrap_or x None)) (Some c.timestamp) (last_row (take m q.history) key)) wrote;
              within = lt;
              held = held;
              begun = omega (arith, begin, (committed-bounds q.ruling c.timestamp committed).1, kept.numbers.persisted);
              low = inr (omega (arith, begin, here.0));
              leads = λ bound under. passes bound slot r.slot v.version under unseen counted link (r.leads (begin_of image slot) (omega (arith, begin, below writes)));
            }

        by : HasSlot q (last_of q (suc m) key) → Reaches (suc m)
        by (slot, lt, held) = with_slot slot lt (held ∙ ap (λ (t : ℕ). Some (version_by key (ByCommit t))) here.0)

    more : Reaches (suc m)
    more = by (lookup_key c.writes key) refl
      where
        rows : (x : Option (Option (List ℕ))) → lookup_key c.writes key ≡ x → last_row (take (suc m) q.history) key ≡ cond (is_some (unwrap_or x None)) (Some c.timestamp) (last_row (take m q.history) key)
        rows x wrote = row-place q.history m c key at ∙ ap (λ (x : Option (Option (List ℕ))). cond (is_some (unwrap_or x None)) (Some c.timestamp) (last_row (take m q.history) key)) wrote

        writers : (x : Option (Option (List ℕ))) → lookup_key c.writes key ≡ x → last_writer (take (suc m) q.history) key ≡ cond (is_some x) c.timestamp (last_writer (take m q.history) key)
        writers x wrote = writer-place q.history m c key at ∙ ap (λ (x : Option (Option (List ℕ))). cond (is_some x) c.timestamp (last_writer (take m q.history) key)) wrote

        by : (x : Option (Option (List ℕ))) → lookup_key c.writes key ≡ x → Reaches (suc m)
        by None wrote = stays (rows None wrote) (elim r.low [ inl early ↦ inl early | inr late ↦ inr (omega (arith, late, writers None wrote)) ])
        by (Some None) wrote = stays (rows (Some None) wrote) (inr (omega (arith, below (ap (λ (x : Option (Option (List ℕ))). is_some x) wrote), writers (Some None) wrote)))
        by (Some (Some row)) wrote = writes-row row wrote

  reaches : (m : ℕ) → n ≤ m → m ≤ length q.history → Reaches m
  reaches zero since within = let same : n ≡ 0 = omega (arith, since) in subst Reaches same starts
  reaches (suc m) since within = elim (cases_eq n (suc m)) [
    | inl same ↦ subst Reaches same starts
    | inr apart ↦ let c = place-within q.history m (omega (arith, within)) in more m (omega (arith, since, apart)) c.0 c.1 (omega (arith, within)) (reaches m (omega (arith, since, apart)) (omega (arith, within)))
  ]

  pub reached : (newest : Option ℕ) → HoldsNewest q key newest → (head : ℕ) × (newest ≡ Some head) × Leads s image key target (2 ^ 64 - 1) head
  reached newest holds =
      let r = reaches (length q.history) bounds.1 (omega arith) in
      let last : last_row q.history key ≡ Some r.timestamp = ap (λ (cs : List Commit). last_row cs key) (sym (take_all (length q.history) q.history (omega arith))) ∙ r.last in
      (r.slot, holds r.timestamp r.slot last r.within r.held, r.leads (2 ^ 64 - 1) (omega (arith, r.begun, kept.numbers.room)))

leads : (o : Origin) (q : State) (image : Image) (s : Seen) (n : ℕ) (key : Key) (newest : Option ℕ) → layout_of image ≡ q.layout → length image ≡ total_words q.layout → Keeps o q
    → SlotsShow o q (slice_index image) → Links o q (slice_index image) → CanBeRead o q (slice_index image) n → SeesBegins o q s n image → HoldsNewest q key newest → IsLinked s image key newest
leads o q image s n key newest layout size kept shows links can sees holds = λ target seen. reached o q image s n key layout size kept shows links can sees target seen newest holds

-- ---- of each snapshot that covers the ends of what was freed

-- no version is gone that it or a later one sees
pub whole-of : (o : Origin) (q : State) (value : ℕ → ℕ) (n : ℕ) → Keeps o q → CoversFreed o q value n → IsWhole q n
whole-of o q value n kept freed m key row low high there = by (stays-or_replaced q.history key (last_writer (take m q.history) key) (Some row) m (length q.history) refl there high (omega arith))
  where
    by : ((last_writer (take (length q.history) q.history) key ≡ last_writer (take m q.history) key) × (after (take (length q.history) q.history) key ≡ Some row)) ⊎ IsReplaced q.history key (last_writer (take m q.history) key) m (length q.history) → HasSlot q (last_of q m key)
    by (inl (last, here)) =
        let s : HasSlot q (last_of q (length q.history) key) = kept.owns.since_snapshot (length q.history) (inl refl) (length q.history) key row (omega arith) (omega arith) here in
        (s.0, s.1, s.2 ∙ ap (λ (t : ℕ). Some (version_by key (ByCommit t))) last)
    by (inr r) = elim (freed.versions m key row r.commit high there (record { place = r.place; since = r.low; at = r.at; writes = r.writes; last = r.last })) [
      | inl held ↦ held
      | inr counts ↦ absurd (uncounted counts)
    ]
      where
        since : o.opened ≤ r.place
        since = omega (arith, freed.since, low, r.low)

        uncounted : counts_at o q n r.commit.timestamp ≡ true → ⊥
        uncounted counts =
            let p = counts-placed o q kept n r.commit.timestamp (uncommitted-above o.ruling r.commit.timestamp (above-origin o q kept r.place r.commit since r.at)) counts in
            omega (arith, p.high, low, r.low, one-place q.history o.opened p.place r.place p.commit r.commit kept.numbers.origin.distinct p.low since p.at r.at p.is)

pub chains-lead : ChainsLead
chains-lead o q image s n key newest layout size kept shows links freed sees holds =
    leads o q image s n key newest layout size kept shows links (record { since = freed.since; within = freed.within; whole = whole-of o q (slice_index image) n kept freed; freed = freed.slots }) sees holds

pub links-lead : LinksLead
links-lead o q device s begun key newest orderly u in_use sees holds =
    leads o q (image_of device) s begun key newest (ruled o q device s begun orderly u in_use sees).1.laid_out (size o q device s begun orderly u in_use sees) u.keeps (shows o q device s begun orderly u in_use sees)
    (links o q device s begun orderly u in_use sees) (can-be-read o q u.keeps (slice_index (image_of device)) begun in_use (shows o q device s begun orderly u in_use sees)) (begins-seen o q device s begun orderly u in_use sees) holds

-- An image of the first version opens as one of the second, which has the same words except for the version.
use Rattle.std.proofs.Common.{◌≡◌, ◌≢◌, ◌⊎◌, inl, inr, ℕ, zero, suc, ◌+◌, ◌*◌, ◌%◌, ◌^◌, ◌≤◌, max, Bool, true, cond, not, ◌&&◌, ◌||◌, nat_eq, nat_le, nat_lt, List, [], ◌∷◌, length, map, fold, refl, sym, ◌∙◌, ap, subst, arith}
use Rattle.std.specs.Prelude.{◌/◌, Some, None, is_some, slice_index, slice_range, take, drop, flat_map}
use Rattle.std.specs.List.{list_all, range_with_len}
use Rattle.std.specs.Option.{option_map}
use Rattle.std.specs.Int.{to_le_bytes, w64}
use Rattle.std.proofs.lemmas.Bool.{and_parts, and_from, leb-true}
use Rattle.base.specs.declared.gap.Gap.{Gap}
use Rattle.base.specs.declared.fault.Fault.TheVariants.{Damaged, TimestampsOut}
use Rattle.base.specs.Commits.{Commit, last_writer}
use Rattle.base.specs.Layout.{Layout, is_known_version, most_slots, opened_layout, opened_version, place_start, slot_lines, slot_words, used_words}
use Rattle.base.specs.Search.{count_below, first_below, some_if}
use Rattle.base.specs.Records.{Record, record_in, record_word, is_record, is_well_formed, is_committed, is_in, opened_gaps}
use Rattle.base.specs.Images.{Image, layout_of, begin_of, gate_at, place_words, greatest_gate, ruling_place, ruling, is_ruled, is_wrong_gate, slot_word, key_of, row_of, bytes_of, is_shown, is_misfit, is_second, len_of, is_bad_slot, faults_of, opening_fault, damage, is_near_limit, needs_sweep}
use Rattle.base.specs.Keys.{key_eq}
use Rattle.base.specs.Stands.{Stands, has_timestamp}
use Rattle.machine.specs.Openings.{Counts, opened, opened_under, opened_slots, held_under, StandsOpening, gaps_kept, is_mark, lies_in_gap, lines_swept, record_counts, swept, updated, words_swept, IsOpenedGaps}
use Rattle.machine.proofs.openings.Sweeps.{swept-at}
use Rattle.machine.specs.Machine.{ByCommit}
use Rattle.machine.specs.Laws.{OpensUpdated, UpdatedOpen}
use Rattle.base.proofs.WellFormed.{well_formed-parts, well_formed-from}
use Rattle.base.proofs.Options.{AllNone, all_none, none_first, some_if_not-none}

-- ---- versions

-- an image of any version but the first stays as it is
known-is : (v : ℕ) → is_known_version v ≡ true → (v ≡ 1) ⊎ (opened_version v ≡ v)
unfolding is_known_version
known-is v known = grind (arith, leb-true, and_parts)

-- what is well formed under the first version is so under the second
formed-more : (r : Record) → is_well_formed 1 r ≡ true → is_well_formed 2 r ≡ true
formed-more r e = grind (arith, well_formed-parts, well_formed-from)

-- ---- the words

module _ (first : ℕ) (words : List ℕ) where
  abbrev old : Image
  old = first ∷ 1 ∷ words

  abbrev new : Image
  new = first ∷ 2 ∷ words

  word-same : (k : ℕ) → 2 ≤ k → slice_index new k ≡ slice_index old k
  word-same a far = grind (arith)

  other-same : (k : ℕ) → k ≢ 1 → slice_index new k ≡ slice_index old k
  other-same a other = grind (arith)

  range-same : (from to : ℕ) → 2 ≤ from → slice_range new from to ≡ slice_range old from to
  range-same zero to far = absurd (omega (arith, far))
  range-same (suc zero) to far = absurd (omega (arith, far))
  range-same (suc (suc from)) to far = refl

  gate-same : (place : ℕ) → gate_at new place ≡ gate_at old place
  gate-same place = word-same (place_start place) (omega arith)

  place-same : (place : ℕ) → place_words new place ≡ place_words old place
  place-same place = range-same (place_start place) (place_start place + 32) (omega arith)

  greatest-same : greatest_gate new ≡ greatest_gate old
  greatest-same = λ i. fold max 0 (map (λ place. gate-same place i) (range_with_len 0 (layout_of old).places))

  at-same : ruling_place new ≡ ruling_place old
  at-same = ap (λ (n : ℕ). cond (nat_eq n 0) 1 (n % (layout_of old).places)) greatest-same

  ruled-words : place_words new (ruling_place new) ≡ place_words old (ruling_place old)
  ruled-words = ap (place_words new) at-same ∙ place-same (ruling_place old)

  pub ruling-same : ruling new ≡ ruling old
  ruling-same = ap record_in ruled-words

  wrong-same : (place : ℕ) → is_wrong_gate new place ≡ is_wrong_gate old place
  wrong-same place = ap (λ (g : ℕ). not (nat_eq g 0) && (nat_le (2 ^ 62) g || not (nat_eq (g % (layout_of old).places) place))) (gate-same place)

  pub slot-same : (slot w : ℕ) → slot_word new slot w ≡ slot_word old slot w
  unfolding slot_lines slot_words
  slot-same slot w = word-same (8 + 32 * (layout_of old).places + 8 * slot + w) (omega arith)

  bytes-same : (slot : ℕ) → bytes_of new slot ≡ bytes_of old slot
  unfolding slot_lines slot_words used_words
  bytes-same slot = ap (flat_map (to_le_bytes w64)) (range-same (8 + 32 * (layout_of old).places + 8 * slot + 4) (8 + 32 * (layout_of old).places + 8 * slot + 8) (omega arith))

  -- ---- the slots

  shown-same : (r : Record) (slot : ℕ) → is_shown r new slot ≡ is_shown r old slot
  shown-same r slot = λ i. is_committed r (slot-same slot 0 i) && not (is_committed r (slot-same slot 1 i))

  key-same : (slot : ℕ) → key_of new slot ≡ key_of old slot
  key-same slot = λ i. record { table = slot-same slot 3 i % 2 ^ 16; key = slot-same slot 2 i }

  len-same : (slot : ℕ) → len_of new slot ≡ len_of old slot
  len-same slot = ap (λ (w : ℕ). w / 2 ^ 16 % 2 ^ 16) (slot-same slot 3)

  row-same : (slot : ℕ) → row_of new slot ≡ row_of old slot
  row-same slot = λ i. take (len-same slot i) (bytes-same slot i)

  misfit-same : (slot : ℕ) → is_misfit new slot ≡ is_misfit old slot
  unfolding slot_lines slot_words
  misfit-same slot = λ i.
      nat_lt 32 (len-same slot i)
      || not (list_all (nat_eq 0) (drop (len-same slot i) (bytes-same slot i)))
      || nat_lt (layout_of old).slots (slot-same slot 3 i / 2 ^ 32)

  second-same : (r : Record) (slot : ℕ) → is_second r new slot ≡ is_second r old slot
  second-same r slot = λ i. is_some (first_below slot (λ lower. shown-same r lower i && key_eq (key-same lower i) (key-same slot i)))

  bad-same : (r : Record) (slot : ℕ) → is_bad_slot r new slot ≡ is_bad_slot r old slot
  bad-same r slot = λ i. (nat_le r.dirty (slot-same slot 0 i) || nat_le r.dirty (slot-same slot 1 i)) || (shown-same r slot i && (misfit-same slot i || second-same r slot i))

  -- ---- a sweep of it

  needs-same : needs_sweep new ≡ needs_sweep old
  needs-same = ap (λ (r : Record). nat_lt 8 (length (opened_gaps r))) ruling-same

  swept-same : (word : ℕ) → 2 ≤ word → slice_index (swept new) word ≡ slice_index (swept old) word
  unfolding slot_lines slot_words
  swept-same word far =
      swept-at new word
      ∙ (λ i. cond (is_mark (layout_of old) word && is_in (opened_gaps (ruling-same i)) (word-same word far i)) 0 (word-same word far i))
      ∙ sym (swept-at old word)

  slots-same : (word : ℕ) → 2 ≤ word → slice_index (opened_slots new) word ≡ slice_index (opened_slots old) word
  slots-same word far = grind (arith, needs-same, swept-same, word-same)

  lies-same : (w slot : ℕ) → lies_in_gap new w slot ≡ lies_in_gap old w slot
  lies-same w slot = λ i. is_in (opened_gaps (ruling-same i)) (slot-same slot w i)

  words-same : words_swept new ≡ words_swept old
  words-same = λ i. count_below (layout_of old).slots (λ slot. lies-same 0 slot i) + count_below (layout_of old).slots (λ slot. lies-same 1 slot i)

  lines-same : lines_swept new ≡ lines_swept old
  lines-same = λ i. count_below (layout_of old).slots (λ slot. lies-same 0 slot i || lies-same 1 slot i)

  counts-same : record_counts new ≡ record_counts old
  counts-same = λ i. cond (needs-same i) (let c : Counts = record { stores = 32 + words-same i; flushes = 5 + lines-same i; fences = 3 } in c) (record { stores = 32; flushes = 5; fences = 2 })

  -- ---- what is wrong with it

  module _ (opens : opening_fault old ≡ None) where
    s0 : AllNone (damage old ∷ some_if (is_near_limit old) TimestampsOut ∷ [])
    s0 = all_none (damage old ∷ some_if (is_near_limit old) TimestampsOut ∷ []) opens

    f : AllNone (faults_of old)
    f = all_none (faults_of old) s0.0

    ruled-new : is_ruled new ≡ true
    ruled-new =
        let (_, (_, (_, (_, (ruled, _))))) = f in
        let both = and_parts (not (nat_eq (greatest_gate old) 0)) (is_record 1 (place_words old (ruling_place old))) (some_if_not-none (is_ruled old) (Damaged (ruling_place old)) ruled) in
        and_from (not (nat_eq (greatest_gate new) 0)) (is_record 2 (place_words new (ruling_place new)))
        (ap (λ (g : ℕ). not (nat_eq g 0)) greatest-same ∙ both.0) (ap (is_record 2) ruled-words ∙ more (place_words old (ruling_place old)) both.1)
      where
        more : (ws : List ℕ) → is_record 1 ws ≡ true → is_record 2 ws ≡ true
        more ws e =
            let parts = and_parts (nat_eq (length ws) 32 && list_all (λ w. nat_eq (slice_index ws w) (record_word (record_in ws) w)) (range_with_len 0 32)) (is_well_formed 1 (record_in ws)) e in
            and_from (nat_eq (length ws) 32 && list_all (λ w. nat_eq (slice_index ws w) (record_word (record_in ws) w)) (range_with_len 0 32)) (is_well_formed 2 (record_in ws)) parts.0 (formed-more (record_in ws) parts.1)

    sound-new : damage new ≡ None
    unfolding is_known_version most_slots slot_lines slot_words
    sound-new =
        let (formatted, (_, (geometry, (gates, (_, (slots, _)))))) = f in
        none_first (faults_of new) (
          formatted,
          (
            refl,
            (
              geometry,
              (
                (λ i. option_map Damaged (first_below (layout_of old).places (λ place. wrong-same place i))) ∙ gates,
                (
                  ap (λ (b : Bool). some_if (not b) (Damaged (ruling_place new))) ruled-new,
                  (
                    ap (λ (r : Record). option_map (λ slot. Damaged ((layout_of old).places + slot)) (first_below (layout_of old).slots (is_bad_slot r new))) ruling-same
                        ∙ (λ i. option_map (λ slot. Damaged ((layout_of old).places + slot)) (first_below (layout_of old).slots (λ slot. bad-same (ruling old) slot i))) ∙ slots,
                    tt,
                  ),
                ),
              ),
            ),
          ),
        )

    near-same : is_near_limit new ≡ is_near_limit old
    near-same = ap (λ (r : Record). nat_le (2 ^ 62) (r.dirty + 2 * (layout_of old).window) || nat_le (2 ^ 62) (r.gate + 1)) ruling-same

    opens-new : opening_fault new ≡ None
    opens-new = none_first (damage new ∷ some_if (is_near_limit new) TimestampsOut ∷ []) (sound-new, (ap (λ (b : Bool). some_if b TimestampsOut) near-same ∙ s0.1.0, tt))

    -- ---- what it stands for

    shown-now : (slot : ℕ) → is_shown (ruling new) new slot ≡ is_shown (ruling old) old slot
    shown-now slot = ap (λ (r : Record). is_shown r new slot) ruling-same ∙ shown-same (ruling old) slot

    stands-new : (history drawn : List Commit) (next : ℕ) → Stands old history drawn next → Stands new history drawn next
    stands-new history drawn next s = record {
      sound = sound-new;
      tables = λ key row. (
        (λ t. (s.tables key row).0 (t.0, t.1, sym (shown-now t.0) ∙ t.2, sym (key-same t.0) ∙ t.3, sym (row-same t.0) ∙ t.4)),
        (λ e. let t = (s.tables key row).1 e in (t.0, t.1, shown-now t.0 ∙ t.2, key-same t.0 ∙ t.3, row-same t.0 ∙ t.4)),
      );
      covered = subst (λ (r : Record). list_all (λ commit. is_committed r commit.timestamp) history ≡ true) (sym ruling-same) s.covered;
      left_out = subst (λ (r : Record). list_all (λ commit. has_timestamp history commit.timestamp || not (is_committed r commit.timestamp)) drawn ≡ true) (sym ruling-same) s.left_out;
      reserved = subst (λ (r : Record). next ≤ r.dirty) (sym ruling-same) s.reserved;
    }

    held-same : (a : Layout) (r : Record) (history : List Commit) (slot : ℕ) → held_under a r new history slot ≡ held_under a r old history slot
    held-same a r history slot = λ i. cond (nat_lt slot a.slots && shown-same r slot i) (Some (record { key = key-same slot i; writer = ByCommit (last_writer history (key-same slot i)) })) None

    opened-same : (history : List Commit) (lost : List ℕ) (gaps : List Gap) → opened new history lost gaps ≡ opened old history lost gaps
    opened-same history lost gaps =
        ap (λ (r : Record). opened_under (opened_layout (layout_of new)) r new history lost (gaps_kept gaps)) ruling-same
        ∙ (λ i. record (opened_under (opened_layout (layout_of old)) (ruling old) new history lost (gaps_kept gaps)) { held = λ slot. held-same (opened_layout (layout_of old)) (ruling old) history slot i })

    within-old : (history : List Commit) (next : ℕ) (other : Image) → StandsOpening new history next other → StandsOpening old history next other
    within-old history next other s = record {
      stands = s.stands;
      ruled = elim s.ruled [
        | inl same ↦ inl (same ∙ ruling-same)
        | inr o ↦ inr (o.0, (o.1.0, subst (λ (r : Record). IsOpenedGaps r o.1.0) ruling-same o.1.1, o.1.2 ∙ opened-same history [] o.1.0), o.2)
      ];
      laid_out = elim s.laid_out [ inl same ↦ inr same | inr same ↦ inr same ];
    }

    pub opens-first : OpensUpdated old
    unfolding slot_lines slot_words
    opens-first = record {
      opens = opens-new;
      up_to_date = refl;
      laid_out = refl;
      ruled = ruling-same;
      same = λ e. cc;
      size = refl;
      words = other-same;
      slots = slots-same;
      place = at-same;
      begins = λ slot. slot-same slot 0;
      shown = shown-same;
      keys = key-same;
      rows = row-same;
      misfits = misfit-same;
      marks = λ word. refl;
      sweeps = needs-same;
      counts = counts-same;
      stands = stands-new;
      opened_as = opened-same;
      within = within-old;
    }

known-of : (first version : ℕ) (words : List ℕ) → opening_fault (first ∷ version ∷ words) ≡ None → is_known_version version ≡ true
known-of first version words opens = grind (arith, all_none, some_if_not-none)

-- an image that keeps its version is its own
module _ (first version : ℕ) (words : List ℕ) (kept : opened_version version ≡ version) where
  abbrev image : Image
  image = first ∷ version ∷ words

  own : updated image ≡ image
  own = ap (λ (v : ℕ). first ∷ v ∷ words) kept

  own-layout : layout_of image ≡ opened_layout (layout_of image)
  own-layout = ap (λ (v : ℕ). record (layout_of image) { version = v }) (sym kept)

  same-kept : opening_fault image ≡ None → OpensUpdated image
  same-kept opens = record {
    opens = ap opening_fault own ∙ opens;
    up_to_date = subst (λ (i : Image). layout_of i ≡ opened_layout (layout_of i)) (sym own) own-layout;
    laid_out = ap layout_of own ∙ own-layout;
    ruled = ap ruling own;
    same = λ e. own;
    size = ap length own;
    words = λ w other. ap (λ (i : Image). slice_index i w) own;
    slots = λ w far. ap (λ (i : Image). slice_index (opened_slots i) w) own;
    place = ap ruling_place own;
    begins = λ s. ap (λ (i : Image). begin_of i s) own;
    shown = λ r s. ap (λ (i : Image). is_shown r i s) own;
    keys = λ s. ap (λ (i : Image). key_of i s) own;
    rows = λ s. ap (λ (i : Image). row_of i s) own;
    misfits = λ s. ap (λ (i : Image). is_misfit i s) own;
    marks = λ w. ap (λ (i : Image). is_mark (layout_of i) w) own;
    sweeps = ap needs_sweep own;
    counts = ap record_counts own;
    stands = λ h d n s. subst (λ (i : Image). Stands i h d n) (sym own) s;
    opened_as = λ h l g. ap (λ (i : Image). opened i h l g) own;
    within = λ h n o s. subst (λ (i : Image). StandsOpening i h n o) own s;
  }

pub updated-open : UpdatedOpen
updated-open [] opens = absurd (cc opens)
updated-open (first ∷ []) opens = absurd (cc opens)
updated-open (first ∷ version ∷ words) opens = by (known-is version (known-of first version words opens))
  where
    by : (version ≡ 1) ⊎ (opened_version version ≡ version) → OpensUpdated (first ∷ version ∷ words)
    by (inl one) = subst (λ (v : ℕ). OpensUpdated (first ∷ v ∷ words)) (sym one) (opens-first first words (subst (λ (v : ℕ). opening_fault (first ∷ v ∷ words) ≡ None) one opens))
    by (inr kept) = same-kept first version words kept opens

-- An opened state keeps what every state keeps, and its slots show what it says.
use Rattle.std.proofs.Common.{◌≡◌, ◌⊎◌, inl, inr, ℕ, ◌+◌, ◌-◌, ◌*◌, ◌^◌, ◌<◌, ◌≤◌, Bool, true, false, not, ◌&&◌, ◌||◌, List, [], ◌∷◌, length, take, drop, refl, sym, ◌∙◌, ap, subst, nat_eq, cond, arith}
use Rattle.std.specs.Prelude.{slice_index, Option, Some, None, unwrap_or, fold, nat_le, nat_lt}
use Rattle.std.specs.List.{list_all}
use Rattle.std.proofs.lemmas.List.{take_all, drop_all}
use Rattle.std.proofs.lemmas.Bool.{and_parts, and_from, and_right, and_cases, or_parts, or_left, cases_order, leb-false, lt-ltb, eq-eqb, not-true, not-false, cond-true, cond-false}
use Rattle.std.proofs.lemmas.Option.{slice_get_within, none-some, cond_some}
use Rattle.std.proofs.lemmas.Bool.Decides.{nat_tests}
use Rattle.base.specs.declared.key.Key.{Key}
use Rattle.base.specs.declared.gap.Gap.{Gap}
use Rattle.base.specs.Keys.{key_eq}
use Rattle.base.specs.Commits.{Commit, Tables, overlaid, laid, no_rows, writes_key, after, last_writer}
use Rattle.base.specs.Layout.{Layout}
use Rattle.base.specs.Records.{Record, is_in, is_committed, opened_gaps}
use Rattle.base.specs.Images.{Image, layout_of, key_of, row_of, begin_of, end_of, is_shown, is_misfit, is_second, ruling, is_bad_slot, opening_fault}
use Rattle.base.specs.Stands.{Stands}
use Rattle.machine.specs.Openings.{IsOpenedGaps, IsUpToDate, OpensAs, opening_record, opened_under, held_under, gaps_kept, opened_slots}
use Rattle.machine.specs.Machine.{State, Version, ByCommit}
use Rattle.base.proofs.WellFormed.{well_formed-parts}
use Rattle.machine.proofs.openings.Records.{same-committed, formed-over}
use Rattle.machine.proofs.openings.States.{IsOpening, ruled_before, opening-of, same_opened}
use Rattle.base.proofs.Keys.{key_eq-same}
use Rattle.base.proofs.Search.{first_below-none}
use Rattle.base.proofs.Layouts.{has_window}
use Rattle.state_invariant.specs.Kept.{Origin, origin_of, Keeps, HasSlot, IsInUse, wanted, version_by, last_of, are_distinct}
use Rattle.state_invariant.specs.Shown.{word_of, IsNever, IsHidden, IsNewest, ShowsAs, SlotsShow, class_of_version, Newest, Replaced}
use Rattle.state_invariant.proofs.Commits.{committed-bounds}
use Rattle.state_invariant.proofs.Spelling.{spells-image}

-- ---- what is found on opening

-- what a slot is that isn't bad
record IsGood (r : Record) (image : Image) (slot : ℕ) : Type 0 where
  begin : begin_of image slot < r.dirty
  end : end_of image slot < r.dirty
  fits : is_shown r image slot ≡ true → is_misfit image slot ≡ false
  first : is_shown r image slot ≡ true → is_second r image slot ≡ false

live-parts : (live misfit second : Bool) → (live && (misfit || second)) ≡ false → live ≡ true → (misfit ≡ false) × (second ≡ false)
live-parts a misfit second e is = grind (arith)

good-slot : (r : Record) (image : Image) (slot : ℕ) → is_bad_slot r image slot ≡ false → IsGood r image slot
good-slot r image slot e = grind (arith, or_parts, leb-false, live-parts)

-- two live slots of a key are the same
one-lower : (r : Record) (image : Image) (lower slot : ℕ) → lower < slot → IsGood r image slot → is_shown r image lower ≡ true → is_shown r image slot ≡ true → key_of image lower ≡ key_of image slot → ⊥
one-lower r image lower slot less good live_lower live same =
    let test : ℕ → Bool = λ l. is_shown r image l && key_eq (key_of image l) (key_of image slot) in
    grind (arith, key_eq-same (key_of image lower), first_below-none slot test)

one-live : (r : Record) (image : Image) (a b : ℕ) → IsGood r image a → IsGood r image b → is_shown r image a ≡ true → is_shown r image b ≡ true → key_of image a ≡ key_of image b → a ≡ b
one-live r image a b good_a good_b live_a live_b same = grind (arith, cases_order, one-lower)

-- ---- the versions that live slots are given

abbrev version_in : Image → List Commit → ℕ → Version
version_in image history slot = version_by (key_of image slot) (ByCommit (last_writer history (key_of image slot)))

record IsHeldAs (r : Record) (image : Image) (history : List Commit) (slot : ℕ) (version : Version) : Type 0 where
  live : is_shown r image slot ≡ true
  is : version_in image history slot ≡ version

held-as : (a : Layout) (r : Record) (image : Image) (history : List Commit) (slot : ℕ) (version : Version) → held_under a r image history slot ≡ Some version → IsHeldAs r image history slot version
held-as a r image history slot version e =
    let both = cond_some (nat_lt slot a.slots && is_shown r image slot) (version_in image history slot) version e in
    record { live = (and_parts (nat_lt slot a.slots) (is_shown r image slot) both.0).1; is = both.1 }

held-live : (a : Layout) (r : Record) (image : Image) (history : List Commit) (slot : ℕ) → slot < a.slots → is_shown r image slot ≡ true → held_under a r image history slot ≡ Some (version_in image history slot)
held-live a r image history slot h live =
    cond-true (nat_lt slot a.slots && is_shown r image slot) (Some (version_in image history slot)) None (and_from (nat_lt slot a.slots) (is_shown r image slot) (lt-ltb slot a.slots h) live)

held-none : (a : Layout) (r : Record) (image : Image) (history : List Commit) (slot : ℕ) → is_shown r image slot ≡ false → held_under a r image history slot ≡ None
held-none a r image history slot dead = cond-false (nat_lt slot a.slots && is_shown r image slot) (Some (version_in image history slot)) None (and_right (nat_lt slot a.slots) (is_shown r image slot) dead)

by_commit-same : (t u : ℕ) → ByCommit t ≡ ByCommit u → t ≡ u
by_commit-same t u e = cc

-- if there is a row, its key's last writer passes what each commit passes
passes-from : (test : ℕ → Bool) (key : Key) (row : List ℕ) (tables : Tables) (t : ℕ) (history : List Commit)
    → ((row : List ℕ) → tables key ≡ Some row → test t ≡ true) → list_all (λ commit. test commit.timestamp) history ≡ true
    → laid tables history key ≡ Some row → test (fold (λ t commit. cond (writes_key key commit) commit.timestamp t) t history) ≡ true
passes-from test key row tables t [] first all e = first row e
passes-from test key row tables t (commit ∷ history) first all e = grind (arith, passes-from test key row (overlaid commit.writes tables) (cond (writes_key key commit) commit.timestamp t) history)

pub passes-last_writer : (test : ℕ → Bool) (key : Key) (row : List ℕ) (history : List Commit) → list_all (λ commit. test commit.timestamp) history ≡ true → after history key ≡ Some row → test (last_writer history key) ≡ true
passes-last_writer test key row history all e = passes-from test key row no_rows 0 history (λ row e. absurd (none-some row e)) all e

narrower : (dirty window limit : ℕ) → dirty + 2 * window < limit → dirty + window < limit
narrower dirty window limit h = omega (arith, h)

-- what the opened record doesn't commit, though it is below the old dirty timestamp, is 0 or in a gap
never-parts : (t persisted : ℕ) (i : Bool) → t ≤ persisted → (nat_le 1 t && nat_le t persisted && not i && not false) ≡ false → (t ≡ 0) ⊎ (i ≡ true)
never-parts t persisted a h e = grind (arith)

never-over : (a : Layout) (r : Record) (gaps : List Gap) (t : ℕ) → IsOpenedGaps r gaps → t < r.dirty → is_committed r t ≡ false → (t ≡ 0) ⊎ (is_in gaps t ≡ true)
never-over a r gaps t opened h e = never-parts t (r.dirty - 1) (is_in gaps t) (omega (arith, h)) (same-committed a r gaps t opened h ∙ e)

covered-over : (a : Layout) (r : Record) (gaps : List Gap) (history : List Commit) → IsOpenedGaps r gaps → r.persisted < r.dirty
    → list_all (λ commit. is_committed r commit.timestamp) history ≡ true → list_all (λ commit. is_committed (opening_record a r gaps) commit.timestamp) history ≡ true
covered-over a r gaps [] opened less all = refl
covered-over a r gaps (commit ∷ history) opened less all = grind (arith, covered-over a r gaps history opened less, nat_tests)

-- ---- the opened state

module _ (a : Layout) (r : Record) (image : Image) (history : List Commit) (lost : List ℕ) (gaps : List Gap) (opening : IsOpening a r image history gaps) where
  abbrev start : State
  start = opened_under a r image history lost gaps

  abbrev begins : Origin
  begins = origin_of start

  less : r.persisted < r.dirty
  less = (well_formed-parts a.version r opening.formed).below

  good : (slot : ℕ) → slot < a.slots → IsGood r image slot
  good slot h = good-slot r image slot (opening.good slot h)

  -- a live slot has a row of the history
  live-row : (slot : ℕ) → slot < a.slots → is_shown r image slot ≡ true → after history (key_of image slot) ≡ Some (row_of image slot)
  live-row slot h live = (opening.tables (key_of image slot) (row_of image slot)).0 (slot, subst (λ (l : Layout). slot < l.slots) (sym opening.layout) h, live, refl, refl)

  writer-before : (key : Key) (row : List ℕ) → after history key ≡ Some row → last_writer history key < r.dirty
  writer-before key row e = let most = committed-bounds r (last_writer history key) (passes-last_writer (is_committed r) key row history opening.covered e) in omega (arith, most.1, less)

  all-taken : take (length history) history ≡ history
  all-taken = take_all (length history) history (omega arith)

  none-since : drop (length history) history ≡ []
  none-since = drop_all (length history) history (omega arith)

  wanted-opened : (key : Key) (row : List ℕ) → after history key ≡ Some row → wanted begins start (version_by key (ByCommit (last_writer history key))) ≡ Some row
  wanted-opened key row is = grind (arith, none-since, all-taken, eq-eqb)

  opened-keeps : Keeps begins start
  opened-keeps = record {
    numbers = record {
      ruling = record {
        layout = opening.limits;
        formed = formed-over a.version a r gaps opening.formed opening.gaps_cover opening.few (has_window a opening.limits) (narrower r.dirty a.window (2 ^ 62) opening.room);
        persisted = omega (arith, less);
        reserved = omega arith;
        window = omega arith;
        room = omega (arith, opening.room);
        covered = covered-over a r gaps history opening.gaps_cover less opening.covered;
      };
      drawn = refl;
      longs = λ t any. absurd (cc any);
      hand = λ hand is. absurd (none-some hand is);
      origin = record {
        covered = record {
          formed = formed-over a.version a r gaps opening.formed opening.gaps_cover opening.few (has_window a opening.limits) (narrower r.dirty a.window (2 ^ 62) opening.room);
          whole = refl;
          opened = omega arith;
          further = omega arith;
          before = ap (λ (cs : List Commit). list_all (λ commit. is_committed (opening_record a r gaps) commit.timestamp) cs) all-taken ∙ covered-over a r gaps history opening.gaps_cover less opening.covered;
          since = ap (λ (cs : List Commit). list_all (λ commit. nat_lt (r.dirty - 1) commit.timestamp) cs) none-since;
          distinct = ap are_distinct none-since;
          still = λ t counts. counts;
        };
        drawn = refl;
        each = λ t above below. absurd (omega (arith, above, below));
        gaps = inl refl;
      };
      snapshots = λ n begun writes is. absurd (none-some _ is);
      numbered = λ n session is. absurd (none-some _ is);
    };
    draws = record {
      rising = refl;
      apart = λ t u d e key found_d found_e writes_d writes_e. absurd (none-some d found_d);
      counted = refl;
      in_order = refl;
      sorted = λ n. refl;
      drew = λ n t is. absurd (none-some _ is);
      rises = record {
        covered = λ place c key since at writes. absurd (omega (arith, since, slice_get_within history place c at));
        drawn = λ t d key found writes. absurd (none-some d found);
      };
    };
    owns = record {
      once = λ x y version hx hy ex ey. grind (arith, held-as a r image history x version ex, held-as a r image history y version ey, one-live r image x y (good x hx) (good y hy));
      has = λ slot v h e.
          let held = held-as a r image history slot v e in
          (row_of image slot, subst (λ (w : Version). wanted begins start w ≡ Some (row_of image slot)) held.is (wanted-opened (key_of image slot) (row_of image slot) (live-row slot h held.live)));
      before = λ slot t key h e.
          let held = held-as a r image history slot (version_by key (ByCommit t)) e in
          let same : last_writer history (key_of image slot) ≡ t = by_commit-same (last_writer history (key_of image slot)) t (ap (λ (v : Version). v.writer) held.is) in
          omega (arith, same, writer-before (key_of image slot) (row_of image slot) (live-row slot h held.live));
      by_session = λ n key row e. absurd (none-some (Some row) e);
      by_draw = λ t key d row found e. absurd (none-some d found);
      since_snapshot = λ n in_use m key row since within e. at_all m key row (all-in n m in_use since within) e;
    };
  }
    where
      shown : (key : Key) (row : List ℕ) → after history key ≡ Some row → HasSlot start (version_by key (ByCommit (last_writer history key)))
      shown key row e =
          let found = (opening.tables key row).1 e in
          let within : found.0 < a.slots = subst (λ (l : Layout). found.0 < l.slots) opening.layout found.1 in
          (found.0, within, held-live a r image history found.0 within found.2 ∙ ap (λ (k : Key). Some (version_by k (ByCommit (last_writer history k)))) found.3)

      all-in : (n m : ℕ) → IsInUse start n → n ≤ m → m ≤ length history → m ≡ length history
      all-in n m (inr (session, writes, active)) since within = absurd (none-some _ active)
      all-in n m (inl all) since within = omega (arith, all, since, within)

      at_all : (n : ℕ) (key : Key) (row : List ℕ) → n ≡ length history → after (take n history) key ≡ Some row → HasSlot start (last_of start n key)
      at_all n key row all e =
          let same : take n history ≡ history = take_all n history (omega (arith, all)) in
          subst (λ (cs : List Commit). HasSlot start (version_by key (ByCommit (last_writer cs key)))) (sym same) (shown key row (sym (ap (λ (cs : List Commit). after cs key) same) ∙ e))

  -- ---- what the slots show

  abbrev value : ℕ → ℕ
  value word = slice_index image word

  begin-value : (slot : ℕ) → value (word_of a slot 0) ≡ begin_of image slot
  begin-value slot = ap (λ (l : Layout). slice_index image (word_of l slot 0)) (sym opening.layout)

  end-value : (slot : ℕ) → value (word_of a slot 1) ≡ end_of image slot
  end-value slot = ap (λ (l : Layout). slice_index image (word_of l slot 1)) (sym opening.layout)

  never : (t : ℕ) → t < r.dirty → is_committed r t ≡ false → IsNever begins start t
  never t h e = grind (arith, never-over)

  shows-live : (slot : ℕ) → slot < a.slots → is_shown r image slot ≡ true → IsNewest begins start value slot (last_writer history (key_of image slot)) (key_of image slot) (row_of image slot)
  shows-live slot h live =
      let counts = and_parts (is_committed r (begin_of image slot)) (not (is_committed r (end_of image slot))) live in
      record {
        begin = record {
          own = λ above. absurd (omega (arith, above, writer-before (key_of image slot) (row_of image slot) (live-row slot h live)));
          earlier = λ le. ap (is_committed (opening_record a r gaps)) (begin-value slot) ∙ same-committed a r gaps (begin_of image slot) opening.gaps_cover (good slot h).begin ∙ counts.0;
        };
        end = inl (subst (IsNever begins start) (sym (end-value slot)) (never (end_of image slot) (good slot h).end (not-true (is_committed r (end_of image slot)) counts.1)));
        ended = λ u d found is. absurd (none-some d found);
        spells = spells-image a image slot opening.layout opening.size ((good slot h).fits live);
      }

  shows-dead : (slot : ℕ) → slot < a.slots → is_shown r image slot ≡ false → IsHidden begins start (value (word_of a slot 0)) (value (word_of a slot 1))
  shows-dead slot h dead = by (and_cases (is_committed r (begin_of image slot)) (not (is_committed r (end_of image slot))) dead)
    where
      by : (is_committed r (begin_of image slot) ≡ false) ⊎ (not (is_committed r (end_of image slot)) ≡ false) → IsHidden begins start (value (word_of a slot 0)) (value (word_of a slot 1))
      by (inl unbegun) = inl (subst (IsNever begins start) (sym (begin-value slot)) (never (begin_of image slot) (good slot h).begin unbegun))
      by (inr ended) = inr (λ n in_use.
          or_left (is_committed (opening_record a r gaps) (value (word_of a slot 1))) _
          (ap (is_committed (opening_record a r gaps)) (end-value slot) ∙ same-committed a r gaps (end_of image slot) opening.gaps_cover (good slot h).end ∙ not-false (is_committed r (end_of image slot)) ended))

  opened-shows : SlotsShow begins start value
  opened-shows = record { each = λ slot h. by slot h (is_shown r image slot) refl }
    where
      by : (slot : ℕ) → slot < a.slots → (b : Bool) → is_shown r image slot ≡ b → ShowsAs begins start value slot (class_of_version begins start (held_under a r image history slot))
      by slot h true live =
          subst (λ (o : Option Version). ShowsAs begins start value slot (class_of_version begins start o)) (sym (held-live a r image history slot h live))
          (subst (λ (o : Option (List ℕ)). ShowsAs begins start value slot (cond (nat_eq (last_writer history (key_of image slot)) (last_writer history (key_of image slot))) (Newest (last_writer history (key_of image slot)) (key_of image slot) (unwrap_or o [])) (Replaced (last_writer history (key_of image slot)) (key_of image slot) (unwrap_or o []))))
          (sym (wanted-opened (key_of image slot) (row_of image slot) (live-row slot h live)))
          (subst (λ (b : Bool). ShowsAs begins start value slot (cond b (Newest (last_writer history (key_of image slot)) (key_of image slot) (row_of image slot)) (Replaced (last_writer history (key_of image slot)) (key_of image slot) (row_of image slot))))
          (sym (eq-eqb (last_writer history (key_of image slot)) (last_writer history (key_of image slot)) refl))
          (shows-live slot h live)))
      by slot h false dead = subst (λ (o : Option Version). ShowsAs begins start value slot (class_of_version begins start o)) (sym (held-none a r image history slot dead)) (shows-dead slot h dead)

-- ---- the theorems

pub keeps-opened : (image : Image) (history drawn : List Commit) (next : ℕ) (lost : List ℕ) (q : State) → opening_fault image ≡ None → IsUpToDate image → Stands image history drawn next → OpensAs image history lost q
    → Keeps (origin_of q) q
keeps-opened image history drawn next lost q opens up stands (gaps, covers, is) =
    subst (λ (p : State). Keeps (origin_of p) p) (same_opened image history lost gaps stands.sound up covers ∙ sym is)
    (opened-keeps (layout_of image) (ruled_before image) (opened_slots image) history lost (gaps_kept (opened_gaps (ruling image))) (opening-of image history drawn next opens stands))

pub shows-opened : (image : Image) (history drawn : List Commit) (next : ℕ) (lost : List ℕ) (q : State) → opening_fault image ≡ None → IsUpToDate image → Stands image history drawn next → OpensAs image history lost q
    → SlotsShow (origin_of q) q (slice_index (opened_slots image))
shows-opened image history drawn next lost q opens up stands (gaps, covers, is) =
    subst (λ (p : State). SlotsShow (origin_of p) p (slice_index (opened_slots image))) (same_opened image history lost gaps stands.sound up covers ∙ sym is)
    (opened-shows (layout_of image) (ruled_before image) (opened_slots image) history lost (gaps_kept (opened_gaps (ruling image))) (opening-of image history drawn next opens stands))

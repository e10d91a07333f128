-- What a snapshot sees of a slot, whatever it says about timestamps in swept gaps.
use Rattle.std.proofs.Common.{◌≡◌, ◌≢◌, ◌⊎◌, inl, inr, ℕ, ◌<◌, Bool, true, false, cond, not, ◌&&◌, ◌||◌, List, [], ◌∷◌, refl, sym, ◌∙◌, ap, subst, arith, Option, Some, None, true≢false}
use Rattle.std.specs.Prelude.{nat_eq, unwrap_or, find}
use Rattle.std.specs.List.{list_any}
use Rattle.std.proofs.lemmas.Bool.{cases_eq, eq-eqb, ne_eqb, leb-true, leb-false, and_right}
use Rattle.base.specs.declared.key.Key.{Key}
use Rattle.base.specs.Commits.{last_writer, writes_key}
use Rattle.base.specs.Records.{is_in, is_committed}
use Rattle.machine.specs.Machine.{State, Drawn, Version, Writer, BySession, ByCommit, drawn_at}
use Rattle.state_invariant.specs.Kept.{Origin, Keeps, IsInUse, wanted, version_by}
use Rattle.state_invariant.specs.Shown.{word_of, IsOutOfSwept, IsNever, counts_at, is_drawn_on, is_key_stamped, HasBegun, IsHidden, IsWaiting, IsNewest, IsReplaced, Newest, Replaced, Begun, Waiting, ShowsAs, SlotShows, class_of_version, class_of_drawn}
use Rattle.state_invariant.proofs.Commits.{uncommitted-gap}
use Rattle.state_invariant.proofs.Records.{above-gaps, zero-gaps}
use Rattle.state_invariant.proofs.reads.Tables.{never-counts, drawn-counts, drawn_on-counts, drawn-facts, above-origin, counts-placed}
use Rattle.state_invariant.proofs.collector.Garbage.{replaced-above}

module _ (o : Origin) (q : State) (kept : Keeps o q) where
  -- ---- timestamps that no gap has

  pub out-above : (t : ℕ) → o.ruling.persisted < t → is_in o.ruling.gaps t ≡ false
  out-above t above = above-gaps q.layout.version o.ruling t kept.numbers.origin.formed above

  out-committed : (t : ℕ) → is_committed o.ruling t ≡ true → is_in o.ruling.gaps t ≡ false
  out-committed t is = grind (arith, true≢false, uncommitted-gap)

  pub out-counted : (n t : ℕ) → counts_at o q n t ≡ true → is_in o.ruling.gaps t ≡ false
  out-counted n t counts = by (is_committed o.ruling t) refl
    where
      by : (b : Bool) → is_committed o.ruling t ≡ b → is_in o.ruling.gaps t ≡ false
      by true is = out-committed t is
      by false out = let p = counts-placed o q kept n t out counts in out-above t (omega (arith, p.is, above-origin o q kept p.place p.commit p.low p.at))

  out-begun : (t begin : ℕ) → HasBegun o t begin → is_in o.ruling.gaps begin ≡ false
  out-begun t begin begun = grind (arith, out-committed, leb-true, leb-false, out-above)

  drawn-on : (key : Key) (t : ℕ) → is_drawn_on q key t ≡ true → (d : Drawn) × (drawn_at q t ≡ Some d)
  drawn-on key t on = some q.drawn on
    where
      some : (ds : List Drawn) → list_any (λ d. nat_eq d.commit.timestamp t && writes_key key d.commit) ds ≡ true → (d : Drawn) × (find (λ (d : Drawn). nat_eq d.commit.timestamp t) ds ≡ Some d)
      some [] any = absurd (true≢false (sym any))
      some (d ∷ ds) any = by (nat_eq d.commit.timestamp t) any (some ds)
        where
          by : (b : Bool) → ((b && writes_key key d.commit) || list_any (λ d. nat_eq d.commit.timestamp t && writes_key key d.commit) ds) ≡ true
              → (list_any (λ d. nat_eq d.commit.timestamp t && writes_key key d.commit) ds ≡ true → (d : Drawn) × (find (λ (d : Drawn). nat_eq d.commit.timestamp t) ds ≡ Some d))
              → (e : Drawn) × (cond b (Some d) (find (λ (d : Drawn). nat_eq d.commit.timestamp t) ds) ≡ Some e)
          by true any rest = (d, refl)
          by false any rest = rest any

  out-drawn : (t : ℕ) (d : Drawn) → drawn_at q t ≡ Some d → is_in o.ruling.gaps t ≡ false
  out-drawn t d found = out-above t (drawn-facts o q kept t d found).0

  -- 0 is in no gap, and what is in an unswept gap is in no swept one
  zero-out : is_in o.ruling.gaps 0 ≡ false
  zero-out = zero-gaps q.layout.version o.ruling kept.numbers.origin.formed

  out-never : (t : ℕ) → IsNever o q t → IsOutOfSwept o q t
  out-never t a swept = grind (arith, zero-out)

  -- ---- a slot

  module _ (value : ℕ → ℕ) (slot : ℕ) (lt : slot < q.layout.slots) (n : ℕ) (in_use : IsInUse q n) (counts : ℕ → Bool) where
    abbrev begin : ℕ
    begin = value (word_of q.layout slot 0)

    abbrev end : ℕ
    end = value (word_of q.layout slot 1)

    -- the test agrees with what counts, except for timestamps in swept gaps
    module _ (begins : IsOutOfSwept o q begin → counts begin ≡ counts_at o q n begin) (ends : IsOutOfSwept o q end → counts end ≡ counts_at o q n end) where
      abbrev Agrees : Type 0
      Agrees = (counts begin && not (counts end)) ≡ (counts_at o q n begin && not (counts_at o q n end))

      unbegun : (a b c d : Bool) → a ≡ c → c ≡ false → (a && not b) ≡ (c && not d)
      unbegun a b c d same none = ap (λ (x : Bool). x && not b) (same ∙ none) ∙ sym (ap (λ (x : Bool). x && not d) none)

      by-begin : IsOutOfSwept o q begin → counts_at o q n begin ≡ false → Agrees
      by-begin out none = unbegun (counts begin) (counts end) (counts_at o q n begin) (counts_at o q n end) (begins out) none

      by-end : IsOutOfSwept o q end → counts_at o q n end ≡ true → Agrees
      by-end out ended =
          ap (λ (x : Bool). counts begin && not x) (ends out ∙ ended) ∙ and_right (counts begin) false refl
          ∙ sym (ap (λ (x : Bool). counts_at o q n begin && not x) ended ∙ and_right (counts_at o q n begin) false refl)

      by-both : IsOutOfSwept o q begin → IsOutOfSwept o q end → Agrees
      by-both out_begin out_end = ap (λ (x : Bool). x && not (counts end)) (begins out_begin) ∙ ap (λ (x : Bool). counts_at o q n begin && not x) (ends out_end)

      hidden : IsHidden o q begin end → Agrees
      hidden (inl never) = by-begin (out-never begin never) (never-counts o q kept n begin never)
      hidden (inr ended) = by-end (λ swept. out-counted n end (ended n in_use)) (ended n in_use)

      waiting : (key : Key) (row : List ℕ) → IsWaiting q value slot key row → Agrees
      waiting key row w = by w.begin
        where
          by : (begin ≡ 0) ⊎ ((q.failed ≡ true) × (is_drawn_on q key begin ≡ true)) → Agrees
          by (inl none) = by-begin (out-never begin (inl none)) (never-counts o q kept n begin (inl none))
          by (inr (down, drawn)) = let d = drawn-on key begin drawn in by-begin (λ swept. out-drawn begin d.0 d.1) (drawn_on-counts o q kept n begin key drawn)

      open_end : (key : Key) → IsNever o q end ⊎ (is_drawn_on q key end ≡ true) → IsOutOfSwept o q end
      open_end key (inl never) swept = out-never end never swept
      open_end key (inr drawn) swept = let d = drawn-on key end drawn in out-drawn end d.0 d.1

      abbrev row : Key → Writer → List ℕ
      row key w = unwrap_or (wanted o q (version_by key w)) []

      stamped : (key : Key) (t : ℕ) (d : Drawn) → drawn_at q t ≡ Some d → (b : Bool) → ShowsAs o q value slot (cond b (Begun t key (unwrap_or (wanted o q (version_by key (ByCommit t))) [])) (Waiting key (unwrap_or (wanted o q (version_by key (ByCommit t))) []))) → Agrees
      stamped key t d found true w =
          let facts = drawn-facts o q kept t d found in
          by-begin (λ swept. ap (is_in o.ruling.gaps) w.begin ∙ out-drawn t d found) (ap (counts_at o q n) w.begin ∙ drawn-counts o q kept n t facts.0 facts.1)
      stamped key t d found false w = waiting key (unwrap_or (wanted o q (version_by key (ByCommit t))) []) w

      newest : (key : Key) (t : ℕ) → q.held slot ≡ Some (version_by key (ByCommit t)) → drawn_at q t ≡ None → (last_writer q.history key ≡ t) ⊎ (last_writer q.history key ≢ t)
          → ShowsAs o q value slot (cond (nat_eq (last_writer q.history key) t) (Newest t key (unwrap_or (wanted o q (version_by key (ByCommit t))) [])) (Replaced t key (unwrap_or (wanted o q (version_by key (ByCommit t))) []))) → Agrees
      newest key t held undrawn (inl last) w =
          let shows : IsNewest o q value slot t key (unwrap_or (wanted o q (version_by key (ByCommit t))) []) =
          subst (λ (b : Bool). ShowsAs o q value slot (cond b (Newest t key (unwrap_or (wanted o q (version_by key (ByCommit t))) [])) (Replaced t key (unwrap_or (wanted o q (version_by key (ByCommit t))) [])))) (eq-eqb (last_writer q.history key) t last) w in
          by-both (λ swept. out-begun t begin shows.begin) (open_end key shows.end)
      newest key t held undrawn (inr old) w =
          let shows : IsReplaced o q value slot t key (unwrap_or (wanted o q (version_by key (ByCommit t))) []) =
          subst (λ (b : Bool). ShowsAs o q value slot (cond b (Newest t key (unwrap_or (wanted o q (version_by key (ByCommit t))) [])) (Replaced t key (unwrap_or (wanted o q (version_by key (ByCommit t))) [])))) (ne_eqb (last_writer q.history key) t old) w in
          by-both (λ swept. out-begun t begin shows.begin) (λ swept. out-above end (replaced-above o q kept value slot lt key t held undrawn (unwrap_or (wanted o q (version_by key (ByCommit t))) []) shows old))

      drawn : (key : Key) (t : ℕ) → q.held slot ≡ Some (version_by key (ByCommit t)) → (d : Option Drawn) → drawn_at q t ≡ d → ShowsAs o q value slot (class_of_drawn q key t (unwrap_or (wanted o q (version_by key (ByCommit t))) []) d) → Agrees
      drawn key t held None undrawn w = newest key t held undrawn (cases_eq (last_writer q.history key) t) w
      drawn key t held (Some d) found w = stamped key t d found (is_key_stamped d key) w

      written : (v : Version) (w : Writer) → v.writer ≡ w → q.held slot ≡ Some (version_by v.key w) → ShowsAs o q value slot (class_of_version o q (Some (version_by v.key w))) → Agrees
      written v (BySession m) same held shows = waiting v.key (unwrap_or (wanted o q (version_by v.key (BySession m))) []) shows
      written v (ByCommit t) same held shows = drawn v.key t held (drawn_at q t) refl shows

      pub live-agrees : SlotShows o q value slot → (counts begin && not (counts end)) ≡ (counts_at o q n begin && not (counts_at o q n end))
      live-agrees shows = by (q.held slot) refl
        where
          by : (x : Option Version) → q.held slot ≡ x → Agrees
          by None held = hidden (subst (λ (x : Option Version). ShowsAs o q value slot (class_of_version o q x)) held shows)
          by (Some v) held = written v v.writer refl held (subst (λ (x : Option Version). ShowsAs o q value slot (class_of_version o q x)) held shows)

  -- ---- the end of a version

  -- the end is in no swept gap
  module _ (up : q.failed ≡ false) (value : ℕ → ℕ) (slot : ℕ) (lt : slot < q.layout.slots) where
    abbrev its_end : ℕ
    its_end = value (word_of q.layout slot 1)

    none-out : its_end ≡ 0 → IsOutOfSwept o q its_end
    none-out none = out-never its_end (inl none)

    open-out : (key : Key) → IsNever o q its_end ⊎ (is_drawn_on q key its_end ≡ true) → IsOutOfSwept o q its_end
    open-out key (inl never) swept = out-never its_end never swept
    open-out key (inr drawn) swept = let d = drawn-on key its_end drawn in out-drawn its_end d.0 d.1

    stamped-out : (key : Key) (t : ℕ) (row : List ℕ) (b : Bool) → ShowsAs o q value slot (cond b (Begun t key row) (Waiting key row)) → IsOutOfSwept o q its_end
    stamped-out key t row true w = none-out w.end
    stamped-out key t row false w = none-out (w.end up)

    newest-out : (key : Key) (t : ℕ) → q.held slot ≡ Some (version_by key (ByCommit t)) → drawn_at q t ≡ None → (last_writer q.history key ≡ t) ⊎ (last_writer q.history key ≢ t)
        → ShowsAs o q value slot (cond (nat_eq (last_writer q.history key) t) (Newest t key (unwrap_or (wanted o q (version_by key (ByCommit t))) [])) (Replaced t key (unwrap_or (wanted o q (version_by key (ByCommit t))) []))) → IsOutOfSwept o q its_end
    newest-out key t held undrawn (inl last) w =
        let shows : IsNewest o q value slot t key (unwrap_or (wanted o q (version_by key (ByCommit t))) []) =
        subst (λ (b : Bool). ShowsAs o q value slot (cond b (Newest t key (unwrap_or (wanted o q (version_by key (ByCommit t))) [])) (Replaced t key (unwrap_or (wanted o q (version_by key (ByCommit t))) [])))) (eq-eqb (last_writer q.history key) t last) w in
        open-out key shows.end
    newest-out key t held undrawn (inr old) w =
        let row = unwrap_or (wanted o q (version_by key (ByCommit t))) [] in
        let shows : IsReplaced o q value slot t key row =
        subst (λ (b : Bool). ShowsAs o q value slot (cond b (Newest t key row) (Replaced t key row))) (ne_eqb (last_writer q.history key) t old) w in
        λ swept. out-above its_end (replaced-above o q kept value slot lt key t held undrawn row shows old)

    drawn-out : (key : Key) (t : ℕ) → q.held slot ≡ Some (version_by key (ByCommit t)) → (d : Option Drawn) → drawn_at q t ≡ d → ShowsAs o q value slot (class_of_drawn q key t (unwrap_or (wanted o q (version_by key (ByCommit t))) []) d) → IsOutOfSwept o q its_end
    drawn-out key t held None undrawn w = newest-out key t held undrawn (cases_eq (last_writer q.history key) t) w
    drawn-out key t held (Some d) found w = stamped-out key t (unwrap_or (wanted o q (version_by key (ByCommit t))) []) (is_key_stamped d key) w

    waiting-out : (key : Key) (row : List ℕ) → IsWaiting q value slot key row → IsOutOfSwept o q its_end
    waiting-out key row w = none-out (w.end up)

    written-out : (v : Version) (w : Writer) → v.writer ≡ w → q.held slot ≡ Some (version_by v.key w) → ShowsAs o q value slot (class_of_version o q (Some (version_by v.key w))) → IsOutOfSwept o q its_end
    written-out v (BySession m) same held shows = waiting-out v.key (unwrap_or (wanted o q (version_by v.key (BySession m))) []) shows
    written-out v (ByCommit t) same held shows = drawn-out v.key t held (drawn_at q t) refl shows

    pub end-out : (v : Version) → q.held slot ≡ Some v → SlotShows o q value slot → IsOutOfSwept o q its_end
    end-out v held shows = written-out v v.writer refl held (subst (λ (x : Option Version). ShowsAs o q value slot (class_of_version o q x)) held shows)

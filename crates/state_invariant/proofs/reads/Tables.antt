-- At each snapshot in use the slots that it sees are the rows of its tables.
use Rattle.std.proofs.Common.{◌||◌, ◌≡◌, ◌⊎◌, inl, inr, ℕ, suc, ◌<◌, ◌≤◌, Bool, true, false, cond, not, ◌&&◌, List, [], ◌∷◌, length, take, drop, refl, sym, ◌∙◌, ap, subst, arith, Option, Some, None, slice_get, true≢false}
use Rattle.std.specs.Prelude.{nat_eq, nat_lt, unwrap_or, IsTrue, slice_index, find}
use Rattle.std.specs.List.{list_any}
use Rattle.std.proofs.lemmas.Bool.{eq-eqb, eqb-true, and_parts, and_from, or_left, or_right, ltb-true, not_from_false, false_from_ne_true, false≢true, not-true}
use Rattle.std.proofs.lemmas.List.{take_all}
use Rattle.std.proofs.lemmas.Option.{slice_get_within}
use Rattle.base.specs.declared.key.Key.{Key}
use Rattle.base.specs.Keys.{lookup_key}
use Rattle.base.specs.Commits.{Commit, after, writes_key, last_writer}
use Rattle.base.specs.Layout.{Layout, total_words}
use Rattle.base.specs.Records.{is_committed}
use Rattle.base.specs.Images.{Image, layout_of, begin_of, end_of, is_live, Shown}
use Rattle.base.specs.Stands.{has_timestamp}
use Rattle.machine.specs.Machine.{State, Drawn, Version, Writer, BySession, ByCommit, drawn_at}
use Rattle.base.proofs.Lists.{all-take}
use Rattle.base.proofs.Options.{option_or-none}
use Rattle.state_invariant.specs.Kept.{Origin, KeepsOrigin, Keeps, IsInUse, wanted, row_by, row_in, commit_at, commits_of_life, covered_since, version_by, last_of}
use Rattle.state_invariant.specs.Shown.{CanBeRead, word_of, HasVersion, Spells, IsNever, counts_at, is_drawn_on, is_key_stamped, Follows, Waiting, Begun, Newest, Replaced, class_of_version, class_by, class_of_drawn, HasBegun, IsWaiting, ShowsAs, SlotShows, SlotsShow, ReadsAs}
use Rattle.state_invariant.proofs.Lookups.{find-all}
use Rattle.state_invariant.proofs.Commits.{commit_at-append, commit_at-drawn, commit_at-timestamp, drawn_at-timestamp, committed-bounds, uncommitted-gap, uncommitted-above}
use Rattle.state_invariant.proofs.Records.{above-gaps}
use Rattle.state_invariant.proofs.openings.Kept.{passes-last_writer}
use Rattle.state_invariant.proofs.Log.{written-place, stays-or_replaced, IsReplaced as IsChanged, IsWritten, writer-since, last-after, has-place, IsPlaced, placed, at-fact, one-place, found-place, writer-bounded}

-- ---- a covered version

-- from which snapshot on its begin counts, and the version is the last on its key there
pub record Started (o : Origin) (q : State) (key : Key) (row : List ℕ) (t begin : ℕ) : Type 0 where
  pub place : ℕ
  pub since : o.opened ≤ place
  pub within : place ≤ length q.history
  pub last : last_writer (take place q.history) key ≡ t
  pub there : after (take place q.history) key ≡ Some row
  pub counts : (n : ℕ) → place ≤ n → counts_at o q n begin ≡ true
  pub seen : (n : ℕ) → o.opened ≤ n → counts_at o q n begin ≡ true → place ≤ n
  pub written : (n : ℕ) → o.opened ≤ n → n ≤ length q.history → last_writer (take n q.history) key ≡ t → place ≤ n
  pub never : (j : ℕ) (c : Commit) → place ≤ j → slice_get q.history j ≡ Some c → c.timestamp ≡ t → ⊥

-- ---- what no snapshot sees

module _ (o : Origin) (q : State) (kept : Keeps o q) where
  origin : KeepsOrigin o q
  origin = kept.numbers.origin

  -- a commit of the life is above what the opening persisted
  pub above-origin : (place : ℕ) (c : Commit) → o.opened ≤ place → slice_get q.history place ≡ Some c → o.ruling.persisted < c.timestamp
  above-origin place c low at = ltb-true o.ruling.persisted c.timestamp (at-fact (λ c. nat_lt o.ruling.persisted c.timestamp) q.history o.opened place c origin.since low at)

  -- a timestamp counts when a commit of the life has it
  pub counts-placed : (n t : ℕ) → is_committed o.ruling t ≡ false → counts_at o q n t ≡ true → IsPlaced q.history o.opened n t
  counts-placed n t out counts = grind (arith, placed, true≢false)

  uncounted : (n t : ℕ) → is_committed o.ruling t ≡ false → (IsPlaced q.history o.opened n t → ⊥) → counts_at o q n t ≡ false
  uncounted n t out nowhere = false_from_ne_true (counts_at o q n t) (λ counts. nowhere (counts-placed n t out counts))

  pub never-counts : (n t : ℕ) → IsNever o q t → counts_at o q n t ≡ false
  never-counts n t (inl zero_is) = uncounted n t (ap (is_committed o.ruling) zero_is) (λ p. omega (arith, above-origin p.place p.commit p.low p.at, p.is, zero_is))
  never-counts n t (inr (unswept, inside)) =
      uncounted n t (uncommitted-gap o.ruling t inside)
      (λ p. true≢false (sym inside ∙ above-gaps q.layout.version o.ruling t origin.formed (omega (arith, above-origin p.place p.commit p.low p.at, p.is))))

  -- nor does a drawn one count
  pub drawn-counts : (n t : ℕ) → o.ruling.persisted < t → is_committed q.ruling t ≡ false → counts_at o q n t ≡ false
  drawn-counts n t above out =
      uncounted n t (uncommitted-above o.ruling t above)
      (λ p. true≢false (sym (at-fact (λ c. is_committed q.ruling c.timestamp) q.history 0 p.place p.commit kept.numbers.covered (omega arith) p.at) ∙ ap (is_committed q.ruling) p.is ∙ out))

  pub drawn-facts : (t : ℕ) (d : Drawn) → drawn_at q t ≡ Some d → (o.ruling.persisted < t) × (is_committed q.ruling t ≡ false)
  drawn-facts t d found =
      let is : d.commit.timestamp ≡ t = drawn_at-timestamp q t d found in
      let above : o.ruling.persisted < d.commit.timestamp = ltb-true o.ruling.persisted d.commit.timestamp (find-all (λ (d : Drawn). nat_eq d.commit.timestamp t) (λ d. nat_lt o.ruling.persisted d.commit.timestamp) q.drawn d origin.drawn found) in
      let both = and_parts (not (is_committed q.ruling d.commit.timestamp)) (nat_lt d.commit.timestamp q.next) (find-all (λ (d : Drawn). nat_eq d.commit.timestamp t) (λ d. not (is_committed q.ruling d.commit.timestamp) && nat_lt d.commit.timestamp q.next) q.drawn d kept.numbers.drawn found) in
      (omega (arith, is, above), ap (is_committed q.ruling) (sym is) ∙ not-true (is_committed q.ruling d.commit.timestamp) both.0)

  pub drawn_on-counts : (n t : ℕ) (key : Key) → is_drawn_on q key t ≡ true → counts_at o q n t ≡ false
  drawn_on-counts n t key on = let d = some q.drawn on in drawn-counts n t (drawn-facts t d.0 d.1).0 (drawn-facts t d.0 d.1).1
    where
      some : (ds : List Drawn) → list_any (λ d. nat_eq d.commit.timestamp t && writes_key key d.commit) ds ≡ true → (d : Drawn) × (find (λ (d : Drawn). nat_eq d.commit.timestamp t) ds ≡ Some d)
      some [] any = absurd (false≢true any)
      some (d ∷ ds) any = by (nat_eq d.commit.timestamp t) any (some ds)
        where
          by : (b : Bool) → ((b && writes_key key d.commit) || list_any (λ d. nat_eq d.commit.timestamp t && writes_key key d.commit) ds) ≡ true
              → (list_any (λ d. nat_eq d.commit.timestamp t && writes_key key d.commit) ds ≡ true → (d : Drawn) × (find (λ (d : Drawn). nat_eq d.commit.timestamp t) ds ≡ Some d))
              → (e : Drawn) × (cond b (Some d) (find (λ (d : Drawn). nat_eq d.commit.timestamp t) ds) ≡ Some e)
          by true any rest = (d, refl)
          by false any rest = rest any

  -- ---- a covered version starts with its commit, or with the opening

  row-of : (w : Option (Option (List ℕ))) (row : List ℕ) → unwrap_or w None ≡ Some row → w ≡ Some (Some row)
  row-of a row e = grind (arith)

  started-by_commit : (key : Key) (row : List ℕ) (t begin place : ℕ) (c : Commit) → o.opened ≤ place → slice_get q.history place ≡ Some c → c.timestamp ≡ t → row_in c.writes key ≡ Some row → HasBegun o t begin
      → Started o q key row t begin
  started-by_commit key row t begin place c low at is wrote begun =
      let above : o.ruling.persisted < t = omega (arith, above-origin place c low at, is) in
      let own : begin ≡ t = begun.own above in
      let here = written-place q.history place c key row at (row-of (lookup_key c.writes key) row wrote) in
      record {
        place = suc place;
        since = omega (arith, low);
        within = inside;
        last = here.0 ∙ is;
        there = here.1;
        counts = λ n le. or_right (is_committed o.ruling begin) (has_timestamp (drop o.opened (take n q.history)) begin)
            (ap (has_timestamp (drop o.opened (take n q.history))) (own ∙ sym is) ∙ has-place q.history o.opened n place c low (omega (arith, le)) at);
        seen = λ n low_n counts. one n (counts-placed n t (uncommitted-above o.ruling t above) (ap (counts_at o q n) (sym own) ∙ counts));
        written = λ n low_n within_n last. by n above last (writer-since q.history key o.opened n low_n within_n);
        never = λ j d le at_d same. absurd (omega (arith, le, one-place q.history o.opened place j c d origin.distinct low (omega (arith, low, le)) at at_d (is ∙ sym same)));
      }
    where
      inside : suc place ≤ length q.history
      inside = omega (arith, slice_get_within q.history place c at)

      one : (n : ℕ) → IsPlaced q.history o.opened n t → suc place ≤ n
      one n p = omega (arith, p.high, one-place q.history o.opened place p.place c p.commit origin.distinct low p.low at p.at (is ∙ sym p.is))

      by : (n : ℕ) → o.ruling.persisted < t → last_writer (take n q.history) key ≡ t → (last_writer (take n q.history) key ≡ last_writer (take o.opened q.history) key) ⊎ IsWritten q.history key o.opened n → suc place ≤ n
      by n above last (inl same) = absurd (omega (arith, above, sym last ∙ same, writer-bounded o.ruling key (take o.opened q.history) origin.before))
      by n above last (inr w) = omega (arith, w.high, one-place q.history o.opened place w.place c w.commit origin.distinct low w.low at w.at (is ∙ sym last ∙ w.last))

  started-by_opening : (key : Key) (row : List ℕ) (t begin : ℕ) → last_writer (take o.opened q.history) key ≡ t → after (take o.opened q.history) key ≡ Some row → HasBegun o t begin → Started o q key row t begin
  started-by_opening key row t begin last there begun =
      let counted : is_committed o.ruling t ≡ true = ap (is_committed o.ruling) (sym last) ∙ passes-last_writer (is_committed o.ruling) key row (take o.opened q.history) origin.before there in
      let low : t ≤ o.ruling.persisted = (committed-bounds o.ruling t counted).1 in
      record {
        place = o.opened;
        since = omega arith;
        within = origin.opened;
        last = last;
        there = there;
        counts = λ n le. or_left (is_committed o.ruling begin) (has_timestamp (drop o.opened (take n q.history)) begin) (begun.earlier low);
        seen = λ n low_n counts. low_n;
        written = λ n low_n within last. low_n;
        never = λ j c le at same. absurd (omega (arith, above-origin j c le at, same, low));
      }

  pub started : (key : Key) (row : List ℕ) (t begin : ℕ) → drawn_at q t ≡ None → wanted o q (version_by key (ByCommit t)) ≡ Some row → HasBegun o t begin → Started o q key row t begin
  started key row t begin undrawn is begun =
      by (commit_at (covered_since o q) t) refl (ap (row_by o q key t) (sym whole) ∙ is)
    where
      whole : commit_at (commits_of_life o q) t ≡ commit_at (covered_since o q) t
      whole = grind (arith, commit_at-append, commit_at-drawn, option_or-none)

      by_test : (b : Bool) → nat_eq (last_writer (take o.opened q.history) key) t ≡ b → cond b (after (take o.opened q.history) key) None ≡ Some row → Started o q key row t begin
      by_test true same there = started-by_opening key row t begin (eqb-true (last_writer (take o.opened q.history) key) t same) there begun
      by_test false apart there = absurd (cc there)

      by : (c : Option Commit) → commit_at (covered_since o q) t ≡ c → row_by o q key t c ≡ Some row → Started o q key row t begin
      by (Some c) found wrote =
          let p = found-place q.history o.opened t c found in
          started-by_commit key row t begin p.0 c p.1 p.2 (commit_at-timestamp (covered_since o q) t c found) wrote begun
      by None found wrote = by_test (nat_eq (last_writer (take o.opened q.history) key) t) refl wrote

  -- ---- until when it is seen

  -- if it is newest, it is so at each snapshot that sees it
  newest-stays : (key : Key) (row : List ℕ) (t begin n : ℕ) → Started o q key row t begin → last_writer q.history key ≡ t → n ≤ length q.history → counts_at o q n begin ≡ true → o.opened ≤ n
      → (last_writer (take n q.history) key ≡ t) × (after (take n q.history) key ≡ Some row)
  newest-stays key row t begin n s newest within counts low =
      by (stays-or_replaced q.history key t (Some row) s.place n s.last s.there (s.seen n low counts) within)
    where
      all : take (length q.history) q.history ≡ q.history
      all = take_all (length q.history) q.history (omega arith)

      by : ((last_writer (take n q.history) key ≡ t) × (after (take n q.history) key ≡ Some row)) ⊎ IsChanged q.history key t s.place n → (last_writer (take n q.history) key ≡ t) × (after (take n q.history) key ≡ Some row)
      by (inl stays) = stays
      by (inr r) =
          let w = last-after q.history key r.place (length q.history) r.commit r.at r.writes (omega (arith, r.high, within)) (omega arith) in
          absurd (s.never w.place w.commit (omega (arith, r.low, w.low)) w.at (sym w.last ∙ ap (λ (cs : List Commit). last_writer cs key) all ∙ newest))

  -- if it was replaced and its end doesn't count, it is the last
  replaced-stays : (key : Key) (row : List ℕ) (t begin end n : ℕ) → Started o q key row t begin → ((u : ℕ) → Follows o q key t u → end ≡ u) → n ≤ length q.history → counts_at o q n begin ≡ true → o.opened ≤ n
      → counts_at o q n end ≡ false → (last_writer (take n q.history) key ≡ t) × (after (take n q.history) key ≡ Some row)
  replaced-stays key row t begin end n s ended within counts low out =
      by (stays-or_replaced q.history key t (Some row) s.place n s.last s.there (s.seen n low counts) within)
    where
      by : ((last_writer (take n q.history) key ≡ t) × (after (take n q.history) key ≡ Some row)) ⊎ IsChanged q.history key t s.place n → (last_writer (take n q.history) key ≡ t) × (after (take n q.history) key ≡ Some row)
      by (inl stays) = stays
      by (inr r) =
          let is : end ≡ r.commit.timestamp = ended r.commit.timestamp record { place = r.place; since = omega (arith, s.since, r.low); commit = r.commit; at = r.at; writes = r.writes; stamped = refl; last = r.last } in
          let has = has-place q.history o.opened n r.place r.commit (omega (arith, s.since, r.low)) r.high r.at in
          absurd (true≢false (sym (ap (counts_at o q n) is ∙ or_right (is_committed o.ruling r.commit.timestamp) (has_timestamp (drop o.opened (take n q.history)) r.commit.timestamp) has) ∙ out))

  -- if it is the last at a snapshot, its end doesn't count there
  replaced-open : (key : Key) (t end n : ℕ) → ((u : ℕ) → Follows o q key t u → end ≡ u) → (last_writer q.history key ≡ t → ⊥) → o.opened ≤ n → n ≤ length q.history → last_writer (take n q.history) key ≡ t → counts_at o q n end ≡ false
  replaced-open key t end n ended old low within last =
      by (stays-or_replaced q.history key t (after (take n q.history) key) n (length q.history) last refl within (omega arith))
    where
      all : take (length q.history) q.history ≡ q.history
      all = take_all (length q.history) q.history (omega arith)

      by : ((last_writer (take (length q.history) q.history) key ≡ t) × (after (take (length q.history) q.history) key ≡ after (take n q.history) key)) ⊎ IsChanged q.history key t n (length q.history) → counts_at o q n end ≡ false
      by (inl stays) = absurd (old (sym (ap (λ (cs : List Commit). last_writer cs key) all) ∙ stays.0))
      by (inr r) =
          let is : end ≡ r.commit.timestamp = ended r.commit.timestamp record { place = r.place; since = omega (arith, low, r.low); commit = r.commit; at = r.at; writes = r.writes; stamped = refl; last = r.last } in
          ap (counts_at o q n) is
          ∙ uncounted n r.commit.timestamp (uncommitted-above o.ruling r.commit.timestamp (above-origin r.place r.commit (omega (arith, low, r.low)) r.at))
          (λ p. absurd (omega (arith, p.high, r.low, one-place q.history o.opened p.place r.place p.commit r.commit origin.distinct p.low (omega (arith, low, r.low)) p.at r.at p.is)))

  -- ---- a slot at a snapshot

  pub snapshot-bounds : (n : ℕ) → IsInUse q n → (o.opened ≤ n) × (n ≤ length q.history)
  snapshot-bounds n (inl all) = (omega (arith, all, origin.opened), omega (arith, all))
  snapshot-bounds n (inr (session, writes, active)) = kept.numbers.snapshots session n writes active

  -- what is seen in a slot: the version of the last commit on its key there
  abbrev pub IsSeen : (ℕ → ℕ) → ℕ → ℕ → Key → List ℕ → Type 0
  IsSeen value n slot key row = (q.held slot ≡ Some (last_of q n key)) × (after (take n q.history) key ≡ Some row) × Spells q.layout value slot key row

  not-both : (b : Bool) → b ≡ true → b ≡ false → ⊥
  not-both b e f = true≢false (sym e ∙ f)

  -- a slot that is seen has such a version
  seen-class : (value : ℕ → ℕ) (n slot : ℕ) (v : Version) → (o.opened ≤ n) × (n ≤ length q.history) → slot < q.layout.slots → q.held slot ≡ Some v → ShowsAs o q value slot (class_of_version o q (Some v))
      → counts_at o q n (value (word_of q.layout slot 0)) ≡ true → counts_at o q n (value (word_of q.layout slot 1)) ≡ false → (row : List ℕ) × IsSeen value n slot v.key row
  seen-class value n slot v bounds lt held shows begun open_ended = by_writer v.writer refl shows
    where
      row : List ℕ
      row = (kept.owns.has slot v lt held).0

      waiting : (key : Key) (r : List ℕ) → IsWaiting q value slot key r → ⊥
      waiting key r w = grind (arith, not-both, never-counts, drawn_on-counts)

      seen : (t : ℕ) → v.writer ≡ ByCommit t → (last_writer (take n q.history) v.key ≡ t) × (after (take n q.history) v.key ≡ Some row) → Spells q.layout value slot v.key (unwrap_or (wanted o q v) []) → (row : List ℕ) × IsSeen value n slot v.key row
      seen t by is spells = (
        row,
        (
          held ∙ ap (λ (w : Writer). Some (version_by v.key w)) by ∙ ap (λ (u : ℕ). Some (version_by v.key (ByCommit u))) (sym is.0),
          is.1,
          subst (λ (x : Option (List ℕ)). Spells q.layout value slot v.key (unwrap_or x [])) (kept.owns.has slot v lt held).1 spells,
        ),
      )

      starts : (t : ℕ) → v.writer ≡ ByCommit t → drawn_at q t ≡ None → HasBegun o t (value (word_of q.layout slot 0)) → Started o q v.key row t (value (word_of q.layout slot 0))
      starts t by undrawn begun_at = started v.key row t (value (word_of q.layout slot 0)) undrawn (ap (λ (w : Writer). wanted o q (version_by v.key w)) (sym by) ∙ (kept.owns.has slot v lt held).1) begun_at

      by_newest : (t : ℕ) → v.writer ≡ ByCommit t → drawn_at q t ≡ None → (b : Bool) → nat_eq (last_writer q.history v.key) t ≡ b
          → ShowsAs o q value slot (cond b (Newest t v.key (unwrap_or (wanted o q v) [])) (Replaced t v.key (unwrap_or (wanted o q v) []))) → (row : List ℕ) × IsSeen value n slot v.key row
      by_newest t by undrawn true newest shows =
          seen t by (newest-stays v.key row t (value (word_of q.layout slot 0)) n (starts t by undrawn shows.begin) (eqb-true (last_writer q.history v.key) t newest) bounds.1 begun bounds.0) shows.spells
      by_newest t by undrawn false old shows =
          seen t by (replaced-stays v.key row t (value (word_of q.layout slot 0)) (value (word_of q.layout slot 1)) n (starts t by undrawn shows.begin) shows.ended bounds.1 begun bounds.0 open_ended) shows.spells

      by_stamp : (t : ℕ) (d : Drawn) → drawn_at q t ≡ Some d → (b : Bool) → ShowsAs o q value slot (cond b (Begun t v.key (unwrap_or (wanted o q v) [])) (Waiting v.key (unwrap_or (wanted o q v) []))) → (row : List ℕ) × IsSeen value n slot v.key row
      by_stamp t d found true shows =
          let f = drawn-facts t d found in
          absurd (not-both _ begun (ap (counts_at o q n) shows.begin ∙ drawn-counts n t f.0 f.1))
      by_stamp t d found false shows = absurd (waiting v.key _ shows)

      by_drawn : (t : ℕ) → v.writer ≡ ByCommit t → (x : Option Drawn) → drawn_at q t ≡ x → ShowsAs o q value slot (class_of_drawn q v.key t (unwrap_or (wanted o q v) []) x) → (row : List ℕ) × IsSeen value n slot v.key row
      by_drawn t by (Some d) found shows = by_stamp t d found (is_key_stamped d v.key) shows
      by_drawn t by None undrawn shows = by_newest t by undrawn (nat_eq (last_writer q.history v.key) t) refl shows

      by_writer : (w : Writer) → v.writer ≡ w → ShowsAs o q value slot (class_by q v.key (unwrap_or (wanted o q v) []) w) → (row : List ℕ) × IsSeen value n slot v.key row
      by_writer (BySession m) by shows = absurd (waiting v.key _ shows)
      by_writer (ByCommit t) by shows = by_drawn t by (drawn_at q t) refl shows

  -- at n commits, if a free slot isn't seen
  pub slot-seen-at : (value : ℕ → ℕ) (n slot : ℕ) → (o.opened ≤ n) × (n ≤ length q.history) → slot < q.layout.slots
      → (q.held slot ≡ None → counts_at o q n (value (word_of q.layout slot 0)) ≡ true → counts_at o q n (value (word_of q.layout slot 1)) ≡ true) → SlotShows o q value slot
      → counts_at o q n (value (word_of q.layout slot 0)) ≡ true → counts_at o q n (value (word_of q.layout slot 1)) ≡ false → (key : Key) × (row : List ℕ) × IsSeen value n slot key row
  slot-seen-at value n slot bounds lt freed shows begun open_ended = by (q.held slot) refl shows
    where
      by : (x : Option Version) → q.held slot ≡ x → ShowsAs o q value slot (class_of_version o q x) → (key : Key) × (row : List ℕ) × IsSeen value n slot key row
      by None held shows = absurd (not-both _ (freed held begun) open_ended)
      by (Some v) held shows = let s = seen-class value n slot v bounds lt held shows begun open_ended in (v.key, s.0, s.1)

  -- a free slot isn't seen at a snapshot in use
  pub free-ended : (value : ℕ → ℕ) (n slot : ℕ) → IsInUse q n → SlotShows o q value slot → q.held slot ≡ None → counts_at o q n (value (word_of q.layout slot 0)) ≡ true → counts_at o q n (value (word_of q.layout slot 1)) ≡ true
  free-ended value n slot in_use shows held begun = grind (arith, not-both, never-counts)

  pub slot-seen : (value : ℕ → ℕ) (n slot : ℕ) → IsInUse q n → slot < q.layout.slots → SlotShows o q value slot
      → counts_at o q n (value (word_of q.layout slot 0)) ≡ true → counts_at o q n (value (word_of q.layout slot 1)) ≡ false → (key : Key) × (row : List ℕ) × IsSeen value n slot key row
  slot-seen value n slot in_use lt shows begun open_ended = slot-seen-at value n slot (snapshot-bounds n in_use) lt (free-ended value n slot in_use shows) shows begun open_ended

  -- the slot of a row of the tables is seen
  row-class : (value : ℕ → ℕ) (n slot t : ℕ) (key : Key) (row : List ℕ) → IsInUse q n → slot < q.layout.slots → q.held slot ≡ Some (version_by key (ByCommit t)) → last_writer (take n q.history) key ≡ t → after (take n q.history) key ≡ Some row
      → ShowsAs o q value slot (class_of_version o q (Some (version_by key (ByCommit t))))
      → (counts_at o q n (value (word_of q.layout slot 0)) ≡ true) × (counts_at o q n (value (word_of q.layout slot 1)) ≡ false)
  row-class value n slot t key row in_use lt held last there shows = by_drawn (drawn_at q t) refl shows
    where
      bounds : (o.opened ≤ n) × (n ≤ length q.history)
      bounds = snapshot-bounds n in_use

      counted : is_committed q.ruling t ≡ true
      counted = ap (is_committed q.ruling) (sym last) ∙ passes-last_writer (is_committed q.ruling) key row (take n q.history) (all-take (λ c. is_committed q.ruling c.timestamp) n q.history kept.numbers.covered) there

      has : (row : List ℕ) × (wanted o q (version_by key (ByCommit t)) ≡ Some row)
      has = kept.owns.has slot (version_by key (ByCommit t)) lt held

      begun : drawn_at q t ≡ None → HasBegun o t (value (word_of q.layout slot 0)) → counts_at o q n (value (word_of q.layout slot 0)) ≡ true
      begun undrawn starts =
          let s = started key has.0 t (value (word_of q.layout slot 0)) undrawn has.1 starts in
          s.counts n (s.written n bounds.0 bounds.1 last)

      open_end : (e : ℕ) → IsNever o q e ⊎ IsTrue (is_drawn_on q key e) → counts_at o q n e ≡ false
      open_end e (inl none) = never-counts n e none
      open_end e (inr drawn) = drawn_on-counts n e key drawn

      by_newest : drawn_at q t ≡ None → (b : Bool) → nat_eq (last_writer q.history key) t ≡ b
          → ShowsAs o q value slot (cond b (Newest t key (unwrap_or (wanted o q (version_by key (ByCommit t))) [])) (Replaced t key (unwrap_or (wanted o q (version_by key (ByCommit t))) [])))
          → (counts_at o q n (value (word_of q.layout slot 0)) ≡ true) × (counts_at o q n (value (word_of q.layout slot 1)) ≡ false)
      by_newest undrawn true newest shows = (begun undrawn shows.begin, open_end (value (word_of q.layout slot 1)) shows.end)
      by_newest undrawn false old shows = (
        begun undrawn shows.begin,
        replaced-open key t (value (word_of q.layout slot 1)) n shows.ended (λ same. true≢false (sym (eq-eqb (last_writer q.history key) t same) ∙ old)) bounds.0 bounds.1 last,
      )

      by_drawn : (x : Option Drawn) → drawn_at q t ≡ x → ShowsAs o q value slot (class_of_drawn q key t (unwrap_or (wanted o q (version_by key (ByCommit t))) []) x)
          → (counts_at o q n (value (word_of q.layout slot 0)) ≡ true) × (counts_at o q n (value (word_of q.layout slot 1)) ≡ false)
      by_drawn (Some d) found shows = absurd (not-both _ counted (drawn-facts t d found).1)
      by_drawn None undrawn shows = by_newest undrawn (nat_eq (last_writer q.history key) t) refl shows

  pub row-seen : (value : ℕ → ℕ) (n : ℕ) (key : Key) (row : List ℕ) → IsInUse q n → SlotsShow o q value → after (take n q.history) key ≡ Some row
      → (slot : ℕ) × (slot < q.layout.slots) × (q.held slot ≡ Some (last_of q n key)) × (counts_at o q n (value (word_of q.layout slot 0)) ≡ true) × (counts_at o q n (value (word_of q.layout slot 1)) ≡ false)
  row-seen value n key row in_use shows there =
      let at = kept.owns.since_snapshot n in_use n key row (omega arith) (snapshot-bounds n in_use).1 there in
      let both = row-class value n at.0 (last_writer (take n q.history) key) key row in_use at.1 at.2 refl there (subst (λ (x : Option Version). ShowsAs o q value at.0 (class_of_version o q x)) at.2 (shows.each at.0 at.1)) in
      (at.0, at.1, at.2, both.0, both.1)

  -- a snapshot in use can be read
  pub can-be-read : (value : ℕ → ℕ) (n : ℕ) → IsInUse q n → SlotsShow o q value → CanBeRead o q value n
  can-be-read value n in_use shows = record {
    since = (snapshot-bounds n in_use).0;
    within = (snapshot-bounds n in_use).1;
    whole = kept.owns.since_snapshot n in_use;
    freed = λ slot lt free begun. free-ended value n slot in_use (shows.each slot lt) free begun;
  }

-- ---- an image with these words

pub reads : (o : Origin) (q : State) (image : Image) (n : ℕ) → layout_of image ≡ q.layout → length image ≡ total_words q.layout → Keeps o q → SlotsShow o q (slice_index image) → IsInUse q n → ReadsAs o q image n
reads o q image n layout size kept shows in_use = record {
  rows = λ key row. (λ seen. from_slot key row seen, λ there. to_slot key row there);
  once = λ a b lt_a lt_b live_a live_b same.
      let x = seen a lt_a live_a in
      let y = seen b lt_b live_b in
      let keys : x.0 ≡ y.0 = sym (version a x.0 x.1 x.4).at ∙ same ∙ (version b y.0 y.1 y.4).at in
      kept.owns.once a b (last_of q n x.0) lt_a lt_b x.2 (y.2 ∙ ap (λ (key : Key). Some (last_of q n key)) (sym keys));
  fits = λ slot lt live. let x = seen slot lt live in (version slot x.0 x.1 x.4).fits;
}
  where
    version : (slot : ℕ) (key : Key) (row : List ℕ) → Spells q.layout (slice_index image) slot key row → HasVersion image slot key row
    version slot key row spells = spells.read image layout size (λ w low high. refl)

    begin-is : (slot : ℕ) → begin_of image slot ≡ slice_index image (word_of q.layout slot 0)
    begin-is slot = ap (λ (l : Layout). slice_index image (word_of l slot 0)) layout

    end-is : (slot : ℕ) → end_of image slot ≡ slice_index image (word_of q.layout slot 1)
    end-is slot = ap (λ (l : Layout). slice_index image (word_of l slot 1)) layout

    seen : (slot : ℕ) → slot < q.layout.slots → is_live (counts_at o q n) image slot ≡ true
        → (key : Key) × (row : List ℕ) × (q.held slot ≡ Some (last_of q n key)) × (after (take n q.history) key ≡ Some row) × Spells q.layout (slice_index image) slot key row
    seen slot lt live =
        let both = and_parts (counts_at o q n (begin_of image slot)) (not (counts_at o q n (end_of image slot))) live in
        let s = slot-seen o q kept (slice_index image) n slot in_use lt (shows.each slot lt)
        (ap (counts_at o q n) (sym (begin-is slot)) ∙ both.0) (ap (counts_at o q n) (sym (end-is slot)) ∙ not-true (counts_at o q n (end_of image slot)) both.1) in
        (s.0, s.1, s.2.0, s.2.1, s.2.2)

    from_slot : (key : Key) (row : List ℕ) → Shown (counts_at o q n) image key row → after (take n q.history) key ≡ Some row
    from_slot key row (slot, lt, live, at, is) = grind (arith, seen, version)

    to_slot : (key : Key) (row : List ℕ) → after (take n q.history) key ≡ Some row → Shown (counts_at o q n) image key row
    to_slot key row there =
        let r = row-seen o q kept (slice_index image) n key row in_use shows there in
        let live : is_live (counts_at o q n) image r.0 ≡ true = and_from (counts_at o q n (begin_of image r.0)) (not (counts_at o q n (end_of image r.0)))
        (ap (counts_at o q n) (begin-is r.0) ∙ r.3) (not_from_false (counts_at o q n (end_of image r.0)) (ap (counts_at o q n) (end-is r.0) ∙ r.4)) in
        let s = seen r.0 r.1 live in
        let v = version r.0 s.0 s.1 s.4 in
        let one : Some (last_of q n s.0) ≡ Some (last_of q n key) = sym s.2 ∙ r.2 in
        let same : last_of q n s.0 ≡ last_of q n key = cc one in
        let keys : s.0 ≡ key = ap (λ (w : Version). w.key) same in
        let rows : Some s.1 ≡ Some row = sym (ap (λ (k : Key). after (take n q.history) k) (sym keys) ∙ s.3) ∙ there in
        let row_is : s.1 ≡ row = cc rows in
        (r.0, subst (λ (l : Layout). r.0 < l.slots) (sym layout) r.1, live, v.at ∙ keys, v.is ∙ row_is)

-- What the slots show stays when a batch of any number of commits is covered.
use Rattle.std.proofs.Common.{◌||◌, ◌≡◌, ◌⊎◌, inl, inr, ℕ, suc, ◌+◌, ◌<◌, Bool, true, false, cond, not, ◌&&◌, List, [], ◌∷◌, length, take, drop, refl, sym, ◌∙◌, ap, subst, arith, Option, Some, None, is_some, slice_get, length-append, true≢false}
use Rattle.std.specs.Prelude.{nat_eq, unwrap_or, IsTrue}
use Rattle.std.specs.List.{list_any, list_all}
use Rattle.std.specs.Option.{option_map, option_or}
use Rattle.std.proofs.lemmas.Bool.{eq-eqb, eqb-true, ne_eqb, and_parts, or_left, or_cases, ltb-true, false_from_ne_true, false≢true}
use Rattle.std.proofs.lemmas.List.{take_all, take-append-le}
use Rattle.std.proofs.lemmas.List.Folds.{list_any-append}
use Rattle.std.proofs.lemmas.Option.{slice_get_within}
use Rattle.std.proofs.lemmas.Map.Keys.{any_passes_from_place}
use Rattle.base.specs.declared.key.Key.{Key}
use Rattle.base.specs.Keys.{lookup_key}
use Rattle.base.specs.Commits.{Commit, writes_key, last_writer}
use Rattle.base.specs.Records.{is_committed}
use Rattle.base.specs.Stands.{has_timestamp}
use Rattle.machine.specs.Machine.{State, Drawn, Hand, Version, Writer, BySession, ByCommit, drawn_at, drawn_of, is_stamped, state_covered}
use Rattle.base.proofs.Lists.{all-drop}
use Rattle.state_invariant.specs.Kept.{Origin, KeepsHand, Keeps, IsInUse, wanted, row_by, commit_at, commits_of_life, covered_since, version_by}
use Rattle.state_invariant.specs.Shown.{word_of, IsNever, counts_at, is_drawn_on, is_key_stamped, Follows, Newest, Replaced, class_of_version, class_by, class_of_drawn, HasBegun, IsHidden, IsWaiting, IsBegun, IsNewest, IsReplaced, ShowsAs, SlotsShow}
use Rattle.state_invariant.proofs.Lists.{find-any}
use Rattle.state_invariant.proofs.Commits.{commit_at-append, commit_at-none, commit_at-drawn, commit_at-place, distinct-rising, writer_from, writer-append, timestamp-all, found-any, writer-none}
use Rattle.state_invariant.proofs.stamps.Stamped.{all-stamped, stamped-among}
use Rattle.state_invariant.proofs.covers.Chosen.{any-by_timestamp}
use Rattle.state_invariant.proofs.covers.Kept.{batch-drawn, batch-above, found-left, found-covered, found-now, take-now, since-now, wanted-now}
use Rattle.state_invariant.proofs.reads.Tables.{Started, started, drawn-facts}
use Rattle.state_invariant.proofs.Log.{last-after, writer-since, IsWritten}
use Rattle.state_invariant.proofs.Places.{all-placed, place-append}

-- ---- lists

any-place : (p : Commit → Bool) (cs : List Commit) → list_any p cs ≡ true → (i : ℕ) × (c : Commit) × (slice_get cs i ≡ Some c) × (p c ≡ true)
any-place p [] any = absurd (false≢true any)
any-place p (c ∷ cs) any = elim (or_cases (p c) (list_any p cs) any) [
  | inl here ↦ (0, c, refl, here)
  | inr later ↦ (let r = any-place p cs later in (suc r.0, r.1, r.2, r.3))
]

-- the last writer of a batch that writes the key at only one timestamp
writer-one : (key : Key) (t w : ℕ) (cs : List Commit) → list_all (λ c. not (writes_key key c) || nat_eq c.timestamp t) cs ≡ true → (list_any (writes_key key) cs ≡ true) ⊎ (w ≡ t) → writer_from key w cs ≡ t
writer-one key t w [] all (inl any) = absurd (false≢true any)
writer-one key t w [] all (inr same) = same
writer-one key t w (c ∷ cs) all either =
    let both = and_parts (not (writes_key key c) || nat_eq c.timestamp t) (list_all (λ c. not (writes_key key c) || nat_eq c.timestamp t) cs) all in
    by (writes_key key c) both.0 either (λ u on. writer-one key t u cs both.1 on)
  where
    by : (b : Bool) → (not b || nat_eq c.timestamp t) ≡ true → ((b || list_any (writes_key key) cs) ≡ true) ⊎ (w ≡ t) → ((u : ℕ) → (list_any (writes_key key) cs ≡ true) ⊎ (u ≡ t) → writer_from key u cs ≡ t)
        → writer_from key (cond b c.timestamp w) cs ≡ t
    by true is either rest = rest c.timestamp (inr (eqb-true c.timestamp t is))
    by false is either rest = rest w either

-- ---- the batch

module _ (o : Origin) (q : State) (hand : Hand) (value : ℕ → ℕ) (up : q.failed ≡ false) (kept : Keeps o q) (k : KeepsHand q hand) where
  abbrev covered : State
  covered = state_covered q hand

  one-of_batch : (i : ℕ) (c : Commit) → slice_get hand.commits i ≡ Some c → (d : Drawn) × (drawn_at q c.timestamp ≡ Some d) × (d.commit ≡ c) × (is_stamped d ≡ true)
  one-of_batch i c at = k.drawn c.timestamp c (commit_at-place hand.commits i c (distinct-rising hand.commits k.rising) at)

  -- the batch's commits on a key have one timestamp
  batch-one : (key : Key) (t : ℕ) (d : Drawn) → drawn_at q t ≡ Some d → writes_key key d.commit ≡ true → list_all (λ c. not (writes_key key c) || nat_eq c.timestamp t) hand.commits ≡ true
  batch-one key t d found writes = all-placed (λ c. not (writes_key key c) || nat_eq c.timestamp t) hand.commits each
    where
      each : (i : ℕ) (c : Commit) → slice_get hand.commits i ≡ Some c → (not (writes_key key c) || nat_eq c.timestamp t) ≡ true
      each i c at = grind (arith, one-of_batch i c at, eq-eqb)

  last-covered : (key : Key) → last_writer covered.history key ≡ writer_from key (last_writer q.history key) hand.commits
  last-covered key = writer-append key 0 q.history hand.commits

  hidden-covered : (begin end : ℕ) → IsHidden o q begin end → IsHidden o covered begin end
  hidden-covered begin end (inl none) = inl none
  hidden-covered begin end (inr ended) = inr counts
    where
      weaker : (a b c : Bool) → (b ≡ true → c ≡ true) → (a || b) ≡ true → (a || c) ≡ true
      weaker true b c up either = refl
      weaker false b c up either = up either

      all : take (length q.history) q.history ≡ q.history
      all = take_all (length q.history) q.history (omega arith)

      counts : (n : ℕ) → IsInUse covered n → counts_at o covered n end ≡ true
      counts n (inr (session, writes, active)) =
          ap (λ (cs : List Commit). is_committed o.ruling end || has_timestamp (drop o.opened cs) end) (take-now o q hand kept k n (kept.numbers.snapshots session n writes active).1) ∙ ended n (inr (session, writes, active))
      counts n (inl whole) =
          weaker (is_committed o.ruling end) (has_timestamp (drop o.opened (take (length q.history) q.history)) end) (has_timestamp (drop o.opened (take n covered.history)) end)
          (λ has. ap (λ (cs : List Commit). has_timestamp (drop o.opened cs) end) (take_all n covered.history (omega (arith, whole))) ∙ ap (λ (cs : List Commit). has_timestamp cs end) (since-now o q hand kept k)
          ∙ list_any-append (λ (c : Commit). nat_eq c.timestamp end) (covered_since o q) hand.commits
          ∙ or_left (has_timestamp (covered_since o q) end) (has_timestamp hand.commits end) (ap (λ (cs : List Commit). has_timestamp (drop o.opened cs) end) (sym all) ∙ has))
          (ended (length q.history) (inl refl))

  waiting-covered : (slot : ℕ) (key : Key) (row : List ℕ) → IsWaiting q value slot key row → IsWaiting covered value slot key row
  waiting-covered slot key row w = grind (arith, true≢false)

  drawn-uncounted : (t : ℕ) (d : Drawn) → drawn_at q t ≡ Some d → is_committed q.ruling t ≡ false
  drawn-uncounted t d found = (drawn-facts o q kept t d found).1

  -- a drawn commit on a key that the batch doesn't write is still drawn
  drawn-still : (key : Key) (e : ℕ) → list_any (writes_key key) hand.commits ≡ false → is_drawn_on q key e ≡ true → is_drawn_on covered key e ≡ true
  drawn-still key e none drawn =
      let d = any-by_timestamp (λ d. nat_eq d.commit.timestamp e && writes_key key d.commit) q.drawn kept.draws.rising drawn in
      let both = and_parts (nat_eq d.0.commit.timestamp e) (writes_key key d.0.commit) d.2 in
      let at : drawn_at q e ≡ Some d.0 = ap (drawn_at q) (sym (eqb-true d.0.commit.timestamp e both.0)) ∙ d.1 in
      by d.0 at both.1 (has_timestamp hand.commits e) refl
    where
      by : (d : Drawn) → drawn_at q e ≡ Some d → writes_key key d.commit ≡ true → (b : Bool) → has_timestamp hand.commits e ≡ b → is_drawn_on covered key e ≡ true
      by d at writes true has = grind (arith, batch-drawn, found-any (writes_key key))
      by d at writes false out = find-any (λ (d : Drawn). nat_eq d.commit.timestamp e) (λ (d : Drawn). writes_key key d.commit) covered.drawn d (found-left o q hand kept k e out ∙ at) writes

  -- the commit that drew t is found among those of the life
  life-drawn : (t : ℕ) (d : Drawn) → drawn_at q t ≡ Some d → commit_at (commits_of_life o q) t ≡ Some d.commit
  life-drawn t d found =
      commit_at-append (covered_since o q) (drawn_of q) t
      ∙ ap (λ (c : Option Commit). option_or c (commit_at (drawn_of q) t)) (commit_at-none (covered_since o q) t (false_from_ne_true (has_timestamp (covered_since o q) t) (λ has. true≢false (sym (timestamp-all (is_committed q.ruling) (covered_since o q) t (all-drop (λ c. is_committed q.ruling c.timestamp) o.opened q.history kept.numbers.covered) has) ∙ drawn-uncounted t d found))))
      ∙ commit_at-drawn q t ∙ ap (λ (x : Option Drawn). option_map (λ (d : Drawn). d.commit) x) found

  row-there : (w : Option (Option (List ℕ))) (row : List ℕ) → unwrap_or w None ≡ Some row → is_some w ≡ true
  row-there a row e = grind (arith)

module _ (o : Origin) (q : State) (hand : Hand) (value : ℕ → ℕ) (up : q.failed ≡ false) (kept : Keeps o q) (k : KeepsHand q hand) (slot t : ℕ) (v : Version) (lt : slot < q.layout.slots) (held : q.held slot ≡ Some v) (by : v.writer ≡ ByCommit t) where
  abbrev after_it : State
  after_it = state_covered q hand

  abbrev row : List ℕ
  row = unwrap_or (wanted o q v) []

  has : (r : List ℕ) × (wanted o q (version_by v.key (ByCommit t)) ≡ Some r)
  has = let h = kept.owns.has slot v lt held in (h.0, ap (λ (w : Writer). wanted o q (version_by v.key w)) (sym by) ∙ h.1)

  -- ---- a version of a drawn commit

  drawn-writes : (d : Drawn) → drawn_at q t ≡ Some d → writes_key v.key d.commit ≡ true
  drawn-writes d found = row-there o q hand value up kept k (lookup_key d.commit.writes v.key) has.0 (sym (ap (row_by o q v.key t) (life-drawn o q hand value up kept k t d found)) ∙ has.1)

  begun-covered : (d : Drawn) → drawn_at q t ≡ Some d → has_timestamp hand.commits t ≡ true → IsBegun q value slot t v.key row → IsNewest o after_it value slot t v.key row
  begun-covered d found in_batch b = record {
    begin = record {
      own = λ above. b.begin;
      earlier = λ le. absurd (omega (arith, le, ltb-true o.ruling.persisted t (batch-above o q hand kept k t in_batch)));
    };
    end = inl (inl b.end);
    ended = λ u e found_e stamped. ended u e stamped (found-now o q hand kept k u e found_e);
    spells = b.spells;
  }
    where
      ended : (u : ℕ) (e : Drawn) → is_key_stamped e v.key ≡ true → (has_timestamp hand.commits u ≡ false) × (drawn_at q u ≡ Some e) → value (word_of q.layout slot 1) ≡ u
      ended u e stamped was = grind (arith, drawn-writes d found, stamped-among)

  last-batch : (d : Drawn) → drawn_at q t ≡ Some d → commit_at hand.commits t ≡ Some d.commit → last_writer after_it.history v.key ≡ t
  last-batch d found at =
      last-covered o q hand value up kept k v.key
      ∙ writer-one v.key t (last_writer q.history v.key) hand.commits (batch-one o q hand value up kept k v.key t d found (drawn-writes d found)) (inl (found-any (writes_key v.key) hand.commits t d.commit at (drawn-writes d found)))

  -- ---- a covered version

  started-here : drawn_at q t ≡ None → HasBegun o t (value (word_of q.layout slot 0)) → Started o q v.key has.0 t (value (word_of q.layout slot 0))
  started-here undrawn begun = started o q kept v.key has.0 t (value (word_of q.layout slot 0)) undrawn has.1 begun

  -- the newest, if the batch doesn't write its key
  newest-stays : list_any (writes_key v.key) hand.commits ≡ false → IsNewest o q value slot t v.key row → IsNewest o after_it value slot t v.key row
  newest-stays none w = record {
    begin = w.begin;
    end = on w.end;
    ended = λ u d found is. w.ended u d (found-now o q hand kept k u d found).1 is;
    spells = w.spells;
  }
    where
      on : IsNever o q (value (word_of q.layout slot 1)) ⊎ IsTrue (is_drawn_on q v.key (value (word_of q.layout slot 1))) → IsNever o after_it (value (word_of q.layout slot 1)) ⊎ IsTrue (is_drawn_on after_it v.key (value (word_of q.layout slot 1)))
      on (inl never) = inl never
      on (inr drawn) = inr (drawn-still o q hand value up kept k v.key (value (word_of q.layout slot 1)) none drawn)

  -- the newest, if it does
  newest-replaced : drawn_at q t ≡ None → last_writer q.history v.key ≡ t → IsNewest o q value slot t v.key row → IsReplaced o after_it value slot t v.key row
  newest-replaced undrawn newest w = record { begin = w.begin; ended = ended; spells = w.spells }
    where
      all : take (length q.history) q.history ≡ q.history
      all = take_all (length q.history) q.history (omega arith)

      ended : (u : ℕ) → Follows o after_it v.key t u → value (word_of q.layout slot 1) ≡ u
      ended u f = on (place-append q.history hand.commits f.place f.commit f.at)
        where
          on : ((f.place < length q.history) × (slice_get q.history f.place ≡ Some f.commit)) ⊎ ((j : ℕ) × (f.place ≡ length q.history + j) × (slice_get hand.commits j ≡ Some f.commit)) → value (word_of q.layout slot 1) ≡ u
          on (inl (less, at)) =
              let s = started-here undrawn w.begin in
              let low = s.written f.place f.since (omega (arith, less)) (sym (ap (λ (cs : List Commit). last_writer cs v.key) (take-now o q hand kept k f.place (omega (arith, less)))) ∙ f.last) in
              let x = last-after q.history v.key f.place (length q.history) f.commit at f.writes less (omega arith) in
              absurd (s.never x.place x.commit (omega (arith, low, x.low)) x.at (sym x.last ∙ ap (λ (cs : List Commit). last_writer cs v.key) all ∙ newest))
          on (inr (j, is, at)) =
              let d = one-of_batch o q hand value up kept k j f.commit at in
              w.ended f.commit.timestamp d.0 d.1 (all-stamped d.0 v.key d.3 (ap (writes_key v.key) d.2 ∙ f.writes)) ∙ f.stamped

  -- one that was replaced
  replaced-stays : has_timestamp hand.commits t ≡ false → (last_writer q.history v.key ≡ t → ⊥) → IsReplaced o q value slot t v.key row → IsReplaced o after_it value slot t v.key row
  replaced-stays out old w = record { begin = w.begin; ended = ended; spells = w.spells }
    where
      ended : (u : ℕ) → Follows o after_it v.key t u → value (word_of q.layout slot 1) ≡ u
      ended u f = on (place-append q.history hand.commits f.place f.commit f.at)
        where
          seam : take (length q.history) after_it.history ≡ q.history
          seam = take-append-le (length q.history) q.history hand.commits (omega arith) ∙ take_all (length q.history) q.history (omega arith)

          since : (last_writer (take f.place after_it.history) v.key ≡ last_writer (take (length q.history) after_it.history) v.key) ⊎ IsWritten after_it.history v.key (length q.history) f.place → ⊥
          since (inl same) = old (sym (ap (λ (cs : List Commit). last_writer cs v.key) seam) ∙ sym same ∙ f.last)
          since (inr x) = with_place (place-append q.history hand.commits x.place x.commit x.at)
            where
              with_place : ((x.place < length q.history) × (slice_get q.history x.place ≡ Some x.commit)) ⊎ ((j : ℕ) × (x.place ≡ length q.history + j) × (slice_get hand.commits j ≡ Some x.commit)) → ⊥
              with_place (inl (less, at)) = omega (arith, less, x.low)
              with_place (inr (j, is, at)) =
                  true≢false (sym (any_passes_from_place (λ c. nat_eq c.timestamp t) hand.commits j x.commit at (eq-eqb x.commit.timestamp t (sym x.last ∙ f.last))) ∙ out)

          on : ((f.place < length q.history) × (slice_get q.history f.place ≡ Some f.commit)) ⊎ ((j : ℕ) × (f.place ≡ length q.history + j) × (slice_get hand.commits j ≡ Some f.commit)) → value (word_of q.layout slot 1) ≡ u
          on (inl (less, at)) = w.ended u record {
            place = f.place;
            since = f.since;
            commit = f.commit;
            at = at;
            writes = f.writes;
            stamped = f.stamped;
            last = sym (ap (λ (cs : List Commit). last_writer cs v.key) (take-now o q hand kept k f.place (omega (arith, less)))) ∙ f.last;
          }
          on (inr (j, is, at)) = absurd (since (writer-since after_it.history v.key (length q.history) f.place (omega (arith, is)) (omega (arith, length-append q.history hand.commits, is, slice_get_within hand.commits j f.commit at))))

  -- ---- by class

  shows-undrawn : drawn_at q t ≡ None → has_timestamp hand.commits t ≡ false → (b : Bool) → nat_eq (last_writer q.history v.key) t ≡ b → ShowsAs o q value slot (cond b (Newest t v.key row) (Replaced t v.key row))
      → (c : Bool) → list_any (writes_key v.key) hand.commits ≡ c → ShowsAs o after_it value slot (cond (nat_eq (last_writer after_it.history v.key) t) (Newest t v.key row) (Replaced t v.key row))
  shows-undrawn undrawn out true newest shows false none = grind (arith, last-covered, writer-none, newest-stays)
  shows-undrawn undrawn out true newest shows true some =
      let c = any-place (writes_key v.key) hand.commits some in
      let d = one-of_batch o q hand value up kept k c.0 c.1 c.2 in
      let last : last_writer after_it.history v.key ≡ c.1.timestamp = last-covered o q hand value up kept k v.key
      ∙ writer-one v.key c.1.timestamp (last_writer q.history v.key) hand.commits (batch-one o q hand value up kept k v.key c.1.timestamp d.0 d.1 (ap (writes_key v.key) d.2 ∙ c.3)) (inl some) in
      subst (λ (b : Bool). ShowsAs o after_it value slot (cond b (Newest t v.key row) (Replaced t v.key row)))
      (sym (ne_eqb (last_writer after_it.history v.key) t (λ same. true≢false (sym (any_passes_from_place (λ x. nat_eq x.timestamp t) hand.commits c.0 c.1 c.2 (eq-eqb c.1.timestamp t (sym last ∙ same))) ∙ out))))
      (newest-replaced undrawn (eqb-true (last_writer q.history v.key) t newest) shows)
  shows-undrawn undrawn out false old shows c any =
      subst (λ (b : Bool). ShowsAs o after_it value slot (cond b (Newest t v.key row) (Replaced t v.key row))) (sym (ne_eqb (last_writer after_it.history v.key) t (unlike c any)))
      (replaced-stays out (λ same. true≢false (sym (eq-eqb (last_writer q.history v.key) t same) ∙ old)) shows)
    where
      unlike : (c : Bool) → list_any (writes_key v.key) hand.commits ≡ c → last_writer after_it.history v.key ≡ t → ⊥
      unlike false none same = true≢false (sym (eq-eqb (last_writer q.history v.key) t (sym (last-covered o q hand value up kept k v.key ∙ writer-none v.key (last_writer q.history v.key) hand.commits none) ∙ same)) ∙ old)
      unlike true some same =
          let c = any-place (writes_key v.key) hand.commits some in
          let d = one-of_batch o q hand value up kept k c.0 c.1 c.2 in
          let last : last_writer after_it.history v.key ≡ c.1.timestamp = last-covered o q hand value up kept k v.key
          ∙ writer-one v.key c.1.timestamp (last_writer q.history v.key) hand.commits (batch-one o q hand value up kept k v.key c.1.timestamp d.0 d.1 (ap (writes_key v.key) d.2 ∙ c.3)) (inl some) in
          true≢false (sym (any_passes_from_place (λ x. nat_eq x.timestamp t) hand.commits c.0 c.1 c.2 (eq-eqb c.1.timestamp t (sym last ∙ same))) ∙ out)

  shows-left : (x : Option Drawn) → drawn_at q t ≡ x → has_timestamp hand.commits t ≡ false → ShowsAs o q value slot (class_of_drawn q v.key t row x) → ShowsAs o after_it value slot (class_of_drawn after_it v.key t row x)
  shows-left (Some d) found out shows = grind (arith, waiting-covered)
  shows-left None undrawn out shows = shows-undrawn undrawn out (nat_eq (last_writer q.history v.key) t) refl shows (list_any (writes_key v.key) hand.commits) refl

  shows-commit : (b : Bool) → has_timestamp hand.commits t ≡ b → ShowsAs o q value slot (class_of_drawn q v.key t row (drawn_at q t)) → ShowsAs o after_it value slot (class_of_drawn after_it v.key t row (drawn_at after_it t))
  shows-commit false out shows =
      subst (λ (x : Option Drawn). ShowsAs o after_it value slot (class_of_drawn after_it v.key t row x)) (sym (found-left o q hand kept k t out)) (shows-left (drawn_at q t) refl out shows)
  shows-commit true in_batch shows = grind (arith, batch-drawn, all-stamped, drawn-writes, found-covered, eq-eqb, last-batch, begun-covered)

-- ---- every slot

pub shows-covered : (o : Origin) (q : State) (hand : Hand) (value : ℕ → ℕ) → q.failed ≡ false → Keeps o q → KeepsHand q hand → SlotsShow o q value → SlotsShow o (state_covered q hand) value
shows-covered o q hand value up kept k shows = record { each = λ slot lt. by slot lt (q.held slot) refl (shows.each slot lt) }
  where
    writer : (slot : ℕ) → slot < q.layout.slots → (v : Version) → q.held slot ≡ Some v → (w : Writer) → v.writer ≡ w → ShowsAs o q value slot (class_by q v.key (unwrap_or (wanted o q v) []) w)
        → ShowsAs o (state_covered q hand) value slot (class_by (state_covered q hand) v.key (unwrap_or (wanted o q v) []) w)
    writer slot lt v held (BySession n) is shows = waiting-covered o q hand value up kept k slot v.key (unwrap_or (wanted o q v) []) shows
    writer slot lt v held (ByCommit t) is shows = shows-commit o q hand value up kept k slot t v lt held is (has_timestamp hand.commits t) refl shows

    by : (slot : ℕ) → slot < q.layout.slots → (x : Option Version) → q.held slot ≡ x → ShowsAs o q value slot (class_of_version o q x) → ShowsAs o (state_covered q hand) value slot (class_of_version o (state_covered q hand) x)
    by slot lt None held shows = hidden-covered o q hand value up kept k (value (word_of q.layout slot 0)) (value (word_of q.layout slot 1)) shows
    by slot lt (Some v) held shows =
        subst (λ (r : Option (List ℕ)). ShowsAs o (state_covered q hand) value slot (class_by (state_covered q hand) v.key (unwrap_or r []) v.writer)) (sym (wanted-now o q hand kept k v)) (writer slot lt v held v.writer refl shows)

-- What the slots show after a stamp, and after one that the device stopped midway.
use Rattle.std.proofs.Common.{◌||◌, ◌≡◌, ◌≢◌, ◌⊎◌, inl, inr, ℕ, ◌<◌, Bool, true, false, cond, ◌&&◌, List, [], length, take, refl, sym, ◌∙◌, ap, subst, arith, Option, Some, None, slice_get, add-one, true≢false}
use Rattle.std.specs.Prelude.{nat_eq, unwrap_or, IsTrue}
use Rattle.std.specs.List.{list_any}
use Rattle.std.specs.Option.{option_map, option_and_then}
use Rattle.std.proofs.lemmas.Bool.{cases_eq, eq-eqb, eqb-true, or_right}
use Rattle.std.proofs.lemmas.List.{take_all}
use Rattle.std.proofs.Math.Bool.{or-false}
use Rattle.base.specs.declared.key.Key.{Key}
use Rattle.base.specs.declared.step.Step.TheVariants.{Stamp}
use Rattle.base.specs.Keys.{key_eq}
use Rattle.base.specs.Commits.{Commit, writes_key, last_writer}
use Rattle.base.specs.Records.{is_committed}
use Rattle.machine.specs.Machine.{State, Drawn, Version, Writer, BySession, ByCommit, drawn_at, timestamp_of, counted, is_stamped, next_state, refusal, stamped_write}
use Rattle.base.proofs.Keys.{key_eq-same}
use Rattle.machine.proofs.stamps.Drawn.{counted-commit}
use Rattle.base.proofs.Layouts.{line-words}
use Rattle.state_invariant.specs.Kept.{Origin, Keeps, wanted, version_by, last_of}
use Rattle.state_invariant.specs.Shown.{word_of, IsNever, is_drawn_on, is_key_stamped, Class, Free, Waiting, Begun, Newest, Replaced, class_of_version, class_by, class_of_drawn, HasBegun, IsBegun, IsNewest, ShowsAs, SlotsShow, SameWords, StoresStamp, StampsBegin, StampsEnd}
use Rattle.state_invariant.proofs.Lookups.{key_eq-apart, cases-keys, lookup-of_write}
use Rattle.state_invariant.proofs.Lists.{any-take_more, find-any}
use Rattle.state_invariant.proofs.Commits.{drawn_at-timestamp}
use Rattle.state_invariant.proofs.Spelling.{spells-same}
use Rattle.state_invariant.proofs.stamps.Kept.{with_stamp, found-counted, counted-this, counted-other, found-before, any-counted, wanted-stamped, stamp-facts}
use Rattle.state_invariant.proofs.reads.Tables.{drawn-facts}
use Rattle.state_invariant.proofs.Log.{writer-since, IsWritten, at-fact}
use Rattle.state_invariant.proofs.steps.Refusals.{allowed}
use Rattle.state_invariant.proofs.puts.Shown.{shows-values}
use Rattle.state_invariant.proofs.stamps.Stamped.{stamped-among}

-- ---- the key that is stamped

module _ (o : Origin) (q : State) (t : ℕ) (d : Drawn) (key : Key) (row : Option (List ℕ)) (value new : ℕ → ℕ) (up : q.failed ≡ false) (kept : Keeps o q)
    (unfinished : list_any (λ d. nat_eq d.commit.timestamp t && is_stamped d) q.drawn ≡ false) (found : drawn_at q t ≡ Some d) (at : slice_get d.commit.writes d.stamped ≡ Some (key, row))
    (stored : StoresStamp q value new t key) (shows : SlotsShow o q value) where
  abbrev now : State
  now = with_stamp q t

  -- what each drawn commit has stamped then
  stamped-this : (k : Key) → is_key_stamped (counted t d) k ≡ (is_key_stamped d k || key_eq key k)
  stamped-this k =
      ap (λ (e : Drawn). is_key_stamped e k) (counted-this t d (drawn_at-timestamp q t d found))
      ∙ ap (λ (n : ℕ). list_any (λ write. key_eq write.0 k) (take n d.commit.writes)) (add-one d.stamped)
      ∙ any-take_more (λ write. key_eq write.0 k) d.commit.writes d.stamped (key, row) at

  stamped-other : (u : ℕ) (e : Drawn) (k : Key) → u ≢ t → drawn_at q u ≡ Some e → is_key_stamped (counted t e) k ≡ is_key_stamped e k
  stamped-other u e k apart there = ap (λ (x : Drawn). is_key_stamped x k) (counted-other t e (λ same. apart (sym (drawn_at-timestamp q u e there) ∙ same)))

  -- the timestamp is of a drawn commit that writes the key
  writes-this : writes_key key d.commit ≡ true
  writes-this = lookup-of_write key row d.commit.writes d.stamped at

  drawn-this : is_drawn_on now key t ≡ true
  drawn-this = any-counted t (λ (c : Commit). nat_eq c.timestamp t && writes_key key c) q.drawn ∙ find-any (λ (e : Drawn). nat_eq e.commit.timestamp t) (λ (e : Drawn). writes_key key e.commit) q.drawn d found writes-this

  drawn-still : (k : Key) (e : ℕ) → is_drawn_on q k e ≡ true → is_drawn_on now k e ≡ true
  drawn-still k e drawn = any-counted t (λ (c : Commit). nat_eq c.timestamp e && writes_key k c) q.drawn ∙ drawn

  -- no drawn commit is the last covered one on a key
  unlike-last : (u : ℕ) (e : Drawn) (k : Key) → drawn_at q u ≡ Some e → last_writer q.history k ≡ u → ⊥
  unlike-last u e k there last = by (writer-since q.history k 0 (length q.history) (omega arith) (omega arith))
    where
      all : take (length q.history) q.history ≡ q.history
      all = take_all (length q.history) q.history (omega arith)

      facts : (o.ruling.persisted < u) × (is_committed q.ruling u ≡ false)
      facts = drawn-facts o q kept u e there

      by : (last_writer (take (length q.history) q.history) k ≡ 0) ⊎ IsWritten q.history k 0 (length q.history) → ⊥
      by (inl none) = omega (arith, facts.0, sym last ∙ sym (ap (λ (cs : List Commit). last_writer cs k) all) ∙ none)
      by (inr w) =
          true≢false (sym (at-fact (λ c. is_committed q.ruling c.timestamp) q.history 0 w.place w.commit kept.numbers.covered (omega arith) w.at)
          ∙ ap (is_committed q.ruling) (sym w.last ∙ ap (λ (cs : List Commit). last_writer cs k) all ∙ last) ∙ facts.1)

  -- ---- slots whose words stay

  class-stays : (slot : ℕ) → SameWords q.layout value new slot → (class : Class) → ((u : ℕ) (k : Key) (r : List ℕ) → class ≡ Newest u k r → k ≡ key → ⊥) → ShowsAs o q value slot class → ShowsAs o now new slot class
  class-stays slot same class apart here = by class apart (shows-values o q value new slot class same here)
    where
      by : (class : Class) → ((u : ℕ) (k : Key) (r : List ℕ) → class ≡ Newest u k r → k ≡ key → ⊥) → ShowsAs o q new slot class → ShowsAs o now new slot class
      by Free apart (inl none) = inl none
      by Free apart (inr ended) = inr ended
      by (Waiting k r) apart w = grind (arith, drawn-still)
      by (Begun u k r) apart w = record { begin = w.begin; end = w.end; spells = w.spells }
      by (Newest u k r) apart w = record { begin = w.begin; end = end w.end; ended = ended; spells = w.spells }
        where
          end : IsNever o q (new (word_of q.layout slot 1)) ⊎ IsTrue (is_drawn_on q k (new (word_of q.layout slot 1))) → IsNever o now (new (word_of q.layout slot 1)) ⊎ IsTrue (is_drawn_on now k (new (word_of q.layout slot 1)))
          end (inl none) = inl none
          end (inr drawn) = inr (drawn-still k (new (word_of q.layout slot 1)) drawn)

          ended : (x : ℕ) (e : Drawn) → drawn_at now x ≡ Some e → is_key_stamped e k ≡ true → new (word_of q.layout slot 1) ≡ x
          ended x e there stamped =
              let b = found-before o q t unfinished kept x e there in
              was x b.0 b.1 (ap (λ (y : Drawn). is_key_stamped y k) (sym b.2) ∙ stamped) (cases_eq x t)
            where
              was : (x : ℕ) (e : Drawn) → drawn_at q x ≡ Some e → is_key_stamped (counted t e) k ≡ true → (x ≡ t) ⊎ (x ≢ t) → new (word_of q.layout slot 1) ≡ x
              was x e there stamped (inr other) = w.ended x e there (sym (stamped-other x e k other there) ∙ stamped)
              was x e there stamped (inl same) =
                  let one : Some e ≡ Some d = sym there ∙ ap (drawn_at q) same ∙ found in
                  let is : e ≡ d = cc one in
                  let unlike : key_eq key k ≡ false = key_eq-apart key k (λ eq. apart u k r refl (sym eq)) in
                  w.ended x e there (either (is_key_stamped e k) (key_eq key k) unlike (sym (ap (λ (y : Drawn). is_key_stamped (counted t y) k) is ∙ stamped-this k ∙ ap (λ (y : Drawn). is_key_stamped y k || key_eq key k) (sym is)) ∙ stamped))
                where
                  either : (a b : Bool) → b ≡ false → (a || b) ≡ true → a ≡ true
                  either true b no_b e = refl
                  either false true no_b e = absurd (true≢false no_b)
                  either false false no_b e = e
      by (Replaced u k r) apart w = record {
        begin = w.begin;
        ended = λ x f. w.ended x record { place = f.place; since = f.since; commit = f.commit; at = f.at; writes = f.writes; stamped = f.stamped; last = f.last };
        spells = w.spells;
      }

  -- ---- the version whose begin is stamped

  begin-stamped : (slot : ℕ) (r : List ℕ) (b : Bool) → StampsBegin q.layout value new slot t → ShowsAs o q value slot (cond b (Begun t key r) (Waiting key r)) → IsBegun now new slot t key r
  begin-stamped slot r true s w = grind (arith, line-words, spells-same)
  begin-stamped slot r false s w = grind (arith, line-words, spells-same)

  -- ---- the newest version, which is ended

  end-stamped : (slot u : ℕ) (k : Key) (r : List ℕ) → k ≡ key → StampsEnd q.layout value new slot t → IsNewest o q value slot u k r → IsNewest o now new slot u k r
  end-stamped slot u k r same s w = record {
    begin = subst (HasBegun o u) (sym (s.others 0 (omega (arith, line-words q.layout.version)) (λ e. cc e))) w.begin;
    end = inr (ap (is_drawn_on now k) s.end ∙ ap (λ (j : Key). is_drawn_on now j t) same ∙ drawn-this);
    ended = ended;
    spells = spells-same q.layout value new slot k r w.spells (λ i low high. s.others i high (λ e. omega (arith, e, low)));
  }
    where
      ended : (x : ℕ) (e : Drawn) → drawn_at now x ≡ Some e → is_key_stamped e k ≡ true → new (word_of q.layout slot 1) ≡ x
      ended x e there stamped =
          let b = found-before o q t unfinished kept x e there in
          let writes : writes_key k b.0.commit ≡ true = ap (writes_key k) (sym (counted-commit t b.0)) ∙ ap (λ (y : Drawn). writes_key k y.commit) (sym b.2) ∙ stamped-among k e.stamped e.commit.writes stamped in
          s.end ∙ sym (kept.draws.apart x t b.0 d k b.1 found writes (ap (λ (j : Key). writes_key j d.commit) same ∙ writes-this))

  -- ---- every slot

  parts : (v : Version) (u w : ℕ) (k : Key) → v.writer ≡ ByCommit u → Some v ≡ Some (version_by k (ByCommit w)) → (v.key ≡ k) × (u ≡ w)
  parts v u w k is e = grind arith

  all-taken : take (length q.history) q.history ≡ q.history
  all-taken = take_all (length q.history) q.history (omega arith)

-- ---- a slot of a commit's version

module _ (o : Origin) (q : State) (t : ℕ) (d : Drawn) (key : Key) (row : Option (List ℕ)) (value new : ℕ → ℕ) (up : q.failed ≡ false) (kept : Keeps o q)
    (unfinished : list_any (λ d. nat_eq d.commit.timestamp t && is_stamped d) q.drawn ≡ false) (found : drawn_at q t ≡ Some d) (at : slice_get d.commit.writes d.stamped ≡ Some (key, row))
    (stored : StoresStamp q value new t key) (shows : SlotsShow o q value) (slot : ℕ) (lt : slot < q.layout.slots) (v : Version) (held : q.held slot ≡ Some v) (u : ℕ) (is : v.writer ≡ ByCommit u) (r : List ℕ) where
  same-words : (v.key ≡ key → u ≡ t → ⊥) → (v.key ≡ key → u ≡ last_writer q.history key → ⊥) → SameWords q.layout value new slot
  same-words not_own not_last =
      stored.others slot lt (λ own. let p = parts o q t d key row value new up kept unfinished found at stored shows v u t key is (sym held ∙ own) in not_own p.0 p.1)
      (λ last. let p = parts o q t d key row value new up kept unfinished found at stored shows v u (last_writer (take (length q.history) q.history) key) key is (sym held ∙ last) in not_last p.0 (p.1 ∙ ap (λ (cs : List Commit). last_writer cs key) (all-taken o q t d key row value new up kept unfinished found at stored shows)))

  -- that of a drawn commit
  drawn-version : (e : Drawn) → drawn_at q u ≡ Some e → ShowsAs o q value slot (cond (is_key_stamped e v.key) (Begun u v.key r) (Waiting v.key r)) → ShowsAs o (with_stamp q t) new slot (cond (is_key_stamped (counted t e) v.key) (Begun u v.key r) (Waiting v.key r))
  drawn-version e there here = by (cases_eq u t) (cases-keys v.key key)
    where
      not_last : v.key ≡ key → u ≡ last_writer q.history key → ⊥
      not_last k last = unlike-last o q t d key row value new up kept unfinished found at stored shows u e key there (sym last)

      stays : SameWords q.layout value new slot → is_key_stamped (counted t e) v.key ≡ is_key_stamped e v.key → ShowsAs o (with_stamp q t) new slot (cond (is_key_stamped (counted t e) v.key) (Begun u v.key r) (Waiting v.key r))
      stays words same = grind (arith, with_stamp, class-stays)

      by : (u ≡ t) ⊎ (u ≢ t) → (v.key ≡ key) ⊎ (v.key ≢ key) → ShowsAs o (with_stamp q t) new slot (cond (is_key_stamped (counted t e) v.key) (Begun u v.key r) (Waiting v.key r))
      by (inr apart) k = stays (same-words (λ k same. apart same) not_last) (stamped-other o q t d key row value new up kept unfinished found at stored shows u e v.key apart there)
      by (inl same) (inr apart) =
          let one : Some e ≡ Some d = sym there ∙ ap (drawn_at q) same ∙ found in
          let e_is : e ≡ d = cc one in
          stays (same-words (λ k x. apart k) not_last)
          (ap (λ (y : Drawn). is_key_stamped (counted t y) v.key) e_is ∙ stamped-this o q t d key row value new up kept unfinished found at stored shows v.key ∙ ap (λ (b : Bool). is_key_stamped d v.key || b) (key_eq-apart key v.key (λ eq. apart (sym eq))) ∙ or-false (is_key_stamped d v.key) ∙ ap (λ (y : Drawn). is_key_stamped y v.key) (sym e_is))
      by (inl same) (inl k) =
          let one : Some e ≡ Some d = sym there ∙ ap (drawn_at q) same ∙ found in
          let e_is : e ≡ d = cc one in
          let begins = stored.begins slot lt (held ∙ ap (λ (w : Writer). Some (version_by v.key w)) is ∙ ap (λ (j : Key). Some (version_by j (ByCommit u))) k ∙ ap (λ (x : ℕ). Some (version_by key (ByCommit x))) same) in
          let was : ShowsAs o q value slot (cond (is_key_stamped e v.key) (Begun t key r) (Waiting key r)) = subst (λ (x : ℕ). ShowsAs o q value slot (cond (is_key_stamped e v.key) (Begun x key r) (Waiting key r))) same (subst (λ (j : Key). ShowsAs o q value slot (cond (is_key_stamped e v.key) (Begun u j r) (Waiting j r))) k here) in
          let is_so : is_key_stamped (counted t e) v.key ≡ true = ap (λ (y : Drawn). is_key_stamped (counted t y) v.key) e_is ∙ stamped-this o q t d key row value new up kept unfinished found at stored shows v.key ∙ ap (λ (j : Key). is_key_stamped d v.key || key_eq key j) k ∙ or_right (is_key_stamped d v.key) (key_eq key key) (key_eq-same key) in
          subst (λ (b : Bool). ShowsAs o (with_stamp q t) new slot (cond b (Begun u v.key r) (Waiting v.key r))) (sym is_so)
          (subst (λ (j : Key). ShowsAs o (with_stamp q t) new slot (Begun u j r)) (sym k) (subst (λ (x : ℕ). ShowsAs o (with_stamp q t) new slot (Begun x key r)) (sym same) (begin-stamped o q t d key row value new up kept unfinished found at stored shows slot r (is_key_stamped e v.key) begins was)))

  -- that of a covered one
  covered-version : drawn_at q u ≡ None → (b : Bool) → nat_eq (last_writer q.history v.key) u ≡ b → ShowsAs o q value slot (cond b (Newest u v.key r) (Replaced u v.key r)) → ShowsAs o (with_stamp q t) new slot (cond b (Newest u v.key r) (Replaced u v.key r))
  covered-version undrawn b last here = by b last (cases-keys v.key key) here
    where
      not_own : v.key ≡ key → u ≡ t → ⊥
      not_own k same = let clash : None ≡ Some d = sym undrawn ∙ ap (drawn_at q) same ∙ found in cc clash

      by : (b : Bool) → nat_eq (last_writer q.history v.key) u ≡ b → (v.key ≡ key) ⊎ (v.key ≢ key) → ShowsAs o q value slot (cond b (Newest u v.key r) (Replaced u v.key r)) → ShowsAs o (with_stamp q t) new slot (cond b (Newest u v.key r) (Replaced u v.key r))
      by true last (inl k) here =
          let u_is : u ≡ last_writer (take (length q.history) q.history) key = sym (eqb-true (last_writer q.history v.key) u last) ∙ ap (last_writer q.history) k ∙ ap (λ (cs : List Commit). last_writer cs key) (sym (all-taken o q t d key row value new up kept unfinished found at stored shows)) in
          end-stamped o q t d key row value new up kept unfinished found at stored shows slot u v.key r k (stored.ends slot lt (held ∙ ap (λ (w : Writer). Some (version_by v.key w)) is ∙ ap (λ (j : Key). Some (version_by j (ByCommit u))) k ∙ ap (λ (x : ℕ). Some (version_by key (ByCommit x))) u_is)) here
      by true last (inr apart) here =
          class-stays o q t d key row value new up kept unfinished found at stored shows slot (same-words not_own (λ k x. apart k)) (Newest u v.key r) (λ x k l eq same. apart (newest-key x k l eq ∙ same)) here
        where
          newest-key : (x : ℕ) (k : Key) (l : List ℕ) → Newest u v.key r ≡ Newest x k l → v.key ≡ k
          newest-key x k l eq = cc eq
      by false old k here =
          class-stays o q t d key row value new up kept unfinished found at stored shows slot (same-words not_own (λ k last. true≢false (sym (eq-eqb (last_writer q.history v.key) u (ap (last_writer q.history) k ∙ sym last)) ∙ old))) (Replaced u v.key r) (λ x k l eq same. not-newest x k l eq) here
        where
          not-newest : (x : ℕ) (k : Key) (l : List ℕ) → Replaced u v.key r ≡ Newest x k l → ⊥
          not-newest x k l eq = cc eq

  commit-version : (x : Option Drawn) → drawn_at q u ≡ x → ShowsAs o q value slot (class_of_drawn q v.key u r x) → ShowsAs o (with_stamp q t) new slot (class_of_drawn (with_stamp q t) v.key u r (option_map (counted t) x))
  commit-version a there here = grind (arith, drawn-version, covered-version)

-- ---- every slot

shows-stamped : (o : Origin) (q : State) (t : ℕ) (d : Drawn) (key : Key) (row : Option (List ℕ)) (value new : ℕ → ℕ) → q.failed ≡ false → Keeps o q → list_any (λ d. nat_eq d.commit.timestamp t && is_stamped d) q.drawn ≡ false
    → drawn_at q t ≡ Some d → slice_get d.commit.writes d.stamped ≡ Some (key, row) → StoresStamp q value new t key → SlotsShow o q value → SlotsShow o (with_stamp q t) new
shows-stamped o q t d key row value new up kept unfinished found at stored shows = record { each = λ slot lt. by slot lt (q.held slot) refl (shows.each slot lt) }
  where
    writer : (slot : ℕ) → slot < q.layout.slots → (v : Version) → q.held slot ≡ Some v → (w : Writer) → v.writer ≡ w → ShowsAs o q value slot (class_by q v.key (unwrap_or (wanted o q v) []) w)
        → ShowsAs o (with_stamp q t) new slot (class_by (with_stamp q t) v.key (unwrap_or (wanted o q v) []) w)
    writer slot lt v held (BySession n) is here =
        class-stays o q t d key row value new up kept unfinished found at stored shows slot (stored.others slot lt (λ own. not-by t own) (λ last. not-by (last_writer (take (length q.history) q.history) key) last)) (Waiting v.key (unwrap_or (wanted o q v) [])) (λ x k l eq same. not-newest x k l eq) here
      where
        not-by : (u : ℕ) → q.held slot ≡ Some (version_by key (ByCommit u)) → ⊥
        not-by u own =
            let one : Some v ≡ Some (version_by key (ByCommit u)) = sym held ∙ own in
            let same : v ≡ version_by key (ByCommit u) = cc one in
            let clash : BySession n ≡ ByCommit u = sym is ∙ ap (λ (y : Version). y.writer) same in
            cc clash

        not-newest : (x : ℕ) (k : Key) (l : List ℕ) → Waiting v.key (unwrap_or (wanted o q v) []) ≡ Newest x k l → ⊥
        not-newest x k l eq = cc eq
    writer slot lt v held (ByCommit u) is here =
        subst (λ (x : Option Drawn). ShowsAs o (with_stamp q t) new slot (class_of_drawn (with_stamp q t) v.key u (unwrap_or (wanted o q v) []) x)) (sym (found-counted t u q.drawn))
        (commit-version o q t d key row value new up kept unfinished found at stored shows slot lt v held u is (unwrap_or (wanted o q v) []) (drawn_at q u) refl here)

    by : (slot : ℕ) → slot < q.layout.slots → (x : Option Version) → q.held slot ≡ x → ShowsAs o q value slot (class_of_version o q x) → ShowsAs o (with_stamp q t) new slot (class_of_version o (with_stamp q t) x)
    by slot lt None held here =
        class-stays o q t d key row value new up kept unfinished found at stored shows slot (stored.others slot lt (λ own. free (version_by key (ByCommit t)) (sym held ∙ own)) (λ last. free (last_of q (length q.history) key) (sym held ∙ last))) Free (λ x k l eq same. not-newest x k l eq) here
      where
        free : (w : Version) → ◌≡◌ {A = Option Version} None (Some w) → ⊥
        free w e = cc e

        not-newest : (x : ℕ) (k : Key) (l : List ℕ) → Free ≡ Newest x k l → ⊥
        not-newest x k l eq = cc eq
    by slot lt (Some v) held here =
        subst (λ (r : Option (List ℕ)). ShowsAs o (with_stamp q t) new slot (class_by (with_stamp q t) v.key (unwrap_or r []) v.writer)) (sym (wanted-stamped o q t unfinished kept v)) (writer slot lt v held v.writer refl here)

pub stamp-shows : (o : Origin) (q : State) (n : ℕ) (key : Key) (row : Option (List ℕ)) (value new : ℕ → ℕ) → Keeps o q → refusal q (Stamp n) ≡ None → stamped_write q n ≡ Some (key, row)
    → StoresStamp q value new (timestamp_of (q.sessions n)) key → SlotsShow o q value → SlotsShow o (next_state q (Stamp n)) new
stamp-shows o q n key row value new kept none write stored shows = by (drawn_at q (timestamp_of (q.sessions n))) refl write
  where
    by : (x : Option Drawn) → drawn_at q (timestamp_of (q.sessions n)) ≡ x → option_and_then (λ d. slice_get d.commit.writes d.stamped) x ≡ Some (key, row) → SlotsShow o (next_state q (Stamp n)) new
    by None found e = absurd (cc e)
    by (Some d) found e = shows-stamped o q (timestamp_of (q.sessions n)) d key row value new (allowed q (Stamp n) none).up kept (stamp-facts q n none).2 found e stored shows

-- The drawn commits that a record commits are covered.
use Rattle.std.proofs.Common.{◌≡◌, ◌⊎◌, inl, inr, ℕ, zero, suc, ◌<◌, ◌≤◌, Bool, true, false, ◌&&◌, ◌||◌, cond, not, List, [], ◌∷◌, ◌++◌, length, map, filter, drop, refl, sym, ◌∙◌, ap, subst, arith, Contains, length-append}
use Rattle.std.specs.Prelude.{Option, Some, None, nat_eq, nat_lt, find, slice_get, slice_index_or, All}
use Rattle.std.specs.List.{list_any, list_all}
use Rattle.std.specs.Option.{option_map}
use Rattle.std.proofs.lemmas.Bool.{and_parts, ltb-true, eq-eqb, ne_eqb, false_from_ne_true, or_right}
use Rattle.std.proofs.lemmas.Bool.Decides.{nat_tests}
use Rattle.std.proofs.lemmas.List.{take-append-le, drop_all}
use Rattle.std.proofs.lemmas.List.Elements.{All-nil, All-filter}
use Rattle.std.proofs.lemmas.List.Folds.{list_any_none, list_any_at, list_any-append}
use Rattle.base.specs.declared.key.Key.{Key}
use Rattle.base.specs.Keys.{key_eq}
use Rattle.base.specs.Commits.{Commit, last_writer, writes_key}
use Rattle.base.specs.Records.{Record, is_committed, are_rising}
use Rattle.base.specs.Stands.{has_timestamp}
use Rattle.machine.specs.Machine.{State, Hand, Drawn as PlainDrawn, Version, Writer, BySession, ByCommit, drawn_at, state_covered}
use Rattle.machine.specs.Collecting.{replace, is_replaced_by}
use Rattle.base.proofs.Keys.{key_eq-true}
use Rattle.base.proofs.Lists.{rising-rest}
use Rattle.txn.specs.declared.drawn.DrawnCommit.{DrawnCommit}
use Rattle.txn.specs.declared.write.Write.{Write}
use Rattle.txn.specs.declared.transaction.Transaction.{Transaction}
use Rattle.txn.specs.declared.transaction.Transaction.TheVariants.{Active, Drawn, ReadOnly}
use Rattle.txn.specs.InFlight.{InFlight}
use Rattle.txn.specs.Transactions.{transaction_at}
use Rattle.txn.specs.WriteSets.{plain_writes}
use Rattle.txn.proofs.Passed.{filter-map}
use Rattle.dirty_table.specs.declared.sessions.SessionSet.{SessionSet}
use Rattle.dirty_table.specs.Touches.{has, is_touched, Forgets}
use Rattle.index.specs.declared.entry.Entry.{Entry}
use Rattle.index.specs.Entries.{entry_at, live_of}
use Rattle.state_invariant.specs.Kept.{Origin, IsInUse, commits_of_life, version_by}
use Rattle.state_invariant.specs.Links.{last_row}
use Rattle.state_invariant.proofs.covers.Kept.{batch-drawn, found-left}
use Rattle.state_invariant.proofs.Lists.{rising-above}
use Rattle.state_invariant.proofs.Commits.{timestamp-all, drawn_at-timestamp}
use Rattle.device_invariant.specs.Slots.{newest_of}
use Rattle.device_invariant.specs.Log.{is_ended}
use Rattle.device_invariant.proofs.stamps.Stamped.{writes-held}
use Rattle.simulation.specs.sessions.Laws.{is_covered_by, CoversByRecord}
use Rattle.simulation.proofs.sessions.Batches.{covers-batch}
use Rattle.simulation.specs.steps.Moves.{IsSlotOf}
use Rattle.session_steps.specs.declared.sessions.Sessions.{Sessions}
use Rattle.simulation.specs.sessions.Sees.{Sees, last_on}
use Rattle.simulation.specs.cycles.Batches.{line_numbers}
use Rattle.session_steps.specs.Shows.{Hidden, plain_of, plain_session, plain_drawn, HasItsSlot, HoldsSession, HasDrawn, IsSeenByAll, HoldsLast, HoldsEntry, HoldsDrawn, HoldsLines, has_drawn_by, IsUnreplaced, Agrees}
use Rattle.session_steps.specs.Covering.{covered_by_commits, committed_by, left_by, CoversCommits, MarksReplaced, MayCover, hidden_covered, HasCovered, ShowsCovered}
use Rattle.session_steps.proofs.slots.Held.{numbers-by-tests}
use Rattle.session_steps.proofs.collector.Replaced.{last-unreplaced, unreplaced-last, found-contained}
use Rattle.session_steps.proofs.Filters.{filter-at, any-split}
use Rattle.session_steps.proofs.covers.Index.{has_key, written-plain, written-commits, Within, IsOwn, within-commits, live-commits, none-commits, stays-commits, newest-after}

-- ---- the order of drawn commits

abbrev pub AreRising : List DrawnCommit → Type 0
AreRising ds = are_rising (map (λ (d : PlainDrawn). d.commit.timestamp) (map plain_drawn ds)) ≡ true

all-later : (t : ℕ) (ds : List DrawnCommit) → list_all (nat_lt t) (map (λ (d : PlainDrawn). d.commit.timestamp) (map plain_drawn ds)) ≡ true → All (λ (d : DrawnCommit). t < d.timestamp) ds
all-later t [] all = All-nil (λ (d : DrawnCommit). t < d.timestamp)
all-later t (d ∷ ds) all = grind (arith, and_parts, ltb-true, all-later t ds)

later : (d : DrawnCommit) (ds : List DrawnCommit) → AreRising (d ∷ ds) → All (λ (e : DrawnCommit). d.timestamp < e.timestamp) ds
later d ds rising = all-later d.timestamp ds (rising-above d.timestamp (map (λ (d : PlainDrawn). d.commit.timestamp) (map plain_drawn ds)) rising)

-- a drawn commit is found by its timestamp
pub found : (ds : List DrawnCommit) (k : ℕ) (d : DrawnCommit) → AreRising ds → k < length ds → find (λ (e : PlainDrawn). nat_eq e.commit.timestamp (slice_index_or ds k d).timestamp) (map plain_drawn ds) ≡ Some (plain_drawn (slice_index_or ds k d))
found [] k d rising lt = absurd (omega (arith, lt))
found (e ∷ ds) zero d rising lt = ap (λ (b : Bool). cond b (Some (plain_drawn e)) (find (λ (x : PlainDrawn). nat_eq x.commit.timestamp e.timestamp) (map plain_drawn ds))) (eq-eqb e.timestamp e.timestamp refl)
found (e ∷ ds) (suc k) d rising lt = grind (arith, later, ne_eqb, found ds k d (rising-rest e.timestamp (map (λ (d : PlainDrawn). d.commit.timestamp) (map plain_drawn ds)) rising), rising-rest)

-- as the plain state has it
member-of : (ds : List DrawnCommit) (k : ℕ) (d : DrawnCommit) → k < length ds → Contains (map plain_drawn ds) (plain_drawn (slice_index_or ds k d))
member-of [] k d lt = absurd (omega (arith, lt))
member-of (e ∷ ds) zero d lt = (0, omega arith, refl)
member-of (e ∷ ds) (suc k) d lt = let (j, low, is) = member-of ds k d (omega (arith, lt)) in (suc j, omega (arith, low), is)

-- ---- tests

and-false : (b : Bool) → (b && false) ≡ false
and-false a = grind (arith)

and-true : (b : Bool) → (b && true) ≡ b
and-true a = grind (arith)

-- the number of a writer
abbrev stamp-of : Writer → ℕ
stamp-of (BySession n) = n
stamp-of (ByCommit t) = t

-- a slot stays its version's if all slots stay
slot-same : (q q' : State) (v : Version) (o : Option ℕ) → q'.layout ≡ q.layout → q'.held ≡ q.held → IsSlotOf q v o → IsSlotOf q' v o
slot-same q q' v a layout held is = grind (arith)

-- one that is found among the commits, and passes a test
any-found : (p test : Commit → Bool) (cs : List Commit) (c : Commit) → find test cs ≡ Some c → p c ≡ true → list_any p cs ≡ true
any-found p test [] c found is = absurd (cc found)
any-found p test (x ∷ cs) c found is = by (test x) found (λ found. any-found p test cs c found is)
  where
    by : (b : Bool) → cond b (Some x) (find test cs) ≡ Some c → (find test cs ≡ Some c → list_any p cs ≡ true) → (p x || list_any p cs) ≡ true
    by true found rest = let same : x ≡ c = cc found in ap (λ (b : Bool). b || list_any p cs) (ap p same ∙ is)
    by false found rest = or_right (p x) (list_any p cs) (rest found)

-- ---- tests that none passes

any-both : {X : Type 0} (p : X → Bool) (xs ys : List X) → list_any p xs ≡ false → list_any p ys ≡ false → list_any p (xs ++ ys) ≡ false
any-both p [] ys none others = others
any-both p (x ∷ xs) ys none others = grind (arith, any-both p xs ys)

any-first : {X : Type 0} (p : X → Bool) (xs ys : List X) → list_any p (xs ++ ys) ≡ false → list_any p xs ≡ false
any-first p [] ys none = refl
any-first p (x ∷ xs) ys none = grind (arith, any-first p xs ys)

pub any-second : {X : Type 0} (p : X → Bool) (xs ys : List X) → list_any p (xs ++ ys) ≡ false → list_any p ys ≡ false
any-second p [] ys none = none
any-second p (x ∷ xs) ys none = grind (arith, any-second p xs ys)

any-later : {X : Type 0} (p : X → Bool) (m : ℕ) (xs : List X) → list_any p xs ≡ false → list_any p (drop m xs) ≡ false
any-later p zero xs none = none
any-later p (suc m) [] none = refl
any-later p (suc m) (x ∷ xs) none = grind (arith, any-later p m xs)

any-dropped : {X : Type 0} (p : X → Bool) (m : ℕ) (xs ys : List X) → list_any p (drop m xs) ≡ false → list_any p ys ≡ false → list_any p (drop m (xs ++ ys)) ≡ false
any-dropped p zero xs ys none others = any-both p xs ys none others
any-dropped p (suc m) [] ys none others = any-later p (suc m) ys others
any-dropped p (suc m) (x ∷ xs) ys none others = any-dropped p m xs ys none others

-- of those that pass another
any-kept : (p : Commit → Bool) (test : PlainDrawn → Bool) (ds : List PlainDrawn) → list_any p (map (λ (d : PlainDrawn). d.commit) ds) ≡ false → list_any p (map (λ (d : PlainDrawn). d.commit) (filter test ds)) ≡ false
any-kept p test [] none = refl
any-kept p test (d ∷ ds) none = grind (arith, any-kept p test ds)

-- ---- what a live entry says

live-newest : (e : Entry) (slot : ℕ) → live_of e ≡ Some slot → e.newest ≡ Some slot
live-newest e slot is = by e.ended is
  where
    by : (b : Bool) → cond b None e.newest ≡ Some slot → e.newest ≡ Some slot
    by true is = absurd (cc is)
    by false is = is

same-last : (v w : Version) → Some v ≡ Some w → stamp-of v.writer ≡ stamp-of w.writer
same-last v w e = cc e

-- ---- covering

module _ (s : Sessions) (ruling : Record) (h : Hidden) (hand : Hand) (may : MayCover s ruling h hand) (index : List (Key × Entry)) (dirty : List SessionSet) (sessions : SessionSet) (drawn : InFlight)
    (replaced : List Bool) (covers : CoversCommits (committed_by ruling s.drawn.commits) s.index index) (marks : MarksReplaced s.replaced replaced s.index index) (forgets : Forgets sessions s.dirty dirty) (of : (n : ℕ) → has sessions n ≡ has_drawn_by (committed_by ruling s.drawn.commits) n)
    (rest : drawn.commits ≡ left_by ruling s.drawn.commits) where
  -- the record commits it
  abbrev counts : DrawnCommit → Bool
  counts d = is_committed ruling d.timestamp

  abbrev batch : List DrawnCommit
  batch = committed_by ruling s.drawn.commits

  abbrev others : List DrawnCommit
  others = left_by ruling s.drawn.commits

  abbrev o : Origin
  o = h.origin

  abbrev q : State
  q = plain_of s h

  abbrev pub now : Sessions
  now = record s { numbers = record { geometry = s.numbers.geometry; «record» = ruling; next = s.numbers.next }; drawn = drawn; index = index; dirty = dirty; replaced = replaced }

  abbrev q' : State
  q' = plain_of now (hidden_covered h hand)

  law : CoversByRecord o q hand
  law = covers-batch o q hand may.keeps (may.keeps.numbers.hand hand may.batch.in_hand)

  drawn-same : map plain_drawn drawn.commits ≡ (state_covered q hand).drawn
  drawn-same =
      ap (map plain_drawn) rest ∙ sym (filter-map plain_drawn (λ (d : PlainDrawn). not (is_covered_by ruling d)) s.drawn.commits)
      ∙ sym (law.rest ∙ ap (λ (r : Record). filter (λ (d : PlainDrawn). not (is_covered_by r d)) q.drawn) may.batch.target)

  commits-are : hand.commits ≡ map (λ (d : PlainDrawn). d.commit) (map plain_drawn batch)
  commits-are =
      law.batch ∙ ap (λ (r : Record). map (λ (d : PlainDrawn). d.commit) (filter (is_covered_by r) q.drawn)) may.batch.target
      ∙ ap (map (λ (d : PlainDrawn). d.commit)) (filter-map plain_drawn (is_covered_by ruling) s.drawn.commits)

  pub plain : q' ≡ state_covered q hand
  plain = λ i. record q { ruling = sym may.batch.target i; history = h.history ++ hand.commits; drawn = drawn-same i; hand = None }

  own-same : (writer : Writer) (writes : List Write) → All (HasItsSlot q writer) writes → All (HasItsSlot q' writer) writes
  own-same writer writes all = λ k d lt. let has = all k d lt in record { slot = slot-same q q' (version_by (slice_index_or writes k d).key writer) (slice_index_or writes k d).slot refl refl has.slot; row = has.row }

  -- ---- sessions

  session : (n : ℕ) (t : Option Transaction) → transaction_at s.transactions n ≡ t → HoldsSession o q n (h.seen n) t → HoldsSession o q' n (h.seen n) t
  session n None at holds = tt
  session n (Some (Drawn t)) at holds = tt
  session n (Some ReadOnly) at holds = tt
  session n (Some (Active snapshot writes)) at holds = (sees holds.0, own-same (BySession n) writes holds.1)
    where
      within : h.seen n ≤ length h.history
      within = (may.keeps.numbers.snapshots n (h.seen n) (plain_writes writes) (ap (λ (t : Option Transaction). option_map (plain_session (h.seen n)) t) at)).1

      sees : Sees o q snapshot (h.seen n) → Sees o q' snapshot (h.seen n)
      sees sight = record {
        covered = λ t lt out. sight.covered t lt out ∙ ap (λ (cs : List Commit). is_committed o.ruling t || has_timestamp (drop o.opened cs) t) (sym (take-append-le (h.seen n) h.history hand.commits within));
        early = sight.early;
        gaps = sight.gaps;
      }

  -- ---- drawn commits

  holds-drawn : All (HoldsDrawn now q') drawn.commits
  holds-drawn = subst (λ (ds : List DrawnCommit). All (HoldsDrawn now q') ds) (sym rest) (All-filter (λ (d : DrawnCommit). not (counts d)) (HoldsDrawn now q') s.drawn.commits (λ k d lt. still (slice_index_or s.drawn.commits k d) (may.agrees.drawn k d lt)))
    where
      still : (d : DrawnCommit) → HoldsDrawn s q d → HoldsDrawn now q' d
      still d holds = record { session = holds.session; writes = own-same (ByCommit d.timestamp) d.writes holds.writes; room = λ k w lt. covers.room (slice_index_or d.writes k w).key ∙ holds.room k w lt }

  -- ---- the index

  batch-writes : (key : Key) → list_any (writes_key key) hand.commits ≡ list_any (λ (d : DrawnCommit). has_key key d.writes) batch
  batch-writes key = ap (list_any (writes_key key)) commits-are ∙ written-commits key batch

  -- each write of the batch has the slot of the version that is newest then
  newest-own : (key : Key) → All (λ (d : DrawnCommit). All (IsOwn q (newest_of q' key) key) d.writes) batch
  newest-own key = λ k d lt.
      let at = filter-at counts s.drawn.commits k d lt in
      own (slice_index_or batch k d) (All-filter counts (HoldsDrawn s q) s.drawn.commits may.agrees.drawn k d lt)
      (subst (λ (e : DrawnCommit). Contains q.drawn (plain_drawn e)) (sym at.2) (member-of s.drawn.commits at.0 d at.1)) at.3
    where
      own : (d : DrawnCommit) → HoldsDrawn s q d → Contains q.drawn (plain_drawn d) → counts d ≡ true → All (IsOwn q (newest_of q' key) key) d.writes
      own d holds member is_covered = λ k w lt is.
          let same : (slice_index_or d.writes k w).key ≡ key = key_eq-true (slice_index_or d.writes k w).key key is in
          let writes : writes_key key (plain_drawn d).commit ≡ true = written-plain key d.writes ∙ list_any_at (λ (w : Write). key_eq w.key key) d.writes k w lt is in
          subst (λ (v : Version). IsSlotOf q v (slice_index_or d.writes k w).slot) (ap (λ (x : Key). version_by x (ByCommit d.timestamp)) same ∙ sym (law.written key (plain_drawn d) member (ap (λ (r : Record). is_covered_by r (plain_drawn d)) may.batch.target ∙ is_covered) writes)) (holds.writes k w lt).slot

  -- a key whose commits all see has no drawn commit, and so none in the batch
  seen-covered : (key : Key) → IsSeenByAll q key → IsSeenByAll q' key
  seen-covered key seen m used =
      any-both p (drop m (h.history ++ hand.commits)) (map (λ (d : PlainDrawn). d.commit) (map plain_drawn drawn.commits)) (any-dropped p m h.history hand.commits (since used) of-batch) of-others
    where
      p : Commit → Bool
      p = writes_key key

      none-drawn : list_any p (map (λ (d : PlainDrawn). d.commit) q.drawn) ≡ false
      none-drawn = any-second p (drop (length h.history) h.history) _ (seen (length h.history) (inl refl))

      of-batch : list_any p hand.commits ≡ false
      of-batch = ap (list_any p) law.batch ∙ any-kept p (is_covered_by hand.target) q.drawn none-drawn

      of-others : list_any p (map (λ (d : PlainDrawn). d.commit) (map plain_drawn drawn.commits)) ≡ false
      of-others = ap (λ (ds : List PlainDrawn). list_any p (map (λ (d : PlainDrawn). d.commit) ds)) (drawn-same ∙ law.rest) ∙ any-kept p (λ d. not (is_covered_by hand.target d)) q.drawn none-drawn

      since : IsInUse q' m → list_any p (drop m h.history) ≡ false
      since (inl all) = ap (list_any p) (drop_all m h.history (let longer = length-append h.history hand.commits in omega (arith, all, longer)))
      since (inr one) = any-first p (drop m h.history) _ (seen m (inr one))

  last-covered : (key : Key) (last : Option ℕ) → last ≡ (entry_at s.index key).last → HoldsLast o q key (entry_at s.index key).last → HoldsLast o q' key last
  last-covered key last same (inl is) = inl (same ∙ is ∙ sym (ap (λ (p : State). last_on key (commits_of_life o p)) plain ∙ law.last key))
  last-covered key last same (inr forgotten) = inr (same ∙ forgotten.0, seen-covered key forgotten.1)

  entry : (key : Key) → HoldsEntry o q' key (entry_at index key)
  entry key = subst (HoldsEntry o q' key) (sym (covers.entries key)) record {
    live = slot-same q q' (newest_of q' key) _ refl refl (live-commits q (newest_of q' key) key None (last_writer q'.history key) refl batch (entry_at s.index key) (newest-own key) (either (list_any (writes_key key) hand.commits) refl));
    last = last-covered key _ within.last_is old.last;
    newest = λ t slot last. newest-after o q may.keeps key h.history batch (entry_at s.index key) batch-slots old.newest t slot (ap (λ (cs : List Commit). last_row (h.history ++ cs) key) (sym commits-are) ∙ last);
    only = λ slot at. let has = within.only slot at in record { within = has.within; timestamp = has.timestamp; held = has.held };
    drawn = λ slot at. (within.drawn slot at, drawn-left slot at (list_any (λ (d : DrawnCommit). has_key key d.writes) batch) refl);
  }
    where
      old : HoldsEntry o q key (entry_at s.index key)
      old = may.agrees.index key

      within : Within q key (entry_at s.index key).last (covered_by_commits key (entry_at s.index key) batch)
      within = within-commits q (newest_of q' key) key (entry_at s.index key).last (last_writer q'.history key) refl batch (entry_at s.index key) (newest-own key)
          record { last_is = refl; only = old.only; drawn = λ slot at. (old.drawn slot at).0 }

      batch-slots : All (λ (d : DrawnCommit). All (HasItsSlot q (ByCommit d.timestamp)) d.writes) batch
      batch-slots = λ k d lt. (All-filter counts (HoldsDrawn s q) s.drawn.commits may.agrees.drawn k d lt).writes

      -- a drawn commit on the key that isn't of the batch stays drawn
      drawn-left : (slot : ℕ) → (covered_by_commits key (entry_at s.index key) batch).drawn ≡ Some slot → (b : Bool) → list_any (λ (d : DrawnCommit). has_key key d.writes) batch ≡ b → HasDrawn q' key
      drawn-left slot at true written = absurd (cc (sym (none-commits key batch (entry_at s.index key) (inr written)) ∙ at))
      drawn-left slot at false unwritten =
          let was = (old.drawn slot (sym (ap (λ (e : Entry). e.drawn) (stays-commits key batch (entry_at s.index key) unwritten)) ∙ at)).1 in
          let out : has_timestamp hand.commits was.0 ≡ false = not-of_batch was.0 was.1 was.2 was.3 (has_timestamp hand.commits was.0) refl in
          (was.0, was.1, ap (λ (p : State). drawn_at p was.0) plain ∙ found-left o q hand may.keeps (may.keeps.numbers.hand hand may.batch.in_hand) was.0 out ∙ was.2, was.3)
        where
          not-of_batch : (t : ℕ) (d : PlainDrawn) → drawn_at q t ≡ Some d → writes_key key d.commit ≡ true → (b : Bool) → has_timestamp hand.commits t ≡ b → b ≡ false
          not-of_batch t d at writes false is = refl
          not-of_batch t d at writes true is =
              let e = batch-drawn o q hand may.keeps (may.keeps.numbers.hand hand may.batch.in_hand) t is in
              grind (arith, any-found (writes_key key), batch-writes key)

      either : (b : Bool) → list_any (writes_key key) hand.commits ≡ b → IsSlotOf q (newest_of q' key) (live_of (entry_at s.index key)) ⊎ (list_any (λ (d : DrawnCommit). has_key key d.writes) batch ≡ true)
      either true is = inr (sym (batch-writes key) ∙ is)
      either false is = inl (subst (λ (v : Version). IsSlotOf q v (live_of (entry_at s.index key))) (sym (law.unwritten key is)) old.live)

  -- ---- what is replaced

  -- a version that is covered now is the newest of its key
  batch-last : (slot t : ℕ) (key : Key) → slot < q.layout.slots → h.held slot ≡ Some (version_by key (ByCommit t)) → has_timestamp hand.commits t ≡ true → last_writer q'.history key ≡ t
  batch-last slot t key lt held has =
      let k = may.keeps.numbers.hand hand may.batch.in_hand in
      let drawn-is = batch-drawn o q hand may.keeps k t has in
      let d : PlainDrawn = drawn-is.0 in
      let its : d.commit.timestamp ≡ t = drawn_at-timestamp q t d drawn-is.1 in
      let counts : is_covered_by hand.target d ≡ true = ap (is_committed hand.target) its ∙ timestamp-all (is_committed hand.target) hand.commits t k.batch has in
      let writes : writes_key key d.commit ≡ true = writes-held o q may.keeps slot t key d lt held drawn-is.1 in
      ap (λ (v : Version). stamp-of v.writer) (law.written key d (found-contained (λ (e : PlainDrawn). nat_eq e.commit.timestamp t) q.drawn d drawn-is.1) counts writes) ∙ its

  -- so is one that was the newest, if the slot isn't marked
  stays-last : (slot : ℕ) (key : Key) → slot < q.layout.slots → h.held slot ≡ Some (newest_of q key) → slice_get replaced slot ≡ Some false → last_writer q'.history key ≡ last_writer h.history key
  stays-last slot key lt held out = by (live_of (entry_at s.index key)) refl (may.agrees.index key).live
    where
      by : (e : Option ℕ) → live_of (entry_at s.index key) ≡ e → IsSlotOf q (newest_of q key) e → last_writer q'.history key ≡ last_writer h.history key
      by None is none = absurd (none slot lt held)
      by (Some other) is at =
          let same : other ≡ slot = may.keeps.owns.once other slot (newest_of q key) at.0 lt at.1 held in
          let newest : (entry_at s.index key).newest ≡ Some slot = live-newest (entry_at s.index key) other is ∙ ap (λ (k : ℕ). Some k) same in
          let stays : live_of (entry_at index key) ≡ Some other = ap (λ (e : Entry). live_of e) (marks.entries key slot newest out) ∙ is in
          let there : (other < q'.layout.slots) × (h.held other ≡ Some (newest_of q' key)) = subst (IsSlotOf q' (newest_of q' key)) stays (entry key).live in
          let both : Some (newest_of q' key) ≡ Some (newest_of q key) = sym there.1 ∙ at.1 in
          same-last (newest_of q' key) (newest_of q key) both

  unreplaced : (slot : ℕ) → slice_get replaced slot ≡ Some false → IsUnreplaced q' slot
  unreplaced slot out = (was.0, by (h.held slot) refl was.1)
    where
      was : IsUnreplaced q slot
      was = may.agrees.unreplaced slot (marks.others slot out)

      of-commit : (key : Key) (t : ℕ) → h.held slot ≡ Some (version_by key (ByCommit t)) → is_replaced_by h.history key (ByCommit t) ≡ false → (new old : Bool) → has_timestamp hand.commits t ≡ new → has_timestamp h.history t ≡ old
          → is_replaced_by (h.history ++ hand.commits) key (ByCommit t) ≡ false
      of-commit key t held is true old covered before = last-unreplaced (h.history ++ hand.commits) key t (batch-last slot t key was.0 held covered)
      of-commit key t held is false true apart before =
          let last : last_writer h.history key ≡ t = unreplaced-last h.history key t before is in
          last-unreplaced (h.history ++ hand.commits) key t (stays-last slot key was.0 (held ∙ ap (λ (u : ℕ). Some (version_by key (ByCommit u))) (sym last)) out ∙ last)
      of-commit key t held is false false apart before =
          ap (λ (b : Bool). b && not (nat_eq (last_writer (h.history ++ hand.commits) key) t)) (list_any-append (λ (c : Commit). nat_eq c.timestamp t) h.history hand.commits ∙ (λ i. before i || apart i))

      by : (v : Option Version) → h.held slot ≡ v → replace h.history v ≡ false → replace (h.history ++ hand.commits) v ≡ false
      by None held is = refl
      by (Some v) held is = by-writer v.writer held is
        where
          by-writer : (w : Writer) → h.held slot ≡ Some (version_by v.key w) → is_replaced_by h.history v.key w ≡ false → is_replaced_by (h.history ++ hand.commits) v.key w ≡ false
          by-writer (BySession n) held is = refl
          by-writer (ByCommit t) held is = of-commit v.key t held is (has_timestamp hand.commits t) (has_timestamp h.history t) refl refl

  -- ---- the lines

  -- a commit that stays drawn, by its place
  module _ (k : ℕ) (d : DrawnCommit) (lt : k < length others) where
    abbrev left : DrawnCommit
    left = slice_index_or others k d

    place : (j : ℕ) × (j < length s.drawn.commits) × (left ≡ slice_index_or s.drawn.commits j d) × (not (counts left) ≡ true)
    place = filter-at (λ (e : DrawnCommit). not (counts e)) s.drawn.commits k d lt

    left-at : drawn_at q left.timestamp ≡ Some (plain_drawn left)
    left-at = subst (λ (e : DrawnCommit). drawn_at q e.timestamp ≡ Some (plain_drawn e)) (sym place.2) (found s.drawn.commits place.0 d may.keeps.draws.rising place.1)

    -- no commit of the batch has its timestamp
    apart : (t : ℕ) → is_committed ruling t ≡ true → t ≡ left.timestamp → ⊥
    apart t is same = grind (arith, place) steps 800000

    -- no commit of the batch writes its keys
    unwritten : (key : Key) → writes_key key (plain_drawn left).commit ≡ true → list_any (writes_key key) hand.commits ≡ false
    unwritten key writes = batch-writes key ∙ list_any_none (λ (e : DrawnCommit). has_key key e.writes) batch (λ j e low. false_from_ne_true (has_key key (slice_index_or batch j e).writes) (λ is. never j e low is))
      where
        never : (j : ℕ) (e : DrawnCommit) → j < length batch → has_key key (slice_index_or batch j e).writes ≡ true → ⊥
        never j e low is =
            let at = filter-at counts s.drawn.commits j e low in
            let other : DrawnCommit = slice_index_or batch j e in
            let there : drawn_at q other.timestamp ≡ Some (plain_drawn other) = subst (λ (c : DrawnCommit). drawn_at q c.timestamp ≡ Some (plain_drawn c)) (sym at.2) (found s.drawn.commits at.0 e may.keeps.draws.rising at.1) in
            let same : other.timestamp ≡ left.timestamp = may.keeps.draws.apart other.timestamp left.timestamp (plain_drawn other) (plain_drawn left) key there left-at (written-plain key other.writes ∙ is) writes in
            apart other.timestamp at.3 same

    last-same : (key : Key) → writes_key key (plain_drawn left).commit ≡ true → last_writer q'.history key ≡ last_writer q.history key
    last-same key writes = ap (λ (v : Version). stamp-of v.writer) (law.unwritten key (unwritten key writes))

    ended-same : (o : Option Version) → is_ended q' ((plain_drawn left).commit ∷ []) o ≡ is_ended q ((plain_drawn left).commit ∷ []) o
    ended-same None = refl
    ended-same (Some v) = grind (arith, last-same, and-false) steps 800000

    numbers-same : line_numbers q' ((plain_drawn left).commit ∷ []) ≡ line_numbers q ((plain_drawn left).commit ∷ [])
    numbers-same = numbers-by-tests q q' ((plain_drawn left).commit ∷ []) refl (λ slot. refl) (λ slot. ended-same (q.held slot))

    -- no commit of the batch is its session's
    left-apart : has sessions left.session ≡ false
    left-apart = of left.session ∙ list_any_none (λ (e : DrawnCommit). nat_eq e.session left.session) batch (λ j e low. false_from_ne_true (nat_eq (slice_index_or batch j e).session left.session) (λ is. never j e low is))
      where
        never : (j : ℕ) (e : DrawnCommit) → j < length batch → nat_eq (slice_index_or batch j e).session left.session ≡ true → ⊥
        never j e low is =
            let other : DrawnCommit = slice_index_or batch j e in
            let same : other.session ≡ left.session = grind (arith, nat_tests) in
            let mine : transaction_at s.transactions left.session ≡ Some (Drawn left.timestamp) = (All-filter (λ (e : DrawnCommit). not (counts e)) (HoldsDrawn s q) s.drawn.commits may.agrees.drawn k d lt).session in
            let its : transaction_at s.transactions other.session ≡ Some (Drawn other.timestamp) = (All-filter counts (HoldsDrawn s q) s.drawn.commits may.agrees.drawn j e low).session in
            let both : Some (Drawn other.timestamp) ≡ Some (Drawn left.timestamp) = sym its ∙ ap (transaction_at s.transactions) same ∙ mine in
            let one : other.timestamp ≡ left.timestamp = cc both in
            apart other.timestamp (filter-at counts s.drawn.commits j e low).3 one

    left-lines : (line : ℕ) → is_touched dirty left.session line ≡ list_any (λ l. nat_eq l line) (line_numbers q' ((plain_drawn left).commit ∷ []))
    left-lines line =
        forgets.touched left.session line
        ∙ ap (λ (b : Bool). is_touched s.dirty left.session line && not b) left-apart
        ∙ and-true (is_touched s.dirty left.session line)
        ∙ All-filter (λ (e : DrawnCommit). not (counts e)) (λ (d : DrawnCommit). (line : ℕ) → is_touched s.dirty d.session line ≡ list_any (λ l. nat_eq l line) (line_numbers q ((plain_drawn d).commit ∷ []))) s.drawn.commits may.agrees.lines.own k d lt line
        ∙ ap (list_any (λ l. nat_eq l line)) (sym numbers-same)

  untouched : (n line : ℕ) → has_drawn_by others n ≡ false → is_touched dirty n line ≡ false
  untouched n line nobody_left = forgets.touched n line ∙ ap (λ (b : Bool). is_touched s.dirty n line && not b) (of n) ∙ by (has_drawn_by batch n) refl
    where
      by : (b : Bool) → has_drawn_by batch n ≡ b → (is_touched s.dirty n line && not b) ≡ false
      by true is = and-false (is_touched s.dirty n line)
      by false is =
          let nobody : has_drawn_by s.drawn.commits n ≡ false =
          any-split (λ (d : DrawnCommit). nat_eq d.session n) counts s.drawn.commits
          ∙ ap (λ (b : Bool). b || has_drawn_by others n) is ∙ nobody_left in
          and-true (is_touched s.dirty n line) ∙ may.agrees.lines.none n line nobody

  holds-lines : HoldsLines q' drawn.commits dirty
  holds-lines = subst (λ (ds : List DrawnCommit). HoldsLines q' ds dirty) (sym rest) record { own = left-lines; none = untouched }

  -- ---- all

  pub has-covered : HasCovered s now h hand
  has-covered = record {
    plain = plain;
    agrees = record {
      sessions = λ n. session n (transaction_at s.transactions n) refl (may.agrees.sessions n);
      drawn = holds-drawn;
      free = may.agrees.free;
      counted = may.agrees.counted;
      unreplaced = unreplaced;
      index = entry;
      lines = holds-lines;
      sized = let same : length dirty ≡ length s.dirty = forgets.size in omega (arith, same, may.agrees.sized);
    };
  }

-- ---- in the words of what is shown

pub shows-covered : (old new : Sessions) (ruling : Record) → ((h : Hidden) (hand : Hand) → MayCover old ruling h hand → HasCovered old new h hand) → ShowsCovered old new ruling
shows-covered old new ruling covers before present q hand shown batch upholds = record {
  hidden = hidden_covered shown.hidden hand;
  plain = ap (λ (p : State). state_covered p hand) shown.plain ∙ sym done.plain;
  upholds = upholds;
  agrees = subst (λ (p : State). Agrees new shown.hidden.origin shown.hidden.seen p) (done.plain ∙ sym (ap (λ (p : State). state_covered p hand) shown.plain)) done.agrees;
}
  where
    done : HasCovered old new shown.hidden hand
    done = grind (arith)

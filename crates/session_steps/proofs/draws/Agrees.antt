-- What agrees after a draw.
use Rattle.std.proofs.Common.{◌≡◌, ◌⊎◌, inl, inr, ℕ, ◌+◌, ◌/◌, ◌<◌, ◌≤◌, Bool, true, false, ◌&&◌, ◌||◌, cond, not, List, [], ◌∷◌, ◌++◌, map, length, take, drop, refl, sym, ◌∙◌, ap, subst, arith, nat_eq, nat_lt, append_assoc, Contains, get_or}
use Rattle.std.specs.Prelude.{Option, Some, None, is_some, is_none, find, All}
use Rattle.std.specs.List.{list_any, list_all, flat_map, range_with_len}
use Rattle.std.specs.Option.{option_map, option_map_or, option_or, option_and_then}
use Rattle.std.proofs.lemmas.Bool.{and_parts, or_right, or_left}
use Rattle.std.proofs.lemmas.Bool.Decides.{nat_tests}
use Rattle.std.proofs.lemmas.List.Elements.{All-append, All-cons, All-nil, All-head, All-tail, All-contains, All-contains_itself}
use Rattle.std.proofs.lemmas.List.{map-append}
use Rattle.std.proofs.lemmas.List.Folds.{list_any-append}
use Rattle.std.specs.Cmp.{both_ways}
use Rattle.std.proofs.Math.Bool.{or-false}
use Rattle.base.specs.declared.key.Key.{Key}
use Rattle.base.specs.Commits.{Commit, Writes, writes_key, last_writer}
use Rattle.base.specs.Layout.{Layout, slot_start, version_lines}
use Rattle.base.specs.Records.{is_committed}
use Rattle.base.specs.Stands.{has_timestamp}
use Rattle.base.proofs.Layouts.{line-words, lines-words}
use Rattle.machine.specs.Machine.{State, Active as Reads, Drawn as PlainDrawn, Version, Writer, BySession, ByCommit, is_by, by_commit, drawn_at, drawn_of}
use Rattle.base.proofs.Lists.{all-take, all-drop, any-map}
use Rattle.snapshot.specs.Snapshots.{Seen, covers}
use Rattle.txn.specs.declared.drawn.DrawnCommit.{DrawnCommit}
use Rattle.txn.specs.declared.transaction.Transaction.{Transaction}
use Rattle.txn.specs.declared.transaction.Transaction.TheVariants.{Active, Drawn, ReadOnly}
use Rattle.txn.specs.declared.write.Write.{Write}
use Rattle.txn.specs.Transactions.{transaction_at, Sets}
use Rattle.txn.specs.WriteSets.{write_of, plain_writes}
use Rattle.txn.proofs.Plain.{lookup_key-plain_writes}
use Rattle.dirty_table.specs.declared.sessions.SessionSet.{SessionSet}
use Rattle.dirty_table.specs.Touches.{is_touched, Touches}
use Rattle.index.specs.declared.entry.Entry.{Entry}
use Rattle.index.specs.Entries.{entry_at, has_room, live_of}
use Rattle.state_invariant.specs.Kept.{IsInUse, version_by, commits_of_life, covered_since}
use Rattle.state_invariant.specs.Links.{HoldsNewest}
use Rattle.state_invariant.specs.Shown.{IsOutOfSwept, counts_at}
use Rattle.state_invariant.proofs.Commits.{timestamp-all, committed-bounds, uncommitted-above}
use Rattle.state_invariant.proofs.draws.Kept.{drawn_now, drawn_at-next, found-new, found-old, held-drawn, held-stays, held-turns}
use Rattle.state_invariant.proofs.draws.Links.{last_row-before}
use Rattle.state_invariant.proofs.Log.{writer-bounded}
use Rattle.device_invariant.specs.Slots.{newest_of}
use Rattle.device_invariant.specs.Log.{is_own, is_ended, line_at, line_number, lines_at, lines_in}
use Rattle.simulation.specs.steps.Moves.{IsSlotOf}
use Rattle.session_steps.specs.declared.sessions.Sessions.{Sessions}
use Rattle.session_steps.specs.Drawing.{own_lines, ended_lines, touched_lines, drawn_entry}
use Rattle.simulation.specs.sessions.Sees.{Sees, last_on}
use Rattle.simulation.specs.cycles.Batches.{line_numbers}
use Rattle.session_steps.specs.Shows.{Hidden, plain_of, plain_session, plain_drawn, HasItsSlot, HoldsSession, HasVersionOf, HasDrawn, IsSeenByAll, HoldsLast, HoldsEntry, HoldsDrawn, HoldsLines, Agrees, has_drawn_by}
use Rattle.session_steps.specs.Steps.{Holds}
use Rattle.session_steps.proofs.slots.Held.{numbers-by-tests}
use Rattle.simulation.proofs.sessions.Conflicts.{last_on-append}
use Rattle.session_steps.proofs.draws.Lines.{any-flat_map, any-each, any-at, any-range, range-any}
use Rattle.session_steps.proofs.transactions.Sets.{each-set}
use Rattle.session_steps.proofs.slots.Owned.{found-in, contained-found, rising-plain, own-is}
use Rattle.session_steps.proofs.transactions.Steps.{found}
use Rattle.session_steps.proofs.draws.Snapshots.{uncovered-above}
use Rattle.session_steps.proofs.collector.Replaced.{drawn-unreplaced}

-- ---- lists

-- the commits that are drawn, with one more
pub drawn_of-more : (ds : List DrawnCommit) (d : DrawnCommit) → map (λ (e : PlainDrawn). e.commit) (map plain_drawn (ds ++ d ∷ [])) ≡ map (λ (e : PlainDrawn). e.commit) (map plain_drawn ds) ++ (plain_drawn d).commit ∷ []
drawn_of-more [] d = refl
drawn_of-more (e ∷ ds) d = ap (λ (cs : List Commit). (plain_drawn e).commit ∷ cs) (drawn_of-more ds d)

-- each was drawn before
pub all-early : (p : ℕ → Bool) (next : ℕ) (ds : List DrawnCommit) → list_all (λ (d : PlainDrawn). not (p d.commit.timestamp) && nat_lt d.commit.timestamp next) (map plain_drawn ds) ≡ true → All (λ (d : DrawnCommit). d.timestamp < next) ds
all-early p next [] all = All-nil (λ (d : DrawnCommit). d.timestamp < next)
all-early p next (d ∷ ds) all = grind (arith, and_parts, nat_tests, all-early p next ds)

-- none is of a session whose transaction isn't drawn
pub none-by : (n : ℕ) (ds : List DrawnCommit) → All (λ (d : DrawnCommit). nat_eq d.session n ≡ false) ds → has_drawn_by ds n ≡ false
none-by n [] all = refl
none-by n (d ∷ ds) all = (λ i. All-head (λ (d : DrawnCommit). nat_eq d.session n ≡ false) d ds all i || none-by n ds (All-tail (λ (d : DrawnCommit). nat_eq d.session n ≡ false) d ds all) i)

-- whether the commit writes the key
pub writes-plain : (key : Key) (t : ℕ) (writes : List Write) → writes_key key (record { timestamp = t; writes = plain_writes writes }) ≡ is_some (write_of key writes)
writes-plain key t writes = grind (arith, lookup_key-plain_writes) steps 800000

plus-none : (n : ℕ) → n + 0 ≡ n
plus-none n = omega arith

-- a version has a first line
some-line : (a : Layout) → 0 < version_lines a
some-line a = omega (arith, line-words a.version, lines-words a)

-- what passes the second test passes the first
absorb : (a b : Bool) → (b ≡ true → a ≡ true) → a ≡ (a || b)
absorb a b within = grind (arith)

either-hits : (own ended a b : Bool) → (b ≡ true → a ≡ true) → (own && a || ended && b) ≡ true → a ≡ true
either-hits own ended a b within some = grind (arith)

module _ (s : Sessions) (h : Hidden) (n : ℕ) (snapshot : Seen) (writes : List Write) (holds : Holds s h) (at : transaction_at s.transactions n ≡ Some (Active snapshot writes)) where
  -- the timestamp that is drawn
  abbrev t : ℕ
  t = s.numbers.next

  abbrev old : State
  old = plain_of s h

  -- the commit
  abbrev new : DrawnCommit
  new = record { session = n; timestamp = s.numbers.next; writes = writes; stamped = 0 }

  abbrev commit : Commit
  commit = record { timestamp = s.numbers.next; writes = plain_writes writes }

  -- what holds each slot then
  abbrev held : ℕ → Option Version
  held = λ slot. by_commit n s.numbers.next (h.held slot)

  -- what is hidden then
  abbrev hidden : Hidden
  hidden = record h { held = λ slot. by_commit n s.numbers.next (h.held slot) }

  session : HoldsSession h.origin old n (h.seen n) (Some (Active snapshot writes))
  session = subst (HoldsSession h.origin old n (h.seen n)) at (holds.agrees.sessions n)

  newest-early : (key : Key) → last_writer h.history key < t
  newest-early key = omega (arith, writer-bounded s.numbers.record key h.history holds.keeps.numbers.covered, holds.keeps.numbers.persisted)

  not-now : (u : ℕ) → u < t → ByCommit u ≡ ByCommit t → ⊥
  not-now u lt same = let e : u ≡ t = cc same in absurd (omega (arith, lt, e))

  -- ---- with all that the draw makes
  module _ (ts : List (Option Transaction)) (spare : ℕ) (index : List (Key × Entry)) (dirty : List SessionSet) where
    abbrev drawn : Sessions
    drawn = record s { numbers = record s.numbers { next = s.numbers.next + 1 }; transactions = ts; drawn = record { commits = s.drawn.commits ++ new ∷ []; spare = spare }; index = index; dirty = dirty }

    abbrev then : State
    then = plain_of drawn hidden

    -- another's version keeps its slot
    slot-stays : (v : Version) (o : Option ℕ) → is_by n v.writer ≡ false → (v.writer ≡ ByCommit t → ⊥) → IsSlotOf old v o → IsSlotOf then v o
    slot-stays v (Some slot) other apart has = (has.0, held-stays n t (h.held slot) v has.1 other)
    slot-stays v None other apart none = grind (arith)

    -- the session's versions become the commit's
    slot-turns : (key : Key) (o : Option ℕ) → IsSlotOf old (version_by key (BySession n)) o → IsSlotOf then (version_by key (ByCommit t)) o
    slot-turns key (Some slot) has = (has.0, held-turns n t (h.held slot) key has.1)
    slot-turns key None none = λ slot lt there. by slot lt (held-drawn n t (h.held slot) (version_by key (ByCommit t)) there)
      where
        by : (slot : ℕ) → slot < s.numbers.geometry.slots → ((h.held slot ≡ Some (version_by key (BySession n))) × (ByCommit t ≡ ByCommit t)) ⊎ ((h.held slot ≡ Some (version_by key (ByCommit t))) × (false ≡ false)) → ⊥
        by slot lt (inl turned) = none slot lt turned.0
        by slot lt (inr was) = absurd (omega (arith, holds.keeps.owns.before slot t key lt was.0))

    -- ---- sessions

    sees-more : (seen : ℕ) (snap : Seen) → Sees h.origin old snap seen → Sees h.origin then snap seen
    sees-more seen snap sees = record { covered = λ u lt unswept. by u lt unswept (nat_lt u t) refl; early = omega (arith, sees.early); gaps = sees.gaps }
      where
        out : (u : ℕ) → t ≤ u → (b : Bool) → has_timestamp (drop h.origin.opened (take seen h.history)) u ≡ b → b ≡ false
        out u le false has = refl
        out u le true has =
            let counts = timestamp-all (is_committed s.numbers.record) (drop h.origin.opened (take seen h.history)) u
            (all-drop (λ c. is_committed s.numbers.record c.timestamp) h.origin.opened (take seen h.history) (all-take (λ c. is_committed s.numbers.record c.timestamp) seen h.history holds.keeps.numbers.covered)) has in
            absurd (omega (arith, le, (committed-bounds s.numbers.record u counts).1, holds.keeps.numbers.persisted))

        by : (u : ℕ) → u < t + 1 → IsOutOfSwept h.origin then u → (b : Bool) → nat_lt u t ≡ b → covers snap u ≡ counts_at h.origin old seen u
        by u lt unswept true below = sees.covered u (grind (arith, nat_tests)) unswept
        by u lt unswept false above =
            let le : t ≤ u = grind (arith, nat_tests) in
            uncovered-above snap u (omega (arith, le, sees.early))
            ∙ sym (λ i. uncommitted-above h.origin.ruling u (omega (arith, le, holds.keeps.numbers.persisted, holds.keeps.numbers.origin.further)) i || out u le (has_timestamp (drop h.origin.opened (take seen h.history)) u) refl i)

    session-more : (m seen : ℕ) (x : Option Transaction) → nat_eq m n ≡ false → HoldsSession h.origin old m seen x → HoldsSession h.origin then m seen x
    session-more m seen None apart has = tt
    session-more m seen (Some (Active snap ws)) apart has = (
      sees-more seen snap has.0,
      λ k d lt. record { slot = slot-stays (version_by _ (BySession m)) _ apart (λ same. absurd (cc same)) (has.1 k d lt).slot; row = (has.1 k d lt).row },
    )
    session-more m seen (Some (Drawn u)) apart has = tt
    session-more m seen (Some ReadOnly) apart has = tt

    -- ---- drawn commits

    drawn-stays : (d : DrawnCommit) → Sets s.transactions ts n (Some (Drawn t)) → ((key : Key) → has_room s.index key ≡ true → has_room index key ≡ true) → d.timestamp < t → HoldsDrawn s old d → HoldsDrawn drawn then d
    drawn-stays d sets rooms early has = record {
      session = sets d.session ∙ by (nat_eq d.session n) refl;
      writes = λ k w lt. record { slot = slot-stays (version_by _ (ByCommit d.timestamp)) _ refl (not-now d.timestamp early) (has.writes k w lt).slot; row = (has.writes k w lt).row };
      room = λ k w lt. rooms _ (has.room k w lt);
    }
      where
        by : (b : Bool) → nat_eq d.session n ≡ b → cond b (Some (Drawn t)) (transaction_at s.transactions d.session) ≡ Some (Drawn d.timestamp)
        by true is = let e : d.session ≡ n = grind (arith, nat_tests) in absurd (cc (subst (λ (k : ℕ). transaction_at s.transactions k ≡ Some (Drawn d.timestamp)) e has.session, at))
        by false is = has.session

    drawn-new : Sets s.transactions ts n (Some (Drawn t)) → All (λ (w : Write). has_room index w.key ≡ true) writes → HoldsDrawn drawn then new
    drawn-new sets rooms = record {
      session = sets n ∙ by (nat_eq n n) refl;
      writes = λ k w lt. record { slot = slot-turns _ _ (session.1 k w lt).slot; row = (session.1 k w lt).row };
      room = rooms;
    }
      where
        by : (b : Bool) → nat_eq n n ≡ b → cond b (Some (Drawn t)) (transaction_at s.transactions n) ≡ Some (Drawn t)
        by true is = refl
        by false is = absurd (grind (arith, nat_tests))

    -- ---- the index

    life-more : commits_of_life h.origin then ≡ commits_of_life h.origin old ++ commit ∷ []
    life-more = ap (λ (cs : List Commit). covered_since h.origin old ++ cs) (drawn_of-more s.drawn.commits new) ∙ sym (append_assoc (covered_since h.origin old) (drawn_of old) (commit ∷ []))

    last-more : (key : Key) → last_on key (commits_of_life h.origin then) ≡ option_or (cond (is_some (write_of key writes)) (Some t) None) (last_on key (commits_of_life h.origin old))
    last-more key =
        ap (λ (cs : List Commit). last_on key cs) life-more ∙ last_on-append key (commits_of_life h.origin old) (commit ∷ [])
        ∙ ap (λ (b : Bool). option_or (cond b (Some t) None) (last_on key (commits_of_life h.origin old))) (writes-plain key t writes)

    -- a commit's version stays in its slot
    version-turns : (key : Key) (slot : ℕ) → HasVersionOf old key slot → HasVersionOf then key slot
    version-turns key slot has = record { within = has.within; timestamp = has.timestamp; held = ap (by_commit n t) has.held }

    -- the newest row version is where it was
    newest-more : (key : Key) (newest : Option ℕ) → HoldsNewest old key newest → HoldsNewest then key newest
    newest-more key newest has u slot last lt at = by (held-drawn n t (h.held slot) (version_by key (ByCommit u)) at)
      where
        by : ((h.held slot ≡ Some (version_by key (BySession n))) × (ByCommit u ≡ ByCommit t)) ⊎ ((h.held slot ≡ Some (version_by key (ByCommit u))) × (false ≡ false)) → newest ≡ Some slot
        by (inl turned) = absurd (not-now u (last_row-before h.origin old holds.keeps u key last) turned.1)
        by (inr was) = has u slot last lt was.0

    -- a key that a drawn commit wrote, one still writes
    drawn-more : then.drawn ≡ old.drawn ++ drawn_now old (plain_writes writes) ∷ []
    drawn-more = map-append plain_drawn s.drawn.commits (new ∷ [])

    drawn-still : (key : Key) → HasDrawn old key → HasDrawn then key
    drawn-still key (u, d, at, wrote) = (
      u,
      d,
      ap (find (λ (d : PlainDrawn). nat_eq d.commit.timestamp u)) drawn-more ∙ found-old old (plain_writes writes) u (λ same. absurd (cc (sym at ∙ ap (drawn_at old) same ∙ drawn_at-next h.origin old holds.keeps.numbers))) ∙ at,
      wrote,
    )

    -- if the session doesn't write the key, and no other snapshot is in use
    module _ (in-use : (m : ℕ) → IsInUse then m → IsInUse old m) where
      unseen-stays : (key : Key) → write_of key writes ≡ None → IsSeenByAll old key → IsSeenByAll then key
      unseen-stays key none seen m used =
          ap (λ (cs : List Commit). list_any (writes_key key) (drop m h.history ++ cs)) (drawn_of-more s.drawn.commits new)
          ∙ ap (list_any (writes_key key)) (sym (append_assoc (drop m h.history) (drawn_of old) (commit ∷ []))) ∙ list_any-append (writes_key key) (drop m h.history ++ drawn_of old) (commit ∷ [])
          ∙ (λ i. seen m (in-use m used) i || (unwritten i || false))
        where
          unwritten : writes_key key commit ≡ false
          unwritten = writes-plain key t writes ∙ ap (λ (o : Option Write). is_some o) none

      last-stays : (key : Key) → write_of key writes ≡ None → (last : Option ℕ) → HoldsLast h.origin old key last → HoldsLast h.origin then key last
      last-stays key none last (inl is) = inl (is ∙ sym (last-more key ∙ ap (λ (o : Option Write). option_or (cond (is_some o) (Some t) None) (last_on key (commits_of_life h.origin old))) none))
      last-stays key none last (inr forgotten) = inr (forgotten.0, unseen-stays key none forgotten.1)

    entry-more : ((m : ℕ) → IsInUse then m → IsInUse old m) → (key : Key) (o : Option Write) → write_of key writes ≡ o → HoldsEntry h.origin old key (entry_at s.index key) → HoldsEntry h.origin then key (drawn_entry o t (entry_at s.index key))
    entry-more in-use key None none has = record {
      live = slot-stays (newest_of old key) _ refl (not-now (last_writer h.history key) (newest-early key)) has.live;
      last = last-stays in-use key none (entry_at s.index key).last has.last;
      newest = newest-more key (entry_at s.index key).newest has.newest;
      only = λ slot at. version-turns key slot (has.only slot at);
      drawn = λ slot is. let had = has.drawn slot is in (had.0, drawn-still key had.1);
    }
    entry-more in-use key (Some write) found has = record {
      live = slot-stays (newest_of old key) _ refl (not-now (last_writer h.history key) (newest-early key)) has.live;
      last = inl (sym (last-more key ∙ ap (λ (o : Option Write). option_or (cond (is_some o) (Some t) None) (last_on key (commits_of_life h.origin old))) found));
      newest = newest-more key (entry_at s.index key).newest has.newest;
      only = λ slot at. version-turns key slot (has.only slot at);
      drawn = λ slot is. (within slot is, (t, drawn_now old (plain_writes writes), ap (find (λ (d : PlainDrawn). nat_eq d.commit.timestamp t)) drawn-more ∙ found-new h.origin old (plain_writes writes) holds.keeps.numbers, writes-plain key t writes ∙ ap (λ (o : Option Write). is_some o) found));
    }
      where
        within : (slot : ℕ) → write.slot ≡ Some slot → slot < s.numbers.geometry.slots
        within slot is = by write.slot is (All-contains (HasItsSlot old (BySession n)) writes write session.1 (found-in key writes write found).0).slot
          where
            by : (o : Option ℕ) {slot : ℕ} → o ≡ Some slot → IsSlotOf old (version_by write.key (BySession n)) o → slot < s.numbers.geometry.slots
            by None is has = absurd (cc is)
            by (Some own) is has = let same : own ≡ _ = cc is in subst (λ (k : ℕ). k < s.numbers.geometry.slots) same has.0

    -- ---- the lines of the commits that were drawn before

    lines-stay : (d : DrawnCommit) → d.timestamp < t → line_numbers then ((plain_drawn d).commit ∷ []) ≡ line_numbers old ((plain_drawn d).commit ∷ [])
    lines-stay d early = numbers-by-tests old then ((plain_drawn d).commit ∷ []) refl (λ slot. own (h.held slot)) (λ slot. ended (h.held slot))
      where
        other : nat_eq d.timestamp t ≡ false
        other = grind (arith, nat_tests)

        unlike : (key : Key) → nat_eq (last_writer h.history key) t ≡ false
        unlike key = let lt = newest-early key in grind (arith, nat_tests)

        own : (o : Option Version) → is_own ((plain_drawn d).commit ∷ []) (by_commit n t o) ≡ is_own ((plain_drawn d).commit ∷ []) o
        own None = refl
        own (Some v) = grind (arith, other)

        ended : (o : Option Version) → is_ended then ((plain_drawn d).commit ∷ []) (by_commit n t o) ≡ is_ended old ((plain_drawn d).commit ∷ []) o
        ended None = refl
        ended (Some v) = grind (arith, unlike)

    -- ---- the lines of the new one

    module _ (line : ℕ) where
      abbrev hits : ℕ → Bool
      hits l = nat_eq l line

      -- one of the lines of the slot
      abbrev own-hits : ℕ → Bool
      own-hits slot = list_any hits (own_lines s.numbers.geometry slot)

      -- its first
      abbrev first-hits : ℕ → Bool
      first-hits slot = hits (slot_start s.numbers.geometry slot / 8)

      abbrev own-at : ℕ → Bool
      own-at slot = is_own (commit ∷ []) (by_commit n s.numbers.next (h.held slot))

      abbrev ended-at : ℕ → Bool
      ended-at slot = is_ended then (commit ∷ []) (by_commit n s.numbers.next (h.held slot))

      -- a line by its number in the slot
      abbrev part-hits : ℕ → ℕ → Bool
      part-hits slot part = hits (slot_start s.numbers.geometry slot / 8 + part)

      first-is : (slot : ℕ) → part-hits slot 0 ≡ first-hits slot
      first-is slot = ap hits (plus-none (slot_start s.numbers.geometry slot / 8))

      own-is-parts : (slot : ℕ) → own-hits slot ≡ list_any (part-hits slot) (range_with_len 0 (version_lines s.numbers.geometry))
      own-is-parts slot = any-map hits (λ part. slot_start s.numbers.geometry slot / 8 + part) (range_with_len 0 (version_lines s.numbers.geometry))

      -- the first line is one of all
      first-own : (slot : ℕ) → first-hits slot ≡ true → own-hits slot ≡ true
      first-own slot is = own-is-parts slot ∙ any-range (part-hits slot) 0 (version_lines s.numbers.geometry) 0 (omega arith) (omega (arith, some-line s.numbers.geometry)) (first-is slot ∙ is)

      parts-are : (slot : ℕ) → list_any (λ l. hits (line_number s.numbers.geometry l)) (flat_map (λ part. line_at slot part ∷ []) (range_with_len 0 (version_lines s.numbers.geometry))) ≡ own-hits slot
      parts-are slot =
          any-flat_map (λ l. hits (line_number s.numbers.geometry l)) (λ part. line_at slot part ∷ []) (range_with_len 0 (version_lines s.numbers.geometry))
          ∙ (λ i. list_any (λ part. or-false (part-hits slot part) i) (range_with_len 0 (version_lines s.numbers.geometry)))
          ∙ sym (own-is-parts slot)

      -- what the lines of a slot are
      at-is : (slot : ℕ) (own ended : Bool) → list_any (λ l. hits (line_number s.numbers.geometry l)) (cond own (flat_map (λ part. line_at slot part ∷ []) (range_with_len 0 (version_lines s.numbers.geometry))) (cond ended (line_at slot 0 ∷ []) []))
          ≡ (own && own-hits slot || ended && first-hits slot)
      at-is slot true true = parts-are slot ∙ absorb (own-hits slot) (first-hits slot) (first-own slot)
      at-is slot true false = parts-are slot ∙ sym (or-false (own-hits slot))
      at-is slot false true = or-false (part-hits slot 0) ∙ first-is slot
      at-is slot false false = refl

      abbrev at-slot : ℕ → Bool
      at-slot slot = list_any (λ l. hits (line_number s.numbers.geometry l)) (lines_at then (commit ∷ []) slot)

      right-is : list_any hits (line_numbers then (commit ∷ [])) ≡ list_any at-slot (range_with_len 0 s.numbers.geometry.slots)
      right-is = any-map hits (line_number s.numbers.geometry) (lines_in then (commit ∷ [])) ∙ any-flat_map (λ l. hits (line_number s.numbers.geometry l)) (lines_at then (commit ∷ [])) (range_with_len 0 s.numbers.geometry.slots)

      left-is : list_any hits (flat_map (touched_lines s.numbers.geometry s.index) writes) ≡ list_any (λ w. list_any hits (touched_lines s.numbers.geometry s.index w)) writes
      left-is = any-flat_map hits (touched_lines s.numbers.geometry s.index) writes

      abbrev own-of : Option ℕ → Bool
      own-of o = list_any hits (option_map_or (own_lines s.numbers.geometry) o [])

      abbrev ended-of : Option ℕ → Bool
      ended-of o = list_any hits (option_map_or (ended_lines s.numbers.geometry) o [])

      -- the lines of one write
      write-is : (w : Write) → list_any hits (touched_lines s.numbers.geometry s.index w) ≡ (own-of w.slot || ended-of (live_of (entry_at s.index w.key)))
      write-is w = list_any-append hits (option_map_or (own_lines s.numbers.geometry) w.slot []) (option_map_or (ended_lines s.numbers.geometry) (live_of (entry_at s.index w.key)) [])

      -- a slot that is the commit's, or that it ends
      slot-there : (slot : ℕ) → slot < s.numbers.geometry.slots → (own-at slot && own-hits slot || ended-at slot && first-hits slot) ≡ true → list_any at-slot (range_with_len 0 s.numbers.geometry.slots) ≡ true
      slot-there slot lt is = any-range at-slot 0 s.numbers.geometry.slots slot (omega arith) (omega (arith, lt)) (at-is slot (own-at slot) (ended-at slot) ∙ is)

      there : list_any hits (flat_map (touched_lines s.numbers.geometry s.index) writes) ≡ true → list_any hits (line_numbers then (commit ∷ [])) ≡ true
      there some = right-is ∙ any-each (Contains writes) (λ w. list_any hits (touched_lines s.numbers.geometry s.index w)) writes _ (All-contains_itself writes) each (sym left-is ∙ some)
        where
          each : (w : Write) → Contains writes w → list_any hits (touched_lines s.numbers.geometry s.index w) ≡ true → list_any at-slot (range_with_len 0 s.numbers.geometry.slots) ≡ true
          each w in_set some = by w.slot (All-contains (HasItsSlot old (BySession n)) writes w session.1 in_set).slot (live_of (entry_at s.index w.key)) (holds.agrees.index w.key).live (sym (write-is w) ∙ some)
            where
              own : (slot : ℕ) → h.held slot ≡ Some (version_by w.key (BySession n)) → own-at slot ≡ true
              own slot held-by = ap (is_own (commit ∷ [])) (held-turns n t (h.held slot) w.key held-by) ∙ same-test
                where
                  same-test : (nat_eq t t || false) ≡ true
                  same-test = grind (arith, nat_tests)

              ended : (slot : ℕ) → h.held slot ≡ Some (newest_of old w.key) → ended-at slot ≡ true
              ended slot held-by = ap (is_ended then (commit ∷ [])) (held-stays n t (h.held slot) (newest_of old w.key) held-by refl) ∙ (λ i. same-test i && (wrote i || false))
                where
                  same-test : nat_eq (last_writer h.history w.key) (last_writer h.history w.key) ≡ true
                  same-test = grind (arith, nat_tests)

                  wrote : writes_key w.key commit ≡ true
                  wrote = writes-plain w.key t writes ∙ ap (λ (o : Option Write). is_some o) (contained-found writes w (rising-plain h.origin old n (h.seen n) writes holds.keeps (found s h n _ at)) in_set)

              end-hit : (e : Option ℕ) → IsSlotOf old (newest_of old w.key) e → ended-of e ≡ true → list_any at-slot (range_with_len 0 s.numbers.geometry.slots) ≡ true
              end-hit None lives some = absurd (cc some)
              end-hit (Some slot) lives some = grind (arith, or-false, slot-there slot lives.0, or_right, ended slot lives.1)

              by : (o : Option ℕ) → IsSlotOf old (version_by w.key (BySession n)) o → (e : Option ℕ) → IsSlotOf old (newest_of old w.key) e → (own-of o || ended-of e) ≡ true → list_any at-slot (range_with_len 0 s.numbers.geometry.slots) ≡ true
              by None has e lives some = end-hit e lives some
              by (Some slot) has e lives some = which (own-hits slot) refl some
                where
                  which : (b : Bool) → own-hits slot ≡ b → (b || ended-of e) ≡ true → list_any at-slot (range_with_len 0 s.numbers.geometry.slots) ≡ true
                  which true hit some = slot-there slot has.0 (or_left (own-at slot && own-hits slot) (ended-at slot && first-hits slot) (λ i. own slot has.1 i && hit i))
                  which false hit some = end-hit e lives some

      -- a write with the slot
      write-there : (key : Key) (w : Write) (slot : ℕ) → write_of key writes ≡ Some w → ((w.slot ≡ Some slot) × (own-hits slot ≡ true)) ⊎ ((live_of (entry_at s.index key) ≡ Some slot) × (first-hits slot ≡ true))
          → list_any hits (flat_map (touched_lines s.numbers.geometry s.index) writes) ≡ true
      write-there key w slot wrote either =
          let in_set = found-in key writes w wrote in
          left-is ∙ any-at (λ w. list_any hits (touched_lines s.numbers.geometry s.index w)) writes w in_set.0 (write-is w ∙ by in_set.1 either)
        where
          by : w.key ≡ key → ((w.slot ≡ Some slot) × (own-hits slot ≡ true)) ⊎ ((live_of (entry_at s.index key) ≡ Some slot) × (first-hits slot ≡ true)) → (own-of w.slot || ended-of (live_of (entry_at s.index w.key))) ≡ true
          by same (inl own) = or_left _ _ (ap own-of own.0 ∙ own.1)
          by same (inr lives) = or_right _ _ (ap (λ (k : Key). ended-of (live_of (entry_at s.index k))) same ∙ ap ended-of lives.0 ∙ or-false (first-hits slot) ∙ lives.1)

      back : list_any hits (line_numbers then (commit ∷ [])) ≡ true → list_any hits (flat_map (touched_lines s.numbers.geometry s.index) writes) ≡ true
      back some = at-found (range-any at-slot 0 s.numbers.geometry.slots (sym right-is ∙ some))
        where
          -- the session held it
          by-own : (slot : ℕ) → slot < s.numbers.geometry.slots → (key : Key) → h.held slot ≡ Some (version_by key (BySession n)) → own-hits slot ≡ true → list_any hits (flat_map (touched_lines s.numbers.geometry s.index) writes) ≡ true
          by-own slot lt key held-by hit = which (write_of key writes) refl (own-is h.origin old n (h.seen n) writes holds.keeps (found s h n _ at) session.1 key)
            where
              its : (w : Write) → write_of key writes ≡ Some w → (o : Option ℕ) → w.slot ≡ o → IsSlotOf old (version_by key (BySession n)) o → list_any hits (flat_map (touched_lines s.numbers.geometry s.index) writes) ≡ true
              its w wrote None is none = absurd (none slot lt held-by)
              its w wrote (Some own) is has =
                  let same : own ≡ slot = holds.keeps.owns.once own slot (version_by key (BySession n)) has.0 lt has.1 held-by in
                  write-there key w slot wrote (inl (is ∙ ap (λ (k : ℕ). Some k) same, hit))

              which : (o : Option Write) → write_of key writes ≡ o → IsSlotOf old (version_by key (BySession n)) (option_and_then (λ (w : Write). w.slot) o) → list_any hits (flat_map (touched_lines s.numbers.geometry s.index) writes) ≡ true
              which None wrote none = absurd (none slot lt held-by)
              which (Some w) wrote has = its w wrote w.slot refl has

          -- it holds the newest version of a key that is written
          by-ended : (slot : ℕ) → slot < s.numbers.geometry.slots → (key : Key) → h.held slot ≡ Some (newest_of old key) → writes_key key commit ≡ true → first-hits slot ≡ true → list_any hits (flat_map (touched_lines s.numbers.geometry s.index) writes) ≡ true
          by-ended slot lt key held-by wrote hit = which (write_of key writes) refl (sym (writes-plain key t writes) ∙ wrote) (live_of (entry_at s.index key)) refl (holds.agrees.index key).live
            where
              which : (o : Option Write) → write_of key writes ≡ o → is_some (write_of key writes) ≡ true → (e : Option ℕ) → live_of (entry_at s.index key) ≡ e → IsSlotOf old (newest_of old key) e → list_any hits (flat_map (touched_lines s.numbers.geometry s.index) writes) ≡ true
              which None none some e is lives = absurd (cc (none, some))
              which (Some w) found some None is lives = absurd (lives slot lt held-by)
              which (Some w) found some (Some other) is lives =
                  let same : other ≡ slot = holds.keeps.owns.once other slot (newest_of old key) lives.0 lt lives.1 held-by in
                  write-there key w slot found (inr (is ∙ ap (λ (k : ℕ). Some k) same, hit))

          by-holder : (slot : ℕ) → slot < s.numbers.geometry.slots → (o : Option Version) → h.held slot ≡ o → (is_own (commit ∷ []) (by_commit n t o) && own-hits slot || is_ended then (commit ∷ []) (by_commit n t o) && first-hits slot) ≡ true
              → list_any hits (flat_map (touched_lines s.numbers.geometry s.index) writes) ≡ true
          by-holder slot lt None is either = absurd (cc either)
          by-holder slot lt (Some v) is either = by v.writer is either
            where
              late : (u : ℕ) → u ≡ t → h.held slot ≡ Some (version_by v.key (ByCommit u)) → ⊥
              late u same held-by = absurd (omega (arith, same, holds.keeps.owns.before slot u v.key lt held-by))

              mine : (m : ℕ) (b : Bool) → nat_eq m n ≡ b → h.held slot ≡ Some (version_by v.key (BySession m))
                  → (is_own (commit ∷ []) (Some (version_by v.key (cond b (ByCommit t) (BySession m)))) && own-hits slot || is_ended then (commit ∷ []) (Some (version_by v.key (cond b (ByCommit t) (BySession m)))) && first-hits slot) ≡ true
                  → list_any hits (flat_map (touched_lines s.numbers.geometry s.index) writes) ≡ true
              mine m true same held-by either =
                  let e : m ≡ n = grind (arith, nat_tests) in
                  by-own slot lt v.key (held-by ∙ ap (λ (k : ℕ). Some (version_by v.key (BySession k))) e) (either-hits _ _ (own-hits slot) (first-hits slot) (first-own slot) either)
              mine m false same held-by either = absurd (cc either)

              theirs : (u : ℕ) → h.held slot ≡ Some (version_by v.key (ByCommit u)) → (a : Bool) → nat_eq t u ≡ a → (b : Bool) → nat_eq (last_writer h.history v.key) u ≡ b → (c : Bool) → writes_key v.key commit ≡ c
                  → ((a || false) && own-hits slot || b && (c || false) && first-hits slot) ≡ true → list_any hits (flat_map (touched_lines s.numbers.geometry s.index) writes) ≡ true
              theirs u held-by true now b last c wrote either = let e : u ≡ t = grind (arith, nat_tests) in absurd (late u e held-by)
              theirs u held-by false now true last true wrote either =
                  let e : u ≡ last_writer h.history v.key = grind (arith, nat_tests) in
                  by-ended slot lt v.key (held-by ∙ ap (λ (k : ℕ). Some (version_by v.key (ByCommit k))) e) wrote either
              theirs u held-by false now true last false wrote either = absurd (cc either)
              theirs u held-by false now false last c wrote either = absurd (cc either)

              by : (w : Writer) → h.held slot ≡ Some (version_by v.key w) → (is_own (commit ∷ []) (by_commit n t (Some (version_by v.key w))) && own-hits slot || is_ended then (commit ∷ []) (by_commit n t (Some (version_by v.key w))) && first-hits slot) ≡ true
                  → list_any hits (flat_map (touched_lines s.numbers.geometry s.index) writes) ≡ true
              by (BySession m) held-by either = mine m (nat_eq m n) refl held-by either
              by (ByCommit u) held-by either = theirs u held-by (nat_eq t u) refl (nat_eq (last_writer h.history v.key) u) refl (writes_key v.key commit) refl either

          at-found : (slot : ℕ) × (0 ≤ slot) × (slot < 0 + s.numbers.geometry.slots) × (at-slot slot ≡ true) → list_any hits (flat_map (touched_lines s.numbers.geometry s.index) writes) ≡ true
          at-found one = by-holder one.0 (omega (arith, one.2)) (h.held one.0) refl (sym (at-is one.0 (own-at one.0) (ended-at one.0)) ∙ one.3)

      lines-new : list_any hits (flat_map (touched_lines s.numbers.geometry s.index) writes) ≡ list_any hits (line_numbers then (commit ∷ []))
      lines-new = both_ways _ _ there back

    -- ---- all of it

    apart-sessions : All (λ (d : DrawnCommit). nat_eq d.session n ≡ false) s.drawn.commits
    apart-sessions = grind (arith, nat_tests, session) steps 800000

    early-commits : All (λ (d : DrawnCommit). d.timestamp < t) s.drawn.commits
    early-commits = all-early (is_committed s.numbers.record) t s.drawn.commits holds.keeps.numbers.drawn

    still-none : (o : Option Version) → is_none o ≡ is_none (by_commit n t o)
    still-none None = refl
    still-none (Some v) = refl

    lines-hold : Touches n (flat_map (touched_lines s.numbers.geometry s.index) writes) s.dirty dirty → HoldsLines then (s.drawn.commits ++ new ∷ []) dirty
    lines-hold touches = record {
      own = All-append IsHeld s.drawn.commits (new ∷ []) (λ k d lt. of-old (get_or s.drawn.commits k d) (apart-sessions k d lt) (early-commits k d lt) (holds.agrees.lines.own k d lt)) (All-cons IsHeld new [] of-new (All-nil IsHeld));
      none = λ m line out. of-none m line (both m out);
    }
      where
        IsHeld : DrawnCommit → Type 0
        IsHeld d = (line : ℕ) → is_touched dirty d.session line ≡ list_any (λ l. nat_eq l line) (line_numbers then ((plain_drawn d).commit ∷ []))

        swap : (a b : ℕ) → nat_eq a b ≡ false → nat_eq b a ≡ false
        swap a b is = grind (arith, nat_tests)

        of-old : (d : DrawnCommit) → nat_eq d.session n ≡ false → d.timestamp < t → ((line : ℕ) → is_touched s.dirty d.session line ≡ list_any (λ l. nat_eq l line) (line_numbers old ((plain_drawn d).commit ∷ []))) → IsHeld d
        of-old d apart early was = grind (arith, swap d.session, or-false, lines-stay d early)

        self-same : nat_eq n n ≡ true
        self-same = grind (arith, nat_tests)

        of-new : IsHeld new
        of-new = λ line.
            touches.touched n line ∙ (λ i. holds.agrees.lines.none n line (none-by n s.drawn.commits apart-sessions) i || (self-same i && list_any (λ l. nat_eq l line) (flat_map (touched_lines s.numbers.geometry s.index) writes))) ∙ lines-new line

        both : (m : ℕ) → has_drawn_by (s.drawn.commits ++ new ∷ []) m ≡ false → (has_drawn_by s.drawn.commits m ≡ false) × (nat_eq n m ≡ false)
        both m out = grind (arith, list_any-append)

        of-none : (m line : ℕ) → (has_drawn_by s.drawn.commits m ≡ false) × (nat_eq n m ≡ false) → is_touched dirty m line ≡ false
        of-none m line out = touches.touched m line ∙ (λ i. holds.agrees.lines.none m line out.0 i || (out.1 i && list_any (λ l. nat_eq l line) (flat_map (touched_lines s.numbers.geometry s.index) writes)))

    -- no covered commit has the timestamp
    fresh : (b : Bool) → has_timestamp h.history t ≡ b → b ≡ false
    fresh false is = refl
    fresh true is =
        let counts = timestamp-all (is_committed s.numbers.record) h.history t holds.keeps.numbers.covered is in
        absurd (omega (arith, (committed-bounds s.numbers.record t counts).1, holds.keeps.numbers.persisted))

    -- the session's snapshot isn't in use any more
    in-use : Sets s.transactions ts n (Some (Drawn t)) → (m : ℕ) → IsInUse then m → IsInUse old m
    in-use sets m (inl all) = inl all
    in-use sets m (inr one) = by one.0 one.1 (nat_eq one.0 n) refl one.2
      where
        by : (k : ℕ) (ws : Writes) (b : Bool) → nat_eq k n ≡ b → option_map (plain_session (h.seen k)) (transaction_at ts k) ≡ Some (Reads m ws) → IsInUse old m
        by k ws true is at' =
            let now : transaction_at ts k ≡ Some (Drawn t) = sets k ∙ ap (λ (b : Bool). cond b (Some (Drawn t)) (transaction_at s.transactions k)) is in
            absurd (cc (sym (ap (λ (x : Option Transaction). option_map (plain_session (h.seen k)) x) now) ∙ at'))
        by k ws false ne at' =
            let now : transaction_at ts k ≡ transaction_at s.transactions k = sets k ∙ ap (λ (b : Bool). cond b (Some (Drawn t)) (transaction_at s.transactions k)) ne in
            inr (k, ws, ap (λ (x : Option Transaction). option_map (plain_session (h.seen k)) x) (sym now) ∙ at')

    pub agrees-drawn : Sets s.transactions ts n (Some (Drawn t)) → ((key : Key) → entry_at index key ≡ drawn_entry (write_of key writes) t (entry_at s.index key)) → ((key : Key) → has_room s.index key ≡ true → has_room index key ≡ true)
        → All (λ (w : Write). has_room index w.key ≡ true) writes → Touches n (flat_map (touched_lines s.numbers.geometry s.index) writes) s.dirty dirty → Agrees drawn h.origin h.seen then
    agrees-drawn sets entries rooms written touches = record {
      sessions = each-set (λ m x. HoldsSession h.origin then m (h.seen m) x) s.transactions ts n (Some (Drawn t)) sets tt (λ m apart. session-more m (h.seen m) (transaction_at s.transactions m) apart (holds.agrees.sessions m));
      drawn = All-append (HoldsDrawn drawn then) s.drawn.commits (new ∷ []) (λ k d lt. drawn-stays _ sets rooms (early-commits k d lt) (holds.agrees.drawn k d lt)) (All-cons (HoldsDrawn drawn then) new [] (drawn-new sets written) (All-nil (HoldsDrawn drawn then)));
      free = λ slot lt. holds.agrees.free slot lt ∙ ap (λ (b : Bool). Some b) (still-none (h.held slot));
      counted = holds.agrees.counted;
      unreplaced = λ slot out. let was = holds.agrees.unreplaced slot out in (was.0, drawn-unreplaced n t h.history (h.held slot) (fresh (has_timestamp h.history t) refl) was.1);
      index = λ key. subst (HoldsEntry h.origin then key) (sym (entries key)) (entry-more (in-use sets) key (write_of key writes) refl (holds.agrees.index key));
      lines = lines-hold touches;
      sized = let same : length dirty ≡ length s.dirty = touches.size in omega (arith, same, holds.agrees.sized);
    }

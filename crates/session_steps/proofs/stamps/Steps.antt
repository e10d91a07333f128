-- Stamp.
use Rattle.std.proofs.Common.{◌≡◌, inl, inr, ℕ, ◌+◌, ◌<◌, Bool, true, false, ◌&&◌, ◌||◌, cond, not, List, [], ◌∷◌, ◌++◌, length, map, drop, refl, sym, ◌∙◌, ap, subst, arith, nat_eq, nat_lt, nat_le, get_or}
use Rattle.std.specs.Prelude.{Option, Some, None, All, find}
use Rattle.std.specs.List.{list_any, list_all}
use Rattle.std.specs.Option.{option_map}
use Rattle.std.proofs.lemmas.Bool.{and_parts}
use Rattle.std.proofs.lemmas.Bool.Decides.{nat_tests}
use Rattle.std.proofs.lemmas.List.{append-nil}
use Rattle.std.proofs.lemmas.List.Elements.{All-map, All-head, All-tail}
use Rattle.std.proofs.lemmas.Option.{slice_get_within, get_or_from_slice_get}
use Rattle.base.specs.declared.key.Key.{Key}
use Rattle.base.specs.declared.fault.Fault.{Fault}
use Rattle.base.specs.declared.fault.Fault.TheVariants.{Device as DeviceFault}
use Rattle.base.specs.declared.step.Step.TheVariants as step
use Rattle.base.specs.declared.step.Reply.TheVariants as reply
use Rattle.base.specs.declared.step.SessionStep.TheVariants.{Stamp}
use Rattle.base.specs.declared.step.SessionReply.{SessionReply}
use Rattle.base.specs.declared.step.SessionReply.TheVariants.{Stamped, More, Refused}
use Rattle.base.specs.Steps.{as_reply}
use Rattle.base.specs.Commits.{Commit, writes_key}
use Rattle.base.specs.Layout.{Layout}
use Rattle.machine.specs.Machine.{State, Session, Drawn as PlainDrawn, ByCommit, Drew, answered, device_failed, refusal, next_state, allows, standing_of, is_stamped, timestamp_of, counted, drawn_at, stamped_write, is_last_stamp, StandsWithin}
use Rattle.base.proofs.Lists.{find-passes}
use Rattle.pmem.specs.Device.{Device}
use Rattle.pmem.specs.Trace.{Runs, StopsWithin}
use Rattle.pmem.specs.Words.{LeavesOnly}
use Rattle.txn.specs.InFlight.{InFlight}
use Rattle.txn.specs.DrawnCommits.{drawn_at as commit_at, with_stamp}
use Rattle.txn.specs.declared.drawn.DrawnCommit.{DrawnCommit}
use Rattle.txn.specs.declared.transaction.Transaction.{Transaction}
use Rattle.txn.specs.declared.transaction.Transaction.TheVariants.{Active, Drawn, ReadOnly}
use Rattle.txn.specs.declared.write.Write.{Write}
use Rattle.txn.specs.Transactions.{transaction_at}
use Rattle.txn.proofs.Plain.{length-plain_writes, slice_get-plain_writes}
use Rattle.dirty_table.specs.Touches.{is_touched}
use Rattle.index.specs.Entries.{entry_at, live_of}
use Rattle.version_slot.specs.Operations.{begin_operations, end_operations}
use Rattle.state_invariant.specs.Kept.{Origin, Keeps, version_by, covered_since}
use Rattle.state_invariant.proofs.covers.Chosen.{any-by_timestamp}
use Rattle.state_invariant.proofs.Lists.{find-any}
use Rattle.state_invariant.proofs.Lookups.{find-all}
use Rattle.device_invariant.specs.Slots.{newest_of}
use Rattle.device_invariant.specs.Upholds.{Upholds}
use Rattle.simulation.specs.steps.Moves.{IsSlotOf, stamp_operations}
use Rattle.simulation.proofs.steps.Counting.{stamps-count}
use Rattle.simulation.proofs.steps.stamps.Lines.{stamps-operate}
use Rattle.simulation.proofs.steps.stamps.Leads.{stamps-lead}
use Rattle.session_steps.specs.declared.sessions.Sessions.{Sessions}
use Rattle.session_steps.specs.declared.stamp.Unstamped.{Unstamped}
use Rattle.session_steps.specs.Stamping.{IsNextOf, has_left, is_unstamped}
use Rattle.simulation.specs.sessions.Sees.{last_on}
use Rattle.simulation.specs.cycles.Batches.{line_numbers}
use Rattle.session_steps.specs.Shows.{Hidden, plain_of, plain_session, plain_drawn, HoldsSession, HoldsLast, HoldsDrawn, Agrees, has_drawn_by}
use Rattle.session_steps.specs.Steps.{Holds, HoldsOn, GoesOn, IsBarred, is_by_actor}
use Rattle.session_steps.proofs.transactions.Steps.{found, barred-refusal, covered-or-drawn, drawn-plain}
use Rattle.session_steps.proofs.Refusals.{passes}
use Rattle.session_steps.proofs.Failing.{failed-agrees}
use Rattle.session_steps.proofs.Effects.{stopped-by, all-made, last-failed}
use Rattle.session_steps.proofs.Stepping.{held-on}
use Rattle.session_steps.proofs.CodeTests.{same-drawers}

-- ---- a stamp changes nothing but the count

same-commit : (t : ℕ) (d : DrawnCommit) → (plain_drawn (with_stamp t d)).commit ≡ (plain_drawn d).commit
same-commit t d = grind (arith) steps 800000

same-session : (t : ℕ) (d : DrawnCommit) → (with_stamp t d).session ≡ d.session
same-session t d = grind (arith) steps 800000

commits-stamped : (t : ℕ) (ds : List DrawnCommit) → map (λ (e : PlainDrawn). e.commit) (map plain_drawn (map (with_stamp t) ds)) ≡ map (λ (e : PlainDrawn). e.commit) (map plain_drawn ds)
commits-stamped t [] = refl
commits-stamped t (d ∷ ds) = λ i. same-commit t d i ∷ commits-stamped t ds i

by-stamped : (t n : ℕ) (ds : List DrawnCommit) → has_drawn_by (map (with_stamp t) ds) n ≡ has_drawn_by ds n
by-stamped t n [] = refl
by-stamped t n (d ∷ ds) = λ i. nat_eq (same-session t d i) n || by-stamped t n ds i

sessions-stamped : (t : ℕ) (ds : List DrawnCommit) → map (λ (d : DrawnCommit). d.session) (map (with_stamp t) ds) ≡ map (λ (d : DrawnCommit). d.session) ds
sessions-stamped t [] = refl
sessions-stamped t (d ∷ ds) = λ i. same-session t d i ∷ sessions-stamped t ds i

abbrev found_in : ℕ → List DrawnCommit → Option PlainDrawn
found_in u ds = find (λ (e : PlainDrawn). nat_eq e.commit.timestamp u) (map plain_drawn ds)

abbrev IsStill : ℕ → ℕ → PlainDrawn → List DrawnCommit → Type 0
IsStill t u d ds = (e : PlainDrawn) × (found_in u (map (with_stamp t) ds) ≡ Some e) × (e.commit ≡ d.commit)

-- a commit that is found by its timestamp is still found
found-stamped : (t u : ℕ) (ds : List DrawnCommit) (d : PlainDrawn) → found_in u ds ≡ Some d → IsStill t u d ds
found-stamped t u [] d is = absurd (cc is)
found-stamped t u (c ∷ ds) d is = by (nat_eq c.timestamp u) refl is (found-stamped t u ds d)
  where
    head : (b : Bool) → nat_eq c.timestamp u ≡ b → found_in u (map (with_stamp t) (c ∷ ds)) ≡ cond b (Some (plain_drawn (with_stamp t c))) (found_in u (map (with_stamp t) ds))
    head b it = ap (λ (b : Bool). cond b (Some (plain_drawn (with_stamp t c))) (found_in u (map (with_stamp t) ds))) (ap (λ (x : Commit). nat_eq x.timestamp u) (same-commit t c) ∙ it)

    by : (b : Bool) → nat_eq c.timestamp u ≡ b → cond b (Some (plain_drawn c)) (found_in u ds) ≡ Some d → (found_in u ds ≡ Some d → IsStill t u d ds) → IsStill t u d (c ∷ ds)
    by true it is rest = let this : plain_drawn c ≡ d = cc is in (plain_drawn (with_stamp t c), head true it, same-commit t c ∙ ap (λ (x : PlainDrawn). x.commit) this)
    by false it is rest = let r = rest is in (r.0, head false it ∙ r.1, r.2)

-- ---- what agrees then

module _ (s : Sessions) (h : Hidden) (t spare : ℕ) where
  abbrev stamped : Sessions
  stamped = record s { drawn = record { commits = map (with_stamp t) s.drawn.commits; spare = spare } }

  session-stamped : (n seen : ℕ) (x : Option Transaction) → HoldsSession h.origin (plain_of s h) n seen x → HoldsSession h.origin (plain_of stamped h) n seen x
  session-stamped n seen a has = grind (arith)

  drawn-stamped : (d : DrawnCommit) → HoldsDrawn s (plain_of s h) d → HoldsDrawn stamped (plain_of stamped h) (with_stamp t d)
  drawn-stamped d has = grind (arith) steps 800000

  last-stamped : (key : Key) (last : Option ℕ) → HoldsLast h.origin (plain_of s h) key last → HoldsLast h.origin (plain_of stamped h) key last
  last-stamped key last (inl is) = inl (is ∙ ap (λ (cs : List Commit). last_on key (covered_since h.origin (plain_of s h) ++ cs)) (sym (commits-stamped t s.drawn.commits)))
  last-stamped key last (inr forgotten) =
      inr (forgotten.0, λ m used. ap (λ (cs : List Commit). list_any (writes_key key) (drop m h.history ++ cs)) (commits-stamped t s.drawn.commits) ∙ forgotten.1 m used)

  pub agrees-stamped : Agrees s h.origin h.seen (plain_of s h) → Agrees stamped h.origin h.seen (plain_of stamped h)
  agrees-stamped agrees = record {
    sessions = λ n. session-stamped n (h.seen n) (transaction_at s.transactions n) (agrees.sessions n);
    drawn = All-map (HoldsDrawn stamped (plain_of stamped h)) (with_stamp t) s.drawn.commits (λ k d lt. drawn-stamped _ (agrees.drawn k d lt));
    free = agrees.free;
    counted = agrees.counted;
    unreplaced = agrees.unreplaced;
    index = λ key. let e = agrees.index key in record {
      live = e.live;
      last = last-stamped key (entry_at s.index key).last e.last;
      newest = e.newest;
      only = λ slot at. let has = e.only slot at in record { within = has.within; timestamp = has.timestamp; held = has.held };
      drawn = λ slot at. let has = e.drawn slot at in let still = found-stamped t has.1.0 s.drawn.commits has.1.1 has.1.2 in (has.0, (has.1.0, still.0, still.1, ap (writes_key key) still.2 ∙ has.1.3));
    };
    lines = record {
      own = All-map (λ d. (line : ℕ) → is_touched s.dirty d.session line ≡ list_any (λ l. nat_eq l line) (line_numbers (plain_of stamped h) ((plain_drawn d).commit ∷ []))) (with_stamp t) s.drawn.commits
          (λ k d lt line. ap (λ (n : ℕ). is_touched s.dirty n line) (same-session t (get_or s.drawn.commits k d)) ∙ agrees.lines.own k d lt line
          ∙ ap (λ (c : Commit). list_any (λ l. nat_eq l line) (line_numbers (plain_of s h) (c ∷ []))) (sym (same-commit t (get_or s.drawn.commits k d))));
      none = λ n line out. agrees.lines.none n line (sym (by-stamped t n s.drawn.commits) ∙ out);
    };
    sized = agrees.sized;
  }

-- ---- one commit has a timestamp

-- a test of all commits that have the timestamp is a test of the one that has it
pub one-at : (o : Origin) (q : State) (t : ℕ) (d : PlainDrawn) (r : PlainDrawn → Bool) → Keeps o q → drawn_at q t ≡ Some d → list_any (λ e. nat_eq e.commit.timestamp t && r e) q.drawn ≡ r d
one-at o q t d r keeps at = by (list_any (λ e. nat_eq e.commit.timestamp t && r e) q.drawn) refl (r d) refl
  where
    by : (a : Bool) → list_any (λ e. nat_eq e.commit.timestamp t && r e) q.drawn ≡ a → (b : Bool) → r d ≡ b → a ≡ b
    by true some true is = refl
    by false none false is = refl
    by false none true is = absurd (cc (find-any (λ (e : PlainDrawn). nat_eq e.commit.timestamp t) r q.drawn d at is, none))
    by true some false is =
        let one = any-by_timestamp (λ e. nat_eq e.commit.timestamp t && r e) q.drawn keeps.draws.rising some in
        let both = and_parts (nat_eq one.0.commit.timestamp t) (r one.0) one.2 in
        let same : one.0.commit.timestamp ≡ t = grind (arith, nat_tests) in
        let this : Some one.0 ≡ Some d = sym one.1 ∙ ap (λ (u : ℕ). drawn_at q u) same ∙ at in
        let e : one.0 ≡ d = cc this in
        absurd (cc (both.1, ap r e, is))

-- what is found has what all have
pub found-all : {X : Type 0} (P : X → Type 0) (test : X → Bool) (xs : List X) (x : X) → All P xs → find test xs ≡ Some x → P x
found-all P test [] x all found = absurd (cc found)
found-all P test (y ∷ xs) x all found = by (test y) found (λ rest. found-all P test xs x (All-tail P y xs all) rest)
  where
    by : (b : Bool) → cond b (Some y) (find test xs) ≡ Some x → (find test xs ≡ Some x → P x) → P x
    by true found rest = let same : y ≡ x = cc found in subst P same (All-head P y xs all)
    by false found rest = rest found

-- ---- what a stamp asks

-- each has stamped no more than it writes
counted-plain : (s : Sessions) (h : Hidden) (t : ℕ) (d : DrawnCommit) → Holds s h → commit_at t s.drawn.commits ≡ Some d → nat_le d.stamped (length d.writes) ≡ true
counted-plain s h t d holds at =
    ap (λ (n : ℕ). nat_le d.stamped n) (sym (length-plain_writes d.writes))
    ∙ find-all (λ (e : PlainDrawn). nat_eq e.commit.timestamp t) (λ e. nat_le e.stamped (length e.commit.writes)) (map plain_drawn s.drawn.commits) (plain_drawn d) holds.keeps.draws.counted (drawn-plain s h t ∙ ap (option_map plain_drawn) at)

whole-at : (s : Sessions) (h : Hidden) (t : ℕ) (d : DrawnCommit) → Holds s h → commit_at t s.drawn.commits ≡ Some d → list_any (λ e. nat_eq e.commit.timestamp t && is_stamped e) (map plain_drawn s.drawn.commits) ≡ not (nat_lt d.stamped (length d.writes))
whole-at s h t d holds at =
    one-at h.origin (plain_of s h) t (plain_drawn d) is_stamped holds.keeps (drawn-plain s h t ∙ ap (option_map plain_drawn) at)
    ∙ ap (λ (n : ℕ). nat_eq d.stamped n) (length-plain_writes d.writes) ∙ same (counted-plain s h t d holds at)
  where
    same : nat_le d.stamped (length d.writes) ≡ true → nat_eq d.stamped (length d.writes) ≡ not (nat_lt d.stamped (length d.writes))
    same le = grind (arith, nat_tests)

-- whether a session allows a stamp
allows-stamp : (s : Sessions) (n : ℕ) (h : Hidden) (t : Transaction) → Holds s h → transaction_at s.transactions n ≡ Some t → allows (step.Stamp n) (standing_of (plain_of s h) (plain_session (h.seen n) t)) ≡ is_unstamped s.drawn.commits t
allows-stamp s n h (Active snapshot writes) holds at = refl
allows-stamp s n h ReadOnly holds at = refl
allows-stamp s n h (Drawn t) holds at = grind (arith, covered-or-drawn s h n t holds at, whole-at)

pub stamps-refusal : (s : Sessions) (n : ℕ) (fault : Fault) (h : Hidden) → IsBarred (is_unstamped s.drawn.commits) (transaction_at s.transactions n) fault → Holds s h → refusal (plain_of s h) (step.Stamp n) ≡ Some fault
stamps-refusal s n fault h barred holds = barred-refusal s (Stamp n) n (is_unstamped s.drawn.commits) fault h (transaction_at s.transactions n) refl refl (λ t at lets. allows-stamp s n h t holds at ∙ lets) holds.works barred

-- ---- the state after it

counted-is : (t : ℕ) (ds : List DrawnCommit) → list_all (λ (d : PlainDrawn). nat_le d.stamped (length d.commit.writes)) (map plain_drawn ds) ≡ true → list_any (λ (d : PlainDrawn). nat_eq d.commit.timestamp t && is_stamped d) (map plain_drawn ds) ≡ false
    → map plain_drawn (map (with_stamp t) ds) ≡ map (counted t) (map plain_drawn ds)
counted-is t [] all left = refl
counted-is t (d ∷ ds) all left = grind (arith, nat_tests, length-plain_writes, counted-is t ds) steps 800000

-- ---- the step

module _ (s : Sessions) (h : Hidden) (n : ℕ) (next : Unstamped) (before now : Device) (holds : HoldsOn s h before) (at : transaction_at s.transactions n ≡ Some (Drawn next.timestamp)) (is_next : IsNextOf s.drawn.commits next) where
  abbrev q : State
  q = plain_of s h

  abbrev ended : Option ℕ
  ended = live_of (entry_at s.index next.write.now.key)

  held : Holds s h
  held = held-on s h before holds

  plain-at : drawn_at q next.timestamp ≡ Some (plain_drawn is_next.commit)
  plain-at = drawn-plain s h next.timestamp ∙ ap (option_map plain_drawn) is_next.at

  left : nat_lt is_next.commit.stamped (length is_next.commit.writes) ≡ true
  left = let lt = slice_get_within is_next.commit.writes is_next.commit.stamped next.write.now is_next.is_next.write_is in grind (arith, nat_tests)

  here : q.sessions n ≡ Some (Drew next.timestamp)
  here = found s h n _ at

  allowed : refusal q (step.Stamp n) ≡ None
  allowed = passes q (step.Stamp n) n _ holds.works refl here (allows-stamp s n h (Drawn next.timestamp) held at ∙ ap (λ (o : Option DrawnCommit). has_left o) is_next.at ∙ left)

  deals : stamped_write q n ≡ Some (next.write.now.key, next.write.now.row)
  deals = grind (arith, here, plain-at, slice_get-plain_writes)

  pub own-slot : IsSlotOf q (version_by next.write.now.key (ByCommit next.timestamp)) next.write.now.slot
  own-slot =
      let has = found-all (HoldsDrawn s q) (λ d. nat_eq d.timestamp next.timestamp) s.drawn.commits is_next.commit holds.agrees.drawn is_next.at in
      let stamp-of : nat_eq is_next.commit.timestamp next.timestamp ≡ true = find-passes (λ (d : DrawnCommit). nat_eq d.timestamp next.timestamp) s.drawn.commits is_next.commit is_next.at in
      let same : is_next.commit.timestamp ≡ next.timestamp = grind (arith, nat_tests) in
      let lt = slice_get_within is_next.commit.writes is_next.commit.stamped next.write.now is_next.is_next.write_is in
      let one = has.writes is_next.commit.stamped next.write.now lt in
      let this : get_or is_next.commit.writes is_next.commit.stamped next.write.now ≡ next.write.now = get_or_from_slice_get is_next.commit.writes is_next.commit.stamped next.write.now next.write.now is_next.is_next.write_is in
      subst (λ (u : ℕ). IsSlotOf q (version_by next.write.now.key (ByCommit u)) next.write.now.slot) same
      (subst (λ (w : Write). IsSlotOf q (version_by w.key (ByCommit is_next.commit.timestamp)) w.slot) this one.slot)

  pub ended-slot : IsSlotOf q (newest_of q next.write.now.key) ended
  ended-slot = (holds.agrees.index next.write.now.key).live

  own-by : IsSlotOf q (version_by next.write.now.key (ByCommit (timestamp_of (q.sessions n)))) next.write.now.slot
  own-by = subst (λ (o : Option Session). IsSlotOf q (version_by next.write.now.key (ByCommit (timestamp_of o))) next.write.now.slot) (sym here) own-slot

  -- all that it stores is its own
  stores-only : (a : Layout) (own end : Option ℕ) (t : ℕ) → list_all (is_by_actor (Some n)) (begin_operations a own t ++ end_operations a end t) ≡ true
  stores-only a b d t = grind (arith)

  -- with the timestamp as the machine has it
  as-run : (t : ℕ) → Runs (stamp_operations q next.write.now.slot ended next.timestamp) before now → t ≡ next.timestamp → Runs (stamp_operations q next.write.now.slot ended t) before now
  as-run t run is = subst (λ (u : ℕ). Runs (stamp_operations q next.write.now.slot ended u) before now) (sym is) run

  stamp-time : timestamp_of (q.sessions n) ≡ next.timestamp
  stamp-time = ap (λ (o : Option Session). timestamp_of o) here

  last-is : is_last_stamp q n ≡ next.is_last
  last-is =
      ap (λ (o : Option Session). list_any (λ d. nat_eq d.commit.timestamp (timestamp_of o) && nat_eq (d.stamped + 1) (length d.commit.writes)) q.drawn) here
      ∙ one-at h.origin q next.timestamp (plain_drawn is_next.commit) (λ d. nat_eq (d.stamped + 1) (length d.commit.writes)) holds.upholds.keeps plain-at
      ∙ ap (λ (k : ℕ). nat_eq (is_next.commit.stamped + 1) k) (length-plain_writes is_next.commit.writes) ∙ sym is_next.is_next.last_is

  -- the state then
  then-is : (spare : ℕ) → plain_of (record s { drawn = record { commits = map (with_stamp next.timestamp) s.drawn.commits; spare = spare } }) h ≡ next_state q (step.Stamp n)
  then-is spare =
      (λ i. record q { drawn = counted-is next.timestamp s.drawn.commits holds.upholds.keeps.draws.counted (whole-at s h next.timestamp is_next.commit held is_next.at ∙ ap not left) i })
      ∙ ap (λ (u : ℕ). let q' : State = record q { drawn = map (counted u) q.drawn } in q') (sym stamp-time)

  goes-stamped : (spare : ℕ) (r : SessionReply) → as_reply r ≡ cond next.is_last reply.Stamped reply.More → ((fault : Fault) → r ≡ Refused fault → ⊥) → Runs (stamp_operations q next.write.now.slot ended next.timestamp) before now
      → GoesOn s (record s { drawn = record { commits = map (with_stamp next.timestamp) s.drawn.commits; spare = spare } }) before now (Stamp n) r h
  goes-stamped spare r replied untold run =
      let leads = stamps-lead.stored h.origin q n next.write.now.key next.write.now.row next.write.now.slot ended before now allowed deals own-by ended-slot (as-run (timestamp_of (q.sessions n)) run stamp-time) holds.upholds in
      let counts = stamps-count.stored q n next.timestamp next.write.now.slot ended before now run in
      record {
        goes = record {
          next = h;
          origin = refl;
          stepped = answered allowed (replied ∙ ap (λ (b : Bool). cond b reply.Stamped reply.More) (sym last-is)) (then-is spare);
          agrees = agrees-stamped s h next.timestamp spare holds.agrees;
          drawers = ([], sessions-stamped next.timestamp s.drawn.commits ∙ sym (append-nil (map (λ (d : DrawnCommit). d.session) s.drawn.commits)));
        };
        upholds = subst (λ (p : State). Upholds h.origin p now) (sym (then-is spare)) leads.upholds;
        effect = all-made (subst (λ (p : State). LeavesOnly before now (StandsWithin q p)) (sym (then-is spare)) leads.images) (omega (arith, counts.failed)) counts.operations
            record { operations = stamp_operations q next.write.now.slot ended next.timestamp; made = run.made; by_actor = stores-only q.layout next.write.now.slot ended next.timestamp } untold;
      }

  pub stamps-last : (commits : InFlight) → next.is_last ≡ true → commits.commits ≡ map (with_stamp next.timestamp) s.drawn.commits → Runs (stamp_operations q next.write.now.slot ended next.timestamp) before now → GoesOn s (record s { drawn = commits }) before now (Stamp n) Stamped h
  stamps-last commits last is run =
      subst (λ (x : InFlight). GoesOn s (record s { drawn = x }) before now (Stamp n) Stamped h) (λ i. record { commits = sym is i; spare = commits.spare })
      (goes-stamped commits.spare Stamped (sym (ap (λ (b : Bool). cond b reply.Stamped reply.More) last)) (λ fault told. absurd (cc told)) run)

  pub stamps-more : (commits : InFlight) → next.is_last ≡ false → commits.commits ≡ map (with_stamp next.timestamp) s.drawn.commits → Runs (stamp_operations q next.write.now.slot ended next.timestamp) before now → GoesOn s (record s { drawn = commits }) before now (Stamp n) More h
  stamps-more commits last is run =
      subst (λ (x : InFlight). GoesOn s (record s { drawn = x }) before now (Stamp n) More h) (λ i. record { commits = sym is i; spare = commits.spare })
      (goes-stamped commits.spare More (sym (ap (λ (b : Bool). cond b reply.Stamped reply.More) last)) (λ fault told. absurd (cc told)) run)

  -- the device stopped it
  pub stamps-stopped : (fault : Fault) → fault ≡ DeviceFault → StopsWithin (stamp_operations q next.write.now.slot ended next.timestamp) before now → GoesOn s s before now (Stamp n) (Refused fault) h
  stamps-stopped fault is stops =
      let by-time = subst (λ (u : ℕ). StopsWithin (stamp_operations q next.write.now.slot ended u) before now) (sym stamp-time) stops in
      let leads = stamps-lead.stopped h.origin q n next.write.now.key next.write.now.row next.write.now.slot ended before now allowed deals own-by ended-slot by-time holds.upholds in
      let counts = stamps-count.stopped q n next.timestamp next.write.now.slot ended before now stops in
      let some : 0 < length (stamp_operations q next.write.now.slot ended (timestamp_of (q.sessions n))) = let lt = by-time.1 in omega (arith, lt) in
      record {
        goes = record {
          next = record h { failed = true };
          origin = refl;
          stepped = device_failed allowed (stamps-operate h.origin q n next.write.now.key next.write.now.row next.write.now.slot ended holds.upholds.keeps deals own-by ended-slot some) (ap (λ (f : Fault). reply.Refused f) is) refl;
          agrees = failed-agrees s h holds.agrees;
          drawers = same-drawers s.drawn.commits;
        };
        upholds = leads.upholds;
        effect = last-failed fault is refl (λ told same. cc same) leads.images counts.failed counts.operations
            (stopped-by n (stamp_operations q next.write.now.slot ended next.timestamp) stops (stores-only q.layout next.write.now.slot ended next.timestamp));
      }

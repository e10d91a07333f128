-- Draw.
use Rattle.std.proofs.Common.{◌≡◌, ◌≢◌, inl, ℕ, ◌+◌, ◌*◌, ◌^◌, Bool, true, false, ◌&&◌, ◌||◌, cond, not, List, [], ◌∷◌, ◌++◌, map, refl, sym, ◌∙◌, ap, subst, nat_eq, nat_le, nat_lt, arith}
use Rattle.std.specs.Prelude.{Option, Some, None, All}
use Rattle.std.specs.List.{flat_map, list_all}
use Rattle.std.specs.Option.{option_map, option_map_or}
use Rattle.std.proofs.lemmas.Bool.{and_from, and_parts}
use Rattle.std.proofs.lemmas.List.{map-append}
use Rattle.base.specs.declared.key.Key.{Key}
use Rattle.base.specs.declared.fault.Fault.{Fault}
use Rattle.base.specs.declared.fault.Fault.TheVariants.{Conflict, WindowFull, TimestampsOut, OutOfMemory}
use Rattle.base.specs.declared.step.Step.TheVariants as step
use Rattle.base.specs.declared.step.Reply.TheVariants as reply
use Rattle.base.specs.declared.step.SessionStep.TheVariants.{Draw}
use Rattle.base.specs.declared.step.SessionReply.TheVariants.{Done, Drawn as DrewAs, Refused}
use Rattle.base.specs.Commits.{Writes}
use Rattle.base.specs.Records.{Record, is_committed}
use Rattle.base.specs.Search.{first_of as first_there, some_if}
use Rattle.base.specs.Lists.{is_nil}
use Rattle.machine.specs.Machine.{State, Session, Drawn as PlainDrawn, Active as Reads, answered, memory_refused, refusal, conflict_of, writes_of, state_drawn, by_commit}
use Rattle.snapshot.specs.Snapshots.{Seen}
use Rattle.txn.specs.InFlight.{InFlight}
use Rattle.txn.specs.declared.drawn.DrawnCommit.{DrawnCommit}
use Rattle.txn.specs.declared.transaction.Transaction.{Transaction}
use Rattle.txn.specs.declared.transaction.Transaction.TheVariants.{Active, Drawn, ReadOnly}
use Rattle.txn.specs.declared.write.Write.{Write}
use Rattle.txn.specs.DrawnCommits.{are_below}
use Rattle.txn.specs.Transactions.{transaction_at, Sets}
use Rattle.txn.specs.WriteSets.{plain_writes, write_of}
use Rattle.dirty_table.specs.declared.sessions.SessionSet.{SessionSet}
use Rattle.dirty_table.specs.Touches.{Touches}
use Rattle.index.specs.declared.entry.Entry.{Entry}
use Rattle.index.specs.Entries.{entry_at, has_room, live_of, KeepsRoom}
use Rattle.snapshot.specs.declared.numbers.Numbers.{Numbers}
use Rattle.session_steps.specs.declared.sessions.Sessions.{Sessions}
use Rattle.session_steps.specs.Drawing.{conflict_in, own_lines, ended_lines, touched_lines, drawn_entry}
use Rattle.session_steps.specs.Shows.{Hidden, plain_of, plain_session, plain_drawn, HoldsEntry, Agrees}
use Rattle.session_steps.specs.Steps.{Holds, Goes}
use Rattle.session_steps.proofs.transactions.Agrees.{agrees-changed}
use Rattle.session_steps.proofs.draws.Agrees.{agrees-drawn}
use Rattle.session_steps.proofs.draws.Conflicts.{conflict-is}
use Rattle.session_steps.proofs.transactions.Sets.{sessions-kept}
use Rattle.session_steps.proofs.Refusals.{passes}
use Rattle.session_steps.proofs.CodeTests.{same-drawers}

-- ---- what is drawn has earlier timestamps

pub all-early : (ruling : Record) (next : ℕ) (ds : List DrawnCommit) → list_all (λ (d : PlainDrawn). not (is_committed ruling d.commit.timestamp) && nat_lt d.commit.timestamp next) (map plain_drawn ds) ≡ true → are_below next ds ≡ true
all-early ruling next [] all = refl
all-early ruling next (d ∷ ds) all = grind (arith, and_parts, and_from, all-early ruling next ds)

-- ---- what is asked of a draw

-- what is asked of a draw that its session allows
asks : (q : State) (n begun : ℕ) (write : Key × Option (List ℕ)) (writes : Writes) (conflict : Option Key) (full late : Bool) → q.failed ≡ false → q.sessions n ≡ Some (Reads begun (write ∷ writes))
    → conflict_of q n ≡ conflict → nat_eq q.next q.ruling.dirty ≡ full → nat_le (2 ^ 62) (q.next + 2 * q.layout.window) ≡ late
    → refusal q (step.Draw n) ≡ first_there (option_map Conflict conflict ∷ some_if full WindowFull ∷ some_if (late || false) TimestampsOut ∷ [])
asks q n begun write writes conflict full late works found is_conflict is_full is_late = grind (arith, passes) steps 800000

-- a draw of a session that has written is refused for the first of these
pub draw-asks : (s : Sessions) (h : Hidden) (n : ℕ) (snapshot : Seen) (writes : List Write) (conflict : Option Key) (full late : Bool) → writes ≢ [] → transaction_at s.transactions n ≡ Some (Active snapshot writes) → Holds s h
    → conflict ≡ conflict_in s.index snapshot writes → nat_eq s.numbers.next s.numbers.record.dirty ≡ full → nat_le (2 ^ 62) (s.numbers.next + 2 * s.numbers.geometry.window) ≡ late
    → refusal (plain_of s h) (step.Draw n) ≡ first_there (option_map Conflict conflict ∷ some_if full WindowFull ∷ some_if (late || false) TimestampsOut ∷ [])
draw-asks s h n snapshot [] conflict full late some at holds is_conflict is_full is_late = absurd (some refl)
draw-asks s h n snapshot (write ∷ writes) conflict full late some at holds is_conflict is_full is_late = grind (arith, asks, conflict-is s h n snapshot (write ∷ writes) at holds)

-- ---- the steps

-- a session that has written nothing ends
pub draws-nothing : (s : Sessions) (ts : List (Option Transaction)) (n : ℕ) (snapshot : Seen) (h : Hidden) → transaction_at s.transactions n ≡ Some (Active snapshot []) → Sets s.transactions ts n (Some ReadOnly) → Holds s h
    → Goes s (record s { transactions = ts }) (Draw n) Done h
draws-nothing s ts n snapshot h at sets holds = record {
  next = h;
  origin = refl;
  drawers = same-drawers s.drawn.commits;
  agrees = agrees-changed s h ts s.slots h.seen h.held n (Some ReadOnly) holds.agrees sets (λ slot. inl refl) (λ m apart. refl) tt (λ m writes begun. absurd (cc begun)) (λ k d lt there. absurd (cc (at, there))) holds.agrees.free holds.agrees.counted;
  stepped =
      let has : (plain_of s h).sessions n ≡ Some (Reads (h.seen n) []) = ap (λ (t : Option Transaction). option_map (plain_session (h.seen n)) t) at in
      answered (nothing (plain_of s h) holds.works has) (sym (ap (λ (s' : Option Session). cond (is_nil (writes_of s')) reply.Done (reply.Drawn s.numbers.next)) has))
      ((λ i. record (plain_of s h) { sessions = λ m. sessions-kept s.transactions ts h.seen n (Some ReadOnly) sets m i }) ∙ sym (ap (λ (s' : Option Session). state_drawn (plain_of s h) n (writes_of s')) has));
}
  where
    nothing : (q : State) → q.failed ≡ false → q.sessions n ≡ Some (Reads (h.seen n) []) → refusal q (step.Draw n) ≡ None
    nothing q works found = passes q (step.Draw n) n (Reads (h.seen n) []) works refl found refl ∙ rw found refl

-- the next timestamp is drawn
draws-plain : (s : Sessions) (h : Hidden) (n : ℕ) (snapshot : Seen) (writes : List Write) (holds : Holds s h) (at : transaction_at s.transactions n ≡ Some (Active snapshot writes)) (ts : List (Option Transaction)) (spare : ℕ) (index : List (Key × Entry)) (dirty : List SessionSet)
    → writes ≢ [] → None ≡ conflict_in s.index snapshot writes → nat_eq s.numbers.next s.numbers.record.dirty ≡ false → nat_le (2 ^ 62) (s.numbers.next + 2 * s.numbers.geometry.window) ≡ false
    → Sets s.transactions ts n (Some (Drawn s.numbers.next)) → ((key : Key) → entry_at index key ≡ drawn_entry (write_of key writes) s.numbers.next (entry_at s.index key)) → ((key : Key) → has_room s.index key ≡ true → has_room index key ≡ true)
    → All (λ (w : Write). has_room index w.key ≡ true) writes → Touches n (flat_map (touched_lines s.numbers.geometry s.index) writes) s.dirty dirty
    → Goes s (record s { numbers = record s.numbers { next = s.numbers.next + 1 }; transactions = ts; drawn = record { commits = s.drawn.commits ++ record { session = n; timestamp = s.numbers.next; writes = writes; stamped = 0 } ∷ []; spare = spare }; index = index; dirty = dirty })
    (Draw n) (DrewAs s.numbers.next) h
draws-plain s h n snapshot [] holds at ts spare index dirty some clear room early sets entries rooms written touches = absurd (some refl)
draws-plain s h n snapshot (write ∷ writes) holds at ts spare index dirty some clear room early sets entries rooms written touches = record {
  next = record h { held = λ slot. by_commit n s.numbers.next (h.held slot) };
  origin = refl;
  drawers = (n ∷ [], map-append (λ (d : DrawnCommit). d.session) s.drawn.commits (record { session = n; timestamp = s.numbers.next; writes = write ∷ writes; stamped = 0 } ∷ []));
  agrees = agrees-drawn s h n snapshot (write ∷ writes) holds at ts spare index dirty sets entries rooms written touches;
  stepped =
      let has : (plain_of s h).sessions n ≡ Some (Reads (h.seen n) (plain_writes (write ∷ writes))) = ap (λ (t : Option Transaction). option_map (plain_session (h.seen n)) t) at in
      answered (draw-asks s h n snapshot (write ∷ writes) None false false some at holds clear room early) (sym (ap (λ (s' : Option Session). cond (is_nil (writes_of s')) reply.Done (reply.Drawn s.numbers.next)) has))
      ((λ i. record (plain_of s h) {
        sessions = λ m. sessions-kept s.transactions ts h.seen n (Some (Drawn s.numbers.next)) sets m i;
        drawn = map-append plain_drawn s.drawn.commits (record { session = n; timestamp = s.numbers.next; writes = write ∷ writes; stamped = 0 } ∷ []) i;
        next = s.numbers.next + 1;
        held = λ slot. by_commit n s.numbers.next (h.held slot);
      }) ∙ sym (ap (λ (s' : Option Session). state_drawn (plain_of s h) n (writes_of s')) has));
}

-- the room and the lines by an index with the same entries
lines-same : (s : Sessions) (index : List (Key × Entry)) (writes : List Write) → ((key : Key) → entry_at index key ≡ entry_at s.index key) → flat_map (touched_lines s.numbers.geometry index) writes ≡ flat_map (touched_lines s.numbers.geometry s.index) writes
lines-same s index writes same = λ i. flat_map (λ write. option_map_or (own_lines s.numbers.geometry) write.slot [] ++ option_map_or (ended_lines s.numbers.geometry) (live_of (same write.key i)) []) writes

-- the same if the index gets room first
pub draws : (s : Sessions) (h : Hidden) (n u : ℕ) (snapshot : Seen) (writes : List Write) (numbers : Numbers) (ts : List (Option Transaction)) (commits : InFlight) (grown index : List (Key × Entry)) (dirty : List SessionSet) → Holds s h
    → transaction_at s.transactions n ≡ Some (Active snapshot writes) → writes ≢ [] → conflict_in s.index snapshot writes ≡ None → nat_eq s.numbers.next s.numbers.record.dirty ≡ false → nat_le (2 ^ 62) (s.numbers.next + 2 * s.numbers.geometry.window) ≡ false
    → u ≡ s.numbers.next → numbers ≡ record s.numbers { next = s.numbers.next + 1 } → Sets s.transactions ts n (Some (Drawn u))
    → commits.commits ≡ s.drawn.commits ++ record { session = n; timestamp = u; writes = writes; stamped = 0 } ∷ []
    → ((key : Key) → entry_at grown key ≡ entry_at s.index key) → ((key : Key) → has_room s.index key ≡ true → has_room grown key ≡ true) → All (λ (w : Write). has_room grown w.key ≡ true) writes
    → ((key : Key) → entry_at index key ≡ drawn_entry (write_of key writes) u (entry_at grown key)) → KeepsRoom grown index
    → Touches n (flat_map (touched_lines s.numbers.geometry grown) writes) s.dirty dirty
    → Goes s (record s { numbers = numbers; transactions = ts; drawn = commits; index = index; dirty = dirty }) (Draw n) (DrewAs u) h
draws s h n u snapshot writes numbers ts commits grown index dirty holds at some clear room early now counted sets pushed same kept written entries rooms touches =
    subst (λ (k : ℕ). Goes s (record s { numbers = numbers; transactions = ts; drawn = commits; index = index; dirty = dirty }) (Draw n) (DrewAs k) h) (sym now)
    (subst (λ (x : Numbers). Goes s (record s { numbers = x; transactions = ts; drawn = commits; index = index; dirty = dirty }) (Draw n) (DrewAs s.numbers.next) h) (sym counted)
    (subst (λ (x : InFlight). Goes s (record s { numbers = record s.numbers { next = s.numbers.next + 1 }; transactions = ts; drawn = x; index = index; dirty = dirty }) (Draw n) (DrewAs s.numbers.next) h) drawn-is
    (draws-plain s h n snapshot writes holds at ts commits.spare index dirty some (sym clear) room early (subst (λ (k : ℕ). Sets s.transactions ts n (Some (Drawn k))) now sets)
    (λ key. entries key ∙ (λ i. drawn_entry (write_of key writes) (now i) (same key i))) (λ key has. rooms key ∙ kept key has) (λ k d lt. rooms _ ∙ written k d lt)
    (subst (λ (ls : List ℕ). Touches n ls s.dirty dirty) (lines-same s grown writes same) touches))))
  where
    drawn-is : ◌≡◌ {A = InFlight} (record { commits = s.drawn.commits ++ record { session = n; timestamp = s.numbers.next; writes = writes; stamped = 0 } ∷ []; spare = commits.spare }) commits
    drawn-is = λ i. record { commits = sym (pushed ∙ ap (λ (k : ℕ). s.drawn.commits ++ record { session = n; timestamp = k; writes = writes; stamped = 0 } ∷ []) now) i; spare = commits.spare }

-- ---- if memory is needed

-- what agrees once the index has room, and the list of drawn commits too
agrees-grown : (s : Sessions) (h : Hidden) (spare : ℕ) (index : List (Key × Entry)) → ((key : Key) → entry_at index key ≡ entry_at s.index key) → ((key : Key) → has_room s.index key ≡ true → has_room index key ≡ true) → Agrees s h.origin h.seen (plain_of s h)
    → Agrees (record s { index = index; drawn = record { commits = s.drawn.commits; spare = spare } }) h.origin h.seen (plain_of (record s { index = index; drawn = record { commits = s.drawn.commits; spare = spare } }) h)
agrees-grown s h spare index same kept agrees = record {
  sessions = agrees.sessions;
  drawn = λ k d lt. let has = agrees.drawn k d lt in record { session = has.session; writes = has.writes; room = λ j w below. kept _ (has.room j w below) };
  free = agrees.free;
  counted = agrees.counted;
  unreplaced = agrees.unreplaced;
  index = λ key. subst (HoldsEntry h.origin (plain_of s h) key) (sym (same key)) (agrees.index key);
  lines = agrees.lines;
  sized = agrees.sized;
}

-- a session that has written something draws a timestamp
some-drawn : (s : Sessions) (h : Hidden) (n : ℕ) (snapshot : Seen) (writes : List Write) → writes ≢ [] → transaction_at s.transactions n ≡ Some (Active snapshot writes)
    → not (is_nil (writes_of ((plain_of s h).sessions n))) ≡ true
some-drawn s h n snapshot [] some at = absurd (some refl)
some-drawn s h n snapshot (write ∷ writes) some at = ap (λ (t : Option Transaction). not (is_nil (writes_of (option_map (plain_session (h.seen n)) t)))) at

pub draws-not : (s : Sessions) (h : Hidden) (n : ℕ) (snapshot : Seen) (writes : List Write) (commits : InFlight) (index : List (Key × Entry)) (fault : Fault) → Holds s h → transaction_at s.transactions n ≡ Some (Active snapshot writes) → writes ≢ []
    → conflict_in s.index snapshot writes ≡ None → nat_eq s.numbers.next s.numbers.record.dirty ≡ false → nat_le (2 ^ 62) (s.numbers.next + 2 * s.numbers.geometry.window) ≡ false
    → commits.commits ≡ s.drawn.commits → ((key : Key) → entry_at index key ≡ entry_at s.index key) → ((key : Key) → has_room s.index key ≡ true → has_room index key ≡ true) → fault ≡ OutOfMemory
    → Goes s (record s { drawn = commits; index = index }) (Draw n) (Refused fault) h
draws-not s h n snapshot writes commits index fault holds at some clear room early same-commits same kept is =
    subst (λ (x : InFlight). Goes s (record s { drawn = x; index = index }) (Draw n) (Refused fault) h) commits-are (record {
      next = h;
      origin = refl;
      drawers = same-drawers s.drawn.commits;
      agrees = agrees-grown s h commits.spare index same kept holds.agrees;
      stepped = memory_refused (draw-asks s h n snapshot writes None false false some at holds (sym clear) room early) (some-drawn s h n snapshot writes some at) (ap (λ (f : Fault). reply.Refused f) is) refl;
    })
  where
    commits-are : ◌≡◌ {A = InFlight} (record { commits = s.drawn.commits; spare = commits.spare }) commits
    commits-are = λ i. record { commits = sym same-commits i; spare = commits.spare }

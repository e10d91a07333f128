-- Scan: the rows of the session's snapshot on the device, with its own writes laid over.
use Rattle.std.proofs.Common.{◌≡◌, inr, ℕ, zero, suc, ◌+◌, Bool, true, false, cond, List, [], ◌∷◌, take, refl, sym, ◌∙◌, ap, subst, add-one, arith}
use Rattle.std.specs.Prelude.{Option, Some, None, unwrap_or, slice_get}
use Rattle.std.specs.Option.{option_map}
use Rattle.std.specs.BTreeMap.{BTreeMap, get}
use Rattle.base.specs.declared.key.Key.{Key}
use Rattle.base.specs.declared.fault.Fault.TheVariants.{OutOfMemory}
use Rattle.base.specs.declared.step.Step.TheVariants as step
use Rattle.base.specs.declared.step.SessionStep.TheVariants.{Scan}
use Rattle.base.specs.declared.step.SessionReply.TheVariants.{Rows, Refused}
use Rattle.base.specs.Keys.{key_eq}
use Rattle.base.specs.Commits.{Tables, Lists, after, overlaid}
use Rattle.machine.specs.Machine.{answered, begun_of, writes_of, seen_by}
use Rattle.base.proofs.Keys.{key_eq-true, key_lt-apart}
use Rattle.pmem.specs.Device.{Device, IsOrderly}
use Rattle.pmem.specs.Words.{image_of}
use Rattle.snapshot.specs.Snapshots.{Seen, covers}
use Rattle.txn.specs.declared.transaction.Transaction.{Transaction}
use Rattle.txn.specs.declared.transaction.Transaction.TheVariants.{Active}
use Rattle.txn.specs.declared.write.Write.{Write}
use Rattle.txn.specs.Transactions.{transaction_at}
use Rattle.txn.specs.WriteSets.{IsRising, plain_writes}
use Rattle.txn.proofs.Rising.{rising_tail, first_below_rest}
use Rattle.index.specs.declared.ranges.KeyRange.{KeyRange}
use Rattle.index.specs.declared.ranges.KeyRange.TheVariants.{Within}
use Rattle.index.specs.Entries.{key_cmp, entry_at}
use Rattle.index.specs.Walking.{AreLinked}
use Rattle.index.specs.Reading.{CountsAs, ShowsTables, HasRows, contains, ranged}
use Rattle.simulation.specs.sessions.Sees.{ReadsBy}
use Rattle.simulation.proofs.sessions.Reading.{reads}
use Rattle.simulation.proofs.sessions.Chains.{links-lead}
use Rattle.session_steps.specs.declared.sessions.Sessions.{Sessions}
use Rattle.session_steps.specs.Shows.{Hidden, plain_of, plain_session, HoldsSession}
use Rattle.session_steps.specs.Steps.{Holds, HoldsOn, Goes}
use Rattle.session_steps.proofs.transactions.Steps.{found}
use Rattle.session_steps.proofs.reads.Rows.{laid-out}
use Rattle.session_steps.proofs.Refusals.{passes}
use Rattle.session_steps.proofs.CodeTests.{same-drawers}

-- ---- writes, one after another

-- the tables, overlaid with the first writes
abbrev pub laid : ℕ → List Write → Tables → Tables
laid n writes tables = overlaid (plain_writes (take n writes)) tables

unwrapped : (b : Bool) (row : Option (List ℕ)) (o : Option (Option (List ℕ))) (rest : Option (List ℕ)) → unwrap_or (cond b (Some row) o) rest ≡ cond b row (unwrap_or o rest)
unwrapped a row o rest = grind (arith)

-- one write more is laid over those before it
laid-next : (writes : List Write) (i : ℕ) (write : Write) (tables : Tables) (key : Key) → IsRising writes → slice_get writes i ≡ Some write
    → laid (suc i) writes tables key ≡ cond (key_eq write.key key) write.row (laid i writes tables key)
laid-next [] i write tables key rising at = absurd (cc at)
laid-next (first ∷ writes) zero write tables key rising at = grind (arith, unwrapped)
laid-next (first ∷ writes) (suc i) write tables key rising at = grind (arith, key_lt-apart first.key write.key (first_below_rest first writes i write rising at), first_below_rest first writes i write rising at, key_eq-true write.key key, laid-next writes i write tables key (rising_tail first writes rising) at)

-- rows that one more write is laid over
pub put-over : (range : KeyRange) (old new : BTreeMap Key (List ℕ)) (writes : List Write) (i : ℕ) (write : Write) (tables : Tables) → IsRising writes → slice_get writes i ≡ Some write → contains range write.key ≡ true
    → ((key : Key) → get key_cmp new key ≡ cond (key_eq write.key key) write.row (get key_cmp old key))
    → HasRows old (ranged range (laid i writes tables)) → HasRows new (ranged range (laid (i + 1) writes tables))
put-over range old new writes i write tables rising at within is has =
    rw add-one (λ key. is key ∙ (ap (λ (o : Option (List ℕ)). cond (key_eq write.key key) write.row o) (has key)
    ∙ (by key (key_eq write.key key) refl ∙ sym (ap (λ (o : Option (List ℕ)). cond (contains range key) o None) (laid-next writes i write tables key rising at)))))
  where
    by : (key : Key) (b : Bool) → key_eq write.key key ≡ b
        → cond b write.row (cond (contains range key) (laid i writes tables key) None) ≡ cond (contains range key) (cond b write.row (laid i writes tables key)) None
    by key true same = sym (ap (λ (c : Bool). cond c write.row None) (ap (contains range) (sym (key_eq-true write.key key same)) ∙ within))
    by key false same = refl

-- a write outside the range changes nothing there
pub passed-over : (range : KeyRange) (rows : BTreeMap Key (List ℕ)) (writes : List Write) (i : ℕ) (write : Write) (tables : Tables) → IsRising writes → slice_get writes i ≡ Some write → contains range write.key ≡ false
    → HasRows rows (ranged range (laid i writes tables)) → HasRows rows (ranged range (laid (i + 1) writes tables))
passed-over range rows writes i write tables rising at outside has =
    rw add-one (λ key. has key ∙ (by key (key_eq write.key key) refl ∙ sym (ap (λ (o : Option (List ℕ)). cond (contains range key) o None) (laid-next writes i write tables key rising at))))
  where
    by : (key : Key) (b : Bool) → key_eq write.key key ≡ b
        → cond (contains range key) (laid i writes tables key) None ≡ cond (contains range key) (cond b write.row (laid i writes tables key)) None
    by key true same = grind (arith)
    by key false same = refl

-- one more write, in the range or not
pub one-over : (range : KeyRange) (old new : BTreeMap Key (List ℕ)) (writes : List Write) (i : ℕ) (write : Write) (tables : Tables) → IsRising writes → slice_get writes i ≡ Some write
    → (contains range write.key ≡ true → (key : Key) → get key_cmp new key ≡ cond (key_eq write.key key) write.row (get key_cmp old key)) → (contains range write.key ≡ false → new ≡ old)
    → HasRows old (ranged range (laid i writes tables)) → HasRows new (ranged range (laid (i + 1) writes tables))
one-over range old new writes i write tables rising at inside outside has = by (contains range write.key) refl
  where
    by : (b : Bool) → contains range write.key ≡ b → HasRows new (ranged range (laid (i + 1) writes tables))
    by true within = put-over range old new writes i write tables rising at within (inside within) has
    by false apart = subst (λ (m : BTreeMap Key (List ℕ)). HasRows m (ranged range (laid (i + 1) writes tables))) (sym (outside apart)) (passed-over range old writes i write tables rising at apart has)

-- ---- the step

-- it found no memory
pub scans-nothing : (s : Sessions) (n table lo hi : ℕ) (snapshot : Seen) (writes : List Write) (h : Hidden) → transaction_at s.transactions n ≡ Some (Active snapshot writes)
    → Holds s h → Goes s s (Scan n table lo hi) (Refused OutOfMemory) h
scans-nothing s n table lo hi snapshot writes h at holds = grind (arith, same-drawers, passes, found) steps 800000

-- what the session sees: its own writes over the rows of its snapshot
pub seen-tables : (s : Sessions) (n : ℕ) (snapshot : Seen) (writes : List Write) (h : Hidden) → transaction_at s.transactions n ≡ Some (Active snapshot writes)
    → seen_by (plain_of s h) n ≡ overlaid (plain_writes writes) (after (take (h.seen n) h.history))
seen-tables s n snapshot writes h at = ap (λ (t : Option Transaction). overlaid (writes_of (option_map (plain_session (h.seen n)) t)) (after (take (begun_of (option_map (plain_session (h.seen n)) t)) h.history))) at

-- what is read in a range is what the session sees there
pub rows-seen : (s : Sessions) (device : Device) (n : ℕ) (range : KeyRange) (rows : List (Key × List ℕ)) (snapshot : Seen) (writes : List Write) (h : Hidden) → IsOrderly device → transaction_at s.transactions n ≡ Some (Active snapshot writes)
    → ((counts : ℕ → Bool) (tables : Tables) → CountsAs counts snapshot s.numbers.geometry (image_of device) → AreLinked snapshot (image_of device) s.index → ShowsTables counts s.numbers.geometry (image_of device) tables
    → Lists rows (ranged range (overlaid (plain_writes writes) tables)))
    → HoldsOn s h device → Lists rows (ranged range (seen_by (plain_of s h) n))
rows-seen s device n range rows snapshot writes h orderly at read holds =
    subst (λ (t : Tables). Lists rows (ranged range t)) (sym (seen-tables s n snapshot writes h at))
    (read (covers snapshot) (after (take (h.seen n) h.history)) (record { laid_out = laid-out h.origin (plain_of s h) device orderly holds.upholds; live = λ slot lt. refl }) linked (record { rows = reading.rows; fits = reading.fits }))
  where
    session : HoldsSession h.origin (plain_of s h) n (h.seen n) (Some (Active snapshot writes))
    session = subst (HoldsSession h.origin (plain_of s h) n (h.seen n)) at (holds.agrees.sessions n)

    reading : ReadsBy (covers snapshot) s.numbers.geometry (after (take (h.seen n) h.history)) (image_of device)
    reading = reads h.origin (plain_of s h) device snapshot (h.seen n) orderly holds.upholds (inr (n, plain_writes writes, found s h n _ at)) session.0

    linked : AreLinked snapshot (image_of device) s.index
    linked key = links-lead h.origin (plain_of s h) device snapshot (h.seen n) key (entry_at s.index key).newest orderly holds.upholds (inr (n, plain_writes writes, found s h n _ at)) session.0 (holds.agrees.index key).newest

-- the rows that the session sees
pub scans-seen : (s : Sessions) (device : Device) (n table lo hi : ℕ) (rows : List (Key × List ℕ)) (snapshot : Seen) (writes : List Write) (h : Hidden) → IsOrderly device → transaction_at s.transactions n ≡ Some (Active snapshot writes)
    → ((counts : ℕ → Bool) (tables : Tables) → CountsAs counts snapshot s.numbers.geometry (image_of device) → AreLinked snapshot (image_of device) s.index → ShowsTables counts s.numbers.geometry (image_of device) tables
    → Lists rows (ranged (Within table lo hi) (overlaid (plain_writes writes) tables)))
    → HoldsOn s h device → Goes s s (Scan n table lo hi) (Rows rows) h
scans-seen s device n table lo hi rows snapshot writes h orderly at read holds = record {
  next = h;
  origin = refl;
  drawers = same-drawers s.drawn.commits;
  agrees = holds.agrees;
  stepped = answered (passes (plain_of s h) (step.Scan n table lo hi) n _ holds.works refl (found s h n _ at) refl) (rows, refl, rows-seen s device n (Within table lo hi) rows snapshot writes h orderly at read holds) refl;
}

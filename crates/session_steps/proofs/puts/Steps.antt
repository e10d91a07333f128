-- Put.
use Rattle.std.proofs.Common.{◌≡◌, ◌≢◌, ◌⊎◌, inl, inr, ℕ, ◌+◌, ◌-◌, ◌<◌, ◌≤◌, Bool, true, false, ◌&&◌, cond, List, [], ◌∷◌, ◌++◌, length, map, set, refl, sym, ◌∙◌, ap, subst, arith, nat_eq, nat_le, length-set}
use Rattle.std.specs.Prelude.{Option, Some, None, is_none, slice_get, slice_set}
use Rattle.std.specs.List.{list_all, range_with_len}
use Rattle.std.specs.Option.{option_map, option_or}
use Rattle.std.proofs.lemmas.Bool.Decides.{nat_tests}
use Rattle.std.proofs.lemmas.List.{get_or-set_same, get_or-set_other, set-set, set-get_or}
use Rattle.std.proofs.lemmas.Option.{slice_get-get_or, get_or_from_slice_get}
use Rattle.std.proofs.lemmas.Bool.{lt-ltb, le-ltb}
use Rattle.base.specs.declared.key.Key.{Key}
use Rattle.base.specs.declared.fault.Fault.{Fault}
use Rattle.base.specs.declared.fault.Fault.TheVariants.{TooLong, WriteSetFull, SlotsOut, Device as DeviceFault}
use Rattle.base.specs.declared.step.Step.TheVariants as step
use Rattle.base.specs.declared.step.Reply.TheVariants as reply
use Rattle.base.specs.declared.step.SessionStep.TheVariants.{Put}
use Rattle.base.specs.declared.step.SessionReply.TheVariants.{Done, Refused}
use Rattle.base.specs.Commits.{Writes, with_write}
use Rattle.base.specs.Keys.{key_eq, lookup_key}
use Rattle.base.specs.Layout.{Layout, row_limit, slot_start, slot_words}
use Rattle.base.specs.Search.{first_below, first_of as first_there, some_if}
use Rattle.base.specs.Lists.{replaced}
use Rattle.machine.specs.Machine.{State, Session, Active as Reads, Version, BySession, answered, device_failed, refusal, next_state, begun_of, writes_of, held_at, held_with, held_after_put, own_slot, free_slot, lacks_slot, most_writes, StandsWithin}
use Rattle.base.proofs.Search.{first_below-same}
use Rattle.pmem.specs.Device.{Device, IsOrderly}
use Rattle.pmem.specs.Trace.{Operation, store_op, Runs, StopsWithin}
use Rattle.pmem.specs.Words.{LeavesOnly}
use Rattle.snapshot.specs.Snapshots.{Seen}
use Rattle.txn.specs.declared.transaction.Transaction.{Transaction}
use Rattle.txn.specs.declared.transaction.Transaction.TheVariants.{Active}
use Rattle.txn.specs.declared.write.Write.{Write}
use Rattle.txn.specs.Transactions.{transaction_at, Sets}
use Rattle.txn.specs.WriteSets.{plain_writes, with_write_at}
use Rattle.txn.proofs.Found.{all-with_write_at}
use Rattle.txn.proofs.Plain.{plain_writes-with_write_at}
use Rattle.index.specs.Entries.{entry_at, head_of}
use Rattle.slot_alloc.specs.Free.{is_free, lowest_free}
use Rattle.version_slot.specs.declared.words.Version.{Version as Content}
use Rattle.version_slot.specs.Words.{Fits, filled_word, link_number}
use Rattle.version_slot.specs.Operations.{clear_operations, fill_operations}
use Rattle.pmem.proofs.Traces.{stops-first, stops-then}
use Rattle.state_invariant.specs.Kept.{version_by}
use Rattle.state_invariant.proofs.Lookups.{apart-keys, first_below-some}
use Rattle.state_invariant.proofs.sessions.Steps.{free_slot-some}
use Rattle.device_invariant.specs.Upholds.{Upholds}
use Rattle.simulation.specs.steps.Moves.{IsSlotOf, unless_own, put_operations, LinksNewest}
use Rattle.simulation.proofs.steps.Counting.{puts-count}
use Rattle.simulation.proofs.steps.puts.Leads.{puts-lead}
use Rattle.session_steps.specs.declared.sessions.Sessions.{Sessions}
use Rattle.session_steps.specs.Giving.{own_of, is_full_of}
use Rattle.session_steps.specs.Shows.{Hidden, plain_of, plain_session, HasItsSlot, HoldsSession, HoldsEntry, Agrees}
use Rattle.session_steps.specs.Steps.{Holds, HoldsOn, GoesOn, is_by_actor}
use Rattle.session_steps.proofs.transactions.Agrees.{agrees-changed}
use Rattle.session_steps.proofs.Failing.{failed-agrees}
use Rattle.session_steps.proofs.slots.Freeing.{full-plain}
use Rattle.session_steps.proofs.slots.Held.{is_nobodys_or, Moves}
use Rattle.session_steps.proofs.transactions.Sets.{sessions-kept, replaced-same}
use Rattle.session_steps.proofs.slots.Owned.{own-is, own_slot-is, rising-plain}
use Rattle.session_steps.proofs.transactions.Steps.{found}
use Rattle.session_steps.proofs.Refusals.{passes}
use Rattle.session_steps.proofs.Effects.{stopped-by, all-made, last-failed}
use Rattle.session_steps.proofs.Stepping.{held-on, refused-on}
use Rattle.session_steps.proofs.CodeTests.{same-drawers}

-- ---- what is asked of a put

asks : (q : State) (n begun : ℕ) (key : Key) (row : List ℕ) (writes : Writes) (full lacks : Bool) → q.failed ≡ false → q.sessions n ≡ Some (Reads begun writes) → length row ≤ row_limit q.layout.version
    → (is_none (lookup_key writes key) && nat_le most_writes (length writes)) ≡ full → lacks_slot q (step.Put n key row) ≡ lacks
    → refusal q (step.Put n key row) ≡ first_there (some_if full WriteSetFull ∷ some_if lacks SlotsOut ∷ [])
asks q n begun key row writes full lacks works found le is_full is_lacks = grind (arith, passes, found, le-ltb) steps 800000

pub put-asks : (s : Sessions) (h : Hidden) (n : ℕ) (key : Key) (row : List ℕ) (snapshot : Seen) (writes : List Write) (full lacks : Bool) → Holds s h → transaction_at s.transactions n ≡ Some (Active snapshot writes)
    → length row ≤ row_limit s.numbers.geometry.version → is_full_of key writes ≡ full → lacks_slot (plain_of s h) (step.Put n key row) ≡ lacks
    → refusal (plain_of s h) (step.Put n key row) ≡ first_there (some_if full WriteSetFull ∷ some_if lacks SlotsOut ∷ [])
put-asks s h n key row snapshot writes full lacks holds at le is_full is_lacks =
    asks (plain_of s h) n (h.seen n) key row (plain_writes writes) full lacks holds.works (ap (λ (t : Option Transaction). option_map (plain_session (h.seen n)) t) at) le (full-plain key writes ∙ is_full) is_lacks

-- the session has written as many keys as it may
pub full-refusal : (s : Sessions) (h : Hidden) (n : ℕ) (key : Key) (row : List ℕ) (snapshot : Seen) (writes : List Write) → Holds s h → transaction_at s.transactions n ≡ Some (Active snapshot writes)
    → length row ≤ row_limit s.numbers.geometry.version → is_full_of key writes ≡ true → refusal (plain_of s h) (step.Put n key row) ≡ Some WriteSetFull
full-refusal s h n key row snapshot writes holds at le full = put-asks s h n key row snapshot writes true (lacks_slot (plain_of s h) (step.Put n key row)) holds at le full refl

-- the row is longer than a slot holds
pub long-refusal : (s : Sessions) (h : Hidden) (n : ℕ) (key : Key) (row : List ℕ) (snapshot : Seen) (writes : List Write) → Holds s h → transaction_at s.transactions n ≡ Some (Active snapshot writes)
    → row_limit s.numbers.geometry.version < length row → refusal (plain_of s h) (step.Put n key row) ≡ Some TooLong
long-refusal s h n key row snapshot writes holds at lt = grind (arith, passes, lt-ltb) steps 800000

-- ---- the slot

pub free-is : (s : Sessions) (h : Hidden) → Holds s h → lowest_free s.slots ≡ free_slot (plain_of s h)
free-is s h holds =
    ap (λ (n : ℕ). first_below n (is_free s.slots)) holds.agrees.counted
    ∙ first_below-same s.numbers.geometry.slots (is_free s.slots) (λ slot. is_none (h.held slot)) (λ slot lt. get_or_from_slice_get s.slots slot (is_none (h.held slot)) false (holds.agrees.free slot lt))

-- the slot that a version links to is one of the layout's
pub link-fits : (s : Sessions) (h : Hidden) (key : Key) → Holds s h → link_number (head_of (entry_at s.index key)) ≤ s.numbers.geometry.slots
link-fits s h key holds = by (entry_at s.index key).drawn refl (entry_at s.index key).newest refl
  where
    e : HoldsEntry h.origin (plain_of s h) key (entry_at s.index key)
    e = holds.agrees.index key

    by : (d : Option ℕ) → (entry_at s.index key).drawn ≡ d → (m : Option ℕ) → (entry_at s.index key).newest ≡ m → link_number (option_or d m) ≤ s.numbers.geometry.slots
    by (Some slot) is m newest = let lt = (e.drawn slot is).0 in omega (arith, lt)
    by None is (Some slot) newest = let lt = (e.only slot newest).within in omega (arith, lt)
    by None is None newest = omega arith

-- if no commit bars the session from drawing, the version links to the newest one that is held
pub link-newest : (s : Sessions) (h : Hidden) (n : ℕ) (v : Content) → Holds s h → v.previous ≡ head_of (entry_at s.index v.key) → LinksNewest (plain_of s h) n v
link-newest s h n v holds is free t slot last lt held = is ∙ by (entry_at s.index v.key).drawn refl
  where
    e : HoldsEntry h.origin (plain_of s h) v.key (entry_at s.index v.key)
    e = holds.agrees.index v.key

    by : (d : Option ℕ) → (entry_at s.index v.key).drawn ≡ d → option_or d (entry_at s.index v.key).newest ≡ Some slot
    by None none = e.newest t slot last lt held
    by (Some other) at = let d = (e.drawn other at).1 in absurd (cc (sym (free.drawn d.0 d.1 d.2) ∙ d.3))

-- ---- whose operations they are

-- stores alone
stores-only : (n first : ℕ) (value : ℕ → ℕ) (ks : List ℕ) → list_all (is_by_actor (Some n)) (map (λ k. store_op (first + k) (value k)) ks) ≡ true
stores-only n first value [] = refl
stores-only n first value (k ∷ ks) = stores-only n first value ks

fill-only : (n : ℕ) (a : Layout) (slot : ℕ) (v : Content) → list_all (is_by_actor (Some n)) (fill_operations a slot v) ≡ true
fill-only n a slot v = stores-only n (slot_start a slot + 1) (λ k. filled_word v (k + 1)) (range_with_len 0 (slot_words a.version - 1))

-- ---- the step

module _ (s : Sessions) (h : Hidden) (n : ℕ) (snapshot : Seen) (writes : List Write) (v : Content) (slot : ℕ) (place : Option ℕ) (before now : Device) (holds : HoldsOn s h before) (at : transaction_at s.transactions n ≡ Some (Active snapshot writes))
    (room : is_full_of v.key writes ≡ false) (short-row : length v.row ≤ row_limit s.numbers.geometry.version) where
  abbrev q : State
  q = plain_of s h

  abbrev new : Write
  new = record { key = v.key; row = Some v.row; slot = Some slot; place = place }

  held : Holds s h
  held = held-on s h before holds

  here : q.sessions n ≡ Some (Reads (h.seen n) (plain_writes writes))
  here = found s h n _ at

  session : HoldsSession h.origin q n (h.seen n) (Some (Active snapshot writes))
  session = subst (HoldsSession h.origin q n (h.seen n)) at (holds.agrees.sessions n)

  own : IsSlotOf q (version_by v.key (BySession n)) (own_of v.key writes)
  own = own-is h.origin q n (h.seen n) writes holds.upholds.keeps here session.1 v.key

  own-slot : own_slot q n v.key ≡ own_of v.key writes
  own-slot = own_slot-is h.origin q n v.key (own_of v.key writes) holds.upholds.keeps own

  allowed : (o : Option ℕ) → own_of v.key writes ≡ o → (is_none o && is_none (free_slot q)) ≡ false → refusal q (step.Put n v.key v.row) ≡ None
  allowed o is some = put-asks s h n v.key v.row snapshot writes false false held at short-row room (ap (λ (x : Option ℕ). is_none x && is_none (free_slot q)) (own-slot ∙ is) ∙ some)

  -- what the plain machine makes of the session
  its-writes : ◌≡◌ {A = Option Session} (Some (Reads (h.seen n) (plain_writes (with_write_at new writes)))) (Some (Reads (begun_of (q.sessions n)) (with_write v.key (Some v.row) (writes_of (q.sessions n)))))
  its-writes = ap (λ (ws : Writes). Some (Reads (h.seen n) ws)) (plain_writes-with_write_at new writes) ∙ sym (ap (λ (t : Option Transaction). Some (Reads (begun_of (option_map (plain_session (h.seen n)) t)) (with_write v.key (Some v.row) (writes_of (option_map (plain_session (h.seen n)) t))))) at)

  -- the session's slots of other keys stay, and the version has its slot
  module _ (ts : List (Option Transaction)) (slots : List Bool) (sets : Sets s.transactions ts n (Some (Active snapshot (with_write_at new writes)))) where
    abbrev after-put : Sessions
    after-put = record s { transactions = ts; slots = slots }

    abbrev hidden : Hidden
    hidden = record h { held = held_after_put q n v.key }

    abbrev then : State
    then = plain_of after-put hidden

    then-is : then ≡ next_state q (step.Put n v.key v.row)
    then-is = λ i. record q { sessions = λ m. (sessions-kept s.transactions ts h.seen n (Some (Active snapshot (with_write_at new writes))) sets m ∙ ap (λ (x : Option Session). replaced n x q.sessions m) its-writes) i; held = held_after_put q n v.key }

    agrees-put : Moves n h.held (held_after_put q n v.key) → held_after_put q n v.key slot ≡ Some (version_by v.key (BySession n)) → slot < s.numbers.geometry.slots
        → ((other : Key) → key_eq v.key other ≡ false → (o : Option ℕ) → IsSlotOf q (version_by other (BySession n)) o → IsSlotOf then (version_by other (BySession n)) o)
        → ((k : ℕ) → k < s.numbers.geometry.slots → slice_get slots k ≡ Some (is_none (held_after_put q n v.key k))) → length slots ≡ s.numbers.geometry.slots
        → Agrees after-put h.origin h.seen then
    agrees-put moves its lt others free counted =
        agrees-changed s h ts slots h.seen (held_after_put q n v.key) n (Some (Active snapshot (with_write_at new writes))) holds.agrees sets moves (λ m apart. refl) (
          record { covered = session.0.covered; early = session.0.early; gaps = session.0.gaps },
          all-with_write_at (HasItsSlot then (BySession n)) new writes (rising-plain h.origin q n (h.seen n) writes holds.upholds.keeps here) (record { slot = (lt, its); row = refl })
              (λ k d below apart. record { slot = others _ apart _ (session.1 k d below).slot; row = (session.1 k d below).row }),
        )
        (λ m ws begun. inr (n, plain_writes writes, here ∙ ap (λ (k : ℕ). Some (Reads k (plain_writes writes))) (begun-is m ws begun))) (λ k d below there. absurd (cc (at, there))) free counted
      where
        begun-is : (m : ℕ) (ws : Writes) → Some (Reads (h.seen n) (plain_writes (with_write_at new writes))) ≡ Some (Reads m ws) → h.seen n ≡ m
        begun-is m ws begun = cc begun

    -- all of it
    goes-put : Agrees after-put h.origin h.seen then → Fits s.numbers.geometry v → v.previous ≡ head_of (entry_at s.index v.key) → refusal q (step.Put n v.key v.row) ≡ None → slot < s.numbers.geometry.slots → held_after_put q n v.key slot ≡ Some (version_by v.key (BySession n))
        → Runs (put_operations q n n slot v) before now → list_all (is_by_actor (Some n)) (put_operations q n n slot v) ≡ true → GoesOn s after-put before now (Put n v.key v.row) Done h
    goes-put agrees fits linked allowed lt its run by-actor =
        let leads = puts-lead.stored h.origin q n n slot v before now fits allowed lt its (link-newest s h n v held linked) run holds.upholds in
        let counts = puts-count.stored q n n slot v before now run in
        record {
          goes = record { next = hidden; origin = refl; stepped = answered allowed refl then-is; agrees = agrees; drawers = same-drawers s.drawn.commits };
          upholds = subst (λ (p : State). Upholds h.origin p now) (sym then-is) leads.upholds;
          effect = all-made (subst (λ (p : State). LeavesOnly before now (StandsWithin q p)) (sym then-is) leads.images) (omega (arith, counts.failed)) counts.operations
              record { operations = put_operations q n n slot v; made = run.made; by_actor = by-actor } (λ fault told. absurd (cc told));
        }

  -- the device stopped it
  stopped : (fault : Fault) → fault ≡ DeviceFault → refusal q (step.Put n v.key v.row) ≡ None → slot < s.numbers.geometry.slots → held_after_put q n v.key slot ≡ Some (version_by v.key (BySession n))
      → StopsWithin (put_operations q n n slot v) before now → list_all (is_by_actor (Some n)) (put_operations q n n slot v) ≡ true → GoesOn s s before now (Put n v.key v.row) (Refused fault) h
  stopped fault is allowed lt its stops by-actor =
      let leads = puts-lead.stopped h.origin q n n slot v before now allowed lt its stops holds.upholds in
      let counts = puts-count.stopped q n n slot v before now stops in
      record {
        goes = record { next = record h { failed = true }; origin = refl; stepped = device_failed allowed refl (ap (λ (f : Fault). reply.Refused f) is) refl; agrees = failed-agrees s h holds.agrees; drawers = same-drawers s.drawn.commits };
        upholds = leads.upholds;
        effect = last-failed fault is refl (λ told same. cc same) leads.images counts.failed counts.operations (stopped-by n (put_operations q n n slot v) stops by-actor);
      }

  -- ---- in the session's own slot

  module _ (own-of : own_of v.key writes ≡ Some slot) where
    own-here : (slot < s.numbers.geometry.slots) × (h.held slot ≡ Some (version_by v.key (BySession n)))
    own-here = subst (IsSlotOf q (version_by v.key (BySession n))) own-of own

    held-same : held_after_put q n v.key ≡ h.held
    held-same = ap (λ (o : Option ℕ). held_with q (version_by v.key (BySession n)) o) (own-slot ∙ own-of)

    own-operations : put_operations q n n slot v ≡ fill_operations q.layout slot v
    own-operations = ap (λ (o : Option ℕ). unless_own o (clear_operations q.layout n slot) ++ fill_operations q.layout slot v) (own-slot ∙ own-of)

    own-only : list_all (is_by_actor (Some n)) (put_operations q n n slot v) ≡ true
    own-only = ap (λ (ops : List Operation). list_all (is_by_actor (Some n)) ops) own-operations ∙ fill-only n q.layout slot v

    own-held : held_after_put q n v.key slot ≡ Some (version_by v.key (BySession n))
    own-held = ap (λ (f : ℕ → Option Version). f slot) held-same ∙ own-here.1

    own-allowed : refusal q (step.Put n v.key v.row) ≡ None
    own-allowed = allowed (Some slot) own-of refl

    pub puts-own : (ts : List (Option Transaction)) → Sets s.transactions ts n (Some (Active snapshot (with_write_at new writes))) → Fits s.numbers.geometry v → v.previous ≡ head_of (entry_at s.index v.key) → Runs (fill_operations s.numbers.geometry slot v) before now
        → GoesOn s (record s { transactions = ts }) before now (Put n v.key v.row) Done h
    puts-own ts sets fits linked run =
        goes-put ts s.slots sets
        (agrees-put ts s.slots sets (λ k. inl (λ i. held-same i k)) own-held own-here.0 (λ other apart o has. stays other o has) (λ k lt. holds.agrees.free k lt ∙ (λ i. Some (is_none (sym held-same i k)))) holds.agrees.counted)
        fits linked own-allowed own-here.0 own-held (subst (λ (ops : List Operation). Runs ops before now) (sym own-operations) run) own-only
      where
        stays : (other : Key) (o : Option ℕ) → IsSlotOf q (version_by other (BySession n)) o → IsSlotOf (then ts s.slots sets) (version_by other (BySession n)) o
        stays other (Some k) has = (has.0, (λ i. held-same i k) ∙ has.1)
        stays other None has = λ k lt there. has k lt ((λ i. sym held-same i k) ∙ there)

    pub puts-own-stopped : (fault : Fault) → fault ≡ DeviceFault → StopsWithin (fill_operations s.numbers.geometry slot v) before now → GoesOn s s before now (Put n v.key v.row) (Refused fault) h
    puts-own-stopped fault is stops = stopped fault is own-allowed own-here.0 own-held (subst (λ (ops : List Operation). StopsWithin ops before now) (sym own-operations) stops) own-only

  -- ---- in the lowest free slot

  module _ (none : own_of v.key writes ≡ None) (lowest : lowest_free s.slots ≡ Some slot) where
    free-slot : free_slot q ≡ Some slot
    free-slot = sym (free-is s h held) ∙ lowest

    free-here : (slot < s.numbers.geometry.slots) × (h.held slot ≡ None)
    free-here = free_slot-some q slot free-slot

    held-taken : held_after_put q n v.key ≡ replaced slot (Some (version_by v.key (BySession n))) h.held
    held-taken =
        ap (λ (o : Option ℕ). held_with q (version_by v.key (BySession n)) o) (own-slot ∙ none)
        ∙ ap (λ (o : Option ℕ). held_at o (version_by v.key (BySession n)) h.held) free-slot

    taken-operations : put_operations q n n slot v ≡ clear_operations q.layout n slot ++ fill_operations q.layout slot v
    taken-operations = ap (λ (o : Option ℕ). unless_own o (clear_operations q.layout n slot) ++ fill_operations q.layout slot v) (own-slot ∙ none)

    taken-only : list_all (is_by_actor (Some n)) (put_operations q n n slot v) ≡ true
    taken-only = ap (λ (ops : List Operation). list_all (is_by_actor (Some n)) ops) taken-operations ∙ (λ i. same i && (same i && fill-only n q.layout slot v i))
      where
        same : nat_eq n n ≡ true
        same = grind (arith, nat_tests)

    taken-held : held_after_put q n v.key slot ≡ Some (version_by v.key (BySession n))
    taken-held = ap (λ (f : ℕ → Option Version). f slot) held-taken ∙ replaced-same slot (Some (version_by v.key (BySession n))) h.held

    taken-allowed : refusal q (step.Put n v.key v.row) ≡ None
    taken-allowed = allowed None none (ap (λ (o : Option ℕ). is_none o) free-slot)

    pub puts-taken : (ts : List (Option Transaction)) (slots : List Bool) → slots ≡ slice_set s.slots slot false → Sets s.transactions ts n (Some (Active snapshot (with_write_at new writes))) → Fits s.numbers.geometry v
        → v.previous ≡ head_of (entry_at s.index v.key) → Runs (clear_operations s.numbers.geometry n slot ++ fill_operations s.numbers.geometry slot v) before now → GoesOn s (record s { transactions = ts; slots = slots }) before now (Put n v.key v.row) Done h
    puts-taken ts slots taken sets fits linked run =
        goes-put ts slots sets
        (agrees-put ts slots sets (λ k. moves k (nat_eq k slot) refl) taken-held free-here.0 others (λ k lt. free k lt (nat_eq k slot) refl) (ap (λ (xs : List Bool). length xs) taken ∙ length-set s.slots slot false ∙ holds.agrees.counted))
        fits linked taken-allowed free-here.0 taken-held (subst (λ (ops : List Operation). Runs ops before now) (sym taken-operations) run) taken-only
      where
        at-slot : (k : ℕ) → held_after_put q n v.key k ≡ cond (nat_eq k slot) (Some (version_by v.key (BySession n))) (h.held k)
        at-slot k = λ i. held-taken i k

        self-test : nat_eq n n ≡ true
        self-test = grind (arith, nat_tests)

        moves : (k : ℕ) (b : Bool) → nat_eq k slot ≡ b → (held_after_put q n v.key k ≡ h.held k) ⊎ ((is_nobodys_or n (h.held k) ≡ true) × (is_nobodys_or n (held_after_put q n v.key k) ≡ true))
        moves k true is =
            let same : k ≡ slot = grind (arith, nat_tests) in
            inr (ap (λ (j : ℕ). is_nobodys_or n (h.held j)) same ∙ ap (is_nobodys_or n) free-here.1, ap (is_nobodys_or n) (at-slot k ∙ ap (λ (b : Bool). cond b (Some (version_by v.key (BySession n))) (h.held k)) is) ∙ self-test)
        moves k false is = inl (at-slot k ∙ ap (λ (b : Bool). cond b (Some (version_by v.key (BySession n))) (h.held k)) is)

        apart : (k : ℕ) (w : Version) → h.held k ≡ Some w → nat_eq k slot ≡ false
        apart k w there = grind (arith, nat_tests, free-here)

        others : (other : Key) → key_eq v.key other ≡ false → (o : Option ℕ) → IsSlotOf q (version_by other (BySession n)) o → IsSlotOf (then ts slots sets) (version_by other (BySession n)) o
        others other ne (Some k) has = (has.0, at-slot k ∙ ap (λ (b : Bool). cond b (Some (version_by v.key (BySession n))) (h.held k)) (apart k _ has.1) ∙ has.1)
        others other ne None has = grind (arith, at-slot, apart-keys)

        free : (k : ℕ) → k < s.numbers.geometry.slots → (b : Bool) → nat_eq k slot ≡ b → slice_get slots k ≡ Some (is_none (held_after_put q n v.key k))
        free k lt true is =
            let same : k ≡ slot = grind (arith, nat_tests) in
            ap (λ (xs : List Bool). slice_get xs k) taken ∙ ap (λ (j : ℕ). slice_get (set s.slots slot false) j) same
            ∙ slice_get-get_or (set s.slots slot false) slot true (omega (arith, length-set s.slots slot false, holds.agrees.counted, free-here.0)) ∙ ap (λ (b : Bool). Some b) (get_or-set_same s.slots slot false true (omega (arith, holds.agrees.counted, free-here.0)))
            ∙ sym (ap (λ (o : Option Version). Some (is_none o)) (at-slot k ∙ ap (λ (b : Bool). cond b (Some (version_by v.key (BySession n))) (h.held k)) is))
        free k lt false is =
            let ne : k ≢ slot = grind (arith, nat_tests) in
            ap (λ (xs : List Bool). slice_get xs k) taken
            ∙ slice_get-get_or (set s.slots slot false) k true (omega (arith, length-set s.slots slot false, holds.agrees.counted, lt)) ∙ ap (λ (b : Bool). Some b) (get_or-set_other s.slots slot k false true ne)
            ∙ sym (slice_get-get_or s.slots k true (omega (arith, holds.agrees.counted, lt))) ∙ holds.agrees.free k lt
            ∙ sym (ap (λ (o : Option Version). Some (is_none o)) (at-slot k ∙ ap (λ (b : Bool). cond b (Some (version_by v.key (BySession n))) (h.held k)) is))

    pub puts-taken-stopped : (fault : Fault) → fault ≡ DeviceFault → StopsWithin (clear_operations s.numbers.geometry n slot ++ fill_operations s.numbers.geometry slot v) before now → GoesOn s s before now (Put n v.key v.row) (Refused fault) h
    puts-taken-stopped fault is stops = stopped fault is taken-allowed free-here.0 taken-held (subst (λ (ops : List Operation). StopsWithin ops before now) (sym taken-operations) stops) taken-only

-- ---- what the calls of a put ask

-- the session's own slot is one of the layout's
pub own-within : (s : Sessions) (h : Hidden) (n : ℕ) (snapshot : Seen) (writes : List Write) (key : Key) (slot : ℕ) → Holds s h → transaction_at s.transactions n ≡ Some (Active snapshot writes) → own_of key writes ≡ Some slot → slot < s.numbers.geometry.slots
own-within s h n snapshot writes key slot holds at own =
    (subst (IsSlotOf (plain_of s h) (version_by key (BySession n))) own
    (own-is h.origin (plain_of s h) n (h.seen n) writes holds.keeps (found s h n _ at) (subst (HoldsSession h.origin (plain_of s h) n (h.seen n)) at (holds.agrees.sessions n)).1 key)).0

-- and so is a free one
pub free-within : (s : Sessions) (h : Hidden) (slot : ℕ) → Holds s h → lowest_free s.slots ≡ Some slot → slot < s.numbers.geometry.slots
free-within s h slot holds lowest = (free_slot-some (plain_of s h) slot (sym (free-is s h holds) ∙ lowest)).0

-- ---- if no slot is taken

-- a slot that was taken is one of the slots
pub taken-within : (free slots : List Bool) (slot : ℕ) → lowest_free free ≡ Some slot → slots ≡ slice_set free slot false → slot < length slots
taken-within free slots slot lowest taken =
    let there = first_below-some (length free) (is_free free) slot lowest in
    subst (λ (xs : List Bool). slot < length xs) (sym taken) (subst (λ (n : ℕ). slot < n) (sym (length-set free slot false)) there.0)

-- a slot that was taken and freed again
pub given-again : (free : List Bool) (slot : ℕ) → lowest_free free ≡ Some slot → slice_set (slice_set free slot false) slot true ≡ free
given-again free slot lowest = grind (arith, first_below-some, set-set, set-get_or)

-- none is free, or the device stopped
pub puts-untaken : (s : Sessions) (h : Hidden) (n : ℕ) (snapshot : Seen) (writes : List Write) (v : Content) (slots : List Bool) (before now : Device) (fault : Fault) → IsOrderly before → HoldsOn s h before → transaction_at s.transactions n ≡ Some (Active snapshot writes)
    → is_full_of v.key writes ≡ false → length v.row ≤ row_limit s.numbers.geometry.version → own_of v.key writes ≡ None → slots ≡ s.slots → (fault ≡ SlotsOut) ⊎ (fault ≡ DeviceFault) → (fault ≡ SlotsOut → lowest_free s.slots ≡ None) → (fault ≡ SlotsOut → now ≡ before)
    → (fault ≡ DeviceFault → (slot : ℕ) × (lowest_free s.slots ≡ Some slot) × StopsWithin (clear_operations s.numbers.geometry n slot) before now) → GoesOn s (record s { slots = slots }) before now (Put n v.key v.row) (Refused fault) h
puts-untaken s h n snapshot writes v slots before now fault orderly holds at room short-row none same either out unmoved stops =
    subst (λ (xs : List Bool). GoesOn s (record s { slots = xs }) before now (Put n v.key v.row) (Refused fault) h) (sym same) (by either)
  where
    by : (fault ≡ SlotsOut) ⊎ (fault ≡ DeviceFault) → GoesOn s s before now (Put n v.key v.row) (Refused fault) h
    by (inl is) =
        let free : free_slot (plain_of s h) ≡ None = sym (free-is s h (held-on s h before holds)) ∙ out is in
        let own = own_slot-is h.origin (plain_of s h) n v.key (own_of v.key writes) holds.upholds.keeps (own s h n snapshot writes v 0 None before now holds at room short-row) ∙ none in
        let lacks : lacks_slot (plain_of s h) (step.Put n v.key v.row) ≡ true = (λ i. is_none (own i) && is_none (free i)) in
        subst (λ (d : Device). GoesOn s s before d (Put n v.key v.row) (Refused fault) h) (sym (unmoved is))
        (refused-on s before (Put n v.key v.row) fault h orderly holds (put-asks s h n v.key v.row snapshot writes false true (held-on s h before holds) at short-row room lacks ∙ ap (λ (f : Fault). Some f) (sym is)))
    by (inr is) =
        let stopped = stops is in
        puts-taken-stopped s h n snapshot writes v stopped.0 None before now holds at room short-row none stopped.1 fault is (stops-first (fill_operations s.numbers.geometry stopped.0 v) stopped.2)

-- the device stopped in filling the slot, which is freed again
pub puts-returned : (s : Sessions) (h : Hidden) (n : ℕ) (snapshot : Seen) (writes : List Write) (v : Content) (slot : ℕ) (slots : List Bool) (before mid now : Device) (fault : Fault) → HoldsOn s h before → transaction_at s.transactions n ≡ Some (Active snapshot writes)
    → is_full_of v.key writes ≡ false → length v.row ≤ row_limit s.numbers.geometry.version → own_of v.key writes ≡ None → lowest_free s.slots ≡ Some slot → slots ≡ slice_set (slice_set s.slots slot false) slot true → fault ≡ DeviceFault
    → Runs (clear_operations s.numbers.geometry n slot) before mid → StopsWithin (fill_operations s.numbers.geometry slot v) mid now → GoesOn s (record s { slots = slots }) before now (Put n v.key v.row) (Refused fault) h
puts-returned s h n snapshot writes v slot slots before mid now fault holds at room short-row none lowest given is run stops =
    subst (λ (xs : List Bool). GoesOn s (record s { slots = xs }) before now (Put n v.key v.row) (Refused fault) h) (sym (given ∙ given-again s.slots slot lowest))
    (puts-taken-stopped s h n snapshot writes v slot None before now holds at room short-row none lowest fault is (stops-then run stops))

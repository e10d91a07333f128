-- Steps that give slots back: Abort and Delete.
use Rattle.std.proofs.Common.{◌≡◌, ◌⊎◌, inl, inr, ℕ, ◌<◌, Bool, true, false, ◌&&◌, cond, List, [], ◌∷◌, length, refl, sym, ◌∙◌, ap, subst, arith, length-set}
use Rattle.std.specs.Prelude.{Option, Some, None, is_none, All, slice_get, nat_le}
use Rattle.std.specs.Option.{option_map, option_and_then}
use Rattle.std.proofs.lemmas.Bool.Decides.{nat_tests}
use Rattle.std.proofs.lemmas.List.Elements.{All-contains}
use Rattle.base.specs.declared.key.Key.{Key}
use Rattle.base.specs.declared.fault.Fault.TheVariants.{WriteSetFull}
use Rattle.base.specs.declared.step.Step.TheVariants as step
use Rattle.base.specs.declared.step.SessionStep.TheVariants.{Abort, Delete}
use Rattle.base.specs.declared.step.SessionReply.TheVariants.{Done}
use Rattle.base.specs.Commits.{Writes, with_write}
use Rattle.base.specs.Keys.{key_eq, lookup_key}
use Rattle.base.specs.Search.{first_of as first_there, some_if}
use Rattle.base.specs.Lists.{replaced}
use Rattle.machine.specs.Machine.{Session, Active as Reads, Version, BySession, answered, refusal, is_held_by, is_own_at, begun_of, writes_of, held_after_abort, held_after_delete, most_writes}
use Rattle.snapshot.specs.Snapshots.{Seen}
use Rattle.txn.specs.declared.transaction.Transaction.{Transaction}
use Rattle.txn.specs.declared.transaction.Transaction.TheVariants.{Active}
use Rattle.txn.specs.declared.write.Write.{Write}
use Rattle.txn.specs.Transactions.{transaction_at, Sets}
use Rattle.txn.specs.WriteSets.{plain_writes, write_of, with_write_at}
use Rattle.txn.proofs.Found.{all-with_write_at}
use Rattle.txn.proofs.Plain.{plain_writes-with_write_at, lookup_key-plain_writes, length-plain_writes}
use Rattle.state_invariant.specs.Kept.{version_by}
use Rattle.state_invariant.proofs.Lookups.{apart-keys, held-by}
use Rattle.state_invariant.proofs.sessions.Steps.{version-parts, own-at}
use Rattle.session_steps.specs.declared.sessions.Sessions.{Sessions}
use Rattle.session_steps.specs.Giving.{fits_slot, fits_writes, ReleasesSlots, own_of, given, is_full_of}
use Rattle.simulation.specs.steps.Moves.{IsSlotOf}
use Rattle.session_steps.specs.Shows.{Hidden, plain_of, plain_session, HasItsSlot, HoldsSession}
use Rattle.session_steps.specs.Steps.{Holds, Goes}
use Rattle.session_steps.proofs.transactions.Agrees.{agrees-changed}
use Rattle.session_steps.proofs.slots.Freed.{given-same, given-other}
use Rattle.session_steps.proofs.slots.Held.{is_nobodys_or}
use Rattle.session_steps.proofs.transactions.Sets.{sessions-kept}
use Rattle.session_steps.proofs.slots.Owned.{found-in, fits-all, own-is, own-test, rising-plain}
use Rattle.session_steps.proofs.transactions.Steps.{found}
use Rattle.session_steps.proofs.Refusals.{passes}
use Rattle.session_steps.proofs.CodeTests.{same-drawers}

-- the slots of an Active session's writes fit
pub fits-held : (s : Sessions) (n : ℕ) (snapshot : Seen) (writes : List Write) (h : Hidden) → transaction_at s.transactions n ≡ Some (Active snapshot writes) → Holds s h → fits_writes (length s.slots) writes ≡ true
fits-held s n snapshot writes h at holds =
    ap (λ (len : ℕ). fits_writes len writes) holds.agrees.counted
    ∙ fits-all (plain_of s h) n writes (subst (HoldsSession h.origin (plain_of s h) n (h.seen n)) at (holds.agrees.sessions n)).1

-- and so does the slot of its write of a key
pub fits-own_of : (s : Sessions) (n : ℕ) (key : Key) (snapshot : Seen) (writes : List Write) (h : Hidden) → transaction_at s.transactions n ≡ Some (Active snapshot writes) → Holds s h → fits_slot (length s.slots) (own_of key writes) ≡ true
fits-own_of s n key snapshot writes h at holds =
    ap (λ (len : ℕ). fits_slot len (own_of key writes)) holds.agrees.counted
    ∙ by (own_of key writes) (own-is h.origin (plain_of s h) n (h.seen n) writes holds.keeps (found s h n _ at) (subst (HoldsSession h.origin (plain_of s h) n (h.seen n)) at (holds.agrees.sessions n)).1 key)
  where
    by : (o : Option ℕ) → IsSlotOf (plain_of s h) (version_by key (BySession n)) o → fits_slot s.numbers.geometry.slots o ≡ true
    by None is = refl
    by (Some slot) is = let lt = is.0 in grind (arith, nat_tests)

-- ---- Abort

held-test : (n : ℕ) (key : Key) → is_held_by n (Some (version_by key (BySession n))) ≡ true
held-test n key = grind (arith, nat_tests)

-- what is held by a session is nobody's or its
nobodys : (n : ℕ) (o : Option Version) → is_held_by n o ≡ true → is_nobodys_or n o ≡ true
nobodys n a is = grind (arith)

pub aborts : (s : Sessions) (ts : List (Option Transaction)) (slots : List Bool) (n : ℕ) (snapshot : Seen) (writes : List Write) (h : Hidden) → transaction_at s.transactions n ≡ Some (Active snapshot writes)
    → ReleasesSlots writes s.slots slots → Sets s.transactions ts n None → Holds s h → Goes s (record s { transactions = ts; slots = slots }) (Abort n) Done h
aborts s ts slots n snapshot writes h at gives sets holds = record {
  next = record h { held = held_after_abort (plain_of s h) n };
  origin = refl;
  drawers = same-drawers s.drawn.commits;
  agrees = agrees-changed s h ts slots h.seen (held_after_abort (plain_of s h) n) n None holds.agrees sets (λ slot. moves slot (is_held_by n (h.held slot)) refl) (λ m apart. refl) tt (λ m ws begun. absurd (cc begun))
      (λ k d lt there. absurd (cc (at, there))) (λ slot lt. free slot lt (is_held_by n (h.held slot)) refl) (gives.size ∙ holds.agrees.counted);
  stepped = answered (passes (plain_of s h) (step.Abort n) n _ holds.works refl (found s h n _ at) refl) refl
      (λ i. record (plain_of s h) { sessions = λ m. sessions-kept s.transactions ts h.seen n None sets m i; held = held_after_abort (plain_of s h) n });
}
  where
    session : HoldsSession h.origin (plain_of s h) n (h.seen n) (Some (Active snapshot writes))
    session = subst (HoldsSession h.origin (plain_of s h) n (h.seen n)) at (holds.agrees.sessions n)

    moves : (slot : ℕ) (b : Bool) → is_held_by n (h.held slot) ≡ b → (cond b None (h.held slot) ≡ h.held slot) ⊎ ((is_nobodys_or n (h.held slot) ≡ true) × (is_nobodys_or n (cond b None (h.held slot)) ≡ true))
    moves slot true is = inr (nobodys n (h.held slot) is, refl)
    moves slot false is = inl refl

    free : (slot : ℕ) → slot < s.numbers.geometry.slots → (b : Bool) → is_held_by n (h.held slot) ≡ b → slice_get slots slot ≡ Some (is_none (cond b None (h.held slot)))
    free slot lt true is = by (write_of own.0 writes) refl (own-is h.origin (plain_of s h) n (h.seen n) writes holds.keeps (found s h n _ at) session.1 own.0)
      where
        own : (key : Key) × (h.held slot ≡ Some (version_by key (BySession n)))
        own = held-by n (h.held slot) is

        by : (o : Option Write) → write_of own.0 writes ≡ o → IsSlotOf (plain_of s h) (version_by own.0 (BySession n)) (own_of own.0 writes) → slice_get slots slot ≡ Some true
        by None none at' = absurd (subst (λ (w : Option Write). IsSlotOf (plain_of s h) (version_by own.0 (BySession n)) (option_and_then (λ (w : Write). w.slot) w)) none at' slot lt own.1)
        by (Some write) some at' = which write.slot refl (subst (λ (w : Option Write). IsSlotOf (plain_of s h) (version_by own.0 (BySession n)) (option_and_then (λ (w : Write). w.slot) w)) some at')
          where
            which : (o : Option ℕ) → write.slot ≡ o → IsSlotOf (plain_of s h) (version_by own.0 (BySession n)) o → slice_get slots slot ≡ Some true
            which None none is = absurd (is slot lt own.1)
            which (Some other) its is =
                let same : other ≡ slot = holds.keeps.owns.once other slot (version_by own.0 (BySession n)) is.0 lt is.1 own.1 in
                gives.given write slot (found-in own.0 writes write some).0 (its ∙ ap (λ (k : ℕ). Some k) same)
    free slot lt false is = gives.others slot (λ write in_set has. never write has (All-contains (HasItsSlot (plain_of s h) (BySession n)) writes write session.1 in_set)) ∙ holds.agrees.free slot lt
      where
        never : (write : Write) → write.slot ≡ Some slot → HasItsSlot (plain_of s h) (BySession n) write → ⊥
        never write has its =
            let there = subst (IsSlotOf (plain_of s h) (version_by write.key (BySession n))) has its.slot in
            let held : is_held_by n (h.held slot) ≡ true = ap (is_held_by n) there.1 ∙ held-test n write.key in
            absurd (cc (held, is))

-- ---- Delete

-- the deletion of a key
abbrev pub deletion : Key → Option ℕ → Write
deletion key place = record { key = key; row = None; slot = None; place = place }

-- the writes are full as the machine says
pub full-plain : (key : Key) (writes : List Write) → (is_none (lookup_key (plain_writes writes) key) && nat_le most_writes (length (plain_writes writes))) ≡ is_full_of key writes
full-plain key writes = grind (arith, lookup_key-plain_writes, length-plain_writes) steps 800000

-- what is asked of a delete that its session allows
pub delete-asks : (s : Sessions) (h : Hidden) (n : ℕ) (key : Key) (snapshot : Seen) (writes : List Write) (full : Bool) → Holds s h → transaction_at s.transactions n ≡ Some (Active snapshot writes) → is_full_of key writes ≡ full
    → refusal (plain_of s h) (step.Delete n key) ≡ first_there (some_if full WriteSetFull ∷ [])
delete-asks s h n key snapshot writes full holds at is_full = grind (arith, passes, full-plain) steps 800000

-- another key's version is another
other-version : (n : ℕ) (key other : Key) (o : Option Version) → key_eq key other ≡ false → o ≡ Some (version_by other (BySession n)) → is_own_at n key o ≡ true → ⊥
other-version n key other o apart at own = grind (arith, own-at, apart-keys, version-parts)

pub deletes : (s : Sessions) (ts : List (Option Transaction)) (slots : List Bool) (n : ℕ) (key : Key) (place : Option ℕ) (snapshot : Seen) (writes : List Write) (h : Hidden) → transaction_at s.transactions n ≡ Some (Active snapshot writes)
    → is_full_of key writes ≡ false → slots ≡ given (own_of key writes) s.slots → Sets s.transactions ts n (Some (Active snapshot (with_write_at (deletion key place) writes))) → Holds s h
    → Goes s (record s { transactions = ts; slots = slots }) (Delete n key) Done h
deletes s ts slots n key place snapshot writes h at full gives sets holds = record {
  next = record h { held = held };
  origin = refl;
  drawers = same-drawers s.drawn.commits;
  agrees = agrees-changed s h ts slots h.seen held n (Some (Active snapshot (with_write_at (deletion key place) writes))) holds.agrees sets (λ slot. moves slot (is_own_at n key (h.held slot)) refl) (λ m apart. refl)
      (record { covered = session.0.covered; early = session.0.early; gaps = session.0.gaps }, written)
      (λ m ws begun. inr (n, plain_writes writes, found s h n _ at ∙ ap (λ (k : ℕ). Some (Reads k (plain_writes writes))) (begun-is m ws begun))) (λ k d lt there. absurd (cc (at, there))) (λ slot lt. free slot lt (is_own_at n key (h.held slot)) refl (own_of key writes) own gives) (counted (own_of key writes) gives);
  stepped = answered (delete-asks s h n key snapshot writes false holds at full) refl
      (λ i. record (plain_of s h) { sessions = λ m. (sessions-kept s.transactions ts h.seen n (Some (Active snapshot (with_write_at (deletion key place) writes))) sets m ∙ ap (λ (x : Option Session). replaced n x (plain_of s h).sessions m) now) i; held = held });
}
  where
    held : ℕ → Option Version
    held = held_after_delete (plain_of s h) n key

    begun-is : (m : ℕ) (ws : Writes) → Some (Reads (h.seen n) (plain_writes (with_write_at (deletion key place) writes))) ≡ Some (Reads m ws) → h.seen n ≡ m
    begun-is m ws begun = cc begun

    session : HoldsSession h.origin (plain_of s h) n (h.seen n) (Some (Active snapshot writes))
    session = subst (HoldsSession h.origin (plain_of s h) n (h.seen n)) at (holds.agrees.sessions n)

    own : IsSlotOf (plain_of s h) (version_by key (BySession n)) (own_of key writes)
    own = own-is h.origin (plain_of s h) n (h.seen n) writes holds.keeps (found s h n _ at) session.1 key

    now : ◌≡◌ {A = Option Session} (Some (Reads (h.seen n) (plain_writes (with_write_at (deletion key place) writes)))) (Some (Reads (begun_of ((plain_of s h).sessions n)) (with_write key None (writes_of ((plain_of s h).sessions n)))))
    now = ap (λ (ws : Writes). Some (Reads (h.seen n) ws)) (plain_writes-with_write_at (deletion key place) writes) ∙ sym (ap (λ (t : Option Transaction). Some (Reads (begun_of (option_map (plain_session (h.seen n)) t)) (with_write key None (writes_of (option_map (plain_session (h.seen n)) t))))) at)

    moves : (slot : ℕ) (b : Bool) → is_own_at n key (h.held slot) ≡ b → (cond b None (h.held slot) ≡ h.held slot) ⊎ ((is_nobodys_or n (h.held slot) ≡ true) × (is_nobodys_or n (cond b None (h.held slot)) ≡ true))
    moves slot true is = inr (ap (is_nobodys_or n) (own-at n key (h.held slot) is) ∙ held-test n key, refl)
    moves slot false is = inl refl

    free : (slot : ℕ) → slot < s.numbers.geometry.slots → (b : Bool) → is_own_at n key (h.held slot) ≡ b → (o : Option ℕ) → IsSlotOf (plain_of s h) (version_by key (BySession n)) o → slots ≡ given o s.slots
        → slice_get slots slot ≡ Some (is_none (cond b None (h.held slot)))
    free slot lt true is None none gives = absurd (none slot lt (own-at n key (h.held slot) is))
    free slot lt true is (Some other) has gives =
        let same : other ≡ slot = holds.keeps.owns.once other slot (version_by key (BySession n)) has.0 lt has.1 (own-at n key (h.held slot) is) in
        ap (λ (xs : List Bool). slice_get xs slot) gives ∙ ap (λ (k : ℕ). slice_get (given (Some other) s.slots) k) (sym same) ∙ given-same s.slots other (subst (λ (len : ℕ). other < len) (sym holds.agrees.counted) has.0)
    free slot lt false is None none gives = ap (λ (xs : List Bool). slice_get xs slot) gives ∙ holds.agrees.free slot lt
    free slot lt false is (Some other) has gives = ap (λ (xs : List Bool). slice_get xs slot) gives ∙ given-other s.slots other slot never ∙ holds.agrees.free slot lt
      where
        never : slot ≡ other → ⊥
        never same =
            let there : is_own_at n key (h.held slot) ≡ true = ap (λ (k : ℕ). is_own_at n key (h.held k)) same ∙ ap (is_own_at n key) has.1 ∙ own-test n key in
            absurd (cc (there, is))

    counted : (o : Option ℕ) → slots ≡ given o s.slots → length slots ≡ s.numbers.geometry.slots
    counted None gives = ap (λ (xs : List Bool). length xs) gives ∙ holds.agrees.counted
    counted (Some slot) gives = ap (λ (xs : List Bool). length xs) gives ∙ length-set s.slots slot true ∙ holds.agrees.counted

    -- a version of another key keeps its slot
    kept : (other : Key) → key_eq key other ≡ false → (o : Option ℕ) → IsSlotOf (plain_of s h) (version_by other (BySession n)) o
        → IsSlotOf (plain_of (record s { transactions = ts; slots = slots }) (record h { held = held })) (version_by other (BySession n)) o
    kept other apart (Some slot) has = (has.0, by (is_own_at n key (h.held slot)) refl)
      where
        by : (b : Bool) → is_own_at n key (h.held slot) ≡ b → cond b None (h.held slot) ≡ Some (version_by other (BySession n))
        by true is = absurd (other-version n key other (h.held slot) apart has.1 is)
        by false is = has.1
    kept other apart None none = λ slot lt there. none slot lt (by slot (is_own_at n key (h.held slot)) there)
      where
        by : (slot : ℕ) (b : Bool) → cond b None (h.held slot) ≡ Some (version_by other (BySession n)) → h.held slot ≡ Some (version_by other (BySession n))
        by slot true there = absurd (cc there)
        by slot false there = there

    gone : (slot : ℕ) (b : Bool) → is_own_at n key (h.held slot) ≡ b → cond b None (h.held slot) ≡ Some (version_by key (BySession n)) → ⊥
    gone slot true is there = absurd (cc there)
    gone slot false is there =
        let own : is_own_at n key (h.held slot) ≡ true = ap (is_own_at n key) there ∙ own-test n key in
        absurd (cc (own, is))

    written : All (HasItsSlot (plain_of (record s { transactions = ts; slots = slots }) (record h { held = held })) (BySession n)) (with_write_at (deletion key place) writes)
    written =
        all-with_write_at (HasItsSlot (plain_of (record s { transactions = ts; slots = slots }) (record h { held = held })) (BySession n)) (deletion key place) writes (rising-plain h.origin (plain_of s h) n (h.seen n) writes holds.keeps (found s h n _ at))
        (record { slot = λ slot lt there. gone slot (is_own_at n key (h.held slot)) refl there; row = refl })
        (λ k d lt apart. record { slot = kept _ apart _ (session.1 k d lt).slot; row = (session.1 k d lt).row })

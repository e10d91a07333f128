-- The keys that a draw notes in the index, and the slots whose lines it touches.
use Rattle.std.proofs.Common.{◌≡◌, ℕ, zero, suc, ◌+◌, ◌<◌, Bool, true, false, ◌&&◌, cond, List, [], ◌∷◌, ◌++◌, length, take, refl, sym, ◌∙◌, ap, subst, arith, get_or}
use Rattle.std.specs.Prelude.{Option, Some, None, All, slice_get, IsTrue}
use Rattle.std.specs.List.{list_all}
use Rattle.std.specs.Option.{option_or}
use Rattle.std.proofs.lemmas.Bool.{and_from, and_parts}
use Rattle.std.proofs.lemmas.Bool.Decides.{nat_tests}
use Rattle.std.proofs.lemmas.List.{take_more, take-append-drop}
use Rattle.std.proofs.lemmas.List.Elements.{All-head, All-tail}
use Rattle.std.proofs.lemmas.List.Folds.{find-append}
use Rattle.std.proofs.lemmas.Option.{slice_get-get_or}
use Rattle.base.specs.declared.key.Key.{Key}
use Rattle.base.specs.Keys.{key_eq}
use Rattle.machine.specs.Machine.{State, Version, BySession, ByCommit}
use Rattle.base.proofs.Keys.{key_eq-true}
use Rattle.base.proofs.Layouts.{few_slots}
use Rattle.base.specs.Layout.{Layout, is_in_limits}
use Rattle.snapshot.specs.Snapshots.{Seen}
use Rattle.txn.specs.declared.transaction.Transaction.TheVariants.{Active}
use Rattle.txn.specs.declared.write.Write.{Write}
use Rattle.txn.specs.Transactions.{transaction_at}
use Rattle.txn.specs.WriteSets.{IsRising, write_of}
use Rattle.txn.proofs.Rising.{find_from_at}
use Rattle.index.specs.declared.entry.Entry.{Entry}
use Rattle.index.specs.Entries.{entry_at, live_of, Sets}
use Rattle.index.specs.Keyed.{is_kept}
use Rattle.simulation.specs.steps.Moves.{IsSlotOf}
use Rattle.session_steps.specs.declared.sessions.Sessions.{Sessions}
use Rattle.session_steps.specs.Covering.{AreKept}
use Rattle.session_steps.specs.Drawing.{drawn_entry, fits_touched}
use Rattle.session_steps.specs.Giving.{fits_slot}
use Rattle.session_steps.specs.Shows.{Hidden, plain_of, HasItsSlot, HoldsSession}
use Rattle.session_steps.specs.Steps.{Holds}

-- one key more
pub note-next : (writes : List Write) (i t : ℕ) (write : Write) (old mid new : List (Key × Entry)) → i < length writes → write ≡ get_or writes i write → IsRising writes
    → ((key : Key) → entry_at mid key ≡ drawn_entry (write_of key (take i writes)) t (entry_at old key)) → Sets mid new write.key (record (entry_at mid write.key) { drawn = write.slot; last = Some t })
    → (key : Key) → entry_at new key ≡ drawn_entry (write_of key (take (i + 1) writes)) t (entry_at old key)
note-next writes i t write old mid new lt is rising before sets key =
    sets key
    ∙ by (key_eq write.key key) refl (write_of key (take i writes)) refl
    ∙ sym (ap (λ (o : Option Write). drawn_entry o t (entry_at old key)) (ap (λ (ws : List Write). write_of key ws) (take_more writes i write lt ∙ ap (λ (w : Write). take i writes ++ w ∷ []) (sym is)) ∙ find-append (λ (w : Write). key_eq w.key key) (take i writes) (write ∷ [])))
  where
    at : slice_get writes i ≡ Some write
    at = slice_get-get_or writes i write lt ∙ ap (λ (w : Write). Some w) (sym is)

    -- a write of the key that came before is this one
    one : (w : Write) → key_eq write.key key ≡ true → write_of key (take i writes) ≡ Some w → w ≡ write
    one w same found = grind (arith, take-append-drop i writes, find-append, find_from_at writes i write rising at)

    by : (b : Bool) → key_eq write.key key ≡ b → (o : Option Write) → write_of key (take i writes) ≡ o
        → cond b (record (entry_at mid write.key) { drawn = write.slot; last = Some t }) (entry_at mid key) ≡ drawn_entry (option_or o (cond b (Some write) None)) t (entry_at old key)
    by true same None found = grind (arith, key_eq-true write.key key same)
    by true same (Some w) found = grind (arith, key_eq-true write.key key same, one w same found)
    by false apart None found = before key ∙ ap (λ (o : Option Write). drawn_entry o t (entry_at old key)) found
    by false apart (Some w) found = before key ∙ ap (λ (o : Option Write). drawn_entry o t (entry_at old key)) found

-- ---- the slots that a draw touches

-- a draw leaves which covered row it ends
pub live-drawn : (o : Option Write) (t : ℕ) (entry : Entry) → live_of (drawn_entry o t entry) ≡ live_of entry
live-drawn a t entry = grind (arith)

pub fits-of : (q : State) (v : Version) (o : Option ℕ) → IsSlotOf q v o → fits_slot q.layout.slots o ≡ true
fits-of q v a is = grind (arith, nat_tests)

-- a slot that fits is one of few
pub kept-of : (a : Layout) (o : Option ℕ) → IsTrue (is_in_limits a) → fits_slot a.slots o ≡ true → is_kept o ≡ true
kept-of a None limits fits = refl
kept-of a (Some slot) limits fits = let few = few_slots a limits in grind (arith, nat_tests)

all-test : {X : Type 0} (P : X → Type 0) (p : X → Bool) (xs : List X) → All P xs → ((x : X) → P x → p x ≡ true) → list_all p xs ≡ true
all-test P p [] all each = refl
all-test P p (x ∷ xs) all each = and_from (p x) (list_all p xs) (each x (All-head P x xs all)) (all-test P p xs (All-tail P x xs all) each)

pub fits-lines : (s : Sessions) (h : Hidden) (n : ℕ) (snapshot : Seen) (writes : List Write) (index : List (Key × Entry)) → Holds s h → transaction_at s.transactions n ≡ Some (Active snapshot writes) → ((key : Key) → entry_at index key ≡ entry_at s.index key)
    → fits_touched s.numbers.geometry index writes ≡ true
fits-lines s h n snapshot writes index holds at same =
    all-test (HasItsSlot (plain_of s h) (BySession n)) (λ write. fits_slot s.numbers.geometry.slots write.slot && fits_slot s.numbers.geometry.slots (live_of (entry_at index write.key))) writes
    (subst (HoldsSession h.origin (plain_of s h) n (h.seen n)) at (holds.agrees.sessions n)).1
    (λ write has. and_from (fits_slot s.numbers.geometry.slots write.slot) (fits_slot s.numbers.geometry.slots (live_of (entry_at index write.key))) (fits-of (plain_of s h) _ write.slot has.slot)
    (ap (λ (e : Entry). fits_slot s.numbers.geometry.slots (live_of e)) (same write.key) ∙ fits-of (plain_of s h) _ (live_of (entry_at s.index write.key)) (holds.agrees.index write.key).live))

-- the slots of writes that were drawn are few
pub kept-all : (q : State) (t : ℕ) (writes : List Write) → IsTrue (is_in_limits q.layout) → All (HasItsSlot q (ByCommit t)) writes → AreKept writes
kept-all q t writes limits all i write lt =
    let own = get_or writes i write in
    kept-of q.layout own.slot limits (fits-of q _ own.slot (all i write lt).slot)

-- so are those of writes that are to be drawn
pub kept-at : (a : Layout) (index : List (Key × Entry)) (writes : List Write) (i : ℕ) (write : Write) → IsTrue (is_in_limits a) → fits_touched a index writes ≡ true → slice_get writes i ≡ Some write → is_kept write.slot ≡ true
kept-at a index [] i write limits all at = absurd (cc at)
kept-at a index (first ∷ writes) zero write limits all at =
    let here = and_parts (fits_slot a.slots first.slot && fits_slot a.slots (live_of (entry_at index first.key))) (fits_touched a index writes) all in
    let fits = and_parts (fits_slot a.slots first.slot) (fits_slot a.slots (live_of (entry_at index first.key))) here.0 in
    let same : first ≡ write = cc at in
    ap (λ (w : Write). is_kept w.slot) (sym same) ∙ kept-of a first.slot limits fits.0
kept-at a index (first ∷ writes) (suc i) write limits all at =
    kept-at a index writes i write limits (and_parts (fits_slot a.slots first.slot && fits_slot a.slots (live_of (entry_at index first.key))) (fits_touched a index writes) all).1 at

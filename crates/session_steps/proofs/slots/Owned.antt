-- The slots that a session's writes have are those that it holds.
use Rattle.std.proofs.Common.{◌≡◌, ℕ, ◌<◌, Bool, true, false, ◌&&◌, List, [], ◌∷◌, map, refl, sym, ◌∙◌, ap, subst, arith, nat_eq, Contains}
use Rattle.std.specs.Prelude.{Option, Some, None, All}
use Rattle.std.specs.Option.{option_map, option_and_then}
use Rattle.std.proofs.lemmas.Bool.{and_from}
use Rattle.std.proofs.lemmas.Bool.Decides.{nat_tests}
use Rattle.std.proofs.lemmas.List.Elements.{All-contains, All-head, All-tail}
use Rattle.std.proofs.lemmas.Option.{slice_get-get_or, slice_get_within, get_or_from_slice_get}
use Rattle.base.specs.declared.key.Key.{Key}
use Rattle.base.specs.Keys.{lookup_key, is_rising}
use Rattle.machine.specs.Machine.{State, Session, Active as Reads, Version, BySession, writes_of, own_slot, is_own_at}
use Rattle.base.proofs.Keys.{key_eq-true, key_eq-same}
use Rattle.base.proofs.Search.{first_below-nowhere}
use Rattle.txn.specs.declared.write.Write.{Write}
use Rattle.txn.specs.WriteSets.{IsRising, write_of, plain_writes}
use Rattle.txn.proofs.Rising.{find_place, find_from_at}
use Rattle.txn.proofs.Plain.{lookup_key-plain_writes}
use Rattle.state_invariant.specs.Kept.{Origin, Keeps, version_by}
use Rattle.state_invariant.proofs.Lookups.{first_below-lowest}
use Rattle.state_invariant.proofs.sessions.Steps.{own-at}
use Rattle.session_steps.specs.Giving.{fits_slot, fits_writes, own_of}
use Rattle.simulation.specs.steps.Moves.{IsSlotOf}
use Rattle.session_steps.specs.Shows.{HasItsSlot}

-- a version is its session's for its key
pub own-test : (n : ℕ) (key : Key) → is_own_at n key (Some (version_by key (BySession n))) ≡ true
own-test n key = let same : nat_eq n n ≡ true = grind (arith, nat_tests) in (λ i. same i && key_eq-same key i)

-- what is found under a key is one of the writes, and has the key
pub found-in : (key : Key) (writes : List Write) (write : Write) → write_of key writes ≡ Some write → Contains writes write × (write.key ≡ key)
found-in key writes write found = grind (arith, find_place, get_or_from_slice_get, slice_get_within, key_eq-true)

-- each of the writes is what is found under its key
pub contained-found : (writes : List Write) (write : Write) → IsRising writes → Contains writes write → write_of write.key writes ≡ Some write
contained-found writes write rising in_set = find_from_at writes in_set.0 write rising (slice_get-get_or writes in_set.0 write in_set.1 ∙ ap (λ (w : Write). Some w) in_set.2)

-- the slots of writes that have theirs fit
pub fits-all : (q : State) (n : ℕ) (writes : List Write) → All (HasItsSlot q (BySession n)) writes → fits_writes q.layout.slots writes ≡ true
fits-all q n [] all = refl
fits-all q n (write ∷ writes) all =
    and_from (fits_slot q.layout.slots write.slot) (fits_writes q.layout.slots writes) (by write.slot (All-head (HasItsSlot q (BySession n)) write writes all).slot) (fits-all q n writes (All-tail (HasItsSlot q (BySession n)) write writes all))
  where
    by : (o : Option ℕ) → IsSlotOf q (version_by write.key (BySession n)) o → fits_slot q.layout.slots o ≡ true
    by None is = refl
    by (Some slot) is = let lt = is.0 in grind (arith, nat_tests)

-- their keys
pub keys-plain : (writes : List Write) → map (λ (w : Key × Option (List ℕ)). w.0) (plain_writes writes) ≡ map (λ (w : Write). w.key) writes
keys-plain [] = refl
keys-plain (write ∷ writes) = ap (λ (keys : List Key). write.key ∷ keys) (keys-plain writes)

-- the writes are by rising key
pub rising-plain : (o : Origin) (q : State) (n begun : ℕ) (writes : List Write) → Keeps o q → q.sessions n ≡ Some (Reads begun (plain_writes writes)) → IsRising writes
rising-plain o q n begun writes keeps reading =
    ap (λ (keys : List Key). is_rising keys) (sym (keys-plain writes)) ∙ ap (λ (s : Option Session). is_rising (map (λ (w : Key × Option (List ℕ)). w.0) (writes_of s))) (sym reading) ∙ keeps.draws.sorted n

module _ (o : Origin) (q : State) (n begun : ℕ) (writes : List Write) (keeps : Keeps o q) (reading : q.sessions n ≡ Some (Reads begun (plain_writes writes))) (all : All (HasItsSlot q (BySession n)) writes) where
  looked-up : (key : Key) → lookup_key (writes_of (q.sessions n)) key ≡ option_map (λ (w : Write). w.row) (write_of key writes)
  looked-up key = ap (λ (s : Option Session). lookup_key (writes_of s) key) reading ∙ lookup_key-plain_writes writes key

  -- the slot of the session's write of a key is the one that it holds for the key
  pub own-is : (key : Key) → IsSlotOf q (version_by key (BySession n)) (own_of key writes)
  own-is key = by (write_of key writes) refl
    where
      absent : write_of key writes ≡ None → (slot : ℕ) → slot < q.layout.slots → q.held slot ≡ Some (version_by key (BySession n)) → ⊥
      absent none slot lt held =
          let has = keeps.owns.has slot (version_by key (BySession n)) lt held in
          grind (arith, looked-up)

      by : (w : Option Write) → write_of key writes ≡ w → IsSlotOf q (version_by key (BySession n)) (option_and_then (λ (w : Write). w.slot) w)
      by None none = absent none
      by (Some write) found =
          let there = found-in key writes write found in
          subst (λ (k : Key). IsSlotOf q (version_by k (BySession n)) write.slot) there.1 (All-contains (HasItsSlot q (BySession n)) writes write all there.0).slot

-- the machine's own slot is the slot that the version holds
pub own_slot-is : (o : Origin) (q : State) (n : ℕ) (key : Key) (own : Option ℕ) → Keeps o q → IsSlotOf q (version_by key (BySession n)) own → own_slot q n key ≡ own
own_slot-is o q n key (Some slot) keeps is =
    first_below-lowest q.layout.slots (λ s. is_own_at n key (q.held s)) slot is.0 (here (q.held slot) is.1) (λ k lt. before k lt (is_own_at n key (q.held k)) refl)
  where
    here : (v : Option Version) → v ≡ Some (version_by key (BySession n)) → is_own_at n key v ≡ true
    here v at = ap (is_own_at n key) at ∙ own-test n key

    before : (k : ℕ) → k < slot → (b : Bool) → is_own_at n key (q.held k) ≡ b → b ≡ false
    before k lt false test = refl
    before k lt true test =
        let within = is.0 in
        let same : k ≡ slot = keeps.owns.once k slot (version_by key (BySession n)) (omega arith) within (own-at n key (q.held k) test) is.1 in
        absurd (omega (arith, same, lt))
own_slot-is o q n key None keeps is = grind (arith, first_below-nowhere, own-at)

-- Free slots and covered rows, counted.
use Rattle.std.proofs.Common.{◌≡◌, inl, ℕ, zero, suc, ◌<◌, Bool, true, false, List, [], ◌∷◌, map, length, take, refl, sym, ◌∙◌, ap, arith, is_some}
use Rattle.std.specs.Prelude.{Option, Some, None, is_none, slice_get}
use Rattle.std.specs.List.{IsDistinct, AllByRecursion, list_any}
use Rattle.std.proofs.lemmas.Bool.{and_parts}
use Rattle.std.proofs.lemmas.List.{length-map, take_all}
use Rattle.std.proofs.lemmas.Option.{slice_get-get_or}
use Rattle.base.specs.declared.key.Key.{Key}
use Rattle.base.specs.Commits.{Commit, after, last_writer}
use Rattle.base.specs.Keys.{key_eq, key_lt, is_rising, lookup_key}
use Rattle.base.specs.Search.{count_below}
use Rattle.base.proofs.Keys.{key_eq-swap, key_lt-trans, key_lt-apart}
use Rattle.machine.specs.Machine.{State, ByCommit}
use Rattle.pmem.specs.Device.{Device}
use Rattle.slot_alloc.specs.Free.{is_free, free_count}
use Rattle.index.specs.Counting.{AreLive}
use Rattle.index.specs.Entries.{entry_at, live_of}
use Rattle.state_invariant.specs.Kept.{Origin, Keeps, version_by}
use Rattle.device_invariant.specs.Slots.{newest_of}
use Rattle.device_invariant.proofs.PresentValues.{wanted-newest}
use Rattle.simulation.specs.steps.Moves.{IsSlotOf}
use Rattle.session_steps.specs.declared.sessions.Sessions.{Sessions}
use Rattle.session_steps.specs.Shows.{Shows}
use Rattle.session_steps.specs.Usage.{free_slots, CountsRows}

-- ---- free slots

count_below-same : (n : ℕ) (f g : ℕ → Bool) → ((k : ℕ) → k < n → f k ≡ g k) → count_below n f ≡ count_below n g
count_below-same zero f g each = refl
count_below-same (suc n) f g each = grind (arith, count_below-same n f g)

is_free-at : (free : List Bool) (slot : ℕ) (b : Bool) → slot < length free → slice_get free slot ≡ Some b → is_free free slot ≡ b
is_free-at free slot b lt at = grind (arith, slice_get-get_or)

pub free-counted : (s : Sessions) (device : Device) (q : State) → Shows s device q → free_count s.slots ≡ free_slots q
free-counted s device q shows =
    ap (λ (n : ℕ). count_below n (is_free s.slots)) shows.agrees.counted
    ∙ count_below-same q.layout.slots (is_free s.slots) (λ slot. is_none (q.held slot)) (λ slot lt. is_free-at s.slots slot (is_none (q.held slot)) (omega (arith, lt, shows.agrees.counted)) (shows.agrees.free slot lt))

-- ---- covered rows

abbrev Row : Type 0
Row = Key × List ℕ

above : (a b : Key) (keys : List Key) → key_lt a b ≡ true → is_rising (b ∷ keys) ≡ true → AllByRecursion (λ y. key_eq a y ≡ false) keys
above a b [] lt rising = tt
above a b (c ∷ keys) lt rising = grind (arith, and_parts, key_lt-trans, key_lt-apart, above a c keys)

rising-distinct : (keys : List Key) → is_rising keys ≡ true → IsDistinct key_eq keys
unfolding IsDistinct
rising-distinct [] rising = tt
rising-distinct (a ∷ []) rising = (tt, tt)
rising-distinct (a ∷ b ∷ keys) rising =
    let both = and_parts (key_lt a b) (is_rising (b ∷ keys)) rising in
    ((key_lt-apart a b both.0, above a b keys both.0 both.1), rising-distinct (b ∷ keys) both.1)

member-looked : (rows : List Row) (key : Key) → list_any (key_eq key) (map (λ (row : Row). row.0) rows) ≡ is_some (lookup_key rows key)
member-looked [] key = refl
member-looked (row ∷ rows) key = grind (arith, key_eq-swap, member-looked rows key) steps 800000

-- the slot of a key's newest covered version is there exactly if the key has a covered row
live-row : (o : Origin) (q : State) → Keeps o q → (key : Key) (slot : Option ℕ) → IsSlotOf q (newest_of q key) slot → is_some slot ≡ is_some (after q.history key)
live-row o q kept key (Some slot) is =
    let has = kept.owns.has slot (newest_of q key) is.0 is.1 in
    ap is_some (sym has.1 ∙ wanted-newest o q kept key)
live-row o q kept key None none = by (after q.history key) refl
  where
    whole : take (length q.history) q.history ≡ q.history
    whole = take_all (length q.history) q.history (omega arith)

    by : (row : Option (List ℕ)) → after q.history key ≡ row → false ≡ is_some row
    by None is = refl
    by (Some row) is =
        let has = kept.owns.since_snapshot (length q.history) (inl refl) (length q.history) key row (omega arith) (omega arith) (ap (λ (cs : List Commit). after cs key) whole ∙ is) in
        absurd (none has.0 has.1 (has.2 ∙ ap (λ (cs : List Commit). Some (version_by key (ByCommit (last_writer cs key)))) whole))

pub rows-counted : (s : Sessions) (device : Device) (q : State) → Shows s device q → (count : ℕ) → ((keys : List Key) → AreLive keys s.index → count ≡ length keys) → CountsRows q count
rows-counted s device q shows count counted rows lists =
    counted (map (λ (row : Row). row.0) rows) (record {
      once = rising-distinct (map (λ (row : Row). row.0) rows) lists.rising;
      same = λ key. member-looked rows key ∙ ap is_some (lists.same key)
          ∙ sym (live-row shows.hidden.origin q shows.upholds.keeps key (live_of (entry_at s.index key)) (shows.agrees.index key).live);
    })
    ∙ length-map rows (λ (row : Row). row.0)

-- What agrees when one transaction is set, and its session takes slots and releases them.
use Rattle.std.proofs.Common.{◌≡◌, inl, inr, ℕ, ◌<◌, Bool, true, false, cond, List, length, refl, sym, ◌∙◌, ap, subst, nat_eq, arith}
use Rattle.std.specs.Prelude.{Option, Some, is_none, slice_get, All}
use Rattle.std.specs.Option.{option_map}
use Rattle.std.proofs.lemmas.Bool.Decides.{nat_tests}
use Rattle.base.specs.declared.key.Key.{Key}
use Rattle.base.specs.Commits.{Writes}
use Rattle.machine.specs.Machine.{State, Active as Reads, Version, ByCommit}
use Rattle.txn.specs.declared.drawn.DrawnCommit.{DrawnCommit}
use Rattle.txn.specs.declared.transaction.Transaction.{Transaction}
use Rattle.txn.specs.declared.transaction.Transaction.TheVariants.{Drawn}
use Rattle.txn.specs.Transactions.{transaction_at, Sets}
use Rattle.index.specs.Entries.{entry_at, live_of}
use Rattle.state_invariant.specs.Kept.{Origin, IsInUse}
use Rattle.device_invariant.specs.Slots.{newest_of}
use Rattle.session_steps.specs.declared.sessions.Sessions.{Sessions}
use Rattle.simulation.specs.sessions.Sees.{Sees}
use Rattle.session_steps.specs.Shows.{Hidden, plain_of, plain_session, HoldsSession, HoldsLast, HoldsDrawn, Agrees}
use Rattle.session_steps.proofs.transactions.Sets.{each-set}
use Rattle.session_steps.proofs.collector.Replaced.{moved-unreplaced}
use Rattle.session_steps.proofs.slots.Held.{SameBut, Moves, slot-kept, version-kept, version-before, writes-kept, table-kept}

-- what holds of a session that isn't the one
pub session-kept : (o : Origin) (n m : ℕ) (q q' : State) (seen : ℕ) (t : Option Transaction) → SameBut n q q' → ((snapshot : _) → Sees o q snapshot seen → Sees o q' snapshot seen) → nat_eq m n ≡ false
    → HoldsSession o q m seen t → HoldsSession o q' m seen t
session-kept o n m q q' seen a same sees apart holds = grind (arith, writes-kept)

-- what agrees, except for the sessions and the free slots
pub agrees-changed : (s : Sessions) (h : Hidden) (ts : List (Option Transaction)) (slots : List Bool) (seen : ℕ → ℕ) (held : ℕ → Option Version) (n : ℕ) (x : Option Transaction)
    → Agrees s h.origin h.seen (plain_of s h) → Sets s.transactions ts n x → Moves n h.held held
    → ((m : ℕ) → nat_eq m n ≡ false → seen m ≡ h.seen m)
    → HoldsSession h.origin (plain_of (record s { transactions = ts; slots = slots }) (record h { seen = seen; held = held })) n (seen n) x
    → ((m : ℕ) (writes : Writes) → option_map (plain_session (seen n)) x ≡ Some (Reads m writes) → IsInUse (plain_of s h) m)
    → All (λ (d : DrawnCommit). transaction_at s.transactions n ≡ Some (Drawn d.timestamp) → ⊥) s.drawn.commits
    → ((slot : ℕ) → slot < s.numbers.geometry.slots → slice_get slots slot ≡ Some (is_none (held slot))) → length slots ≡ s.numbers.geometry.slots
    → Agrees (record s { transactions = ts; slots = slots }) h.origin seen (plain_of (record s { transactions = ts; slots = slots }) (record h { seen = seen; held = held }))
agrees-changed s h ts slots seen held n x agrees sets moves same-seen here used apart free counted = record {
  sessions = each-set (λ m t. HoldsSession h.origin q' m (seen m) t) s.transactions ts n x sets here
      (λ m ne. subst (λ (k : ℕ). HoldsSession h.origin q' m k (transaction_at s.transactions m)) (sym (same-seen m ne)) (session-kept h.origin n m q q' (h.seen m) (transaction_at s.transactions m) same (λ snapshot sees. record { covered = sees.covered; early = sees.early; gaps = sees.gaps }) ne (agrees.sessions m)));
  drawn = λ k d lt. drawn _ (agrees.drawn k d lt) (apart k d lt);
  free = free;
  counted = counted;
  unreplaced = λ slot out. let was = agrees.unreplaced slot out in (was.0, moved-unreplaced n h.history (h.held slot) (held slot) (moves slot) was.1);
  index = λ key. let e = agrees.index key in record { live = slot-kept n q q' (newest_of q key) (live_of (entry_at s.index key)) same refl e.live; last = last-kept key (entry_at s.index key).last e.last; newest = λ t slot last lt at. e.newest t slot last lt (version-before n q q' key slot t same at); only = λ slot at. version-kept n q q' key slot same (e.only slot at); drawn = e.drawn };
  lines = table-kept n q q' s.drawn.commits s.dirty same agrees.lines;
  sized = agrees.sized;
}
  where
    q : State
    q = plain_of s h

    q' : State
    q' = plain_of (record s { transactions = ts; slots = slots }) (record h { seen = seen; held = held })

    same : SameBut n q q'
    same = record { layout = refl; history = refl; held = moves }

    -- no other snapshot is in use
    in-use : (m : ℕ) → IsInUse q' m → IsInUse q m
    in-use m (inl all) = inl all
    in-use m (inr one) = by one.0 one.1 (nat_eq one.0 n) refl one.2
      where
        here-now : (k : ℕ) → nat_eq k n ≡ true → transaction_at ts k ≡ x
        here-now k is = sets k ∙ ap (λ (b : Bool). cond b x (transaction_at s.transactions k)) is

        there-now : (k : ℕ) → nat_eq k n ≡ false → transaction_at ts k ≡ transaction_at s.transactions k
        there-now k ne = sets k ∙ ap (λ (b : Bool). cond b x (transaction_at s.transactions k)) ne

        by : (k : ℕ) (writes : Writes) (b : Bool) → nat_eq k n ≡ b → option_map (plain_session (seen k)) (transaction_at ts k) ≡ Some (Reads m writes) → IsInUse q m
        by k writes true is at =
            let e : k ≡ n = grind (arith, nat_tests) in
            used m writes (ap (λ (t : Option Transaction). option_map (plain_session (seen n)) t) (sym (here-now k is)) ∙ ap (λ (j : ℕ). option_map (plain_session (seen j)) (transaction_at ts k)) (sym e) ∙ at)
        by k writes false ne at = inr (k, writes, (λ i. option_map (plain_session (sym (same-seen k ne) i)) (sym (there-now k ne) i)) ∙ at)

    last-kept : (key : Key) (last : Option ℕ) → HoldsLast h.origin q key last → HoldsLast h.origin q' key last
    last-kept key last (inl is) = inl is
    last-kept key last (inr forgotten) = inr (forgotten.0, λ m is. forgotten.1 m (in-use m is))

    drawn : (d : DrawnCommit) → HoldsDrawn s q d → (transaction_at s.transactions n ≡ Some (Drawn d.timestamp) → ⊥) → HoldsDrawn (record s { transactions = ts; slots = slots }) q' d
    drawn d holds apart = record {
      session = sets d.session ∙ by (nat_eq d.session n) refl;
      writes = writes-kept n q q' (ByCommit d.timestamp) d.writes same refl holds.writes;
      room = holds.room;
    }
      where
        by : (b : Bool) → nat_eq d.session n ≡ b → cond b x (transaction_at s.transactions d.session) ≡ Some (Drawn d.timestamp)
        by true is = let e : d.session ≡ n = grind (arith, nat_tests) in absurd (apart (subst (λ (k : ℕ). transaction_at s.transactions k ≡ Some (Drawn d.timestamp)) e holds.session))
        by false is = holds.session

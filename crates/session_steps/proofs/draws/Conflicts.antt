-- A key that was drawn last by a commit which the snapshot doesn't cover is a conflict.
use Rattle.std.proofs.Common.{◌≡◌, ◌≤◌, inl, inr, ℕ, List, ◌++◌, map, drop, sym, ◌∙◌, ap, subst}
use Rattle.std.specs.Prelude.{Option, Some, find, length}
use Rattle.std.specs.List.{list_any}
use Rattle.std.specs.Option.{option_map}
use Rattle.base.specs.declared.key.Key.{Key}
use Rattle.base.specs.Commits.{writes_key}
use Rattle.machine.specs.Machine.{conflict_of, begun_of, writes_of, drawn_of}
use Rattle.snapshot.specs.Snapshots.{Seen}
use Rattle.index.specs.Entries.{entry_at}
use Rattle.txn.specs.declared.transaction.Transaction.TheVariants.{Active}
use Rattle.txn.specs.declared.write.Write.{Write}
use Rattle.txn.specs.Transactions.{transaction_at}
use Rattle.txn.specs.WriteSets.{plain_writes}
use Rattle.simulation.specs.sessions.Sees.{Sees, is_unseen}
use Rattle.simulation.proofs.sessions.Conflicts.{conflicts}
use Rattle.session_steps.specs.declared.sessions.Sessions.{Sessions}
use Rattle.session_steps.specs.Drawing.{conflict_in}
use Rattle.session_steps.specs.Shows.{Hidden, plain_of, plain_session, HoldsSession, HoldsLast}
use Rattle.session_steps.specs.Steps.{Holds}
use Rattle.session_steps.proofs.slots.Owned.{keys-plain}
use Rattle.session_steps.proofs.transactions.Steps.{found}

-- the test of the code is the machine's
pub conflict-is : (s : Sessions) (h : Hidden) (n : ℕ) (snapshot : Seen) (writes : List Write) → transaction_at s.transactions n ≡ Some (Active snapshot writes) → Holds s h → conflict_of (plain_of s h) n ≡ conflict_in s.index snapshot writes
conflict-is s h n snapshot writes at holds =
    (λ i. find (λ key. list_any (writes_key key) (drop (begun_of (option_map (plain_session (h.seen n)) (at i))) h.history ++ drawn_of (plain_of s h))) (map (λ (w : Key × Option (List ℕ)). w.0) (writes_of (option_map (plain_session (h.seen n)) (at i)))))
    ∙ ap (λ (keys : List Key). find (λ key. list_any (writes_key key) (drop (h.seen n) h.history ++ drawn_of (plain_of s h))) keys) (keys-plain writes)
    ∙ (λ i. find (λ key. (unseen key (holds.agrees.index key).last) i) (map (λ (w : Write). w.key) writes))
  where
    sees : Sees h.origin (plain_of s h) snapshot (h.seen n)
    sees = (subst (HoldsSession h.origin (plain_of s h) n (h.seen n)) at (holds.agrees.sessions n)).0

    within : (h.origin.opened ≤ h.seen n) × (h.seen n ≤ length h.history)
    within = holds.keeps.numbers.snapshots n (h.seen n) (plain_writes writes) (found s h n _ at)

    -- a commit that the session doesn't see writes the key exactly if the entry's last is one
    unseen : (key : Key) → HoldsLast h.origin (plain_of s h) key (entry_at s.index key).last → list_any (writes_key key) (drop (h.seen n) h.history ++ drawn_of (plain_of s h)) ≡ is_unseen snapshot (entry_at s.index key).last
    unseen key (inl last) = sym (conflicts h.origin (plain_of s h) snapshot (h.seen n) key holds.keeps within.0 within.1 sees) ∙ ap (λ (o : Option ℕ). is_unseen snapshot o) (sym last)
    unseen key (inr forgotten) = forgotten.1 (h.seen n) (inr (n, plain_writes writes, found s h n _ at)) ∙ ap (λ (o : Option ℕ). is_unseen snapshot o) (sym forgotten.0)

use Rattle.std.proofs.Common.{◌≡◌, ◌∙◌, ℕ, ◌+◌, ◌<◌, ◌≤◌, Bool, true, false, cond, List, ◌∷◌, length, take, drop, get_or, sym, ap, subst, rules}
use Rattle.std.specs.Prelude.{Some, All}
use Rattle.std.proofs.lemmas.List.{take_all, drop_more}
use Rattle.std.proofs.lemmas.List.Elements.{All-more}
use Rattle.base.specs.declared.key.Key.{Key}
use Rattle.index.specs.declared.entry.Entry.{Entry}
use Rattle.index.specs.Entries.{entry_at, has_room}
use Rattle.snapshot.specs.Snapshots.{Seen}
use Rattle.txn.specs.declared.write.Write.{Write}
use Rattle.simulation.specs.sessions.Sees.{is_unseen}
use Rattle.session_steps.specs.Drawing.{conflict_in}
use Rattle.session_steps.proofs.draw.ask.Goals as goal

abbrev Entries : Type 0
Entries = List (Key × Entry)

-- a key that isn't in conflict is passed over
passes : (entries : Entries) (snapshot : Seen) (writes : List Write) (i : ℕ) (write : Write) → i < length writes → write ≡ get_or writes i write → is_unseen snapshot (entry_at entries write.key).last ≡ false
    → conflict_in entries snapshot (drop i writes) ≡ conflict_in entries snapshot (drop (i + 1) writes)
passes entries snapshot writes i write lt is seen =
    ap (conflict_in entries snapshot) (drop_more writes i write lt ∙ ap (λ (w : Write). w ∷ drop (i + 1) writes) (sym is))
    ∙ ap (λ (b : Bool). cond b (Some write.key) (conflict_in entries snapshot (drop (i + 1) writes))) seen

pub loop-write-preserved : goal.loop-write-preserved
loop-write-preserved c =
    let items = c.as_slice-write-items.result.now in
    let found = c.in-Some.ensures.some in
    record {
      conflict =
          c.loop-write.invariant.conflict
          ∙ passes c.args.index.now c.args.snapshot.now items c.loop-write.write-index c.write-item.result c.loop-write-test.true c.write-item.is
          (ap (λ (e : Entry). is_unseen c.args.snapshot.now e.last) (sym found.0) ∙ sym c.is_last_unseen.ensures ∙ c.if-is_last_unseen.false);
      room =
          All-more (λ (w : Write). has_room c.args.index.now w.key ≡ true) items c.loop-write.write-index c.write-item.result c.loop-write-test.true c.loop-write.invariant.room
          (subst (λ (w : Write). has_room c.args.index.now w.key ≡ true) c.write-item.is found.1);
    }

pub returns-clause-room : goal.returns-clause-room
returns-clause-room c there =
    let le : length c.args.writes.now ≤ c.loop-write.write-index = search rules in
    subst (λ (ws : List Write). All (λ w. has_room c.args.index.now w.key ≡ true) ws) (take_all c.loop-write.write-index c.args.writes.now le)
    (subst (λ (ws : List Write). All (λ w. has_room c.args.index.now w.key ≡ true) (take c.loop-write.write-index ws)) c.as_slice-write-items.ensures.slice c.loop-write.invariant.room)

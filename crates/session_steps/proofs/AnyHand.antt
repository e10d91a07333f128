-- The sessions agree with the plain state whichever batch is pending, and whether the state has failed or not.
use Rattle.std.proofs.Common.{ℕ, Bool, sym, ap, subst, Option, arith}
use Rattle.std.specs.Prelude.{slice_index_or}
use Rattle.machine.specs.Machine.{State, Hand, Version, Writer, ByCommit}
use Rattle.pmem.specs.Device.{Device}
use Rattle.device_invariant.specs.Upholds.{Upholds}
use Rattle.device_invariant.specs.Slots.{newest_of}
use Rattle.txn.specs.declared.write.Write.{Write}
use Rattle.txn.specs.declared.drawn.DrawnCommit.{DrawnCommit}
use Rattle.txn.specs.declared.transaction.Transaction.{Transaction}
use Rattle.txn.specs.Transactions.{transaction_at}
use Rattle.index.specs.Entries.{entry_at, live_of}
use Rattle.simulation.specs.steps.Moves.{IsSlotOf}
use Rattle.session_steps.specs.declared.sessions.Sessions.{Sessions}
use Rattle.session_steps.specs.Shows.{Hidden, plain_of, HasItsSlot, HoldsSession, HoldsDrawn, Agrees, Shows}

-- with another pending batch, or another mark of failure
abbrev pub hidden_with : Hidden → Option Hand → Bool → Hidden
hidden_with h hand failed = record h { hand = hand; failed = failed }

module _ (s : Sessions) (h : Hidden) (hand : Option Hand) (failed : Bool) (a : Agrees s h.origin h.seen (plain_of s h)) where
  abbrev was : State
  was = plain_of s h

  abbrev is : State
  is = plain_of s (hidden_with h hand failed)

  slot-with : (v : Version) (o : Option ℕ) → IsSlotOf was v o → IsSlotOf is v o
  slot-with v a none = grind (arith)

  write-with : (w : Writer) (write : Write) → HasItsSlot was w write → HasItsSlot is w write
  write-with w write f = record { slot = slot-with (record { key = write.key; writer = w }) write.slot f.slot; row = f.row }

  session-with : (n seen : ℕ) (t : Option Transaction) → HoldsSession h.origin was n seen t → HoldsSession h.origin is n seen t
  session-with n seen a held = grind (arith, write-with)

  drawn-with : (d : DrawnCommit) → HoldsDrawn s was d → HoldsDrawn s is d
  drawn-with d f = record { session = f.session; writes = λ k e lt. write-with (ByCommit d.timestamp) (slice_index_or d.writes k e) (f.writes k e lt); room = f.room }

  pub agrees-with : Agrees s h.origin h.seen is
  agrees-with = record {
    sessions = λ n. session-with n (h.seen n) (transaction_at s.transactions n) (a.sessions n);
    drawn = λ k e lt. drawn-with (slice_index_or s.drawn.commits k e) (a.drawn k e lt);
    free = a.free;
    counted = a.counted;
    unreplaced = a.unreplaced;
    index = λ key. record {
      live = slot-with (newest_of was key) (live_of (entry_at s.index key)) (a.index key).live;
      last = (a.index key).last;
      newest = (a.index key).newest;
      only = λ slot at. let has = (a.index key).only slot at in record { within = has.within; timestamp = has.timestamp; held = has.held };
      drawn = (a.index key).drawn;
    };
    lines = record { own = a.lines.own; none = a.lines.none };
    sized = a.sized;
  }

-- the sessions show the state with that pending batch, or that mark, on a device that upholds it
pub shows-hand : (s : Sessions) (before now : Device) (q : State) (hand : Option Hand) (shown : Shows s before q) → Upholds shown.hidden.origin (record q { hand = hand }) now → Shows s now (record q { hand = hand })
shows-hand s before now q hand shown upholds =
    let same = ap (λ (p : State). record p { hand = hand }) shown.plain in
    record {
      hidden = hidden_with shown.hidden hand shown.hidden.failed;
      plain = same;
      upholds = upholds;
      agrees = subst (λ p. Agrees s shown.hidden.origin shown.hidden.seen p) (sym same)
          (agrees-with s shown.hidden hand shown.hidden.failed (subst (λ p. Agrees s shown.hidden.origin shown.hidden.seen p) shown.plain shown.agrees));
    }

pub shows-failed : (s : Sessions) (before now : Device) (q : State) (failed : Bool) (shown : Shows s before q) → Upholds shown.hidden.origin (record q { failed = failed }) now → Shows s now (record q { failed = failed })
shows-failed s before now q failed shown upholds =
    let same = ap (λ (p : State). record p { failed = failed }) shown.plain in
    record {
      hidden = hidden_with shown.hidden shown.hidden.hand failed;
      plain = same;
      upholds = upholds;
      agrees = subst (λ p. Agrees s shown.hidden.origin shown.hidden.seen p) (sym same)
          (agrees-with s shown.hidden shown.hidden.hand failed (subst (λ p. Agrees s shown.hidden.origin shown.hidden.seen p) shown.plain shown.agrees));
    }

-- What agrees in a failed state.
use Rattle.std.proofs.Common.{true, arith}
use Rattle.std.specs.Prelude.{ℕ, Option}
use Rattle.txn.specs.declared.transaction.Transaction.{Transaction}
use Rattle.session_steps.specs.declared.sessions.Sessions.{Sessions}
use Rattle.session_steps.specs.Shows.{Hidden, plain_of, HoldsSession, Agrees}

session-failed : (s : Sessions) (h : Hidden) (n seen : ℕ) (x : Option Transaction) → HoldsSession h.origin (plain_of s h) n seen x → HoldsSession h.origin (plain_of s (record h { failed = true })) n seen x
session-failed s h n seen a has = grind (arith)

-- what agrees agrees in a failed state
pub failed-agrees : (s : Sessions) (h : Hidden) → Agrees s h.origin h.seen (plain_of s h) → Agrees s h.origin h.seen (plain_of s (record h { failed = true }))
failed-agrees s h agrees = record {
  sessions = λ n. session-failed s h n (h.seen n) _ (agrees.sessions n);
  drawn = λ k d lt. let has = agrees.drawn k d lt in record { session = has.session; writes = λ j w below. record { slot = (has.writes j w below).slot; row = (has.writes j w below).row }; room = has.room };
  free = agrees.free;
  counted = agrees.counted;
  unreplaced = agrees.unreplaced;
  index = λ key. let e = agrees.index key in record { live = e.live; last = e.last; newest = e.newest; only = λ slot at. let has = e.only slot at in record { within = has.within; timestamp = has.timestamp; held = has.held }; drawn = e.drawn };
  lines = record { own = agrees.lines.own; none = agrees.lines.none };
  sized = agrees.sized;
}

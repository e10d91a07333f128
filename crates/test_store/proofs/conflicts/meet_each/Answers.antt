use denote.Param.Send.{sendable}
use Rattle.std.proofs.Common.{rules}
use Rattle.std.proofs.Crossing.{crosses}
use Rattle.std.proofs.rt.LibcRuntime.TheSendSync as runtime
use Rattle.store.proofs.Sharing.{store_sync}
use Rattle.test_store.proofs.conflicts.meet_each.Goals as goal

pub join-one-requires-send-F : goal.join-one-requires-send-F
join-one-requires-send-F g c κs within = search (rules, sendable, crosses, store_sync, runtime.the_sync, runtime.the_send) depth 20 fits 5000

use denote.Param.Send.{sendable}
use Rattle.std.proofs.Common.{rules}
use Rattle.std.proofs.Crossing.{crosses}
use Rattle.std.proofs.rt.LibcRuntime.TheSendSync as runtime
use Rattle.store.proofs.Sharing.{store_sync}
use Rattle.example_bank.proofs.main.Goals as goal

pub join-to-requires-send-F : goal.join-to-requires-send-F
join-to-requires-send-F g c κs within = search (rules, sendable, crosses, store_sync, runtime.the_sync, runtime.the_send) depth 20 fits 5000

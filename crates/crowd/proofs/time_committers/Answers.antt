use denote.Param.Send.{sendable}
use Rattle.std.proofs.Crossing.{crosses}
use Rattle.store.proofs.Sharing.{store_sync}
use Rattle.crowd.proofs.Turns.TheSendSync as turns
use Rattle.crowd.proofs.time_committers.Goals as goal

pub map_indices-requires-sync-F : goal.map_indices-requires-sync-F
map_indices-requires-sync-F g c κs within = search (sendable, crosses, store_sync, turns.the_sync) depth 60 fits 20000

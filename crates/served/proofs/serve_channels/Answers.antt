use denote.Param.Send.{sendable}
use Rattle.std.proofs.Common.{rules}
use Rattle.std.proofs.Crossing.{crosses}
use Rattle.store.proofs.Sharing.{store_sync}
use Rattle.served.proofs.serve_channels.Goals as goal

pub map_vec-ended-requires-sync-F : goal.map_vec-ended-requires-sync-F
map_vec-ended-requires-sync-F g c κs within = search (rules, sendable, crosses, store_sync) depth 20 fits 5000

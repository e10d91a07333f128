use denote.Param.Send.{sendable}
use Rattle.std.proofs.Common.{rules}
use Rattle.std.proofs.Crossing.{crosses}
use Rattle.test_files.proofs.Sharing.{storage_send, storage_sync}
use Rattle.test_files.proofs.transactions.opened.Goals as goal

pub open-requires-send-D : goal.open-requires-send-D
open-requires-send-D g c κs within = search (rules, sendable, crosses, storage_send) depth 60 fits 20000

pub open-requires-sync-D : goal.open-requires-sync-D
open-requires-sync-D g c κs within = search (rules, sendable, crosses, storage_sync) depth 60 fits 20000

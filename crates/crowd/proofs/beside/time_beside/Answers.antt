use denote.Param.Send.{sendable, param_send}
use Rattle.std.proofs.Crossing.{crosses}
use Rattle.store.proofs.Sharing.{store_sync}
use Rattle.crowd.proofs.beside.Readers.TheSendSync as readers
use Rattle.crowd.proofs.beside.time_beside.Lts as lts
use Rattle.crowd.proofs.beside.time_beside.Goals as goal

pub join-reads-requires-send-F : goal.join-reads-requires-send-F
join-reads-requires-send-F g c κs within = param_send 1 (lts.arg-1-1 g.row.H g.H.laws g.H.Clock-dict g.H.Threads-dict g.H.Wait-dict g.H.Destruct-dict κs) (search (sendable, crosses, store_sync, readers.the_sync) depth 60 fits 20000)

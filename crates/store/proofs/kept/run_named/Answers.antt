use denote.Param.Send.{sendable}
use Rattle.std.proofs.Common.{inr, subst, rules}
use Rattle.std.specs.Prelude.{IfErr}
use Rattle.std.proofs.Crossing.{crosses}
use Rattle.database.specs.Opening.{IsOpeningRefusal}
use Rattle.file_laws.specs.Found.{OpensFirst}
use Rattle.pmem_file.proofs.Sharing.{storage_send, storage_sync}
use Rattle.pmem_file.specs.Devices.{state_of}
use Rattle.store.proofs.kept.run_named.Goals as goal

pub open_kept-requires-send-D : goal.open_kept-requires-send-D
open_kept-requires-send-D g c κs within = search (rules, sendable, crosses, storage_send) depth 60 fits 20000

pub open_kept-requires-sync-D : goal.open_kept-requires-sync-D
open_kept-requires-sync-D g c κs within = search (rules, sendable, crosses, storage_sync) depth 60 fits 20000

pub not_opened-requires-clause-fault : goal.not_opened-requires-clause-fault
not_opened-requires-clause-fault g c = c.refusal_of.ensures.why c.args.geometry (inr (inr (
  state_of c.args.device,
  state_of c.in-Err.field-0.device,
  c.requires.found,
  subst (λ r. IfErr r (λ e. IsOpeningRefusal (state_of c.args.device) (state_of e.device) e.fault)) c.in-Err.is c.open_kept.ensures.fault,
)))

pub run-requires-clause-first : goal.run-requires-clause-first
run-requires-clause-first g c = subst OpensFirst c.requires.opened c.requires.first

use denote.Param.Send.{sendable}
use Rattle.std.proofs.Common.{inr, subst, rules}
use Rattle.std.specs.Prelude.{IfErr}
use Rattle.std.proofs.Crossing.{crosses}
use Rattle.pmem_file.proofs.Sharing.{storage_send, storage_sync}
use Rattle.database.specs.Opening.{IsOpeningRefusal}
use Rattle.pmem_file.specs.Devices.{state_of}
use Rattle.store.proofs.files.open_over.Goals as goal

pub open-requires-send-D : goal.open-requires-send-D
open-requires-send-D g c κs within = search (rules, sendable, crosses, storage_send) depth 60 fits 20000

pub open-requires-sync-D : goal.open-requires-sync-D
open-requires-sync-D g c κs within = search (rules, sendable, crosses, storage_sync) depth 60 fits 20000

pub returns-in-Err-clause-fault : goal.returns-in-Err-clause-fault
returns-in-Err-clause-fault g c layout found = c.refusal_of.ensures.why layout (inr (inr (
  state_of c.args.device,
  state_of c.in-Err.field-0.device,
  found,
  subst (λ r. IfErr r (λ e. IsOpeningRefusal (state_of c.args.device) (state_of e.device) e.fault)) c.in-Err.is c.open.ensures.fault,
)))

pub returns-in-Err-clause-found : goal.returns-in-Err-clause-found
returns-in-Err-clause-found g c layout found = c.refusal_of.ensures.found layout (
  state_of c.args.device,
  state_of c.in-Err.field-0.device,
  found,
  subst (λ r. IfErr r (λ e. IsOpeningRefusal (state_of c.args.device) (state_of e.device) e.fault)) c.in-Err.is c.open.ensures.fault,
)

use Rattle.std.proofs.Common.{subst}
use Rattle.std.specs.Prelude.{⊤, Result}
use Rattle.base.specs.declared.fault.Fault.{Fault}
use Rattle.database.specs.Committing.{LeadsByWrites}
use Rattle.database.proofs.Covering.{obeys-as}
use Rattle.database.proofs.Reporting.{begun-with, begun-refused, begun-given-up}
use Rattle.database.proofs.committing.begin_with.Goals as goal

pub returns-in-Ok-write_all-clause-steps : goal.returns-in-Ok-write_all-clause-steps
returns-in-Ok-write_all-clause-steps g c =
    begun-with g.D.Pmem.state c.args.room.now.room c.begin.new.room.room c.write_all.new.room.room c.in-Ok.session c.args.writes.now (obeys-as _ _ _ _ _ _ _ c.begin.ensures.step c.in-Ok.is)
    (subst (λ (r : Result ⊤ Fault). LeadsByWrites g.D.Pmem.state c.begin.new.room.room c.write_all.new.room.room c.in-Ok.session c.args.writes.now r) c.in-Ok-write_all.is c.write_all.ensures.steps)

pub returns-in-Err-write_all-clause-steps : goal.returns-in-Err-write_all-clause-steps
returns-in-Err-write_all-clause-steps g c =
    begun-given-up g.D.Pmem.state c.args.room.now.room c.begin.new.room.room c.write_all.new.room.room c.abort.new.room.room c.in-Ok.session c.args.writes.now c.in-Err-write_all.fault _ _
    (obeys-as _ _ _ _ _ _ _ c.begin.ensures.step c.in-Ok.is)
    (subst (λ (r : Result ⊤ Fault). LeadsByWrites g.D.Pmem.state c.begin.new.room.room c.write_all.new.room.room c.in-Ok.session c.args.writes.now r) c.in-Err-write_all.is c.write_all.ensures.steps)
    c.abort.ensures.step

pub returns-in-Err-clause-steps : goal.returns-in-Err-clause-steps
returns-in-Err-clause-steps g c =
    begun-refused g.D.Pmem.state c.args.room.now.room c.begin.new.room.room c.args.writes.now c.in-Err.fault (obeys-as _ _ _ _ _ _ _ c.begin.ensures.step c.in-Err.is)

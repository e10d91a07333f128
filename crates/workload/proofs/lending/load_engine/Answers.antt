use Rattle.std.proofs.Common.{arith, inr}
use Rattle.workload.proofs.Tasked.{tasks-made, tasks-refused}
use Rattle.workload.proofs.lending.load_engine.Goals as goal

pub returns-in-Some-clause-fault : goal.returns-in-Some-clause-fault
returns-in-Some-clause-fault g c =
    inr (inr (
    tasks-refused g.D.Pmem.state g.J.Origin.image c.args.load.commits c.args.engine.first c.run_tasks-failed.new.tasks.items c.into_sessions-2.result.items c.in-Ok-close.audited c.in-Some.fault
    c.run_tasks-failed.ensures.works c.in-Some.ensures.some c.into_sessions-2.ensures c.in-Ok-close.ensures.agrees c.in-Ok-close.ensures.from
    ))

pub returns-in-None-clause-made : goal.returns-in-None-clause-made
returns-in-None-clause-made g c =
    tasks-made g.J.Origin.image c.args.load.sessions c.args.load.commits c.args.engine.first c.run_tasks-failed.new.tasks.items c.into_sessions-2.result.items c.in-Ok-close.audited.entries.items
    (omega (arith, c.run_tasks-failed.new.tasks.ok.0, c.run_tasks-failed.ensures.len, c.in-Ok.ensures.ok)) c.requires.first
    c.run_tasks-failed.ensures.works c.in-None.ensures.none c.into_sessions-2.ensures c.in-Ok-close.ensures.agrees

use Rattle.std.proofs.Common.{refl, sym, ◌∙◌, subst}
use Rattle.base.specs.declared.step.Step.{Step}
use Rattle.machine.specs.Machine.{State, Stepped}
use Rattle.base.specs.declared.fault.Fault.TheVariants.{TooLong}
use Rattle.base.specs.declared.step.Reply.TheVariants.{Refused}
use Rattle.command_line.specs.declared.command.Command.TheVariants as asks
use Rattle.console.specs.Kept.{LeadsBy}
use Rattle.console.specs.Obeyed.{Answers}
use Rattle.console.proofs.KeptHistory.{leads-nowhere, leads-step}
use Rattle.console.proofs.Obeyed.{comes-as, comes-crash}
use Rattle.console.proofs.lines.perform.Goals as goal

pub returns-in-Step-clause-comes : goal.returns-in-Step-clause-comes
returns-in-Step-clause-comes g c =
    comes-as g.D.Pmem.state c.args.room.now c.step.new.self c.geometry.result c.args.command.now (asks.Step c.in-Step.asked) c.step.result c.geometry.ensures
    (sym c.command_on.ensures.value ∙ c.in-Step.is)
    (subst (λ (own : Step). LeadsBy g.D.Pmem.state c.args.room.now c.step.new.self (λ (q q' : State). Stepped q own c.step.result q')) c.from.ensures
    (leads-step g.D.Pmem.state c.args.room.now c.step.new.self _ c.step.result c.step.ensures.step))

pub returns-in-LongRow-clause-comes : goal.returns-in-LongRow-clause-comes
returns-in-LongRow-clause-comes g c =
    comes-as g.D.Pmem.state c.args.room.now c.args.room.now c.geometry.result c.args.command.now asks.LongRow (Refused TooLong) c.geometry.ensures
    (sym c.command_on.ensures.value ∙ c.in-LongRow.is)
    (leads-nowhere g.D.Pmem.state c.args.room.now (λ (q q' : State). Answers q asks.LongRow (Refused TooLong) q') (λ q. (refl, refl)))

pub returns-in-Commit-clause-comes : goal.returns-in-Commit-clause-comes
returns-in-Commit-clause-comes g c =
    comes-as g.D.Pmem.state c.args.room.now c.tick.new.room c.geometry.result c.args.command.now (asks.Commit c.in-Commit.ticks) c.tick.result c.geometry.ensures
    (sym c.command_on.ensures.value ∙ c.in-Commit.is) c.tick.ensures

pub returns-in-Collect-clause-comes : goal.returns-in-Collect-clause-comes
returns-in-Collect-clause-comes g c =
    comes-as g.D.Pmem.state c.args.room.now c.collect.new.room c.geometry.result c.args.command.now (asks.Collect c.in-Collect.visits) c.collect.result c.geometry.ensures
    (sym c.command_on.ensures.value ∙ c.in-Collect.is) c.collect.ensures

pub returns-in-Cycle-clause-comes : goal.returns-in-Cycle-clause-comes
returns-in-Cycle-clause-comes g c =
    comes-as g.D.Pmem.state c.args.room.now c.cycle.new.room c.geometry.result c.args.command.now asks.Cycle c.cycle.result c.geometry.ensures
    (sym c.command_on.ensures.value ∙ c.in-Cycle.is) c.cycle.ensures

pub returns-in-Crash-clause-comes : goal.returns-in-Crash-clause-comes
returns-in-Crash-clause-comes g c =
    comes-crash g.D.Pmem.state c.args.room.now c.geometry.result.version c.args.command.now c.in-Crash.keeps (sym c.command_on.ensures.value ∙ c.in-Crash.is)

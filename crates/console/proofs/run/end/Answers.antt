use Rattle.std.proofs.Common.{sym, subst}
use Rattle.std.specs.Prelude.{Option, IfOk}
use Rattle.std.specs.Io.KnownBytes.{Appends}
use Rattle.machine.specs.Machine.{State}
use Rattle.pmem_model.specs.Sim.{device_of}
use Rattle.room.specs.Room.{Shows}
use Rattle.command_line.specs.Numbers.{Text}
use Rattle.command_line.specs.declared.command.Survivor.{Survivor}
use Rattle.console.specs.Lives.{Ends}
use Rattle.console.proofs.run.end.Goals as goal

pub returns-in-Some-clause-ends : goal.returns-in-Some-clause-ends
returns-in-Some-clause-ends g c = subst (λ (keeps : Option Survivor). IfOk c.stop.result (λ left. (said : Text) × Appends (g.W.Write.contents c.args.output.now) (g.W.Write.contents c.stop.new.output) said
    × ((q : State) → Shows device_of c.args.room q → Ends q keeps said left.items))) (sym c.in-Some.is) c.stop.ensures.ends

pub returns-in-None-clause-ends : goal.returns-in-None-clause-ends
returns-in-None-clause-ends g c = subst (λ (keeps : Option Survivor). IfOk c.close.result (λ left. (said : Text) × Appends (g.W.Write.contents c.args.output.now) (g.W.Write.contents c.close.new.output) said
    × ((q : State) → Shows device_of c.args.room q → Ends q keeps said left.items))) (sym c.in-None.is) c.close.ensures.ends

use Rattle.std.proofs.Common.{◌≡◌, ◌⊎◌, ◌++◌, inl}
use Rattle.std.specs.Prelude.{None}
use Rattle.machine.specs.Machine.{State}
use Rattle.pmem_model.specs.Sim.{device_of}
use Rattle.room.specs.Room.{Shows, device_of as device_in}
use Rattle.console.proofs.BadLine.{ends-at, passed_on, unblamed}
use Rattle.console.proofs.Lives.{file-opened, life-of, lives-keep}
use Rattle.console.proofs.Obeyed.{appends-more}
use Rattle.base.specs.declared.fault.Fault.TheVariants.{OutOfMemory}
use Rattle.console.specs.Refusals.{IsClosingFault, IsOpeningFault}
use Rattle.console.proofs.Refusals.{at-end, fault-on, opening-of-file}
use Rattle.console.proofs.run.run.Goals as goal

pub returns-clause-lives : goal.returns-clause-lives
returns-clause-lives g c =
    let told = c.in_ok-show_opened.ensures.printed in
    let made = c.in_ok-keeps.ensures.obeys in
    let over = c.in_ok-left.ensures.ends in
    record {
      lines = made.0;
      keeps = c.in_ok-keeps.keeps;
      begun = told.0;
      reads = made.1;
      said = made.2;
      ended = over.0;
      prints = appends-more (g.W.Write.contents c.args.output.now) (g.W.Write.contents c.obey_lines.new.output) (g.W.Write.contents c.end.new.output) (told.0 ++ made.2) over.0
          (appends-more (g.W.Write.contents c.args.output.now) (g.W.Write.contents c.show_opened.new.output) (g.W.Write.contents c.obey_lines.new.output) told.0 made.2 told.1 made.3)
          over.1;
      device = device_in device_of c.obey_lines.new.room;
      kept = c.in_ok-left.ensures.kept;
      opens = life-of device_of c.in_ok-room.room c.obey_lines.new.room c.args.file.now made.0 c.in_ok-keeps.keeps told.0 made.2 over.0 c.in_ok-left.left.items
          (file-opened c.args.file.now c.in_ok-words.words.items c.as_slice.result.now (Shows device_of c.in_ok-room.room) c.in_ok-words.ensures.length c.in_ok-words.ensures.ok c.as_slice.ensures.value c.in_ok-room.ensures.opens)
          told.2 made.4 over.2;
    }

pub returns-clause-keeps : goal.returns-clause-keeps
returns-clause-keeps g c =
    lives-keep c.args.file.now (g.R.Read.remaining c.args.input.now) (g.W.Write.contents c.args.output.now) (g.W.Write.contents c.end.new.output) c.in_ok-left.left.items (returns-clause-lives g c)

pub returns-in_err-show_opened-clause-bad_line : goal.returns-in_err-show_opened-clause-bad_line
returns-in_err-show_opened-clause-bad_line g c =
    unblamed c.from_residual-in_err-show_opened.result _ _ c.from_residual-in_err-show_opened.ensures.1 c.in_err-show_opened.ensures.blames

pub returns-in_err-keeps-clause-bad_line : goal.returns-in_err-keeps-clause-bad_line
returns-in_err-keeps-clause-bad_line g c =
    let told = c.in_ok-show_opened.ensures.printed in
    passed_on c.from_residual-in_err-keeps.result _ _ _ c.from_residual-in_err-keeps.ensures.1
    (λ at met. ends-at device_of c.in_ok-room.room c.args.file.now (g.R.Read.remaining c.args.input.now) (g.W.Write.contents c.args.output.now)
    (g.W.Write.contents c.show_opened.new.output) (g.W.Write.contents c.obey_lines.new.output) told.0 at
    (file-opened c.args.file.now c.in_ok-words.words.items c.as_slice.result.now (Shows device_of c.in_ok-room.room) c.in_ok-words.ensures.length c.in_ok-words.ensures.ok c.as_slice.ensures.value c.in_ok-room.ensures.opens)
    told.1 told.2 met)
    c.in_err-keeps.ensures.bad_line

pub returns-in_err-room-clause-refused : goal.returns-in_err-room-clause-refused
returns-in_err-room-clause-refused g c =
    fault-on c.from_residual-in_err-room.result _ (λ fault. (fault ≡ OutOfMemory) ⊎ IsOpeningFault c.as_slice.result.now fault) _ c.from_residual-in_err-room.ensures.1
    (λ fault is. opening-of-file c.args.file.now c.in_ok-words.words.items c.as_slice.result.now (g.R.Read.remaining c.args.input.now) (g.W.Write.contents c.args.output.now) fault
    c.in_ok-words.ensures.length c.in_ok-words.ensures.ok c.as_slice.ensures.value is)
    c.in_err-room.ensures.fault

pub returns-in_err-show_opened-clause-refused : goal.returns-in_err-show_opened-clause-refused
returns-in_err-show_opened-clause-refused g c =
    fault-on c.from_residual-in_err-show_opened.result _ (λ fault. fault ≡ OutOfMemory) _ c.from_residual-in_err-show_opened.ensures.1 (λ fault is. inl is)
    c.in_err-show_opened.ensures.memory

pub returns-in_err-left-clause-refused : goal.returns-in_err-left-clause-refused
returns-in_err-left-clause-refused g c =
    let told = c.in_ok-show_opened.ensures.printed in
    let made = c.in_ok-keeps.ensures.obeys in
    fault-on c.from_residual-in_err-left.result _
    (λ fault. (fault ≡ OutOfMemory) ⊎ ((c.in_ok-keeps.keeps ≡ None) × (g.W.Write.contents c.end.new.output ≡ g.W.Write.contents c.obey_lines.new.output)
    × ((q : State) → Shows device_of c.obey_lines.new.room q → IsClosingFault q fault)))
    _ c.from_residual-in_err-left.ensures.1
    (λ fault is. at-end device_of c.in_ok-room.room c.obey_lines.new.room c.args.file.now (g.R.Read.remaining c.args.input.now) (g.W.Write.contents c.args.output.now)
    (g.W.Write.contents c.show_opened.new.output) (g.W.Write.contents c.obey_lines.new.output) (g.W.Write.contents c.end.new.output) made.0 c.in_ok-keeps.keeps told.0 made.2 fault
    (file-opened c.args.file.now c.in_ok-words.words.items c.as_slice.result.now (Shows device_of c.in_ok-room.room) c.in_ok-words.ensures.length c.in_ok-words.ensures.ok c.as_slice.ensures.value c.in_ok-room.ensures.opens)
    told.1 told.2 made.1 made.3 made.4 is)
    c.in_err-left.ensures.refused

pub returns-in_err-keeps-clause-refused : goal.returns-in_err-keeps-clause-refused
returns-in_err-keeps-clause-refused g c =
    fault-on c.from_residual-in_err-keeps.result _ (λ fault. fault ≡ OutOfMemory) _ c.from_residual-in_err-keeps.ensures.1 (λ fault is. inl is)
    c.in_err-keeps.ensures.memory

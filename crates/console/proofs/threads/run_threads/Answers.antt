use Rattle.std.proofs.Common.{◌≡◌, ◌⊎◌, ◌*◌, List, ℕ, subst}
use Rattle.std.specs.Io.KnownBytes.{Appends}
use Rattle.base.specs.declared.fault.Fault.TheVariants.{OutOfMemory}
use Rattle.base.specs.declared.key.Key.{Key}
use Rattle.base.specs.Images.{Image}
use Rattle.image_check.specs.Checked.{ListsTables}
use Rattle.command_line.specs.ImageFile.{IsFileOf}
use Rattle.pmem_model.specs.Sim.{device_of}
use Rattle.recovery.specs.Read.{IsReadRefusal}
use Rattle.room.specs.Room.{Shows}
use Rattle.room.specs.Runs.{OpensTo}
use Rattle.machine.specs.Machine.{State, StandsClosed}
use Rattle.workload.specs.Load.{HasFree, HasNumbers, MakesTo}
use Rattle.workload.proofs.Made.{makes-weaken}
use Rattle.console.specs.Refusals.{IsClosingFault}
use Rattle.console.specs.Threads.{IsThreadsFault, threads_text}
use Rattle.console.proofs.Refusals.{fault-on}
use Rattle.console.proofs.Working.{keeps-run, late-fault, load-fault, reading-fault-so}
use Rattle.console.proofs.threads.run_threads.Goals as goal

pub returns-clause-prints : goal.returns-clause-prints
returns-clause-prints g c =
    let opens = subst (λ (i : Image). OpensTo i (HasFree (2 * c.args.load.sessions))) c.as_slice.ensures.value c.in_ok-room.ensures.has_slots in
    record {
      opens = record { size = c.in_ok-words.ensures.length; image = c.in_ok-words.words.items; holds = c.in_ok-words.ensures.ok; opens = opens };
      has_numbers = subst (λ (i : Image). OpensTo i (HasNumbers (c.args.load.sessions * c.args.load.commits))) c.as_slice.ensures.value c.in_ok-room.ensures.has_numbers;
      image = c.in_ok-image.image.items;
      of_image = subst (λ (i : Image). IsFileOf i c.in_ok-left.left.items) c.as_slice-3.ensures.value c.in_ok-left.ensures;
      made = makes-weaken c.in_ok-words.words.items c.args.load.sessions c.args.load.commits (Shows device_of c.in_ok-room.room) (λ q. StandsClosed q c.in_ok-image.image.items) c.in_ok-image.ensures.closed
          (subst (λ (i : Image). MakesTo i c.args.load.sessions c.args.load.commits (Shows device_of c.in_ok-room.room)) c.as_slice.ensures.value c.in_ok-room.ensures.made);
      rows = c.in_ok-report.report.rows.items;
      lists = subst (λ (i : Image). ListsTables i c.in_ok-report.report.rows.items) c.as_slice-2.ensures.value c.in_ok-report.ensures.ok.lists;
      prints = subst (λ (rows : List (Key × List ℕ)). Appends (g.W.Write.contents c.args.output.now) (g.W.Write.contents c.show_threads.new.output) (threads_text c.args.load.sessions c.args.load.commits rows))
          c.as_slice-4.ensures.value c.in_ok-show_threads.ensures;
    }

pub returns-clause-keeps : goal.returns-clause-keeps
returns-clause-keeps g c =
    keeps-run c.args.file.now c.in_ok-words.words.items c.in_ok-image.image.items c.in_ok-left.left.items c.args.load.sessions c.args.load.commits c.in_ok-words.ensures.ok
    (makes-weaken c.in_ok-words.words.items c.args.load.sessions c.args.load.commits (Shows device_of c.in_ok-room.room) (λ q. StandsClosed q c.in_ok-image.image.items) c.in_ok-image.ensures.closed
    (subst (λ (i : Image). MakesTo i c.args.load.sessions c.args.load.commits (Shows device_of c.in_ok-room.room)) c.as_slice.ensures.value c.in_ok-room.ensures.made))
    (subst (λ (i : Image). IsFileOf i c.in_ok-left.left.items) c.as_slice-3.ensures.value c.in_ok-left.ensures)

pub returns-in_err-room-clause-refused : goal.returns-in_err-room-clause-refused
returns-in_err-room-clause-refused g c =
    fault-on c.from_residual-in_err-room.result _ (λ fault. (fault ≡ OutOfMemory) ⊎ IsThreadsFault c.args.load.sessions c.args.load.commits c.as_slice.result.now fault) _ c.from_residual-in_err-room.ensures.1
    (λ fault is. load-fault c.args.file.now c.in_ok-words.words.items c.as_slice.result.now c.args.load.sessions c.args.load.commits (g.W.Write.contents c.args.output.now) fault
    c.in_ok-words.ensures.length c.in_ok-words.ensures.ok c.as_slice.ensures.value is)
    c.in_err-room.ensures.fault

pub returns-in_err-image-clause-refused : goal.returns-in_err-image-clause-refused
returns-in_err-image-clause-refused g c =
    fault-on c.from_residual-in_err-image.result _ (λ fault. (fault ≡ OutOfMemory) ⊎ ((q : State) → Shows device_of c.in_ok-room.room q → IsClosingFault q fault)) _ c.from_residual-in_err-image.ensures.1
    (λ fault is. late-fault device_of c.in_ok-room.room c.args.file.now c.in_ok-words.words.items c.as_slice.result.now c.args.load.sessions c.args.load.commits (g.W.Write.contents c.args.output.now) fault
    c.in_ok-words.ensures.length c.in_ok-words.ensures.ok c.as_slice.ensures.value c.in_ok-room.ensures.has_slots c.in_ok-room.ensures.has_numbers c.in_ok-room.ensures.made
    is)
    c.in_err-image.ensures.fault

pub returns-in_err-report-clause-refused : goal.returns-in_err-report-clause-refused
returns-in_err-report-clause-refused g c =
    fault-on c.from_residual-in_err-report.result _ (λ fault. IsReadRefusal c.as_slice-2.result.now fault) _ c.from_residual-in_err-report.ensures.1
    (λ fault is. late-fault device_of c.in_ok-room.room c.args.file.now c.in_ok-words.words.items c.as_slice.result.now c.args.load.sessions c.args.load.commits (g.W.Write.contents c.args.output.now) fault
    c.in_ok-words.ensures.length c.in_ok-words.ensures.ok c.as_slice.ensures.value c.in_ok-room.ensures.has_slots c.in_ok-room.ensures.has_numbers c.in_ok-room.ensures.made
    (reading-fault-so device_of c.in_ok-room.room c.in_ok-image.image.items c.as_slice-2.result.now fault c.as_slice-2.ensures.value c.in_ok-image.ensures.closed is))
    c.in_err-report.ensures.fault

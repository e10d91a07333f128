use Rattle.std.proofs.Common.{◌∙◌, subst, arith}
use Rattle.base.specs.Records.{Record}
use Rattle.pmem.specs.Trace.{Runs, StopsWithin}
use Rattle.pmem.specs.Words.{image_of}
use Rattle.pmem.proofs.Traces.{runs-then, stops-first, stops-then, words-run}
use Rattle.log_area.specs.Writings.{record_operations}
use Rattle.recovery.proofs.sweeps.Slots.{ruled-size}
use Rattle.recovery.proofs.openings.Devices.{is, some-dirty, limit, gate-limit, target-is}
use Rattle.recovery.proofs.examining.Examined.open_today.Goals as goal

-- ---- the gaps

pub keep_gaps-requires-clause-rules : goal.keep_gaps-requires-clause-rules
keep_gaps-requires-clause-rules g c = (is (image_of (g.D.Pmem.state c.args.device.now)) c.args.self.geometry c.args.self.ruling c.args.self.gaps c.args.self.free.items c.requires.examined.0 c.requires.examined.1).rules

pub keep_gaps-requires-clause-gaps : goal.keep_gaps-requires-clause-gaps
keep_gaps-requires-clause-gaps g c = (is (image_of (g.D.Pmem.state c.args.device.now)) c.args.self.geometry c.args.self.ruling c.args.self.gaps c.args.self.free.items c.requires.examined.0 c.requires.examined.1).gaps_are

pub returns-in-Err-clause-stopped : goal.returns-in-Err-clause-stopped
returns-in-Err-clause-stopped g c = grind (arith, stops-first)

-- ---- the record

pub next_record-target-requires-clause-dirty : goal.next_record-target-requires-clause-dirty
next_record-target-requires-clause-dirty g c = some-dirty (image_of (g.D.Pmem.state c.args.device.now)) c.args.self.geometry c.args.self.ruling c.args.self.gaps c.args.self.free.items c.requires.examined.0 c.requires.examined.1

pub next_record-target-requires-clause-limit : goal.next_record-target-requires-clause-limit
next_record-target-requires-clause-limit g c = limit (image_of (g.D.Pmem.state c.args.device.now)) c.args.self.geometry c.args.self.ruling c.args.self.gaps c.args.self.free.items c.requires.examined.0 c.requires.examined.1

pub next_record-target-requires-clause-gate : goal.next_record-target-requires-clause-gate
next_record-target-requires-clause-gate g c = gate-limit (image_of (g.D.Pmem.state c.args.device.now)) c.args.self.geometry c.args.self.ruling c.args.self.gaps c.args.self.free.items c.requires.examined.0 c.requires.examined.1

pub write_record-requires : goal.write_record-requires
write_record-requires g c = words-run c.in-Ok.ensures.run ∙ ruled-size (g.D.Pmem.state c.args.device.now) c.args.self.geometry c.args.self.ruling (is (image_of (g.D.Pmem.state c.args.device.now)) c.args.self.geometry c.args.self.ruling c.args.self.gaps c.args.self.free.items c.requires.examined.0 c.requires.examined.1).rules

pub returns-in-Err-write_record-clause-stopped : goal.returns-in-Err-write_record-clause-stopped
returns-in-Err-write_record-clause-stopped g c =
    let same = target-is (image_of (g.D.Pmem.state c.args.device.now)) c.args.self.geometry c.args.self.ruling c.args.self.gaps c.args.self.free.items c.requires.examined.0 c.requires.examined.1 c.next_record-target.result c.in-Ok.gaps c.in-Ok.ensures.ok c.next_record-target.ensures in
    stops-then c.in-Ok.ensures.run (subst (λ (r : Record). StopsWithin (record_operations c.args.self.geometry r) (g.D.Pmem.state c.keep_gaps.new.device) (g.D.Pmem.state c.write_record.new.device)) same c.in-Err-write_record.ensures.stopped)

pub returns-in-Ok-write_record-clause-run : goal.returns-in-Ok-write_record-clause-run
returns-in-Ok-write_record-clause-run g c =
    let same = target-is (image_of (g.D.Pmem.state c.args.device.now)) c.args.self.geometry c.args.self.ruling c.args.self.gaps c.args.self.free.items c.requires.examined.0 c.requires.examined.1 c.next_record-target.result c.in-Ok.gaps c.in-Ok.ensures.ok c.next_record-target.ensures in
    runs-then c.in-Ok.ensures.run (subst (λ (r : Record). Runs (record_operations c.args.self.geometry r) (g.D.Pmem.state c.keep_gaps.new.device) (g.D.Pmem.state c.write_record.new.device)) same c.in-Ok-write_record.ensures.run)

use Rattle.std.proofs.Common.{◌∙◌, sym, ◌%◌}
use Rattle.pmem.specs.Words.{image_of}
use Rattle.log_area.proofs.Finding.{damage_first, no_record, ruled_by_read}
use Rattle.log_area.proofs.reading.latest.Goals as goal

pub returns-in-Err-clause-fault : goal.returns-in-Err-clause-fault
returns-in-Err-clause-fault g c = damage_first (image_of (g.D.Pmem.state c.args.device.now)) c.in-Err.fault c.in-Err.ensures.fault

pub returns-in-Some-read_record-clause-ok : goal.returns-in-Some-read_record-clause-ok
returns-in-Some-read_record-clause-ok g c =
    ruled_by_read c.in-Ok.geometry (image_of (g.D.Pmem.state c.args.device.now)) c.in-Ok.ensures.ok (sym c.first_wrong_gate.ensures ∙ c.in_default.is)
    (λ e. c.if-gate-eq0.false (c.greatest_gate-gate.ensures ∙ e)) (c.greatest_gate-gate.result % c.places.result) c.in-Some-read_record.record
    (λ i. c.greatest_gate-gate.ensures i % c.places.ensures.places i) c.in-Some-read_record.ensures.read

pub returns-in-None-clause-fault : goal.returns-in-None-clause-fault
returns-in-None-clause-fault g c =
    no_record c.in-Ok.geometry (image_of (g.D.Pmem.state c.args.device.now)) c.in-Ok.ensures.ok (sym c.first_wrong_gate.ensures ∙ c.in_default.is)
    (λ e. c.if-gate-eq0.false (c.greatest_gate-gate.ensures ∙ e)) (c.greatest_gate-gate.result % c.places.result)
    (λ i. c.greatest_gate-gate.ensures i % c.places.ensures.places i) c.in-None.ensures.refused

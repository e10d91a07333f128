use Rattle.recovery.proofs.reads.Images.{memory-read}
use Rattle.image_check.proofs.Shown.{reports}
use Rattle.image_check.proofs.checking.check.Goals as goal

pub returns-in-Ok-by_rising_key-clause-ok : goal.returns-in-Ok-by_rising_key-clause-ok
returns-in-Ok-by_rising_key-clause-ok g c =
    rw c.gate.ensures (rw c.persisted.ensures (rw c.dirty.ensures (rw c.gaps.ensures (rw c.longs.ensures
    (reports c.args.words.now c.in-Ok.found.geometry c.in-Ok.found.ruling c.in-Ok.found.rows.items c.in-Ok-by_rising_key.rows.items c.in-Ok.ensures.ok c.in-Ok-by_rising_key.ensures.rising c.in-Ok-by_rising_key.ensures.same)))))

pub returns-in-Err-by_rising_key-clause-fault : goal.returns-in-Err-by_rising_key-clause-fault
returns-in-Err-by_rising_key-clause-fault g c = memory-read c.args.words.now c.in-Ok.ensures.ok.sound

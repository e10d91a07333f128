use Rattle.std.proofs.Common.{Bool, cond, [], sym, subst}
use Rattle.pmem.specs.Trace.{Runs}
use Rattle.pmem.specs.Words.{value_of, image_of}
use Rattle.pmem.proofs.Traces.{runs_none}
use Rattle.recovery.specs.Sweeping.{whole_sweep}
use Rattle.recovery.proofs.sweeps.Slots.{few-enough}
use Rattle.recovery.proofs.sweeps.Hits.{where-many}
use Rattle.recovery.proofs.opening.keep_gaps.Goals as goal

pub sweep-requires-clause-hits : goal.sweep-requires-clause-hits
sweep-requires-clause-hits g c = where-many (image_of (g.D.Pmem.state c.args.device.now)) c.args.geometry c.args.gaps c.args.hits.now c.requires.hits c.in-None.is

-- nothing is swept
pub returns-in-Some-clause-run : goal.returns-in-Some-clause-run
returns-in-Some-clause-run g c =
    let old = g.D.Pmem.state c.args.device.now in
    let few = few-enough (image_of old) c.args.geometry c.args.ruling c.args.gaps c.in-Some.few c.requires.rules c.requires.gaps c.in-Some.is in
    subst (λ (b : Bool). Runs (cond b (whole_sweep c.args.geometry c.args.ruling (value_of old)) []) old old) (sym few) (runs_none old (g.met.D.Pmem.orderly c.args.device.now))

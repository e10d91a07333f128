use Rattle.std.proofs.Common.{◌≡◌, ap, arith, sym, subst}
use Rattle.pmem.specs.Device.{Device}
use Rattle.pmem.specs.Words.{LeavesOnly}
use Rattle.log_area.specs.Rulings.{HoldsRecord}
use Rattle.log_area.specs.Writings.{begun, at_stage, IsRuledMeanwhile}
use Rattle.log_area.proofs.Replacing.{replacing_begun, replacing_done}
use Rattle.log_area.proofs.Among.{HasReached, reaches}
use Rattle.log_area.proofs.law.records_are_replaced_among_others.Goals as goal

pub returns : goal.returns
returns c layout old new stage ops before after next among run =
    let begins = replacing_begun layout old new before next in
    let whole : HasReached old before after (at_stage layout new stage) =
    subst (λ (d : Device). HasReached old before d (at_stage layout new stage)) (sym run.made) (reaches old ops (begun layout new) (at_stage layout new stage) before (omega arith, omega arith) begins among run.orderly) in
    (whole.images, λ done. replacing_done old (at_stage layout new stage) after whole.replacing done)

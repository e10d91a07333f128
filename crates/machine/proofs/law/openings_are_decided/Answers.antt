use Rattle.std.proofs.Common.{List, ap, ◌∙◌, sym}
use Rattle.base.specs.declared.gap.Gap.{Gap}
use Rattle.base.specs.Images.{ruling}
use Rattle.machine.specs.Openings.{opened}
use Rattle.machine.proofs.openings.GapLists.{opened-gaps, one_gap_list}
use Rattle.machine.proofs.openings.Updates.{updated-open}
use Rattle.machine.proofs.law.openings_are_decided.Goals as goal

pub returns : goal.returns
returns c = record {
  gaps = opened-gaps;
  one_list = one_gap_list;
  one_state = λ image history lost q q' a b.
      a.2 ∙ (ap (λ (gaps : List Gap). opened image history lost gaps) (one_gap_list (ruling image) a.0 b.0 a.1 b.1) ∙ sym b.2);
  updated = updated-open;
}

use Rattle.std.proofs.Common.{◌≡◌, true, List, subst, sym}
use Rattle.base.specs.declared.gap.Gap.{Gap}
use Rattle.gap_list.specs.GapLists.{is_gap_list}
use Rattle.recovery.proofs.openings.Gaps.{own-list}
use Rattle.recovery.proofs.gaps.is_in_own_gap.Goals as goal

pub of-requires : goal.of-requires
of-requires c = subst (λ (gaps : List Gap). is_gap_list gaps ≡ true) (sym c.gaps.ensures) (own-list c.args.ruling c.requires)

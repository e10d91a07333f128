-- Lists of gaps that are sets of timestamps.
use Rattle.std.specs.Prelude.{Bool, ◌&&◌, nat_le, List, length}
use Rattle.std.specs.List.{list_all}
use Rattle.base.specs.declared.gap.Gap.{Gap}
use Rattle.base.specs.Records.{are_apart}

-- At most eight, in order, from 1 on, none empty, and with a timestamp between any two.
-- Excluded: two lists for one set of gaps.
abbrev pub is_gap_list : List Gap → Bool
is_gap_list gaps = list_all (λ gap. nat_le 1 gap.first && nat_le gap.first gap.last) gaps && are_apart gaps && nat_le (length gaps) 8

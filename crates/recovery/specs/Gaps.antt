-- The gaps with which an image is opened, if they aren't too many for a record.
use Rattle.std.specs.Prelude.{◌≡◌, ℕ, ◌<◌, ◌&&◌, nat_eq, nat_le, nat_lt, if◌then◌else◌, List, length, Option, Some, None, IsTrue}
use Rattle.std.specs.List.{list_any}
use Rattle.base.specs.declared.gap.Gap.{Gap}
use Rattle.base.specs.Records.{Record, is_in, is_well_formed, opened_gaps}
use Rattle.gap_list.specs.GapLists.{is_gap_list}

-- none if there are more than eight
abbrev pub few_gaps : Record → Option (List Gap)
few_gaps r = if nat_lt 8 (length (opened_gaps r)) then None else Some (opened_gaps r)

-- the record may rule an image of some version
abbrev pub MayRule : Record → Type 0
MayRule r = (version : ℕ) × IsTrue (is_well_formed version r)

-- the list has all timestamps up to this one that are in gaps with which opening goes on, and no other
pub record HasUpTo (r : Record) (last : ℕ) (gaps : List Gap) : Type 0 where
  pub list : IsTrue (is_gap_list gaps)
  pub same : (t : ℕ) → is_in gaps t ≡ (is_in (opened_gaps r) t && nat_le t last)

-- between two timestamps only the long commits are in these gaps
abbrev pub HasLongsBetween : Record → ℕ → ℕ → Type 0
HasLongsBetween r above below = (t : ℕ) → above < t → t < below → is_in (opened_gaps r) t ≡ list_any (nat_eq t) r.longs

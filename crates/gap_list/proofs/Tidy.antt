-- A list of gaps with a range put in is such a list, if it has at most eight.
use Rattle.std.proofs.Common.{◌≡◌, ℕ, ◌≤◌, Bool, true, ◌&&◌, List, [], ◌∷◌, length, refl, arith, nat_le}
use Rattle.std.specs.List.{list_all}
use Rattle.std.proofs.lemmas.Bool.{and_parts, and_from, le-leb}
use Rattle.std.proofs.lemmas.Bool.Decides.{nat_tests}
use Rattle.base.specs.declared.gap.Gap.{Gap}
use Rattle.base.specs.Records.{Record, with_gap, is_well_formed}
use Rattle.base.proofs.WellFormed.{well_formed-parts}
use Rattle.gap_list.specs.GapLists.{is_gap_list}
use Rattle.gap_list.proofs.WithGap.{are_up, both, with_gap-all, with_gap-are_apart}

abbrev is_from_one : Gap → Bool
is_from_one gap = nat_le 1 gap.first && nat_le gap.first gap.last

both-from_one : (a b : Gap) → is_from_one a ≡ true → is_from_one b ≡ true → is_from_one (both a b) ≡ true
both-from_one a b f g = grind (arith, nat_tests)

pub up-from_one : (gaps : List Gap) → list_all is_from_one gaps ≡ true → are_up gaps ≡ true
up-from_one [] all = refl
up-from_one (gap ∷ gaps) all = grind (arith, and_parts, and_from, up-from_one gaps)

-- none of the list's gaps is empty
pub gap_list-up : (gaps : List Gap) → is_gap_list gaps ≡ true → are_up gaps ≡ true
gap_list-up gaps tidy = up-from_one gaps (and_parts _ _ (and_parts _ _ tidy).0).0

pub with_gap-tidy : (added : Gap) (gaps : List Gap) → 1 ≤ added.first → added.first ≤ added.last → is_gap_list gaps ≡ true → length (with_gap added gaps) ≤ 8 → is_gap_list (with_gap added gaps) ≡ true
with_gap-tidy added gaps from goes tidy few = grind (arith, and_parts, and_from, le-leb, with_gap-all, both-from_one, with_gap-are_apart, up-from_one)

-- the gaps of a record that may rule are such a list
pub well_formed-tidy : (version : ℕ) (r : Record) → is_well_formed version r ≡ true → is_gap_list r.gaps ≡ true
well_formed-tidy version r h =
    let parts = well_formed-parts version r h in
    and_from _ _ (and_from _ _ (from_one r.gaps parts.each) parts.apart) (le-leb (length r.gaps) 8 parts.few)
  where
    from_one : (gaps : List Gap) → list_all (λ gap. nat_le 1 gap.first && nat_le gap.first gap.last && nat_le gap.last r.persisted) gaps ≡ true → list_all is_from_one gaps ≡ true
    from_one [] all = refl
    from_one (gap ∷ gaps) all =
        let parts = and_parts _ _ all in
        and_from _ _ (and_parts _ _ parts.0).0 (from_one gaps parts.1)

use Rattle.std.proofs.Common.{rules, ◌≡◌, ◌≤◌, ◌&&◌, ◌||◌, ℕ, nat_le, true, List, length, arith, subst, sym}
use Rattle.std.proofs.lemmas.Grind.{common_steps}
use Rattle.base.specs.declared.gap.Gap.{Gap}
use Rattle.base.specs.Records.{is_in, with_gap}
use Rattle.gap_list.specs.GapLists.{is_gap_list}
use Rattle.gap_list.proofs.WithGap.{is_in-with_gap}
use Rattle.gap_list.proofs.Tidy.{with_gap-tidy, gap_list-up}
use Rattle.gap_list.proofs.list.GapList.add.Goals as goal

abbrev range : goal.After-self-1 → Gap
range c = record { first = c.args.first; last = c.args.last }

is : (c : goal.After-self-1) → c.extend.new.gaps ≡ with_gap (range c) c.args.self.now
is c = grind (arith, common_steps)

tidy : (c : goal.After-self-1) → is_gap_list c.args.self.now ≡ true
tidy c = search rules

few : (c : goal.After-self-1) → length (with_gap (range c) c.args.self.now) ≤ 8
few c = grind (arith, common_steps)

pub invariant_of-self : goal.invariant_of-self
invariant_of-self c = subst (λ (gaps : List Gap). is_gap_list gaps ≡ true) (sym (is c)) (with_gap-tidy (range c) c.args.self.now c.requires.from_one c.requires.ordered (tidy c) (few c))

pub returns-clause-holds : goal.returns-clause-holds
returns-clause-holds c = subst (λ (gaps : List Gap). (t : ℕ) → is_in gaps t ≡ (is_in c.args.self.now t || (nat_le c.args.first t && nat_le t c.args.last))) (sym (is c)) (λ t. is_in-with_gap (range c) c.args.self.now t c.requires.ordered (gap_list-up c.args.self.now (tidy c)))

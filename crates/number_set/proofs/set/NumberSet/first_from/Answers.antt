use Rattle.std.proofs.Common.{ℕ, Bool, List, subst}
use Rattle.std.specs.Prelude.{Option, Some, None, IfSome, IfNone}
use Rattle.number_set.specs.Bits.{IsLowest, IsClearFrom}
use Rattle.number_set.specs.Numbers.{members, HoldsMembers, IsFirstFrom, IsNoneFrom}
use Rattle.number_set.proofs.Members.{first-is, none-is}
use Rattle.number_set.proofs.set.NumberSet.first_from.Goals as goal

module _ (n counted : ℕ) (words : List ℕ) (holds : HoldsMembers n counted words) (from : ℕ) where
  some : (r : Option ℕ) → IfSome r (IsLowest words from) → IfSome r (IsFirstFrom (members n words) from)
  some None lowest = tt
  some (Some k) lowest = first-is n counted words holds from k lowest

  none : (r : Option ℕ) → IfNone r (IsClearFrom words from) → IfNone r (IsNoneFrom (members n words) from)
  none None clear = none-is n counted words holds from clear
  none (Some k) clear = tt

pub returns-clause-some : goal.returns-clause-some
returns-clause-some c =
    subst (λ (set : List Bool). IfSome c.lowest.result (IsFirstFrom set c.args.number)) c.self.view_is (some c.self.inside.limit c.self.inside.count c.self.inside.levels c.self.invariant c.args.number c.lowest.result c.lowest.ensures.some)

pub returns-clause-none : goal.returns-clause-none
returns-clause-none c =
    subst (λ (set : List Bool). IfNone c.lowest.result (IsNoneFrom set c.args.number)) c.self.view_is (none c.self.inside.limit c.self.inside.count c.self.inside.levels c.self.invariant c.args.number c.lowest.result c.lowest.ensures.none)

use Rattle.std.proofs.Common.{◌≡◌, ℕ, None, cond, sym, ◌∙◌, ap, subst, Bool, false, List}
use Rattle.std.specs.Prelude.{Option, is_some, Some}
use Rattle.std.specs.BTreeMap.{is_at}
use Rattle.std.specs.Map.{lookup}
use Rattle.base.specs.declared.key.Key.{Key}
use Rattle.base.specs.Keys.{key_eq, lookup_key}
use Rattle.base.proofs.KeyOrder.{looked-up}
use Rattle.base.proofs.Keys.{key_eq-swap}
use Rattle.index.specs.Entries.{key_cmp}
use Rattle.index.proofs.Changes.{updated}
use Rattle.index.proofs.Removals.{given, given-none, updated-out}
use Rattle.index.proofs.map.give_place.Goals as goal

abbrev Places : Type 0
Places = List (Key × ℕ)

-- what is looked up under a key is looked up under the same one as it is placed
at-key : (places : Places) (placed key : Key) → placed ≡ key → lookup (is_at (key_cmp key)) places ≡ lookup (is_at (key_cmp placed)) places
at-key places placed key same = ap (λ (k : Key). lookup (is_at (key_cmp k)) places) (sym same)

-- one key has another place, and the others stay
abbrev Updates : Places → Places → Option ℕ → Key → Type 0
Updates old new place key = (k : Key) → lookup (is_at (key_cmp k)) new ≡ cond (is_at (key_cmp key) k) place (lookup (is_at (key_cmp k)) old)

updates : (old new : Places) (place : Option ℕ) (placed key : Key) → placed ≡ key → Updates old new place placed → Updates old new place key
updates old new place placed key same is = subst (Updates old new place) same is

pub unreachable-requires : goal.unreachable-requires
unreachable-requires c =
    let places = c.args.places.now.entries in
    absurd (cc (sym c.requires.key ∙ ap (λ (o : Option ℕ). is_some o) (looked-up places c.args.key ∙ at-key places c.of-from.result c.args.key c.of-from.ensures ∙ sym c.remove.ensures.value ∙ c.in_default.is)))

pub returns-then-eq : goal.returns-then-eq
returns-then-eq c =
    let places = c.args.places.now.entries in
    let left = c.remove.new.self.entries in
    given-none places left c.args.key c.args.moved (sym c.eq.ensures ∙ c.if-eq.true)
    (updated-out places left c.args.key (updates places left None c.of-from.result c.args.key c.of-from.ensures c.remove.ensures.updates.0))

pub unreachable-requires-in_default-insert : goal.unreachable-requires-in_default-insert
unreachable-requires-in_default-insert c =
    let places = c.args.places.now.entries in
    let left = c.remove.new.self.entries in
    let off : key_eq c.args.key c.args.moved ≡ false = key_eq-swap c.args.key c.args.moved ∙ sym c.eq.ensures ∙ c.if-eq.false in
    let was : lookup_key left c.args.moved ≡ lookup_key places c.args.moved =
    updated-out places left c.args.key (updates places left None c.of-from.result c.args.key c.of-from.ensures c.remove.ensures.updates.0) c.args.moved ∙ ap (λ (b : Bool). cond b None (lookup_key places c.args.moved)) off in
    absurd (cc (sym c.requires.moved ∙ ap (λ (o : Option ℕ). is_some o) (sym was ∙ looked-up left c.args.moved ∙ at-key left c.of-to.result c.args.moved c.of-to.ensures ∙ c.in_default-insert.ensures.absent)))

pub returns : goal.returns
returns c =
    let places = c.args.places.now.entries in
    let left = c.remove.new.self.entries in
    let new = c.insert.new.self.entries in
    given places left new c.args.key c.args.moved c.in-Some.place
    (looked-up places c.args.key ∙ at-key places c.of-from.result c.args.key c.of-from.ensures ∙ sym c.remove.ensures.value ∙ c.in-Some.is) (sym c.eq.ensures ∙ c.if-eq.false)
    (updated-out places left c.args.key (updates places left None c.of-from.result c.args.key c.of-from.ensures c.remove.ensures.updates.0))
    (updated left new c.args.moved c.in-Some.place (updates left new (Some c.in-Some.place) c.of-to.result c.args.moved c.of-to.ensures c.in-Ok.ensures.updates.0))

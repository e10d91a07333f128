use Rattle.std.proofs.Common.{◌≡◌, ℕ, Some, List, set, get_or, sym, ap, subst, arith}
use Rattle.std.specs.Prelude.{Option}
use Rattle.std.proofs.lemmas.Option.{get_or_from_slice_get}
use Rattle.base.specs.declared.key.Key.{Key}
use Rattle.index.specs.declared.entry.Entry.{Entry}
use Rattle.index.specs.Entries.{entry_at, IsAt, ArePlaced, Sets, KeepsRoom}
use Rattle.index.specs.Counting.{is_live}
use Rattle.index.proofs.Changes.{set-placed, set-sets, set-keeps}
use Rattle.index.proofs.LiveKeys.{live-same}
use Rattle.index.proofs.map.Index.draw_in.Goals as goal

abbrev with_draw : Option ℕ → ℕ → Entry → Entry
with_draw slot t entry = record entry { drawn = slot; last = Some t }

here : (now inside : List (Key × Entry)) (place : ℕ) (key : Key) → inside ≡ now → IsAt now place key → IsAt inside place key
here now inside place key is there = subst (λ (es : List (Key × Entry)). IsAt es place key) (sym is) there

-- what the place holds then
drawn : (inside : List (Key × Entry)) (place : ℕ) (key : Key) (x y : Key × Entry) (slot : Option ℕ) (t : ℕ) → IsAt inside place key → x ≡ get_or inside place x → y ≡ (x.0, with_draw slot t x.1) → (key, with_draw slot t (entry_at inside key)) ≡ y
drawn inside place key x y slot t at is made = grind (arith, get_or_from_slice_get)

pub invariant_of-self : goal.invariant_of-self
invariant_of-self c =
    let entries = c.self.inside.entries.items in
    let at = here c.args.self.now entries c.args.place c.args.key c.self.view_is c.requires.place in
    let is = drawn entries c.args.place c.args.key c.index_mut.result.now c.draw.new.self c.args.slot c.args.ts at c.index_mut.ensures.value c.draw.ensures in (
      subst (λ (y : Key × Entry). ArePlaced c.self.inside.places.entries (set entries c.args.place y)) is
          (set-placed c.self.inside.places.entries entries c.self.invariant.0 c.args.key c.args.place at (with_draw c.args.slot c.args.ts (entry_at entries c.args.key))),
      live-same c.self.inside.live entries c.args.place (c.args.key, entry_at entries c.args.key) c.draw.new.self c.self.invariant.1 at (ap (λ (e : Key × Entry). is_live e) is),
    )

pub returns-clause-sets : goal.returns-clause-sets
returns-clause-sets c =
    let entries = c.self.inside.entries.items in
    let at = here c.args.self.now entries c.args.place c.args.key c.self.view_is c.requires.place in
    let changed = subst (λ (y : Key × Entry). Sets entries (set entries c.args.place y) c.args.key (with_draw c.args.slot c.args.ts (entry_at entries c.args.key)))
    (drawn entries c.args.place c.args.key c.index_mut.result.now c.draw.new.self c.args.slot c.args.ts at c.index_mut.ensures.value c.draw.ensures)
    (set-sets c.self.inside.places.entries entries c.self.invariant.0 c.args.key c.args.place at (with_draw c.args.slot c.args.ts (entry_at entries c.args.key))) in
    subst (λ (es : List (Key × Entry)). Sets es (set entries c.args.place c.draw.new.self) c.args.key (with_draw c.args.slot c.args.ts (entry_at es c.args.key))) c.self.view_is changed

pub returns-clause-room : goal.returns-clause-room
returns-clause-room c =
    let entries = c.self.inside.entries.items in
    let at = here c.args.self.now entries c.args.place c.args.key c.self.view_is c.requires.place in
    let changed = subst (λ (y : Key × Entry). KeepsRoom entries (set entries c.args.place y))
    (drawn entries c.args.place c.args.key c.index_mut.result.now c.draw.new.self c.args.slot c.args.ts at c.index_mut.ensures.value c.draw.ensures)
    (set-keeps c.self.inside.places.entries entries c.self.invariant.0 c.args.key c.args.place at (with_draw c.args.slot c.args.ts (entry_at entries c.args.key))) in
    subst (λ (es : List (Key × Entry)). KeepsRoom es (set entries c.args.place c.draw.new.self)) c.self.view_is changed

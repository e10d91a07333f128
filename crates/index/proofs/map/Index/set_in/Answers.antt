use Rattle.std.proofs.Common.{◌≡◌, refl, ℕ, ◌<◌, ◌≤◌, ◌+◌, ◌-◌, cond, List, length, set, sym, ◌∙◌, ap, subst, arith}
use Rattle.std.specs.Prelude.{is_some}
use Rattle.std.proofs.lemmas.Option.{slice_get_within}
use Rattle.base.specs.declared.key.Key.{Key}
use Rattle.index.specs.declared.entry.Entry.{Entry}
use Rattle.index.specs.Entries.{entry_at, live_of, IsAt}
use Rattle.index.specs.Counting.{is_live, live_number}
use Rattle.index.proofs.Changes.{set-placed, set-sets, set-keeps, set-at}
use Rattle.index.proofs.LiveKeys.{live-changed}
use Rattle.index.proofs.map.Index.set_in.Goals as goal

here : (now inside : List (Key × Entry)) (place : ℕ) (key : Key) → inside ≡ now → IsAt now place key → IsAt inside place key
here now inside place key is there = subst (λ (es : List (Key × Entry)). IsAt es place key) (sym is) there

within : (entries : List (Key × Entry)) (place : ℕ) (key : Key) → IsAt entries place key → place < length entries
within entries place key at = slice_get_within entries place (key, entry_at entries key) at

-- the number of covered rows before and after
counted : (live before after : ℕ) (now inside : List (Key × Entry)) (place : ℕ) (key : Key) (old entry : Entry) (new : Key × Entry) → inside ≡ now → live ≡ live_number inside → IsAt now place key → old ≡ entry_at now key → new ≡ (key, entry)
    → before ≡ cond (is_some (live_of old)) 1 0 → after ≡ cond (is_some (live_of entry)) 1 0 → (before ≤ live) × (live - before + after ≡ live_number (set inside place new))
counted live before after now inside place key old entry new is lives at known made was will =
    live-changed live before after inside place (key, entry_at inside key) new lives (here now inside place key is at) (was ∙ ap (λ (e : Entry). cond (is_some (live_of e)) 1 0) (known ∙ ap (λ (es : List (Key × Entry)). entry_at es key) (sym is)))
    (will ∙ ap (λ (e : Key × Entry). cond (is_live e) 1 0) (sym made))

pub index_mut-requires : goal.index_mut-requires
index_mut-requires c = grind (arith, within, here)

pub overflow_sub-self : goal.overflow_sub-self
overflow_sub-self c =
    (counted c.self.inside.live c.live_number-before.result (cond (is_some (live_of c.args.entry)) 1 0) c.args.self.now c.self.inside.entries.items c.args.place c.args.key c.entry_in.result c.args.entry (c.args.key, c.args.entry) c.self.view_is c.self.invariant.1 c.requires.place
    c.entry_in.ensures.value refl c.live_number-before.ensures refl).0

pub invariant_of-self : goal.invariant_of-self
invariant_of-self c = (
  grind (arith, set-placed, here),
  (counted c.self.inside.live c.live_number-before.result c.live_number.result c.args.self.now c.self.inside.entries.items c.args.place c.args.key c.entry_in.result c.args.entry c.new.result c.self.view_is c.self.invariant.1 c.requires.place c.entry_in.ensures.value c.new.ensures
      c.live_number-before.ensures c.live_number.ensures).1,
)

pub returns-clause-sets : goal.returns-clause-sets
returns-clause-sets c = grind (arith, set-sets, here)

pub returns-clause-room : goal.returns-clause-room
returns-clause-room c = grind (arith, set-keeps, here)

pub returns-clause-place : goal.returns-clause-place
returns-clause-place c = grind (arith, set-at, here)

use Rattle.std.proofs.Common.{◌≡◌, ℕ, ◌-◌, ◌<◌, ◌≤◌, Some, None, cond, List, length, take, set, get_or, sym, ◌∙◌, ap, subst, arith, rules}
use Rattle.std.specs.Prelude.{Option, is_some, slice_get, swap_remove}
use Rattle.std.proofs.lemmas.Option.{slice_get_read, slice_get_within, get_or_from_slice_get}
use Rattle.base.specs.declared.key.Key.{Key}
use Rattle.base.specs.Keys.{key_eq, lookup_key}
use Rattle.index.specs.declared.entry.Entry.{Entry}
use Rattle.index.specs.Entries.{blank, entry_at, live_of, IsAt, Sets, LosesRoom}
use Rattle.index.specs.Counting.{live_number}
use Rattle.index.proofs.LiveKeys.{live-less}
use Rattle.index.proofs.Removals.{removed-placed, removed-sets, removed-loses}
use Rattle.index.proofs.map.Index.take_out.Goals as goal

abbrev Entries : Type 0
Entries = List (Key × Entry)

here : (now inside : Entries) (place : ℕ) (key : Key) → inside ≡ now → IsAt now place key → IsAt inside place key
here now inside place key is there = subst (λ (es : Entries). IsAt es place key) (sym is) there

within : (entries : Entries) (place : ℕ) (key : Key) → IsAt entries place key → place < length entries
within entries place key at = slice_get_within entries place (key, entry_at entries key) at

-- the last entry, and its key
last-is : (entries : Entries) (place n : ℕ) (x : Key × Entry) (moved : Key) → place < length entries → n ≡ length entries → x ≡ get_or entries (n - 1) x → moved ≡ x.0 → slice_get entries (length entries - 1) ≡ Some (moved, x.1)
last-is entries place n x moved lt counted read is =
    ap (λ (k : ℕ). slice_get entries (k - 1)) (sym counted) ∙ slice_get_read entries n (n - 1) x counted (omega (arith, lt, counted)) read ∙ (λ i. Some (sym is i, x.1))

-- what is left
left-is : (entries left : Entries) (place : ℕ) (d x : Key × Entry) → slice_get entries (length entries - 1) ≡ Some x → left ≡ take (length entries - 1) (set entries place (get_or entries (length entries - 1) d)) → left ≡ take (length entries - 1) (set entries place x)
left-is entries left place d x last is = is ∙ ap (λ (y : Key × Entry). take (length entries - 1) (set entries place y)) (get_or_from_slice_get entries (length entries - 1) x d last)

-- the places that are left
places-left : (places : List (Key × ℕ)) (key moved : Key) (place : ℕ) (left : List (Key × ℕ)) → lookup_key places key ≡ Some place
    → ((k : Key) → lookup_key left k ≡ cond (key_eq key k) None (cond (key_eq moved k) (lookup_key places key) (lookup_key places k)))
    → (k : Key) → lookup_key left k ≡ cond (key_eq key k) None (cond (key_eq moved k) (Some place) (lookup_key places k))
places-left places key moved place left found gives k = gives k ∙ ap (λ (o : Option ℕ). cond (key_eq key k) None (cond (key_eq moved k) o (lookup_key places k))) found

pub give_place-requires-clause-key : goal.give_place-requires-clause-key
give_place-requires-clause-key c =
    let entries = c.self.inside.entries.items in
    let at = here c.args.self.now entries c.args.place c.args.key c.self.view_is c.requires in
    ap (λ (o : Option ℕ). is_some o) (c.self.invariant.0.once c.args.key c.args.place (entry_at entries c.args.key) at)

pub give_place-requires-clause-moved : goal.give_place-requires-clause-moved
give_place-requires-clause-moved c =
    let entries = c.self.inside.entries.items in
    let at = here c.args.self.now entries c.args.place c.args.key c.self.view_is c.requires in
    let counted : c.len-last.result ≡ length entries = search rules in
    let last = last-is entries c.args.place c.len-last.result c.index.result.now c.key-moved.result (within entries c.args.place c.args.key at) counted c.index.ensures c.key-moved.ensures in
    ap (λ (o : Option ℕ). is_some o) (c.self.invariant.0.once c.key-moved.result (length entries - 1) c.index.result.now.1 last)

pub swap_remove-removed-requires : goal.swap_remove-removed-requires
swap_remove-removed-requires c = grind (arith, within, here)

-- the number of covered rows before and after
less : (live gone : ℕ) (entries left : Entries) (place : ℕ) (x : Key × Entry) (entry : Entry) → live ≡ live_number entries → place < length entries → x ≡ get_or entries place x → left ≡ swap_remove entries place x → entry ≡ x.1
    → gone ≡ cond (is_some (live_of entry)) 1 0 → (gone ≤ live) × (live - gone ≡ live_number left)
less live gone entries left place x entry lives lt read out is was = live-less live gone entries left place x lives lt read out (was ∙ ap (λ (e : Entry). cond (is_some (live_of e)) 1 0) is)

pub overflow_sub-self : goal.overflow_sub-self
overflow_sub-self c =
    let entries = c.self.inside.entries.items in
    let at = here c.args.self.now entries c.args.place c.args.key c.self.view_is c.requires in
    (less c.self.inside.live c.live_number.result entries c.swap_remove-removed.new.self.items c.args.place c.swap_remove-removed.result c.entry.result c.self.invariant.1 (within entries c.args.place c.args.key at) c.swap_remove-removed.ensures.value c.swap_remove-removed.ensures.items
    c.entry.ensures.value c.live_number.ensures).0

pub invariant_of-self : goal.invariant_of-self
invariant_of-self c =
    let entries = c.self.inside.entries.items in
    let places = c.self.inside.places.entries in
    let at = here c.args.self.now entries c.args.place c.args.key c.self.view_is c.requires in
    let counted : c.len-last.result ≡ length entries = search rules in
    let last = last-is entries c.args.place c.len-last.result c.index.result.now c.key-moved.result (within entries c.args.place c.args.key at) counted c.index.ensures c.key-moved.ensures in (
      removed-placed places entries c.self.invariant.0 c.args.key c.args.place at c.key-moved.result c.index.result.now.1 last c.swap_remove-removed.new.self.items
          (left-is entries c.swap_remove-removed.new.self.items c.args.place c.swap_remove-removed.result (c.key-moved.result, c.index.result.now.1) last c.swap_remove-removed.ensures.items) c.give_place.new.places.entries
          (places-left places c.args.key c.key-moved.result c.args.place c.give_place.new.places.entries (c.self.invariant.0.once c.args.key c.args.place (entry_at entries c.args.key) at) c.give_place.ensures),
      (less c.self.inside.live c.live_number.result entries c.swap_remove-removed.new.self.items c.args.place c.swap_remove-removed.result c.entry.result c.self.invariant.1 (within entries c.args.place c.args.key at) c.swap_remove-removed.ensures.value c.swap_remove-removed.ensures.items c.entry.ensures.value c.live_number.ensures).1,
    )

pub returns-clause-entries : goal.returns-clause-entries
returns-clause-entries c =
    let entries = c.self.inside.entries.items in
    let places = c.self.inside.places.entries in
    let at = here c.args.self.now entries c.args.place c.args.key c.self.view_is c.requires in
    let counted : c.len-last.result ≡ length entries = search rules in
    let last = last-is entries c.args.place c.len-last.result c.index.result.now c.key-moved.result (within entries c.args.place c.args.key at) counted c.index.ensures c.key-moved.ensures in
    subst (λ (es : Entries). Sets es c.swap_remove-removed.new.self.items c.args.key blank) c.self.view_is
    (removed-sets places entries c.self.invariant.0 c.args.key c.args.place at c.key-moved.result c.index.result.now.1 last c.swap_remove-removed.new.self.items
    (left-is entries c.swap_remove-removed.new.self.items c.args.place c.swap_remove-removed.result (c.key-moved.result, c.index.result.now.1) last c.swap_remove-removed.ensures.items) c.give_place.new.places.entries
    (places-left places c.args.key c.key-moved.result c.args.place c.give_place.new.places.entries (c.self.invariant.0.once c.args.key c.args.place (entry_at entries c.args.key) at) c.give_place.ensures))

pub returns-clause-room : goal.returns-clause-room
returns-clause-room c =
    let entries = c.self.inside.entries.items in
    let places = c.self.inside.places.entries in
    let at = here c.args.self.now entries c.args.place c.args.key c.self.view_is c.requires in
    let counted : c.len-last.result ≡ length entries = search rules in
    let last = last-is entries c.args.place c.len-last.result c.index.result.now c.key-moved.result (within entries c.args.place c.args.key at) counted c.index.ensures c.key-moved.ensures in
    subst (λ (es : Entries). LosesRoom es c.swap_remove-removed.new.self.items c.args.key) c.self.view_is
    (removed-loses places entries c.self.invariant.0 c.args.key c.args.place at c.key-moved.result c.index.result.now.1 last c.swap_remove-removed.new.self.items
    (left-is entries c.swap_remove-removed.new.self.items c.args.place c.swap_remove-removed.result (c.key-moved.result, c.index.result.now.1) last c.swap_remove-removed.ensures.items) c.give_place.new.places.entries
    (places-left places c.args.key c.key-moved.result c.args.place c.give_place.new.places.entries (c.self.invariant.0.once c.args.key c.args.place (entry_at entries c.args.key) at) c.give_place.ensures))

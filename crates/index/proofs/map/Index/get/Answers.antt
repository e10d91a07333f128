use Rattle.std.proofs.Common.{◌≡◌, ℕ, ◌<◌, Some, List, length, get_or, sym, ◌∙◌, ap, subst, arith, rules}
use Rattle.std.specs.Prelude.{Option, slice_get, unwrap_or}
use Rattle.std.proofs.lemmas.Option.{slice_get_read, slice_get_past}
use Rattle.base.specs.declared.key.Key.{Key}
use Rattle.index.specs.declared.entry.Entry.{Entry}
use Rattle.index.specs.Entries.{blank, entry_at, IsAt}
use Rattle.index.proofs.Changes.{is-at, at-place}
use Rattle.index.proofs.map.Index.get.Goals as goal

-- what is read there
read-at : (entries : List (Key × Entry)) (n place : ℕ) (x : Key × Entry) (key : Key) (entry : Entry) → n ≡ length entries → place < n → x ≡ get_or entries place x → key ≡ x.0 → entry ≡ x.1 → slice_get entries place ≡ Some (key, entry)
read-at entries n place x key entry counted lt read k e = slice_get_read entries n place x counted lt read ∙ (λ i. Some (sym k i, sym e i))

pub returns-then-place-len-clause-at : goal.returns-then-place-len-clause-at
returns-then-place-len-clause-at c =
    let entries = c.self.inside.entries.items in
    let counted : c.len.result ≡ length entries = search rules in
    subst (λ (es : List (Key × Entry)). IsAt es c.args.place c.key.result) c.self.view_is
    (at-place c.self.inside.places.entries entries c.self.invariant.0 c.key.result c.args.place c.entry.result
    (read-at entries c.len.result c.args.place c.index-found.result.now c.key.result c.entry.result counted c.if-place-len.true c.index-found.ensures c.key.ensures c.entry.ensures.value))

pub returns-then-place-len-clause-entry : goal.returns-then-place-len-clause-entry
returns-then-place-len-clause-entry c =
    let entries = c.self.inside.entries.items in
    let counted : c.len.result ≡ length entries = search rules in
    subst (λ (es : List (Key × Entry)). c.entry.result ≡ entry_at es c.key.result) c.self.view_is
    (sym (ap (λ (o : Option Entry). unwrap_or o blank) (is-at c.self.inside.places.entries entries c.self.invariant.0 c.key.result c.args.place c.entry.result
    (read-at entries c.len.result c.args.place c.index-found.result.now c.key.result c.entry.result counted c.if-place-len.true c.index-found.ensures c.key.ensures c.entry.ensures.value))))

pub returns-else-place-len-clause-none : goal.returns-else-place-len-clause-none
returns-else-place-len-clause-none c =
    let entries = c.self.inside.entries.items in
    let counted : c.len.result ≡ length entries = search rules in
    ap (λ (es : List (Key × Entry)). slice_get es c.args.place) (sym c.self.view_is) ∙ slice_get_past entries c.args.place (omega (arith, counted, c.if-place-len.false))
